-- What a log says is said by each later log.
use Rattle.bar_rules.specs.Peer.Log.{Log, Entry, Heard, Said, earliest, heard_in, said_in, if_passes, first_heard, first_said, ticks, round_now}
use Rattle.bar_rules.specs.Member.{Member}
use Rattle.bar_rules.specs.Peer.Rules.{IsObedient, IsSignedByRule}
use Rattle.bar_wire.specs.Datagram.{Message, Datagram}
use Rattle.std.proofs.Common.{◌≡◌, ◌≤◌, Bool, true, false, [], ◌∷◌, ◌++◌, refl, sym, ap, ◌∙◌, subst, arith, append_assoc}
use Rattle.std.specs.Prelude.{Option, Some, None, is_some, option_and_then, option_map}
use Rattle.std.specs.Bool.{then_some}
use Rattle.bar_laws.specs.Growing.{IsLater}
use Rattle.bar_laws.proofs.Logs.FirstFinds.{earliest-more, IsEntry, find-of, allowed-at}

pub find-later : {A : Type 0} (f : Log → Entry → Option A) (log before : Log) (a : A) → IsLater log before → earliest f before ≡ Some a → earliest f log ≡ Some a
find-later f log before a later e = subst (λ l. earliest f l ≡ Some a) (sym later.split) (earliest-more f later.new before a e)

pub later-same : (log : Log) → IsLater log log
later-same log = record { new = []; split = refl }

pub join-later : (a b c : Log) → IsLater a b → IsLater b c → IsLater a c
join-later a b c f g = record { new = f.new ++ g.new; split = f.split ∙ ap (λ (l : Log). f.new ++ l) g.split ∙ sym (append_assoc f.new g.new c) }

append-assoc : (xs : Log) (e : Entry) (ys : Log) → xs ++ e ∷ ys ≡ (xs ++ e ∷ []) ++ ys
append-assoc [] e ys = refl
append-assoc (x ∷ xs) e ys = ap (λ l. x ∷ l) (append-assoc xs e ys)

pub later-entry : (log before : Log) (e : Entry) → IsEntry log before e → IsLater log before
later-entry log before e place = record { new = place.after ++ e ∷ []; split = place.split ∙ append-assoc place.after e before }

-- ---- what was found among heard and said entries

pub if_passes-is : (p : Message → Bool) (o : Option Datagram) (d : Datagram) → if_passes p o ≡ Some d → (o ≡ Some d) × (p d.message ≡ true)
if_passes-is p None d e = cc
if_passes-is p (Some c) d e = go (p c.message) refl e
  where
    go : (b : Bool) → p c.message ≡ b → then_some b c ≡ Some d → (Some c ≡ Some d) × (p d.message ≡ true)
    go true h e = (e, let same : c ≡ d = cc in subst (λ z. p z.message ≡ true) same h)
    go false h e = cc

pub said_in-is : (e : Entry) (d : Datagram) → said_in e ≡ Some d → e ≡ Said d
said_in-is (Said c) d e = cc
said_in-is _ d e = cc

pub heard_in-is : (e : Entry) (d : Datagram) → heard_in e ≡ Some d → e ≡ Heard d
heard_in-is (Heard c) d e = cc
heard_in-is _ d e = cc

-- a datagram that was said: the log before it, and that it passes
pub record WasSaid (log : Log) (d : Datagram) : Type 0 where
  pub before : Log
  pub place : IsEntry log before (Said d)

pub record WasHeard (log : Log) (d : Datagram) : Type 0 where
  pub before : Log
  pub place : IsEntry log before (Heard d)

pub first_said-was : (p : Message → Bool) (log : Log) (d : Datagram) → first_said p log ≡ Some d → WasSaid log d × (p d.message ≡ true)
first_said-was p log d e =
    let w = find-of (λ before e. if_passes p (said_in e)) log d e in
    let q = if_passes-is p (said_in w.entry) d w.found in
    (record { before = w.before; place = subst (λ x. IsEntry log w.before x) (said_in-is w.entry d q.0) w.place }, q.1)

pub first_heard-was : (p : Message → Bool) (log : Log) (d : Datagram) → first_heard p log ≡ Some d → WasHeard log d × (p d.message ≡ true)
first_heard-was p log d e =
    let w = find-of (λ before e. if_passes p (heard_in e)) log d e in
    let q = if_passes-is p (heard_in w.entry) d w.found in
    (record { before = w.before; place = subst (λ x. IsEntry log w.before x) (heard_in-is w.entry d q.0) w.place }, q.1)

pub some-is : {A : Type 0} (o : Option A) → is_some o ≡ true → (a : A) × (o ≡ Some a)
some-is (Some a) e = (a, refl)
some-is None e = cc

-- what was said met the rule under the log at that moment
pub said-rule : (me : Member) (log : Log) (d : Datagram) → (w : WasSaid log d) → IsObedient me log → IsSignedByRule me w.before d
said-rule me log d w h = (allowed-at me log w.before (Said d) w.place h).0

-- ---- options

pub map-later : {A B : Type 0} (g : A → B) (o p : Option A) (b : B) → ((a : A) → o ≡ Some a → p ≡ Some a) → option_map g o ≡ Some b → option_map g p ≡ Some b
map-later g (Some a) p b k e = rw (k a refl) e
map-later g None p b k e = cc

pub then-later : {A B : Type 0} (g : A → Option B) (o p : Option A) (b : B) → ((a : A) → o ≡ Some a → p ≡ Some a) → option_and_then g o ≡ Some b → option_and_then g p ≡ Some b
then-later g (Some a) p b k e = rw (k a refl) e
then-later g None p b k e = cc

-- ---- time

ticks-later : (new before : Log) → ticks before ≤ ticks (new ++ before)
ticks-later [] before = omega arith
ticks-later (e ∷ new) before = let h = ticks-later new before in omega (arith, h)

pub round-later : (log before : Log) → IsLater log before → round_now before ≤ round_now log
round-later log before later = let h : ticks before ≤ ticks log = subst (λ l. ticks before ≤ ticks l) (sym later.split) (ticks-later later.new before) in omega (arith, h)
