-- The windows that a log has: each update of one is of a round so near the window's that it is alive in it.
use Rattle.bar_wire.specs.Bodies.{divulge_in, history_in, offer_in, reply_in}
use Rattle.bar_terms.specs.Table.{is_known, digest_of}
use Rattle.bar_terms.specs.Terms.{promised_updates, trade_count}
use Rattle.bar_window.specs.Updates.{is_of_rounds, minus}
use Rattle.bar_window.specs.Terms.{Terms}
use Rattle.bar_window.specs.Terms as forms
use Rattle.bar_window.specs.declared.update.UpdateId.{UpdateId}
use Rattle.bar_window.specs.declared.exchange.Exchange.{Exchange}
use Rattle.bar_window.specs.declared.exchange.Role.{Role}
use Rattle.bar_window.specs.declared.exchange.Role.TheVariants.{Initiator, Responder}
use Rattle.bar_window.specs.declared.exchange.XKind.{XKind}
use Rattle.bar_window.specs.declared.exchange.XKind.TheVariants.{Balanced, Push}
use Rattle.bar_wire.specs.declared.kind.Kind.TheVariants as kinds
use Rattle.bar_wire.specs.declared.kind.Kind.{Kind}
use Rattle.bar_wire.specs.Grammar.{HasForm, IsWindowSet}
use Rattle.bar_wire.specs.Datagram.{Message, Datagram, Body, Response, Divulge, Query, Reply, is_of, part_of, exchange_by}
use Rattle.bar_rules.specs.Peer.Choices.{young_of, aged_of, wanted_of, given_of}
use Rattle.bar_rules.specs.Peer.Exchanges.{revealed, revealed_in}
use Rattle.bar_rules.specs.Peer.Holdings.{is_held, history, block_of}
use Rattle.bar_rules.specs.Peer.Knowledge.{known}
use Rattle.bar_rules.specs.Peer.Log.{Log, Entry, Ticked, Heard, Said, Kept, table}
use Rattle.bar_rules.specs.Member.{Session, Member}
use Rattle.bar_rules.specs.Peer.Rules.{IsObedient, Allows}
use Rattle.bar_rules.specs.Secrets.{nonce_of}
use Rattle.bar_rules.specs.Peer.Signing.{MaySay}
use Rattle.bar_rules.specs.Peer.Terms.{body_on, first_on, trade_terms, offer_terms, terms_by, terms_of}
use Rattle.bar_rules.specs.Values.{window_of, updates_from, first_round}
use Rattle.std.proofs.Common.{◌≡◌, ℕ, zero, suc, ◌<◌, ◌≤◌, ◌+◌, ◌-◌, not, Bool, true, false, List, [], ◌∷◌, ◌++◌, length, refl, sym, ap, ◌∙◌, subst, ◌&&◌, arith, cond}
use Rattle.std.specs.Prelude.{Option, Some, None, max, filter, ◌/◌, Contains, slice_index_or, nat_le, option_map, option_and_then}
use Rattle.std.specs.Bool.{then_some}
use Rattle.std.specs.List.{list_all, AllByRecursion}
use Rattle.std.proofs.lemmas.Bool.{and_parts, and_from, leb-true, le-leb}
use Rattle.bar_laws.proofs.Logs.{no-value, IsEntry, IsFind, find-of, is_of-is, heard-fits, WasSpoken, spoken_in, first_on-was, all-take, all-filtered, updates_from-rounds, round-by, all-implies}

-- an update is alive in a round, or of a later one
abbrev pub is_since : ℕ → ℕ → UpdateId → Bool
is_since life round u = nat_le (round + 1) (u.round + life)

abbrev pub InLife : ℕ → ℕ → List UpdateId → Type 0
InLife life round us = list_all (is_since life round) us ≡ true

-- ---- lists

all-at : {X : Type 0} (p : X → Bool) (xs : List X) (x : X) → list_all p xs ≡ true → Contains xs x → p x ≡ true
all-at p [] x e c = absurd (omega (arith, c.1))
all-at p (y ∷ xs) x e c = go c.0 c.1 c.2 (all-at p xs x (and_parts _ _ e).1)
  where
    go : (k : ℕ) → k < length (y ∷ xs) → slice_index_or (y ∷ xs) k x ≡ x → (Contains xs x → p x ≡ true) → p x ≡ true
    go zero below at f = subst (λ z. p z ≡ true) at (and_parts _ _ e).0
    go (suc k) below at f = f (k, omega (arith, below), at)

all-contained : {X : Type 0} (p : X → Bool) (xs : List X) → ((x : X) → Contains xs x → p x ≡ true) → list_all p xs ≡ true
all-contained p [] f = refl
all-contained p (x ∷ xs) f =
    and_from _ _ (f x (0, omega arith, refl))
    (all-contained p xs (λ y c. f y (suc c.0, (let below : c.0 < length xs = c.1 in omega (arith, below)), c.2)))

-- ---- windows

pub rounds-in-life : (life round first last : ℕ) (us : List UpdateId) → round + 1 ≤ first + life → is_of_rounds first last us ≡ true → InLife life round us
rounds-in-life life round first last us h e =
    all-implies (λ (u : UpdateId). nat_le first u.round && nat_le u.round last) (is_since life round) us
    (λ u z. le-leb (round + 1) (u.round + life) (let low : first ≤ u.round = leb-true first u.round (and_parts _ _ z).0 in omega (arith, low, h))) e

pub from-in-life : (s : Session) (life round first last : ℕ) → round + 1 ≤ first + life → InLife life round (updates_from s first last)
from-in-life s life round first last h = rounds-in-life life round first last (updates_from s first last) h (updates_from-rounds s first last)

pub window-in-life : (s : Session) (round : ℕ) → InLife s.shape.life round (window_of s round)
window-in-life s round = from-in-life s s.shape.life round (first_round s round) round (omega arith)

pub history-in-life : (me : Member) (log : Log) (round : ℕ) → InLife me.session.shape.life round (history me.session (block_of me.session log) round)
history-in-life me log round = all-filtered _ _ (window_of me.session round) (window-in-life me.session round)

pub young-in-life : (me : Member) (log : Log) (round : ℕ) → 2 ≤ me.session.shape.life → InLife me.session.shape.life round (young_of me (known me log) round)
young-in-life me log round h =
    all-take _ me.session.cap (filter (is_held me.session log) (updates_from me.session (max 1 (round - 1)) round))
    (all-filtered _ _ (updates_from me.session (max 1 (round - 1)) round) (from-in-life me.session me.session.shape.life round (max 1 (round - 1)) round (omega arith)))

pub aged-in-life : (me : Member) (log : Log) (round : ℕ) → InLife me.session.shape.life round (aged_of me (known me log) round)
aged-in-life me log round =
    let life : ℕ = me.session.shape.life in
    let us : List UpdateId = updates_from me.session (first_round me.session round) (round - life / 2) in
    let lacking : UpdateId → Bool = (λ u. not (is_held me.session log u) && is_known (digest_of (table log) u)) in
    all-take (is_since life round) me.session.cap (filter lacking us)
    (all-filtered (is_since life round) lacking us (from-in-life me.session life round (first_round me.session round) (round - life / 2) (omega arith)))

pub wanted-in-life : (me : Member) (log : Log) (life round : ℕ) (young : List UpdateId) → InLife life round young → InLife life round (wanted_of me (known me log) young)
wanted-in-life me log life round young h = all-take _ me.session.cap _ (all-filtered _ _ young h)

pub given-in-life : (me : Member) (log : Log) (life round : ℕ) (young aged : List UpdateId) → InLife life round aged → InLife life round (given_of me (known me log) young aged)
given-in-life me log life round young aged h = all-take _ (length (wanted_of me (known me log) young)) _ (all-filtered _ _ aged h)

set-in-life : (s : Session) (round : ℕ) (us : List UpdateId) → IsWindowSet s.shape round us → InLife s.shape.life round us
set-in-life s round us set = all-contained (is_since s.shape.life round) us (λ u c. all-at (is_since s.shape.life round) (window_of s round) u (window-in-life s round) (set.inside u c))

-- ---- bodies and terms

abbrev pub BodyInLife : ℕ → Body → Type 0
BodyInLife life (Response r hb) = InLife life r hb
BodyInLife life (Divulge r nonce ha) = InLife life r ha
BodyInLife life (Query r seed young aged) = InLife life r young × InLife life r aged
BodyInLife life (Reply r want give junk) = InLife life r want × InLife life r give
BodyInLife life _ = Unit {0}

-- what has an encoding
pub form-in-life : (s : Session) (b : Body) → HasForm s.shape b → BodyInLife s.shape.life b
form-in-life s (Response r hb) h = set-in-life s r hb h.1
form-in-life s (Divulge r nonce ha) h = set-in-life s r ha h.2
form-in-life s (Query r seed young aged) h = (set-in-life s r young h.2, set-in-life s r aged h.3)
form-in-life s (Reply r want give junk) h = (set-in-life s r want h.1, set-in-life s r give h.2)
form-in-life s _ h = tt

-- what the sides may promise
abbrev pub TermsInLife : ℕ → ℕ → Terms → Type 0
TermsInLife life round (forms.Balanced nonce ha hb) = InLife life round ha × InLife life round hb
TermsInLife life round (forms.Push young aged want give junk) = InLife life round want × InLife life round give

pub promised-in-life : (life round cap : ℕ) (t : Terms) (role : Role) → TermsInLife life round t → InLife life round (promised_updates cap t role)
promised-in-life life round cap (forms.Balanced nonce ha hb) Initiator h = all-take _ (trade_count cap ha hb) (minus ha hb) (all-filtered _ _ ha h.0)
promised-in-life life round cap (forms.Balanced nonce ha hb) Responder h = all-take _ (trade_count cap ha hb) (minus hb ha) (all-filtered _ _ hb h.1)
promised-in-life life round cap (forms.Push young aged want give junk) Initiator h = h.0
promised-in-life life round cap (forms.Push young aged want give junk) Responder h = h.1

-- ---- logs

abbrev pub EntryInLife : ℕ → Entry → Type 0
EntryInLife life (Heard d) = BodyInLife life d.message.body
EntryInLife life (Said d) = BodyInLife life d.message.body
EntryInLife life Ticked = Unit {0}
EntryInLife life (Kept q e) = Unit {0}

abbrev pub LogInLife : ℕ → Log → Type 0
LogInLife life log = AllByRecursion (EntryInLife life) log

entry-in-life : (life : ℕ) (after before : Log) (e : Entry) → LogInLife life (after ++ e ∷ before) → EntryInLife life e
entry-in-life life [] before e h = h.0
entry-in-life life (x ∷ after) before e h = entry-in-life life after before e h.1

place-in-life : (life : ℕ) (log before : Log) (e : Entry) → IsEntry log before e → LogInLife life log → EntryInLife life e
place-in-life life log before e place h = entry-in-life life place.after before e (subst (λ l. LogInLife life l) place.split h)

spoken-in-life : (life : ℕ) (log : Log) (d : Datagram) → WasSpoken log d → LogInLife life log → BodyInLife life d.message.body
spoken-in-life life log d w h = go w.entry w.found (place-in-life life log w.before w.entry w.place h)
  where
    go : (e : Entry) → spoken_in e ≡ Some d → EntryInLife life e → BodyInLife life d.message.body
    go (Said c) f k = let same : c ≡ d = cc in subst (λ z. BodyInLife life z.message.body) same k
    go (Heard c) f k = let same : c ≡ d = cc in subst (λ z. BodyInLife life z.message.body) same k
    go Ticked f k = cc
    go (Kept q e) f k = cc

-- ---- what is read of an exchange

-- a body of an exchange is of its round
pub of-round : (kind : Kind) (x : Exchange) (role : Role) (m : Message) (p : ℕ × XKind × Role) → is_of kind x role m ≡ true → part_of m.body ≡ Some p → p.0 ≡ x.round
of-round kind x role m p e part =
    let w = is_of-is kind x role m e in
    let one : Some p ≡ Some (w.round, w.sort, role) = sym part ∙ w.part in
    let same : p ≡ (w.round, w.sort, role) = cc in
    ap (λ (z : ℕ × XKind × Role). z.0) same ∙ sym (round-by w.round w.sort role m.from m.to) ∙ ap (λ (z : Exchange). z.round) w.exchange

-- the body on a side of an exchange
record IsBodyOf (life round : ℕ) (b : Body) : Type 0 where
  lives : BodyInLife life b
  at : (p : ℕ × XKind × Role) → part_of b ≡ Some p → p.0 ≡ round

body-of : (me : Member) (life : ℕ) (log : Log) (kind : Kind) (x : Exchange) (role : Role) (b : Body) → LogInLife life log → body_on me (known me log) kind x role ≡ Some b → IsBodyOf life x.round b
body-of me life log kind x role b h e = go (first_on me (known me log) kind x role) refl e
  where
    go : (o : Option Datagram) → first_on me (known me log) kind x role ≡ o → option_map (λ d. d.message.body) o ≡ Some b → IsBodyOf life x.round b
    go None f g = cc
    go (Some d) f g =
        let w = first_on-was me log kind x role d f in
        let same : d.message.body ≡ b = cc in
        record {
          lives = subst (λ z. BodyInLife life z) same (spoken-in-life life log d w.0 h);
          at = λ p part. of-round kind x role d.message p w.1 (ap part_of same ∙ part);
        }

read-from : {A : Type 0} (f : Body → Option A) (o : Option Body) (a : A) → option_and_then f o ≡ Some a → (b : Body) × (o ≡ Some b) × (f b ≡ Some a)
read-from f (Some b) a e = (b, refl, e)
read-from f None a e = cc

offered-body : (life round : ℕ) (b : Body) (q : List UpdateId × List UpdateId) → IsBodyOf life round b → offer_in b ≡ Some q → InLife life round q.0 × InLife life round q.1
offered-body life round (Query r seed young aged) q w e =
    let same : (young, aged) ≡ q = cc in
    subst (λ z. InLife life round z.0 × InLife life round z.1) same (subst (λ z. InLife life z young × InLife life z aged) (w.at (r, Push, Initiator) refl) w.lives)
offered-body life round b q w e = absurd (no-value (offer_in b) q refl e)

taken-body : (life round : ℕ) (b : Body) (q : List UpdateId × List UpdateId × ℕ) → IsBodyOf life round b → reply_in b ≡ Some q → InLife life round q.0 × InLife life round q.1
taken-body life round (Reply r want give junk) q w e =
    let same : (want, give, junk) ≡ q = cc in
    subst (λ (z : List UpdateId × List UpdateId × ℕ). InLife life round z.0 × InLife life round z.1) same (subst (λ z. InLife life z want × InLife life z give) (w.at (r, Push, Responder) refl) w.lives)
taken-body life round b q w e = absurd (no-value (reply_in b) q refl e)

answered-body : (life round : ℕ) (b : Body) (hb : List UpdateId) → IsBodyOf life round b → history_in b ≡ Some hb → InLife life round hb
answered-body life round (Response r us) hb w e =
    let same : us ≡ hb = cc in
    subst (λ z. InLife life round z) same (subst (λ z. InLife life z us) (w.at (r, Balanced, Responder) refl) w.lives)
answered-body life round b hb w e = absurd (no-value (history_in b) hb refl e)

divulged-body : (life round : ℕ) (b : Body) (a : List ℕ × List UpdateId) → IsBodyOf life round b → divulge_in b ≡ Some a → InLife life round a.1
divulged-body life round (Divulge r nonce ha) a w e =
    let same : (nonce, ha) ≡ a = cc in
    subst (λ (z : List ℕ × List UpdateId). InLife life round z.1) same (subst (λ z. InLife life z ha) (w.at (r, Balanced, Initiator) refl) w.lives)
divulged-body life round b a w e = absurd (no-value (divulge_in b) a refl e)

pub offered-in-life : (me : Member) (life : ℕ) (log : Log) (kind : Kind) (x : Exchange) (role : Role) (q : List UpdateId × List UpdateId) → LogInLife life log → option_and_then offer_in (body_on me (known me log) kind x role) ≡ Some q
    → InLife life x.round q.0 × InLife life x.round q.1
offered-in-life me life log kind x role q h e = let w = read-from offer_in _ q e in offered-body life x.round w.0 q (body-of me life log kind x role w.0 h w.1) w.2

taken-in-life : (me : Member) (life : ℕ) (log : Log) (kind : Kind) (x : Exchange) (role : Role) (q : List UpdateId × List UpdateId × ℕ) → LogInLife life log → option_and_then reply_in (body_on me (known me log) kind x role) ≡ Some q
    → InLife life x.round q.0 × InLife life x.round q.1
taken-in-life me life log kind x role q h e = let w = read-from reply_in _ q e in taken-body life x.round w.0 q (body-of me life log kind x role w.0 h w.1) w.2

answered-in-life : (me : Member) (life : ℕ) (log : Log) (kind : Kind) (x : Exchange) (role : Role) (hb : List UpdateId) → LogInLife life log → option_and_then history_in (body_on me (known me log) kind x role) ≡ Some hb → InLife life x.round hb
answered-in-life me life log kind x role hb h e = let w = read-from history_in _ hb e in answered-body life x.round w.0 hb (body-of me life log kind x role w.0 h w.1) w.2

revealed-in-life : (me : Member) (log : Log) (x : Exchange) (a : List ℕ × List UpdateId) → LogInLife me.session.shape.life log → revealed me log x ≡ Some a → InLife me.session.shape.life x.round a.1
revealed-in-life me log x a h e = at (find-of (λ before e. revealed_in me before x e) log a e)
  where
    life : ℕ
    life = me.session.shape.life

    said : (before : Log) (b : Bool) → then_some b (nonce_of me x, history me.session (block_of me.session before) x.round) ≡ Some a → InLife life x.round a.1
    said before true f = let same : (nonce_of me x, history me.session (block_of me.session before) x.round) ≡ a = cc in subst (λ (z : List ℕ × List UpdateId). InLife life x.round z.1) same (history-in-life me before x.round)
    said before false f = cc

    heard : (d : Datagram) (b : Bool) → is_of kinds.Divulge x Initiator d.message ≡ b → BodyInLife life d.message.body → cond b (divulge_in d.message.body) None ≡ Some a → InLife life x.round a.1
    heard d true i k f = divulged-body life x.round d.message.body a (record { lives = k; at = λ p part. of-round kinds.Divulge x Initiator d.message p i part }) f
    heard d false i k f = cc

    by : (before : Log) (e : Entry) → EntryInLife life e → revealed_in me before x e ≡ Some a → InLife life x.round a.1
    by before (Said d) k f = said before _ f
    by before (Heard d) k f = heard d _ refl k f
    by before Ticked k f = cc
    by before (Kept q v) k f = cc

    at : IsFind (λ before e. revealed_in me before x e) log a → InLife life x.round a.1
    at w = by w.before w.entry (place-in-life life log w.before w.entry w.place h) w.found

pub terms-in-life : (me : Member) (log : Log) (x : Exchange) (t : Terms) → LogInLife me.session.shape.life log → terms_of me (known me log) x ≡ Some t → TermsInLife me.session.shape.life x.round t
terms-in-life me log x t h e = go x.kind e
  where
    life : ℕ
    life = me.session.shape.life

    trade : (a : Option (List ℕ × List UpdateId)) (b : Option (List UpdateId)) → ((c : List ℕ × List UpdateId) → a ≡ Some c → InLife life x.round c.1) → ((c : List UpdateId) → b ≡ Some c → InLife life x.round c) → trade_terms a b ≡ Some t → TermsInLife life x.round t
    trade (Some a) (Some b) f g e = let same : forms.Balanced a.0 a.1 b ≡ t = cc in subst (λ z. TermsInLife life x.round z) same (f a refl, g b refl)
    trade (Some a) None f g e = cc
    trade None b f g e = cc

    offer : (a : Option (List UpdateId × List UpdateId)) (b : Option (List UpdateId × List UpdateId × ℕ)) → ((c : List UpdateId × List UpdateId × ℕ) → b ≡ Some c → InLife life x.round c.0 × InLife life x.round c.1) → offer_terms a b ≡ Some t → TermsInLife life x.round t
    offer (Some a) (Some b) g e = let same : forms.Push a.0 a.1 b.0 b.1 b.2 ≡ t = cc in subst (λ z. TermsInLife life x.round z) same (g b refl)
    offer (Some a) None g e = cc
    offer None b g e = cc

    go : (k : XKind) → terms_by k me (known me log) x ≡ Some t → TermsInLife life x.round t
    go Balanced e = trade _ _ (λ c. revealed-in-life me log x c h) (λ c. answered-in-life me life log kinds.Response x Responder c h) e
    go Push e = offer _ _ (λ c. taken-in-life me life log kinds.Reply x Responder c h) e

-- ---- obedient logs

said-in-life : (me : Member) (log : Log) (to : ℕ) (b : Body) → 2 ≤ me.session.shape.life → LogInLife me.session.shape.life log → MaySay me (known me log) to b → BodyInLife me.session.shape.life b
said-in-life me log to (Response r hb) two h rule = subst (λ us. InLife me.session.shape.life r us) (sym rule.held) (history-in-life me log r)
said-in-life me log to (Query r seed young aged) two h rule = (
  subst (λ us. InLife me.session.shape.life r us) (sym rule.offers) (young-in-life me log r two),
  subst (λ us. InLife me.session.shape.life r us) (sym rule.asks) (aged-in-life me log r),
)
said-in-life me log to (Reply r want give junk) two h rule =
    let life : ℕ = me.session.shape.life in
    let w = offered-in-life me life log kinds.Query (exchange_by r Push Responder me.party to) Initiator (rule.young, rule.aged) h rule.offers in (
      subst (λ us. InLife life r us) (sym rule.wants) (wanted-in-life me log life r rule.young w.0),
      subst (λ us. InLife life r us) (sym rule.gives) (given-in-life me log life r rule.young rule.aged w.1),
    )
said-in-life me log to (Divulge r nonce ha) two h rule = absurd rule
said-in-life me log to _ two h rule = tt

pub obedient-in-life : (me : Member) (log : Log) → 2 ≤ me.session.shape.life → IsObedient me log → LogInLife me.session.shape.life log
obedient-in-life me [] two h = tt
obedient-in-life me (e ∷ log) two h = (by e h.0 (obedient-in-life me log two h.1), obedient-in-life me log two h.1)
  where
    by : (e : Entry) → Allows me log e → LogInLife me.session.shape.life log → EntryInLife me.session.shape.life e
    by (Heard d) a k = form-in-life me.session d.message.body (heard-fits me log d a).form
    by (Said d) a k = said-in-life me log d.message.to d.message.body two k a.rule.rule
    by Ticked a k = tt
    by (Kept q v) a k = tt
