-- A key is said only if both briefcases are there, with equally many items.
use Rattle.bar_rules.specs.Peer.Holdings.{case_heard_from, case_said_by}
use Rattle.bar_wire.specs.Bodies.{briefcase_in}
use Rattle.bar_wire.specs.declared.kind.Kind.TheVariants as kinds
use Rattle.bar_rules.specs.Peer.Exchanges.{role_of}
use Rattle.bar_rules.specs.Peer.Knowledge.{known}
use Rattle.bar_rules.specs.Peer.Log.{Log, Said, table, has_said, first_said, first_heard}
use Rattle.bar_rules.specs.Member.{Session, Member}
use Rattle.bar_rules.specs.Peer.Rules.{IsObedient}
use Rattle.bar_rules.specs.Peer.Signing.{MaySay, MayGiveCase, MayGiveKey}
use Rattle.bar_rules.specs.Peer.Terms.{terms_of, totals}
use Rattle.bar_rules.specs.Values.{terms_ok}
use Rattle.bar_terms.specs.Table.{Table}
use Rattle.bar_terms.specs.Terms.{promise}
use Rattle.bar_window.specs.Exchange.{other_role, same_exchange, same_role}
use Rattle.bar_window.specs.Terms.{Terms}
use Rattle.bar_window.specs.declared.exchange.Exchange.{Exchange}
use Rattle.bar_window.specs.declared.exchange.Role.{Role}
use Rattle.bar_window.specs.declared.exchange.Role.TheVariants.{Initiator, Responder}
use Rattle.bar_window.proofs.Exchanges.{same_role-is, same_exchange-is}
use Rattle.bar_wire.specs.Datagram.{is_place, place_by, Message, Datagram, Body, Case, Key, Briefcase, KeyGiven, is_of, kind_number, part_of, exchange_by}
use Rattle.std.proofs.Common.{◌≡◌, ℕ, Bool, true, false, refl, sym, ap, ◌∙◌, subst, inl, inr, length, ◌&&◌}
use Rattle.std.specs.Prelude.{Option, Some, None, ◌⊎◌, option_and_then, eqb, option_map}
use Rattle.std.specs.Option.{option_map_or}
use Rattle.std.proofs.lemmas.Bool.{eqb-true, and_parts}
use Rattle.bar_laws.proofs.Logs.FirstFinds.{allowed-at}
use Rattle.bar_laws.proofs.Logs.EqualityTests.{other-kind}
use Rattle.bar_laws.proofs.Logs.Facts.{promises_equal, terms_promise}
use Rattle.bar_laws.specs.Growing.{IsLater}
use Rattle.bar_laws.proofs.Logs.LaterLogs.{later-entry, first_said-was, first_heard-was, some-is, said-rule, then-later, WasSaid}
use Rattle.bar_laws.proofs.Logs.LaterTerms.{terms_of-later, case_for-later, said-later}
use Rattle.bar_wire.specs.Kinds.{code_of}

-- a message of the kind KEY has a key, of that exchange and side
pub record IsKeyOf (x : Exchange) (role : Role) (m : Message) : Type 0 where
  pub given : KeyGiven
  pub body : m.body ≡ Key given
  pub exchange : exchange_by given.round given.kind given.role m.from m.to ≡ x
  pub side : given.role ≡ role

pub record IsCaseOf (x : Exchange) (role : Role) (m : Message) : Type 0 where
  pub case : Briefcase
  pub body : m.body ≡ Case case
  pub exchange : exchange_by case.round case.kind case.role m.from m.to ≡ x
  pub side : case.role ≡ role

place-is : (x y : Exchange) (a b : Role) → (same_exchange x y && same_role a b) ≡ true → (x ≡ y) × (a ≡ b)
place-is x y a b e = let p = and_parts _ _ e in (same_exchange-is x y p.0, same_role-is a b p.1)

pub is_of-key : (x : Exchange) (role : Role) (m : Message) → is_of kinds.Key x role m ≡ true → IsKeyOf x role m
is_of-key x role m e = go m.body refl (eqb-true _ _ (and_parts _ _ e).0) e
  where
    go : (b : Body) → m.body ≡ b → kind_number b ≡ code_of kinds.Key → (eqb (kind_number b) 10 && option_map_or (is_place x role) (option_map (place_by m.from m.to) (part_of b)) false) ≡ true → IsKeyOf x role m
    go (Key k) h n e = let p = place-is _ _ _ _ e in record { given = k; body = h; exchange = p.0; side = p.1 }
    go b h n e = absurd (other-kind b kinds.Key refl n)

pub is_of-case : (x : Exchange) (role : Role) (m : Message) → is_of kinds.Case x role m ≡ true → IsCaseOf x role m
is_of-case x role m e = go m.body refl (eqb-true _ _ (and_parts _ _ e).0) e
  where
    go : (b : Body) → m.body ≡ b → kind_number b ≡ code_of kinds.Case → (eqb (kind_number b) 8 && option_map_or (is_place x role) (option_map (place_by m.from m.to) (part_of b)) false) ≡ true → IsCaseOf x role m
    go (Case c) h n e = let p = place-is _ _ _ _ e in record { case = c; body = h; exchange = p.0; side = p.1 }
    go b h n e = absurd (other-kind b kinds.Case refl n)

-- ---- what was there before a said key and a said briefcase

rule-at : (me : Member) (log : Log) (to : ℕ) (b c : Body) → b ≡ c → MaySay me (known me log) to b → MaySay me (known me log) to c
rule-at me log to b c e h = subst (λ z. MaySay me (known me log) to z) e h

key-rule : (me : Member) (log : Log) (d : Datagram) (x : Exchange) (role : Role) (w : WasSaid log d) → IsObedient me log → (k : IsKeyOf x role d.message)
    → MayGiveKey me (known me w.before) d.message.to k.given
key-rule me log d x role w h k = rule-at me w.before d.message.to d.message.body (Key k.given) k.body (said-rule me log d w h).rule.rule

case-rule : (me : Member) (log : Log) (d : Datagram) (x : Exchange) (role : Role) (w : WasSaid log d) → IsObedient me log → (c : IsCaseOf x role d.message)
    → MayGiveCase me (known me w.before) d.message.to c.case
case-rule me log d x role w h c = rule-at me w.before d.message.to d.message.body (Case c.case) c.body (said-rule me log d w h).rule.rule

-- the exchange that a rule names is the message's
key-exchange : (me : Member) (log : Log) (d : Datagram) (x : Exchange) (role : Role) (w : WasSaid log d) → IsObedient me log → (k : IsKeyOf x role d.message)
    → exchange_by k.given.round k.given.kind k.given.role me.party d.message.to ≡ x
key-exchange me log d x role w h k =
    ap (λ p. exchange_by k.given.round k.given.kind k.given.role p d.message.to) (sym (said-rule me log d w h).rule.mine) ∙ k.exchange

case-exchange : (me : Member) (log : Log) (d : Datagram) (x : Exchange) (role : Role) (w : WasSaid log d) → IsObedient me log → (c : IsCaseOf x role d.message)
    → exchange_by c.case.round c.case.kind c.case.role me.party d.message.to ≡ x
case-exchange me log d x role w h c =
    ap (λ p. exchange_by c.case.round c.case.kind c.case.role p d.message.to) (sym (said-rule me log d w h).rule.mine) ∙ c.exchange

-- a briefcase that was said: its terms are those of the log, and valid
pub record SaidCase (me : Member) (log : Log) (x : Exchange) (role : Role) (c : Briefcase) : Type 0 where
  pub side : c.role ≡ role
  pub terms : terms_of me (known me log) x ≡ Some c.terms
  pub valid : (t : Table) × (terms_ok me.session t x c.terms ≡ true)

pub said-case : (me : Member) (log : Log) (x : Exchange) (role : Role) → IsObedient me log → has_said (is_of kinds.Case x role) log ≡ true
    → (c : Briefcase) × (case_said_by log x role ≡ Some c) × SaidCase me log x role c
said-case me log x role h e = go (some-is (first_said (is_of kinds.Case x role) log) e)
  where
    go : (d : Datagram) × (first_said (is_of kinds.Case x role) log ≡ Some d)
        → (c : Briefcase) × (case_said_by log x role ≡ Some c) × SaidCase me log x role c
    go f =
        let was = first_said-was (is_of kinds.Case x role) log f.0 f.1 in
        let w : WasSaid log f.0 = was.0 in
        let k : IsCaseOf x role f.0.message = is_of-case x role f.0.message was.1 in
        let rule : MayGiveCase me (known me w.before) f.0.message.to k.case = case-rule me log f.0 x role w h k in
        let name : exchange_by k.case.round k.case.kind k.case.role me.party f.0.message.to ≡ x = case-exchange me log f.0 x role w h k in
        let t : terms_of me (known me w.before) x ≡ Some k.case.terms = subst (λ y. terms_of me (known me w.before) y ≡ Some k.case.terms) name rule.terms in
        let v : terms_ok me.session (table w.before) x k.case.terms ≡ true = subst (λ y. terms_ok me.session (table w.before) y k.case.terms ≡ true) name rule.valid in (
          k.case,
          ap (option_and_then (λ d. briefcase_in d.message.body)) f.1 ∙ ap briefcase_in k.body,
          record { side = k.side; terms = terms_of-later me log w.before x k.case.terms (later-entry log w.before (Said f.0) w.place) t; valid = (table w.before, v) },
        )

-- a heard briefcase is of the side that was asked for
pub heard-side : (log : Log) (x : Exchange) (role : Role) (c : Briefcase) → case_heard_from log x role ≡ Some c → c.role ≡ role
heard-side log x role c e = go (first_heard (is_of kinds.Case x role) log) refl e
  where
    go : (o : Option Datagram) → first_heard (is_of kinds.Case x role) log ≡ o → option_and_then (λ d. briefcase_in d.message.body) o ≡ Some c → c.role ≡ role
    go None f e = cc
    go (Some d) f e =
        let k : IsCaseOf x role d.message = is_of-case x role d.message (first_heard-was (is_of kinds.Case x role) log d f).1 in
        let same : briefcase_in d.message.body ≡ Some k.case = ap briefcase_in k.body in
        let eq : k.case ≡ c = cc in
        ap (λ z. z.role) (sym eq) ∙ k.side

promises-by-role : (s : Session) (t : Table) (x : Exchange) (terms : Terms) (role : Role) → terms_ok s t x terms ≡ true
    → length (promise s.cap terms role) ≡ length (promise s.cap terms (other_role role))
promises-by-role s t x terms Initiator e = promises_equal s.cap terms (terms_promise s.cap s.shape.life x.round t terms e)
promises-by-role s t x terms Responder e = sym (promises_equal s.cap terms (terms_promise s.cap s.shape.life x.round t terms e))

-- both briefcases of an exchange are in the log, with the same valid terms
pub record HasBoth (me : Member) (log : Log) (x : Exchange) (role : Role) : Type 0 where
  pub mine : Briefcase
  pub theirs : Briefcase
  pub said : case_said_by log x role ≡ Some mine
  pub heard : case_heard_from log x (other_role role) ≡ Some theirs
  pub terms : theirs.terms ≡ mine.terms
  pub side : mine.role ≡ role
  pub valid : (t : Table) × (terms_ok me.session t x mine.terms ≡ true)

pub some-same : {A : Type 0} (o : Option A) (a b : A) → o ≡ Some a → o ≡ Some b → a ≡ b
some-same o a b p q = cc

case-was-said : (log : Log) (x : Exchange) (role : Role) (c : Briefcase) → case_said_by log x role ≡ Some c → has_said (is_of kinds.Case x role) log ≡ true
case-was-said log x role c e = go (first_said (is_of kinds.Case x role) log) refl e
  where
    go : (o : Option Datagram) → first_said (is_of kinds.Case x role) log ≡ o → option_and_then (λ d. briefcase_in d.message.body) o ≡ Some c → has_said (is_of kinds.Case x role) log ≡ true
    go None f e = cc
    go (Some d) f e = rw f refl

both-of : (me : Member) (log : Log) (x : Exchange) (role : Role) (mine theirs : Briefcase) → IsObedient me log → case_said_by log x role ≡ Some mine
    → case_heard_from log x (other_role role) ≡ Some theirs → theirs.terms ≡ mine.terms → HasBoth me log x role
both-of me log x role mine theirs h said heard same = go (said-case me log x role h (case-was-said log x role mine said))
  where
    go : ((c : Briefcase) × (case_said_by log x role ≡ Some c) × SaidCase me log x role c) → HasBoth me log x role
    go c =
        let eq : c.0 ≡ mine = some-same (case_said_by log x role) c.0 mine c.1 said in
        record {
          mine = mine;
          theirs = theirs;
          said = said;
          heard = heard;
          terms = same;
          side = subst (λ z. z.role ≡ role) eq c.2.side;
          valid = subst (λ z. (t : Table) × (terms_ok me.session t x z.terms ≡ true)) eq c.2.valid;
        }

-- if a key may be said, both briefcases are there
both-by-rule : (me : Member) (log : Log) (to : ℕ) (k : KeyGiven) (x : Exchange) (role : Role) → IsObedient me log → MayGiveKey me (known me log) to k
    → exchange_by k.round k.kind k.role me.party to ≡ x → k.role ≡ role → HasBoth me log x role
both-by-rule me log to k x role h rule name side =
    subst (λ r. HasBoth me log x r) side
    (subst (λ y. HasBoth me log y k.role) name
    (both-of me log (exchange_by k.round k.kind k.role me.party to) k.role rule.ours rule.theirs h rule.said rule.heard rule.same))

both-later : (me : Member) (log before : Log) (x : Exchange) (role : Role) → IsLater log before → HasBoth me before x role → HasBoth me log x role
both-later me log before x role later b =
    record {
      mine = b.mine;
      theirs = b.theirs;
      said = then-later (λ d. briefcase_in d.message.body) _ _ b.mine (λ d. said-later (is_of kinds.Case x role) log before d later) b.said;
      heard = case_for-later log before x (other_role role) b.theirs later b.heard;
      terms = b.terms;
      side = b.side;
      valid = b.valid;
    }

-- if a key is there, both briefcases are there
pub both-at-key : (me : Member) (log : Log) (x : Exchange) (role : Role) → IsObedient me log → has_said (is_of kinds.Key x role) log ≡ true → HasBoth me log x role
both-at-key me log x role h e = go (some-is (first_said (is_of kinds.Key x role) log) e)
  where
    at : (d : Datagram) (w : WasSaid log d) → IsKeyOf x role d.message → HasBoth me log x role
    at d w k =
        both-later me log w.before x role (later-entry log w.before (Said d) w.place)
        (both-by-rule me w.before d.message.to k.given x role (allowed-at me log w.before (Said d) w.place h).1
        (key-rule me log d x role w h k) (key-exchange me log d x role w h k) k.side)

    go : (d : Datagram) × (first_said (is_of kinds.Key x role) log ≡ Some d) → HasBoth me log x role
    go f = let was = first_said-was (is_of kinds.Key x role) log f.0 f.1 in at f.0 was.0 (is_of-key x role f.0.message was.1)

pub record HasEvenBriefcases (me : Member) (log : Log) (x : Exchange) : Type 0 where
  pub promised : (totals me (known me log) x).promised ≡ (totals me (known me log) x).opened
  pub received : (totals me (known me log) x).received ≡ (totals me (known me log) x).opened

size-equal : (s : Session) (x : Exchange) (role : Role) (mine theirs : Briefcase) (t : Table) → mine.role ≡ role → theirs.role ≡ other_role role → theirs.terms ≡ mine.terms → terms_ok s t x mine.terms ≡ true
    → length (promise s.cap theirs.terms theirs.role) ≡ length (promise s.cap mine.terms mine.role)
size-equal s x role mine theirs t a b c ok = rw (a, b, c) (sym (promises-by-role s t x mine.terms role ok))

-- what is opened is nothing, or equals both what was promised and what was received
pub balance : (me : Member) (log : Log) (x : Exchange) → IsObedient me log → ((totals me (known me log) x).opened ≡ 0) ⊎ HasEvenBriefcases me log x
balance me log x h = go (has_said (is_of kinds.Key x (role_of me x)) log) refl
  where
    with_both : has_said (is_of kinds.Key x (role_of me x)) log ≡ true → HasBoth me log x (role_of me x) → HasEvenBriefcases me log x
    with_both e b =
        record {
          promised = rw e refl;
          received = rw (e, b.said, b.heard) (size-equal me.session x (role_of me x) b.mine b.theirs b.valid.0 b.side (heard-side log x (other_role (role_of me x)) b.theirs b.heard) b.terms b.valid.1);
        }

    go : (b : Bool) → has_said (is_of kinds.Key x (role_of me x)) log ≡ b → ((totals me (known me log) x).opened ≡ 0) ⊎ HasEvenBriefcases me log x
    go false e = inl (rw e refl)
    go true e = inr (with_both e (both-at-key me log x (role_of me x) h e))
