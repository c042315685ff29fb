-- What was admitted from a party and may still be asked about is of the exchanges with it that are tried.
use Rattle.std.specs.Prelude.{◌⊎◌, ◌==◌, ◌||◌, nat_lt, is_some}
use Rattle.std.specs.List.{list_any}
use Rattle.std.proofs.Common.{◌≡◌, ℕ, zero, suc, ◌+◌, ◌-◌, ◌<◌, ◌≤◌, Bool, true, false, cond, List, [], ◌∷◌, ◌++◌, refl, sym, ap, ◌∙◌, subst, inl, inr, arith}
use Rattle.std.proofs.lemmas.Bool.{cases_eq, eq-eqb, ne_eqb}
use Rattle.bar_window.specs.Exchange.{other_role, same_exchange, party_on}
use Rattle.bar_window.specs.declared.exchange.Exchange.{Exchange}
use Rattle.bar_window.specs.declared.exchange.Role.{Role}
use Rattle.bar_window.specs.declared.exchange.Role.TheVariants.{Initiator, Responder}
use Rattle.bar_window.specs.declared.exchange.XKind.{XKind}
use Rattle.bar_window.specs.declared.exchange.XKind.TheVariants.{Balanced, Push}
use Rattle.bar_window.proofs.Exchanges.{same_exchange_refl}
use Rattle.bar_wire.specs.Datagram.{is_of}
use Rattle.bar_rules.specs.Member.{Member}
use Rattle.bar_rules.specs.Peer.Evidence.{between, shared_from}
use Rattle.bar_rules.specs.Peer.Exchanges.{role_of}
use Rattle.bar_rules.specs.Peer.Knowledge.{known}
use Rattle.bar_rules.specs.Peer.Log.{Log, round_now}
use Rattle.bar_rules.specs.Peer.Rules.{IsObedient}
use Rattle.bar_laws.specs.Tries.{TriesMissNone}
use Rattle.bar_laws.proofs.Logs.{first_heard-was, was-heard-own, is_of-part, sender-on, receiver-on, IsForOneMember}
use Rattle.bar_laws.proofs.Runs.{any-front, any-back}
use Rattle.bar_laws.proofs.Keeping.RoomsOf.{has-rooms}
use Rattle.bar_laws.proofs.Keeping.Few.{kept-near}

-- ---- lists

two-any : (a b : Bool) → (a ≡ true) ⊎ (b ≡ true) → (a || (b || false)) ≡ true
two-any true b h = refl
two-any false true h = refl
two-any false false (inl e) = e
two-any false false (inr e) = e

-- ---- the exchanges of two parties

-- the two parties are those of an exchange
abbrev AreSides : ℕ → ℕ → Exchange → Type 0
AreSides p q x = ((x.initiator ≡ p) × (x.responder ≡ q)) ⊎ ((x.initiator ≡ q) × (x.responder ≡ p))

same-made : (x : Exchange) (round : ℕ) (kind : XKind) (p q : ℕ) → x.round ≡ round → x.kind ≡ kind → x.initiator ≡ p → x.responder ≡ q
    → same_exchange x (record { round = round; kind = kind; initiator = p; responder = q }) ≡ true
same-made x round kind p q a b c d = subst (λ y. same_exchange x y ≡ true) (λ i. record { round = a i; kind = b i; initiator = c i; responder = d i }) (same_exchange_refl x)

between-has : (x : Exchange) (p q round : ℕ) (kind : XKind) → AreSides p q x → x.round ≡ round → x.kind ≡ kind → list_any (same_exchange x) (between p q round kind) ≡ true
between-has x p q round kind sides a b = go (nat_lt p q) (one sides)
  where
    first : Exchange
    first = record { round = round; kind = kind; initiator = p; responder = q }

    second : Exchange
    second = record { round = round; kind = kind; initiator = q; responder = p }

    one : AreSides p q x → (same_exchange x first ≡ true) ⊎ (same_exchange x second ≡ true)
    one (inl s) = inl (same-made x round kind p q a b s.0 s.1)
    one (inr s) = inr (same-made x round kind q p a b s.0 s.1)

    flip : (same_exchange x first ≡ true) ⊎ (same_exchange x second ≡ true) → (same_exchange x second ≡ true) ⊎ (same_exchange x first ≡ true)
    flip (inl e) = inr e
    flip (inr e) = inl e

    go : (b : Bool) → (same_exchange x first ≡ true) ⊎ (same_exchange x second ≡ true) → list_any (same_exchange x) (cond b (first ∷ second ∷ []) (second ∷ first ∷ [])) ≡ true
    go true h = two-any (same_exchange x first) (same_exchange x second) h
    go false h = two-any (same_exchange x second) (same_exchange x first) (flip h)

shared-has : (x : Exchange) (p q round count : ℕ) → AreSides p q x → round ≤ x.round → x.round < round + count → list_any (same_exchange x) (shared_from p q round count) ≡ true
shared-has x p q round zero sides low high = absurd (omega (arith, low, high))
shared-has x p q round (suc count) sides low high = go (cases_eq x.round round) (shared-has x p q (round + 1) count sides)
  where
    rest : List Exchange
    rest = shared_from p q (round + 1) count

    by-kind : (k : XKind) → x.kind ≡ k → x.round ≡ round → list_any (same_exchange x) ((between p q round Balanced ++ between p q round Push) ++ rest) ≡ true
    by-kind Balanced e r =
        any-front (same_exchange x) (between p q round Balanced ++ between p q round Push) rest
        (any-front (same_exchange x) (between p q round Balanced) (between p q round Push) (between-has x p q round Balanced sides r e))
    by-kind Push e r =
        any-front (same_exchange x) (between p q round Balanced ++ between p q round Push) rest
        (any-back (same_exchange x) (between p q round Balanced) (between p q round Push) (between-has x p q round Push sides r e))

    go : (x.round ≡ round) ⊎ (x.round ≡ round → ⊥) → (round + 1 ≤ x.round → x.round < (round + 1) + count → list_any (same_exchange x) rest ≡ true)
        → list_any (same_exchange x) ((between p q round Balanced ++ between p q round Push) ++ rest) ≡ true
    go (inl r) later = by-kind x.kind refl r
    go (inr n) later =
        any-back (same_exchange x) (between p q round Balanced ++ between p q round Push) rest
        (later (omega (arith, low, n)) (omega (arith, high)))

-- ---- what was admitted

side-of : (me : Member) (x : Exchange) (role : Role) → party_on x (other_role role) ≡ me.party → (party_on x role ≡ me.party → ⊥) → role ≡ other_role (role_of me x)
side-of me x Initiator to from = let other : (x.initiator == me.party) ≡ false = ne_eqb x.initiator me.party from in rw other refl
side-of me x Responder to from = let own : (x.initiator == me.party) ≡ true = eq-eqb x.initiator me.party to in rw own refl

sides-of : (me : Member) (x : Exchange) (role : Role) (q : ℕ) → party_on x (other_role role) ≡ me.party → party_on x role ≡ q → AreSides me.party q x
sides-of me x Initiator q to from = inr (from, to)
sides-of me x Responder q to from = inl (to, from)

pub tries-miss-none : (me : Member) (log : Log) → IsObedient me log → TriesMissNone me (known me log)
tries-miss-none me log h kind x role d e recent =
    let was = first_heard-was (is_of kind x role) log d e in
    let own : IsForOneMember me d = was-heard-own me log d (x.round, x.kind, role) was.0 h (is_of-part kind x role d.message was.1) in
    let from : party_on x role ≡ d.message.from = sym (sender-on kind x role d.message was.1) in
    let to : party_on x (other_role role) ≡ me.party = sym (receiver-on kind x role d.message was.1) ∙ own.to in
    let near : x.round ≤ round_now log + 1 = kept-near me log x h ((has-rooms me log h).heard kind x role (ap is_some e)) in
    record {
      listed =
          shared-has x me.party d.message.from (round_now log - me.session.shape.life) (me.session.shape.life + 2)
          (sides-of me x role d.message.from to from) (omega (arith, recent)) (omega (arith, near));
      side = side-of me x role to (λ z. own.other (sym from ∙ z));
    }
