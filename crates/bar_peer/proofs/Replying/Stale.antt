-- If an exchange can't be asked about any more, its datagrams aren't answered.
use Rattle.std.proofs.Common.{◌≡◌, ◌≤◌, ◌+◌, ℕ, ◌∙◌, Bool, true, false, List, [], Option, Some, None, refl, sym, ap, arith, inl, inr}
use Rattle.std.specs.Prelude.{nat_le, ◌&&◌, if◌then◌else◌}
use Rattle.std.specs.Bool.{then_some}
use Rattle.std.specs.Str.{bytes_eq}
use Rattle.std.proofs.lemmas.Bool.{cases_Bool}
use Rattle.std.proofs.lemmas.Bool.Decides.{nat_tests}
use Rattle.std.proofs.lemmas.Slice.Eq.{bytes_eq-Decides}
use Rattle.bar_window.specs.declared.exchange.Role.{Role}
use Rattle.bar_window.specs.declared.exchange.Role.TheVariants.{Initiator, Responder}
use Rattle.bar_window.specs.declared.exchange.XKind.{XKind}
use Rattle.bar_wire.specs.Datagram.{Datagram, Body, Manifest, Block, Request, Response, Divulge, Query, Reply, Case, KeyReq, Key, Evidence, Evict, place_of, round_of, exchange_by}
use Rattle.bar_wire.specs.Grammar.{IsDatagram, SpellsDatagram}
use Rattle.bar_rules.specs.Member.{Session, Member}
use Rattle.bar_rules.specs.Values.{datagram_bytes}
use Rattle.bar_rules.specs.Peer.Agreement.{IsRecent}
use Rattle.bar_rules.specs.Peer.Knowledge.{Knowledge, this_round}
use Rattle.bar_rules.specs.Peer.Orders.{Order}
use Rattle.bar_rules.specs.Peer.Replies.{orders_for, orders_when, heard_like, if_same, repeated}
use Rattle.bar_balanced.specs.Code.Balanced.{AreSpelled}
use Rattle.bar_peer.specs.Code.Repeats.{IsInTime}
use Rattle.bar_peer.proofs.Admitting.Namesakes.{SpellOne, spelled_like}

-- ---- in time or not

in-round : (me : Member) (k : Knowledge) (r : ℕ) (kind : XKind) (role : Role) (from to : ℕ) → nat_le (this_round k) (r + me.session.shape.life) ≡ true
    → IsRecent me k (exchange_by r kind role from to).round
in-round me k r kind Initiator from to t = grind (arith, nat_tests, t)
in-round me k r kind Responder from to t = grind (arith, nat_tests, t)

pub in-time-by : (me : Member) (k : Knowledge) (from to : ℕ) (b : Body) → nat_le (this_round k) (round_of b + me.session.shape.life) ≡ true
    → IsInTime me k (record { from = from; to = to; body = b })
in-time-by me k from to (Manifest r ds) t = tt
in-time-by me k from to (Block u b) t = tt
in-time-by me k from to (Request r s c) t = grind (arith, nat_tests, t)
in-time-by me k from to (Response r hb) t = grind (arith, nat_tests, t)
in-time-by me k from to (Divulge r n ha) t = grind (arith, nat_tests, t)
in-time-by me k from to (Query r s y o) t = grind (arith, nat_tests, t)
in-time-by me k from to (Reply r w g z) t = grind (arith, nat_tests, t)
in-time-by me k from to (Case c) t = in-round me k c.round c.kind c.role from to t
in-time-by me k from to (KeyReq r kind role) t = in-round me k r kind role from to t
in-time-by me k from to (Key g) t = in-round me k g.round g.kind g.role from to t
in-time-by me k from to (Evidence ds) t = tt
in-time-by me k from to (Evict r ps) t = tt

not-soon : (now r deadline life : ℕ) → deadline ≤ life → nat_le now (r + life) ≡ false → nat_le now (r + deadline) ≡ false
not-soon now r deadline life few t = grind (arith, nat_tests, t)

none-when : (t : Bool) (os : List Order) → t ≡ false → orders_when t os ≡ []
none-when t os e = ap (λ t. if t then os else []) e

none-both : (t w : Bool) (os : List Order) → t ≡ false → orders_when (t && w) os ≡ []
none-both t w os e = ap (λ t. if t && w then os else []) e

pub stale-orders : (me : Member) (k : Knowledge) (from to : ℕ) (b : Body) → 2 ≤ me.session.shape.life
    → nat_le (this_round k) (round_of b + me.session.shape.life) ≡ false → orders_for me k false from to b ≡ []
stale-orders me k from to (Request r s c) life t = none-when _ _ (not-soon (this_round k) r 1 me.session.shape.life (omega (arith, life)) t)
stale-orders me k from to (Response r hb) life t = refl
stale-orders me k from to (Divulge r n ha) life t = none-both _ _ _ (not-soon (this_round k) r 2 me.session.shape.life life t)
stale-orders me k from to (Query r s y o) life t = none-when _ _ (not-soon (this_round k) r 1 me.session.shape.life (omega (arith, life)) t)
stale-orders me k from to (Reply r w g z) life t = refl
stale-orders me k from to (Case c) life t = refl
stale-orders me k from to (KeyReq r kind role) life t = none-when _ _ t
stale-orders me k from to (Key g) life t = refl
stale-orders me k from to (Manifest r ds) life t = refl
stale-orders me k from to (Block u b) life t = refl
stale-orders me k from to (Evidence ds) life t = refl
stale-orders me k from to (Evict r ps) life t = refl

-- ---- a repeated datagram equals the earlier one

then-is : (b : Bool) (e c : Datagram) → then_some b e ≡ Some c → (b ≡ true) × (e ≡ c)
then-is true e c h = (refl, cc)
then-is false e c h = absurd (cc)

same-is : (s : Session) (d c : Datagram) (bytes : List ℕ) (o : Option Datagram) → SpellOne → ((e : Datagram) → o ≡ Some e → IsDatagram s.shape e)
    → SpellsDatagram s.shape d bytes → if_same s d o ≡ Some c → c ≡ d
same-is s d c bytes None one fits spells is = absurd (cc)
same-is s d c bytes (Some e) one fits spells is =
    let both = then-is (bytes_eq (datagram_bytes s e) (datagram_bytes s d)) e c is in
    let same : datagram_bytes s e ≡ datagram_bytes s d = (bytes_eq-Decides (datagram_bytes s e) (datagram_bytes s d)).0 both.0 in
    sym both.1 ∙ one s.shape e d bytes (record { fits = fits e refl; is = spells.is ∙ sym same }) spells

pub repeated-is : (me : Member) (k : Knowledge) (d c : Datagram) (bytes : List ℕ) → SpellOne → AreSpelled me k → SpellsDatagram me.session.shape d bytes
    → repeated me k d ≡ Some c → c ≡ d
repeated-is me k d c bytes one h spells is = elim (cases_Bool (k.is_announced d.message.from)) [
  | inl t ↦ absurd (none (sym (ap (λ b. if b then None else if_same me.session d like) t) ∙ is))
  | inr f ↦ same-is me.session d c bytes like one (λ e. spelled_like me k d.message.body (place_of d.message) e h) spells
      (sym (ap (λ b. if b then None else if_same me.session d like) f) ∙ is)
]
  where
    like : Option Datagram
    like = heard_like k d.message.body (place_of d.message)

    none : None ≡ Some c → ⊥
    none e = cc
