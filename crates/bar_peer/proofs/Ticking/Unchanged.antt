-- What orders don't change: announced evictions and kept evidence; for requests, also the owed keys.
use Rattle.std.proofs.Common.{◌≡◌, ℕ, ◌∙◌, Bool, true, false, not, ◌||◌, List, [], ◌∷◌, Option, Some, None, is_some, refl, ap, arith}
use Rattle.std.specs.Option.{option_or}
use Rattle.bar_window.specs.declared.exchange.Exchange.{Exchange}
use Rattle.bar_window.specs.declared.exchange.XKind.{XKind}
use Rattle.bar_window.specs.declared.exchange.XKind.TheVariants.{Balanced, Push}
use Rattle.bar_wire.specs.Datagram.{Datagram}
use Rattle.bar_rules.specs.Member.{Member}
use Rattle.bar_rules.specs.Peer.Debts.{owes}
use Rattle.bar_rules.specs.Peer.Exchanges.{request_kind, role_of}
use Rattle.bar_rules.specs.Peer.Knowledge.{Knowledge, known, this_round}
use Rattle.bar_rules.specs.Peer.Log.{Log, Said, earliest, heard_in, if_passes, names_party}
use Rattle.bar_rules.specs.Peer.Machine.{message_to}
use Rattle.bar_rules.specs.Peer.Orders.{Order, Ask, ask_body}
use Rattle.bar_rules.specs.Peer.Replies.{orders_when}
use Rattle.bar_rules.specs.Peer.Run.{Out, perform, perform_all, say_or_repeat}
use Rattle.bar_rules.specs.Peer.Signing.{signed}
use Rattle.bar_rules.specs.Peer.Ticks.{asking_partner}
use Rattle.bar_rules.specs.Secrets.{partner_of, seed_of}
use Rattle.bar_laws.proofs.Logs.{debts-stay}
use Rattle.bar_laws.proofs.Memory.{learned}
use Rattle.bar_peer.specs.Code.Ticking.{is_unasked}
use Rattle.bar_peer.proofs.Orders.Growth.{state_after_order, grows}

with_none : {X : Type 0} (o : Option X) → is_some (option_or o None) ≡ is_some o
with_none None = refl
with_none (Some v) = refl

pub announced_after : (me : Member) (out : Out) (os : List Order) (party : ℕ)
    → (known me (perform_all me out os).state).is_announced party ≡ (known me out.state).is_announced party
announced_after me out [] party = refl
announced_after me out (o ∷ os) party =
    announced_after me (perform me out o) os party
    ∙ state_after_order (λ (log : Log). (known me log).is_announced party ≡ (known me out.state).is_announced party) me out o refl
    (λ d. with_none (earliest (λ log e. if_passes (names_party party) (heard_in e)) out.state))

pub evidence_after : (me : Member) (out : Out) (os : List Order) (party : ℕ)
    → (known me (perform_all me out os).state).evidence party ≡ (known me out.state).evidence party
evidence_after me out [] party = refl
evidence_after me out (o ∷ os) party = evidence_after me (perform me out o) os party ∙ (grows me out o).evidence party

-- ---- requests of this round

-- asking for an exchange doesn't change debts
owes_after : (me : Member) (out : Out) (x : Exchange) (party : ℕ) → x.round ≡ this_round (known me out.state)
    → owes me (known me (perform me out (Ask x)).state) party ≡ owes me (known me out.state) party
owes_after me out x party now = go ((known me out.state).said (request_kind x.kind) x (role_of me x))
  where
    k : Knowledge
    k = known me out.state

    said : (kind : XKind) → owes me (known me (Said (signed me k (message_to me x (ask_body me k x kind))) ∷ out.state)) party ≡ owes me k party
    said Balanced =
        let d : Datagram = signed me k (message_to me x (ask_body me k x Balanced)) in
        ap (λ (l : Knowledge). owes me l party) (learned me out.state (Said d)) ∙ debts-stay me k d party refl (omega (arith, now))
    said Push =
        let d : Datagram = signed me k (message_to me x (ask_body me k x Push)) in
        ap (λ (l : Knowledge). owes me l party) (learned me out.state (Said d)) ∙ debts-stay me k d party refl (omega (arith, now))

    go : (o : Option Datagram) → owes me (known me (say_or_repeat me out x o (Some (ask_body me k x x.kind))).state) party ≡ owes me k party
    go (Some d) = refl
    go None = said x.kind

-- so the same parties aren't asked after a partner was asked
pub unasked_after : (me : Member) (out : Out) (before : Knowledge) (round : ℕ) (kind : XKind) (party : ℕ)
    → round ≡ this_round (known me out.state)
    → is_unasked me (known me (perform_all me out (asking_partner me before round kind)).state) party
    ≡ is_unasked me (known me out.state) party
unasked_after me out before round kind party now = go (not (is_unasked me before to))
  where
    to : ℕ
    to = partner_of me.session (seed_of me round) kind me.party

    x : Exchange
    x = record { round = round; kind = kind; initiator = me.party; responder = to }

    go : (b : Bool) → is_unasked me (known me (perform_all me out (orders_when b (Ask x ∷ []))).state) party
        ≡ is_unasked me (known me out.state) party
    go true = λ i. announced_after me out (Ask x ∷ []) party i || owes_after me out x party now i
    go false = refl
