-- Orders that add nothing to a log.
use Rattle.std.proofs.Common.{◌≡◌, ◌∙◌, List, [], ◌∷◌, Option, Some, None, not, refl}
use Rattle.std.specs.Prelude.{option_map}
use Rattle.std.specs.List.{AllByRecursion, flat_map}
use Rattle.bar_window.specs.declared.exchange.Exchange.{Exchange}
use Rattle.bar_wire.specs.Datagram.{Datagram, Divulge, KeyReq, Evidence}
use Rattle.bar_rules.specs.Member.{Member}
use Rattle.bar_rules.specs.Peer.Exchanges.{role_of, partner_in}
use Rattle.bar_rules.specs.Peer.Knowledge.{Knowledge, known}
use Rattle.bar_rules.specs.Peer.Orders.{Order, Ask, Answer, Reveal, GiveCase, AskKey, GiveKey, Resend, Report}
use Rattle.bar_rules.specs.Peer.Run.{Out, perform, perform_all, say_or_repeat}
use Rattle.bar_rules.specs.Peer.Ticks.{again}
use Rattle.bar_laws.proofs.Logs.{again-all, all-flat, when-all}
use Rattle.bar_laws.proofs.Runs.{send_if-log}
use Rattle.bar_peer.specs.Code.Ticking.{orders_of_open}

abbrev IsUnlogged : Order → Type 0
IsUnlogged (Resend kind x) = Unit {0}
IsUnlogged (Reveal x) = Unit {0}
IsUnlogged (AskKey x) = Unit {0}
IsUnlogged (Report q) = Unit {0}
IsUnlogged _ = ⊥

resent_state : (me : Member) (out : Out) (x : Exchange) (o : Option Datagram) → (say_or_repeat me out x o None).state ≡ out.state
resent_state me out x None = refl
resent_state me out x (Some d) = refl

unlogged_state : (me : Member) (out : Out) (o : Order) → IsUnlogged o → (perform me out o).state ≡ out.state
unlogged_state me out (Resend kind x) h = resent_state me out x ((known me out.state).said kind x (role_of me x))
unlogged_state me out (Reveal x) h =
    send_if-log me out (partner_in me x) (option_map (λ a. Divulge x.round a.0 a.1) ((known me out.state).revealed x))
unlogged_state me out (AskKey x) h = send_if-log me out (partner_in me x) (Some (KeyReq x.round x.kind (role_of me x)))
unlogged_state me out (Ask x) h = absurd h
unlogged_state me out (Answer x) h = absurd h
unlogged_state me out (GiveCase x) h = absurd h
unlogged_state me out (GiveKey x) h = absurd h
unlogged_state me out (Report q) h = send_if-log me out 0 (option_map Evidence ((known me out.state).evidence q))

all_unlogged_state : (me : Member) (out : Out) (os : List Order) → AllByRecursion IsUnlogged os → (perform_all me out os).state ≡ out.state
all_unlogged_state me out [] h = refl
all_unlogged_state me out (o ∷ os) h = all_unlogged_state me (perform me out o) os h.1 ∙ unlogged_state me out o h.0

opens_unlogged : (me : Member) (k : Knowledge) (xs : List Exchange) → AllByRecursion IsUnlogged (flat_map (orders_of_open me k) xs)
opens_unlogged me k xs =
    all-flat IsUnlogged (orders_of_open me k) xs
    (λ x. when-all IsUnlogged (not (k.is_announced (partner_in me x))) (again me k x) (λ _. again-all IsUnlogged me k x tt (λ _. (tt, tt)) (λ _. tt)))

-- messages that are sent again for exchanges don't change the log
pub opens_state : (me : Member) (k : Knowledge) (out : Out) (xs : List Exchange)
    → (perform_all me out (flat_map (orders_of_open me k) xs)).state ≡ out.state
opens_state me k out xs = all_unlogged_state me out (flat_map (orders_of_open me k) xs) (opens_unlogged me k xs)
