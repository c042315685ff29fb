use Rattle.std.proofs.Common.{◌≡◌, ◌∙◌, sym, ap, subst}
use Rattle.std.proofs.lemmas.Bool.{false≢true}
use Rattle.bar_wire.specs.Inputs.{Input, plain_input}
use Rattle.bar_wire.specs.Inputs as event
use Rattle.bar_rules.specs.Member.{Member}
use Rattle.bar_rules.specs.Peer.Rules.{IsObedient}
use Rattle.bar_rules.specs.Peer.Run.{take_input}
use Rattle.bar_peer.specs.Code.Memory.{member_of}
use Rattle.bar_peer.specs.Code.Sending.{HasOutcome}
use Rattle.bar_peer.specs.Code.Steps.{is_tick}
use Rattle.bar_rules.specs.Peer.Knowledge.{known}
use Rattle.bar_laws.specs.Ignoring.{is_ignored, is_unread}
use Rattle.bar_peer.proofs.steps.take_input.Goals as goal

pub returns-in-Tick-clause-stands : goal.returns-in-Tick-clause-stands
returns-in-Tick-clause-stands g c log catches obeys tells empty room =
    let me : Member = member_of c.args.memory.now.who in
    let is : plain_input c.args.input ≡ event.Tick = ap plain_input c.in-Tick.is in
    let stands =
    c.take_tick.ensures.stands log (subst (λ (input : Input). IsObedient me (take_input me log input).state) is obeys) tells empty room
    in
    subst (λ (input : Input). HasOutcome (take_input me log input) c.take_tick.new.memory c.take_tick.new.orders) (sym is)
    (record { tells = stands.tells; orders = stands.orders })

pub returns-in-Tick-clause-ignored : goal.returns-in-Tick-clause-ignored
returns-in-Tick-clause-ignored g c log catches obeys tells ignored =
    let me : Member = member_of c.args.memory.now.who in
    let is : plain_input c.args.input ≡ event.Tick = ap plain_input c.in-Tick.is in
    absurd (false≢true (ap (is_ignored me (known me log)) (sym is) ∙ ignored))

pub returns-in-Tick-clause-unread : goal.returns-in-Tick-clause-unread
returns-in-Tick-clause-unread g c unread =
    let is : plain_input c.args.input ≡ event.Tick = ap plain_input c.in-Tick.is in
    absurd (false≢true (ap (is_unread c.args.memory.now.who.session) (sym is) ∙ unread))

pub returns-in-Datagram-clause-tick : goal.returns-in-Datagram-clause-tick
returns-in-Datagram-clause-tick g c tick =
    let is : plain_input c.args.input ≡ event.Datagram c.in-Datagram.bytes.now = ap plain_input c.in-Datagram.is in
    absurd (false≢true (ap is_tick (sym is) ∙ tick))
