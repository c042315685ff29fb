use Rattle.std.proofs.Common.{◌≡◌, ◌∙◌, true, Option, Some, sym, ap, subst}
use Rattle.std.specs.Prelude.{is_none}
use Rattle.std.specs.Option.{option_map_or}
use Rattle.std.proofs.lemmas.Bool.{false≢true}
use Rattle.bar_wire.specs.Datagram.{Datagram}
use Rattle.bar_wire.specs.Places as places
use Rattle.bar_wire.specs.Code.Views.{datagram}
use Rattle.bar_wire.specs.declared.shape.Shape.{Shape}
use Rattle.bar_rules.specs.Member.{Member}
use Rattle.bar_rules.specs.Values.{datagram_of}
use Rattle.bar_rules.specs.Peer.Rules.{IsObedient}
use Rattle.bar_rules.specs.Peer.Run.{take_datagram}
use Rattle.bar_peer.specs.Code.Memory.{member_of}
use Rattle.bar_peer.specs.Code.Sending.{HasOutcome}
use Rattle.bar_rules.specs.Peer.Knowledge.{known}
use Rattle.bar_laws.specs.Ignoring.{tells_nothing}
use Rattle.bar_peer.specs.Code.Checking.{Checks, RemembersAdmitted, shown}
use Rattle.bar_peer.proofs.intake.take_datagram.Given.{Over}
use Rattle.bar_peer.proofs.intake.take_datagram.Goals as goal
use Rattle.bar_peer.proofs.intake.take_datagram.Goals.{In-Ok}

-- the decoded datagram is the one that the bytes encode
read : (g : Over) (c : In-Ok g)
    → Some (datagram c.args.memory.now.who.session.shape c.in-Ok.view) ≡ datagram_of c.args.memory.now.who.session c.args.bytes.now
read g c = c.in-Ok.ensures.told ∙ ap (λ (shape : Shape). places.datagram_of shape c.args.bytes.now) c.shape-shape.ensures.value

pub returns-in-Ok-clause-stands : goal.returns-in-Ok-clause-stands
returns-in-Ok-clause-stands g c log catches obeys tells empty room =
    let me : Member = member_of c.args.memory.now.who in
    let is = read g (goal.at.returns-in-Ok-clause-stands g c).In-Ok in
    subst (λ (o : Option Datagram). HasOutcome (take_datagram me log o) c.take_arrival.new.memory c.take_arrival.new.orders) is
    (c.take_arrival.ensures.stands log catches (subst (λ (o : Option Datagram). IsObedient me (take_datagram me log o).state) (sym is) obeys) tells empty room)

pub returns-in-Ok-clause-ignored : goal.returns-in-Ok-clause-ignored
returns-in-Ok-clause-ignored g c log catches obeys tells ignored =
    let me : Member = member_of c.args.memory.now.who in
    let is = read g (goal.at.returns-in-Ok-clause-ignored g c).In-Ok in
    c.take_arrival.ensures.idle log catches obeys tells (ap (λ (o : Option Datagram). option_map_or (tells_nothing me (known me log)) o true) is ∙ ignored)

pub returns-in-Ok-clause-unread : goal.returns-in-Ok-clause-unread
returns-in-Ok-clause-unread g c unread =
    let is = read g (goal.at.returns-in-Ok-clause-unread g c).In-Ok in
    absurd (false≢true (ap (λ (o : Option Datagram). is_none o) is ∙ unread))

pub returns-in-Ok-clause-checks : goal.returns-in-Ok-clause-checks
returns-in-Ok-clause-checks g c =
    subst
    (λ (o : Option Datagram).
    Checks c.args.memory.now.who.session (shown c.args.memory.now.who.session c.args.bytes.now o) 2 c.args.guard.now c.take_arrival.new.guard
    c.args.steps.now c.take_arrival.new.steps)
    (read g (goal.at.returns-in-Ok-clause-checks g c).In-Ok)
    c.take_arrival.ensures.checks

pub returns-in-Ok-clause-remembers : goal.returns-in-Ok-clause-remembers
returns-in-Ok-clause-remembers g c =
    subst (λ (o : Option Datagram). RemembersAdmitted c.args.memory.now c.args.bytes.now o c.args.guard.now c.take_arrival.new.guard)
    (read g (goal.at.returns-in-Ok-clause-remembers g c).In-Ok)
    c.take_arrival.ensures.remembers

pub invariant_of-arrival : goal.invariant_of-arrival
invariant_of-arrival g c = record { placed = c.place_of-place.ensures c.shape-shape.result }
