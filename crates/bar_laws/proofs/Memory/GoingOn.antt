-- A log, and knowledge that agrees with it, continue alike over a list of inputs.
use Rattle.bar_rules.specs.Peer.Agreement.{AgreesWith}
use Rattle.bar_rules.specs.Peer.Knowledge.{Knowledge, known}
use Rattle.bar_rules.specs.Peer.Log.{Log}
use Rattle.bar_rules.specs.Peer.Machine.{step_known}
use Rattle.bar_rules.specs.Member.{Member}
use Rattle.bar_rules.specs.Peer.Rules.{IsObedient}
use Rattle.bar_rules.specs.Peer.Run.{step}
use Rattle.bar_wire.specs.Datagram.{Datagram}
use Rattle.bar_wire.specs.Inputs.{Input}
use Rattle.bar_laws.specs.Agreement.{AnswersAlike, GoesOnAlike}
use Rattle.std.proofs.Common.{ℕ, ◌+◌, ◌≤◌, List, [], ◌∷◌, ◌++◌, map, refl}
use Rattle.bar_laws.proofs.Memory.AgreeTicks.{answers-alike}
use Rattle.bar_laws.proofs.Runs.{step-obedient}

pub goes-on : (me : Member) (one : Log) (two : Knowledge) (inputs : List Input) → 2 ≤ me.session.shape.life → IsObedient me one → AgreesWith me (known me one) two → GoesOnAlike me one two inputs
goes-on me one two [] life h same = record { sends = λ number. refl; contents = refl; agree = same }
goes-on me one two (input ∷ inputs) life h same =
    let now : AnswersAlike me one two input = answers-alike me one two input same life h in
    let later : Knowledge = (step_known me two input).state in
    let rest : GoesOnAlike me (step me one input).state later inputs = goes-on me (step me one input).state later inputs life (step-obedient me one input h) now.agree in
    record {
      sends = λ number i. map (λ (send : ℕ × Datagram). (number, send.0, send.1)) (now.sends i) ++ rest.sends (number + 1) i;
      contents = λ i. now.contents i ∷ rest.contents i;
      agree = rest.agree;
    }
