use Rattle.bar_record.specs.Code.Inputs.{inputs_left}
use Rattle.bar_audit.proofs.Takings.{Taken}
use Rattle.bar_audit.proofs.recording.give_all.Given as goal

abbrev pub invariant-loop-input : goal.invariant-loop-input
invariant-loop-input g l =
    (goal.iterator-loop-input g).can_next l.input-iterator
    × (goal.iterator-loop-input g).is_finite l.input-iterator
    × Taken l.session l.party (inputs_left l.fn.items) (inputs_left l.input-iterator) l.fn.found l.found l.fn.steps l.steps
    (g.V.Verifier.most_steps l.verifier)
