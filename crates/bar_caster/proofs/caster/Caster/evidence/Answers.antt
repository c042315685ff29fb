-- The room of a number holds the evidence that the log keeps, and the log keeps evidence only against evicted peers.
use Rattle.std.proofs.Common.{◌∙◌, ap}
use Rattle.std.specs.Prelude.{option_map}
use Rattle.bar_wire.specs.Evidence.{evidence_bytes}
use Rattle.bar_caster.specs.Code.Memory.{member_of, stream_of}
use Rattle.bar_caster.proofs.Everyone.{kept_of_all, none_unless_evicted, uncopied}
use Rattle.bar_caster.proofs.caster.Caster.evidence.Goals as goal

pub returns-clause-kept : goal.returns-clause-kept
returns-clause-kept g c = λ inputs stands.
    let m = c.args.self.now.memory in
    c.evidence.ensures
    ∙ kept_of_all (member_of m) (stream_of m) m.is_broadcaster c.evicts_exactly_the_shown.ensures inputs m.evictions stands.evictions
    c.args.party

pub returns-clause-others : goal.returns-clause-others
returns-clause-others g c = λ inputs stands other.
    let m = c.args.self.now.memory in
    uncopied c.evidence.result
    (c.evidence.ensures
    ∙ kept_of_all (member_of m) (stream_of m) m.is_broadcaster c.evicts_exactly_the_shown.ensures inputs m.evictions stands.evictions
    c.args.party
    ∙ ap (option_map evidence_bytes)
    (none_unless_evicted (member_of m) (stream_of m) m.is_broadcaster c.evicts_exactly_the_shown.ensures inputs c.args.party other))
