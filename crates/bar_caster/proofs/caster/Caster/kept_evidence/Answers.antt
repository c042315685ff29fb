-- The room of a number holds the evidence that the log keeps.
use Rattle.std.proofs.Common.{◌∙◌, ap}
use Rattle.bar_bytes.specs.declared.rooms.Rooms.{Rooms}
use Rattle.bar_bytes.specs.Code.Rooms.{kept_in}
use Rattle.bar_caster.specs.Code.Memory.{member_of, stream_of}
use Rattle.bar_caster.proofs.Everyone.{kept_of_all}
use Rattle.bar_caster.proofs.caster.Caster.kept_evidence.Goals as goal

pub returns-clause-kept : goal.returns-clause-kept
returns-clause-kept g c = λ inputs stands party.
    let m = c.args.self.now.memory in
    ap (λ (r : Rooms). kept_in r party) c.kept.ensures
    ∙ kept_of_all (member_of m) (stream_of m) m.is_broadcaster c.evicts_exactly_the_shown.ensures inputs m.evictions stands.evictions party
