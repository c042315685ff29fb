-- There is no list, manifest, notice or eviction yet.
use Rattle.std.proofs.Common.{◌∙◌, refl, sym, ap}
use Rattle.bar_terms.specs.Code.Room.{TableWithRoom}
use Rattle.bar_terms.specs.Table.{digests_of}
use Rattle.bar_rules.specs.Members.{member_by}
use Rattle.bar_caster.proofs.Started.{no_lists_yet}
use Rattle.bar_caster.proofs.memory.Memory.make.Goals as goal

pub returns-clause-stands : goal.returns-clause-stands
returns-clause-stands c = record {
  time = refl;
  table = λ round. ap (λ (t : TableWithRoom). digests_of t.lists round) c.in_ok-table.ensures
      ∙ sym (no_lists_yet (member_by c.args.session c.args.secrets) c.new.result.bytes.items round);
  manifests = c.in_ok-manifests.ensures.empty;
  notice = λ d is. absurd (cc);
  evictions = c.in_ok-evictions.ensures.empty c.args.session (cc);
}
