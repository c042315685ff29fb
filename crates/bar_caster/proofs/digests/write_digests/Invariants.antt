use Rattle.std.proofs.Common.{◌≡◌, ◌*◌, take}
use Rattle.bar_rules.specs.Member.{Session}
use Rattle.bar_rules.specs.Broadcaster.Stream.{round_blocks}
use Rattle.bar_caster.proofs.Manifests.{digests_of}
use Rattle.bar_caster.proofs.digests.write_digests.Given as goal

-- the digests of the blocks before the current one are written
abbrev pub invariant-loop-index : goal.invariant-loop-index
invariant-loop-index l = record {
  place : l.at ≡ 32 * l.index;
  front : (s : Session) → s.shape.per_round ≡ l.stream.per_round
      → take l.at l.out ≡ digests_of (take l.index (round_blocks s l.stream.bytes.items l.round));
}
