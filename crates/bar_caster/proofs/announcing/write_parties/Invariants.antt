use Rattle.std.proofs.Common.{◌≡◌, ◌*◌, take}
use Rattle.std.specs.List.{flat_map}
use Rattle.bar_bytes.specs.Bytes.{u16_bytes}
use Rattle.bar_caster.proofs.announcing.write_parties.Given as goal

-- the parties before the current one are written
abbrev pub invariant-loop-party : goal.invariant-loop-party
invariant-loop-party l = record {
  place : l.at ≡ 2 * l.party-index;
  front : take l.at l.out ≡ flat_map u16_bytes (take l.party-index l.parties);
}
