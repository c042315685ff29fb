use Rattle.std.proofs.Common.{◌≡◌, ◌∙◌, take, ap, sym, arith}
use Rattle.std.proofs.lemmas.Nat.{from_be_bytes-to_be_bytes_8}
use Rattle.std.specs.Int.{w64, from_be_bytes}
use Rattle.bar_bytes.specs.Bytes.{u64_bytes}
use Rattle.bar_seeds.proofs.choice.first_number.Goals as goal

pub returns : goal.returns
unfolding u64_bytes
returns c =
    let front : take 8 c.args.hash.now ≡ u64_bytes c.split_u64-number.result.0 = ap (take 8) c.split_u64-number.ensures.is in
    sym (ap (from_be_bytes w64) front ∙ from_be_bytes-to_be_bytes_8 c.split_u64-number.result.0 (omega arith))
