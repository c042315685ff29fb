-- The counts of a run. Each count saturates at 2^64 - 1.
use Rattle.std.specs.Prelude.{ℕ, ◌+◌, ◌-◌, ◌^◌, min, List, length}
use Rattle.std.specs.List.{concat}
use Rattle.bar_wire.specs.Inputs.{Input}
use Rattle.bar_core.specs.Rules.{Rules}
use Rattle.bar_core.specs.Runs.{sends_over, contents_over}
use Rattle.bar_node.specs.declared.counts.Counts.{Counts}

abbrev pub capped : ℕ → ℕ
capped n = min n (2 ^ 64 - 1)

-- the number of inputs, of datagrams that they send and of bytes that they play
abbrev pub counts_over : Rules → List Input → List Input → Counts
counts_over r before inputs =
    record {
      inputs = capped (length inputs);
      sent = capped (length (sends_over r before inputs));
      played = capped (length (concat (contents_over r before inputs)));
    }

abbrev pub both : Counts → Counts → Counts
both a b = record { inputs = capped (a.inputs + b.inputs); sent = capped (a.sent + b.sent); played = capped (a.played + b.played) }
