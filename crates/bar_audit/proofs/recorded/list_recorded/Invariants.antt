use Rattle.std.proofs.Common.{◌≡◌, ◌<◌, ◌^◌, ◌++◌, filter, vec_len}
use Rattle.bar_audit.specs.Code.Findings.{are_given}
use Rattle.bar_audit.proofs.recorded.list_recorded.Given as goal

abbrev pub invariant-loop-x : goal.invariant-loop-x
invariant-loop-x l =
    (l.recorded.items ++ filter (are_given l.parties.keys) l.x-iterator ≡ filter (are_given l.parties.keys) l.exchanges.keys)
    × (vec_len l.recorded < 2 ^ 32)
