use Rattle.std.proofs.Common.{◌≡◌, take, map, string_bytes}
use Rattle.bar_outside.proofs.mem_spawner.copied.Given as goal

-- the arguments so far
abbrev pub invariant-loop-word : goal.invariant-loop-word
invariant-loop-word l = map string_bytes l.copies.items ≡ map string_bytes (take l.word-index l.words)
