-- What a contract sees of a slice that is written from its front.
use Rattle.std.specs.Prelude.{ℕ, List, take, drop}
use Rattle.bar_bytes.specs.declared.write.Writer.{Writer}

-- the bytes that were put, one after another
abbrev pub written : Writer → List ℕ
written w = take w.len w.out.now

-- the bytes of the slice that are not written yet
abbrev pub unwritten : Writer → List ℕ
unwritten w = drop w.len w.out.now
