-- What a contract sees of a tagged hash that is being computed.
use Rattle.std.specs.Prelude.{ℕ, List}
use Rattle.sha2.specs.Hashers.{Holds256}
use Rattle.bar_bytes.specs.declared.tagged.Tagged.{Tagged}

-- these bytes are what will be hashed: the tag, the id and the fields so far
abbrev pub Holds : Tagged → List ℕ → Type 0
Holds t bytes = Holds256 t.hasher bytes
