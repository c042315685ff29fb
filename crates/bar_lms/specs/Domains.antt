-- The numbers that separate hashes for different purposes (RFC 8554, 7.1).
use Rattle.std.specs.Prelude.{ℕ}

-- a one-time public key
abbrev pub d_pblc : ℕ
d_pblc = 0x8080

-- a message
abbrev pub d_mesg : ℕ
d_mesg = 0x8181

-- a leaf of the tree
abbrev pub d_leaf : ℕ
d_leaf = 0x8282

-- an interior node of the tree
abbrev pub d_intr : ℕ
d_intr = 0x8383
