-- Public keys and signatures (RFC 8554, 5.3 and 5.4).
use Rattle.std.specs.Prelude.{◌≡◌, ℕ, ◌+◌, ◌*◌, ◌/◌, ◌^◌, List, ◌++◌, length, take, drop}
use Rattle.std.specs.Int.{w32, to_be_bytes, from_be_bytes}
use Rattle.bar_lms.specs.declared.params.Ots.{Ots}
use Rattle.bar_lms.specs.declared.params.Params.{Params}
use Rattle.bar_lms.specs.declared.private.Private.{Private}
use Rattle.bar_lms.specs.Params.{chains, last, levels, lms_type, ots_type}
use Rattle.bar_lms.specs.Chains.{place, chain, joined, digit, steps_left, message_hash, one_time_key}
use Rattle.bar_lms.specs.Code.Order.{longest_by_eights}
use Rattle.bar_lms.specs.Tree.{value, node, root, sibling, leaf_node, climb}

-- a public key
pub record Public : Type 0 where
  pub params : Params
  pub ident : List ℕ
  pub root : List ℕ

-- the public key of a private one
abbrev pub public_of : Private → Public
public_of t = record { params = t.params; ident = t.ident; root = root t }

-- its parts have their lengths
pub record IsPublic (k : Public) : Type 0 where
  pub ident : length k.ident ≡ 16
  pub root : length k.root ≡ 32

-- the numbers of the types, with which a public key begins
abbrev pub type_bytes : Params → List ℕ
type_bytes p = to_be_bytes w32 (lms_type p.height) ++ to_be_bytes w32 (ots_type p.ots)

-- a public key as bytes (RFC 8554, 5.3)
abbrev pub key_bytes : Public → List ℕ
key_bytes k = type_bytes k.params ++ k.ident ++ k.root

-- the value of chain i in a signature
unfoldable pub signed_value : Private → ℕ → List ℕ → ℕ → List ℕ
signed_value t q hash i = value t q (digit t.params.ots hash i) i

-- the sibling on the path from leaf q, this many levels above the leaves
unfoldable pub sibling_at : Private → ℕ → ℕ → List ℕ
sibling_at t q level = node t level (sibling ((2 ^ levels t.params.height + q) / 2 ^ level))

-- the signature of a message under leaf q with a randomizer
unfoldable pub signature : Private → ℕ → List ℕ → List ℕ → List ℕ
signature t q randomizer message =
    to_be_bytes w32 q ++ to_be_bytes w32 (ots_type t.params.ots) ++ randomizer
    ++ joined (signed_value t q (message_hash t.ident q randomizer message)) (chains t.params.ots)
    ++ to_be_bytes w32 (lms_type t.params.height)
    ++ joined (sibling_at t q) (levels t.params.height)

-- the number of four bytes at a place
abbrev pub number_at : List ℕ → ℕ → ℕ
number_at bytes at = from_be_bytes w32 (take 4 (drop at bytes))

-- hash i of a row of hashes
unfoldable pub hash_at : List ℕ → ℕ → List ℕ
hash_at row i = take 32 (drop (32 * i) row)

-- the end of chain i, starting from the value in a signature
unfoldable pub end_at : List ℕ → ℕ → Ots → List ℕ → List ℕ → ℕ → List ℕ
end_at ident q ots hash values i =
    chain (place ident q i) (digit ots hash i) (steps_left ots hash i) (hash_at values i)

-- the root that is computed from a signature of leaf q on a message
unfoldable pub candidate : Public → ℕ → List ℕ → List ℕ → List ℕ
candidate k q message sig =
    let hash = message_hash k.ident q (take 32 (drop 8 sig)) message in
    let key = one_time_key k.ident q (joined (end_at k.ident q k.params.ots hash (drop 40 sig)) (chains k.params.ots)) in
    let r = 2 ^ levels k.params.height + q in
    climb k.ident (hash_at (drop (44 + 32 * chains k.params.ots) sig)) r (leaf_node k.ident r key) (levels k.params.height)

-- how many hashes this takes: the message, the steps left of the chains, the one-time key, the leaf and a node at each level
unfoldable pub candidate_steps : Public → ℕ → List ℕ → List ℕ → ℕ
candidate_steps k q message sig =
    let hash = message_hash k.ident q (take 32 (drop 8 sig)) message in
    1 + longest_by_eights (steps_left k.params.ots hash) (chains k.params.ots) (last k.params.ots) + 1 + 1 + levels k.params.height
