-- The stream cut into blocks, the manifests of its rounds, and the peers to which an update is sent.
use Rattle.std.specs.Prelude.{ℕ, ◌+◌, ◌-◌, ◌*◌, ◌&&◌, Bool, List, ◌++◌, length, map, filter, replicate, slice_range, nat_le, nat_lt, codes}
use Rattle.std.specs.List.{range_with_len}
use Rattle.std.specs.Ordering.{ordering_then, is_lt, nat_cmp}
use Rattle.std.specs.Cmp.Lexicographic.{slice_cmp}
use Rattle.std.specs.Bool.{then_some}
use Rattle.sha2.specs.Sha256.{sha256}
use Rattle.bar_wire.specs.Limits.{largest_content}
use Rattle.bar_bytes.specs.Bytes.{u8_bytes, u16_bytes, u32_bytes}
use Rattle.bar_bytes.specs.Tag.{tagged}
use Rattle.bar_window.specs.declared.update.UpdateId.{UpdateId}
use Rattle.bar_terms.specs.Table.{Table}
use Rattle.bar_rules.specs.Member.{Session, Member}
use Rattle.bar_rules.specs.Peer.Log.{Log, round_now}

-- the stream's piece number b, as a block
abbrev pub block_bytes : List ℕ → List ℕ
block_bytes content = u16_bytes (length content) ++ content ++ replicate (largest_content - length content) 0

abbrev pub piece_of : List ℕ → ℕ → List ℕ
piece_of stream b = slice_range stream (largest_content * b) (largest_content * b + largest_content)

-- the blocks of a round, in order
abbrev pub round_blocks : Session → List ℕ → ℕ → List (List ℕ)
round_blocks s stream round =
    map (λ i. block_bytes (piece_of stream ((round - 1) * s.shape.per_round + i)))
    (filter (λ i. nat_lt (largest_content * ((round - 1) * s.shape.per_round + i)) (length stream)) (range_with_len 0 s.shape.per_round))

abbrev pub manifest_list : Session → List ℕ → ℕ → List (List ℕ)
manifest_list s stream round = map sha256 (round_blocks s stream round)

-- the broadcaster's table: the manifests of the rounds so far
abbrev pub caster_table : Member → List ℕ → Log → Table
caster_table me stream log =
    λ r. then_some (nat_le 1 r && (nat_le r (round_now log) && nat_le r me.session.shape.rounds)) (manifest_list me.session stream r)

abbrev pub peers_of : Session → List ℕ
peers_of s = range_with_len 1 s.shape.peers

-- the fan-out of an update: the peers with the least numbers
unfoldable pub rank_of : Member → UpdateId → ℕ → List ℕ
rank_of me u p = tagged (codes "FAN1") me.session.shape.id (u32_bytes u.round ++ u8_bytes u.index ++ u16_bytes p ++ me.secret)

-- a peer precedes another: by the hash, in the order of byte strings, and by number if the hashes are equal
abbrev pub ranks_before : Member → UpdateId → ℕ → ℕ → Bool
ranks_before me u q p = is_lt (ordering_then (slice_cmp nat_cmp (rank_of me u q) (rank_of me u p)) (nat_cmp q p))

abbrev pub is_in_fanout : Member → UpdateId → ℕ → Bool
is_in_fanout me u p = nat_lt (length (filter (λ q. ranks_before me u q p) (peers_of me.session))) me.session.fanout
