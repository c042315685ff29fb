-- The blocks of a round: how many there are, and which.
use Rattle.std.proofs.Common.{◌≡◌, ℕ, zero, suc, ◌+◌, ◌-◌, ◌*◌, ◌<◌, ◌≤◌, Bool, true, false, List, [], length, get_or, refl, ap, ◌∙◌, arith}
use Rattle.std.specs.Prelude.{map, filter, nat_lt, min, slice_get, Some}
use Rattle.std.specs.List.{range_with_len}
use Rattle.std.specs.Int.{div_ceil}
use Rattle.std.proofs.lemmas.Bool.{lt-ltb, le-ltb}
use Rattle.std.proofs.lemmas.Grind.{div_ceil_times}
use Rattle.std.proofs.lemmas.List.FromFn.{length-map-range_with_len, get_or-map-range_with_len}
use Rattle.std.proofs.lemmas.Option.{slice_get-get_or}
use Rattle.bar_wire.specs.Limits.{largest_content}
use Rattle.bar_rules.specs.Member.{Session}
use Rattle.bar_rules.specs.Broadcaster.Stream.{block_bytes, piece_of, round_blocks}

-- a test that holds exactly for the first k numbers of a range keeps these
kept-front : (p : ℕ → Bool) (a n k : ℕ) → k ≤ n → ((i : ℕ) → a ≤ i → i < a + k → p i ≡ true)
    → ((i : ℕ) → a + k ≤ i → i < a + n → p i ≡ false) → filter p (range_with_len a n) ≡ range_with_len a k
kept-front p a zero zero few first last = refl
kept-front p a zero (suc k) few first last = let none : ⊥ = omega (arith, few) in absurd none
kept-front p a (suc n) zero few first last =
    let here : p a ≡ false = last a (omega arith) (omega arith) in
    let rest : filter p (range_with_len (a + 1) n) ≡ [] =
    kept-front p (a + 1) n zero (omega arith)
    (λ i low high. let none : ⊥ = omega (arith, low, high) in absurd none)
    (λ i low high. last i (omega (arith, low)) (omega (arith, high))) in
    rw (here, rest) refl
kept-front p a (suc n) (suc k) few first last =
    let here : p a ≡ true = first a (omega arith) (omega arith) in
    let rest : filter p (range_with_len (a + 1) n) ≡ range_with_len (a + 1) k =
    kept-front p (a + 1) n k (omega (arith, few))
    (λ i low high. first i (omega (arith, low)) (omega (arith, high)))
    (λ i low high. last i (omega (arith, low)) (omega (arith, high))) in
    rw (here, rest) refl

-- how many blocks a round has, given the number of its first block
abbrev pub count_from : ℕ → ℕ → ℕ → ℕ
count_from len per_round number = min (div_ceil (len - number * largest_content) largest_content) per_round

-- the number of a round's first block
abbrev first_number : Session → ℕ → ℕ
first_number s round = (round - 1) * s.shape.per_round

abbrev block_from : List ℕ → ℕ → ℕ → List ℕ
block_from stream number i = block_bytes (piece_of stream (number + i))

blocks-listed : (s : Session) (stream : List ℕ) (round : ℕ)
    → round_blocks s stream round
    ≡ map (block_from stream (first_number s round))
    (range_with_len 0 (count_from (length stream) s.shape.per_round (first_number s round)))
blocks-listed s stream round =
    let number : ℕ = first_number s round in
    let len : ℕ = length stream in
    let most : ℕ = s.shape.per_round in
    let ceil : ℕ = div_ceil (len - number * 1022) 1022 in
    let about : (len - number * 1022 ≤ ceil * 1022) × (ceil * 1022 < len - number * 1022 + 1022) =
    div_ceil_times (len - number * 1022) 1022 (omega arith) in
    ap (map (block_from stream number))
    (kept-front (λ i. nat_lt (1022 * (number + i)) len) 0 most (min ceil most) (omega arith)
    (λ i low high. lt-ltb (1022 * (number + i)) len (omega (arith, high, about.0, about.1)))
    (λ i low high. le-ltb (1022 * (number + i)) len (omega (arith, low, high, about.0, about.1))))

pub blocks-counted : (s : Session) (stream : List ℕ) (round : ℕ)
    → length (round_blocks s stream round) ≡ count_from (length stream) s.shape.per_round ((round - 1) * s.shape.per_round)
blocks-counted s stream round =
    ap length (blocks-listed s stream round)
    ∙ length-map-range_with_len (block_from stream (first_number s round)) 0
    (count_from (length stream) s.shape.per_round (first_number s round))

pub block-at : (s : Session) (stream : List ℕ) (round index : ℕ) → index < length (round_blocks s stream round)
    → slice_get (round_blocks s stream round) index ≡ Some (block_bytes (piece_of stream ((round - 1) * s.shape.per_round + index)))
block-at s stream round index within =
    let number : ℕ = first_number s round in
    let count : ℕ = count_from (length stream) s.shape.per_round number in
    let few : index < count = omega (arith, within, blocks-counted s stream round) in
    slice_get-get_or (round_blocks s stream round) index [] within
    ∙ ap (λ blocks. Some (get_or blocks index [])) (blocks-listed s stream round)
    ∙ ap Some (get_or-map-range_with_len (block_from stream number) 0 count index index [] few (omega arith))
