use Rattle.std.proofs.Common.{◌≡◌, ℕ, ◌%◌, ◌++◌, [], ◌∷◌, List, slice_index, slice_index_or, take, ◌∙◌}
use Rattle.std.specs.Int.{w32, to_be_bytes}
use Rattle.bar_lanes.specs.Code.Lane.{digest_lane, tail_lane}
use Rattle.bar_lanes.proofs.LaneLemmas.{below_eight}
use Rattle.bar_lanes.proofs.TailLemmas.{of_lanes_at, seen_lane}
use Rattle.bar_lanes.proofs.tails.Tails.new.Goals as goal

pub invariant_of-result : goal.invariant_of-result
invariant_of-result c =
    let all : List ℕ = c.place_of.result ∷ c.place_of-2.result ∷ c.place_of-3.result ∷ c.place_of-4.result ∷ c.place_of-5.result
    ∷ c.place_of-6.result ∷ c.place_of-7.result ∷ c.place_of-8.result ∷ [] in
    below_eight (λ j. slice_index all j % 256 ≡ 0) c.place_of.ensures.low c.place_of-2.ensures.low c.place_of-3.ensures.low
    c.place_of-4.ensures.low c.place_of-5.ensures.low c.place_of-6.ensures.low c.place_of-7.ensures.low c.place_of-8.ensures.low

pub returns : goal.returns
unfolding tail_lane
returns c j below =
    let all : List ℕ = c.place_of.result ∷ c.place_of-2.result ∷ c.place_of-3.result ∷ c.place_of-4.result ∷ c.place_of-5.result
    ∷ c.place_of-6.result ∷ c.place_of-7.result ∷ c.place_of-8.result ∷ [] in
    let places = c.args.places.now in
    let place : take 3 (to_be_bytes w32 (slice_index all j)) ≡ slice_index_or places j [] =
    below_eight (λ i. take 3 (to_be_bytes w32 (slice_index all i)) ≡ slice_index_or places i []) c.place_of.ensures.upper
    c.place_of-2.ensures.upper c.place_of-3.ensures.upper c.place_of-4.ensures.upper c.place_of-5.ensures.upper
    c.place_of-6.ensures.upper c.place_of-7.ensures.upper c.place_of-8.ensures.upper j below in
    rw (seen_lane (digest_lane c.values.inside.state) c.args.values.now j c.values.view_is below)
    (of_lanes_at (tail_lane all c.values.inside.state) j below ∙ (λ i. place i ++ digest_lane c.values.inside.state j))
