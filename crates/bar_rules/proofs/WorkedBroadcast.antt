-- Worked examples of the broadcaster: what it sends in each slot of a stream that isn't empty.
use Rattle.std.proofs.Common.{Ordering, Less, Equal, Greater, ◌≡◌, ℕ, ◌+◌, ◌-◌, ◌*◌, Bool, List, [], ◌∷◌, None, true, false, refl, ap, ◌∙◌, map, get_or}
use Rattle.std.specs.Prelude.{replicate, nat_lt, if◌then◌else◌}
use Rattle.std.specs.Cmp.Lexicographic.{slice_cmp}
use Rattle.std.specs.Cmp.Lexicographic.{nat_list_cmp_total}
use Rattle.std.specs.Ordering.{nat_cmp, ordering_reverse, is_gt}
use Rattle.sha2.specs.Sha256.{sha256}
use Rattle.bar_rules.specs.Broadcaster.Sending.{caster_signed, caster_sends_of, send_blocks, evict_by, judge_body, caster_step}
use Rattle.bar_rules.specs.Broadcaster.Stream.{block_bytes, manifest_list, caster_table, rank_of, is_in_fanout}
use Rattle.bar_window.specs.declared.update.UpdateId.{UpdateId}
use Rattle.bar_wire.specs.Datagram.{Datagram, Manifest, Block, Evidence, Evict}
use Rattle.bar_wire.specs.Inputs as event
use Rattle.bar_rules.specs.Peer.Log.{Log, Ticked, Said, Kept, kept}
use Rattle.bar_rules.specs.Member.{Member}
use Rattle.bar_rules.specs.Runs.{begun}
use Rattle.bar_rules.specs.Values.{unsigned}
use Rattle.bar_rules.specs.Judge.Verdict.{Shown, NotShown, Twice, Consistent, verdict}
use Rattle.bar_rules.proofs.Worked.{session, update, after}

-- the broadcaster of a session of two peers, in which each block is sent to so many
abbrev caster_to : ℕ → Member
caster_to fanout = record { session = record session { fanout = fanout }; party = 0; secret = [] }

abbrev caster : Member
caster = caster_to 2

-- two blocks
abbrev stream : List ℕ
stream = replicate 1023 7

abbrev first_block : List ℕ
first_block = block_bytes (replicate 1022 7)

abbrev second_block : List ℕ
second_block = block_bytes (7 ∷ [])

-- ---- to whom a block is sent

-- how the ranks of two peers compare, whatever the fan-out
abbrev ranked : ℕ → UpdateId → ℕ → ℕ → Ordering
ranked fanout u q p = slice_cmp nat_cmp (rank_of (caster_to fanout) u q) (rank_of (caster_to fanout) u p)

-- the two peers, and whether each is within the fan-out
abbrev both_within : ℕ → UpdateId → List Bool
both_within fanout u = map (is_in_fanout (caster_to fanout) u) (1 ∷ 2 ∷ [])

-- which peers are within a fan-out of one and of two, for each order of the ranks of peers 1 and 2
within-by :
    (fanout : ℕ) (u : UpdateId) (P : List Bool → Ordering → Type 0)
    → P (nat_lt 0 fanout ∷ nat_lt 1 fanout ∷ []) Less
    → P (nat_lt 0 fanout ∷ nat_lt 1 fanout ∷ []) Equal
    → P (nat_lt 1 fanout ∷ nat_lt 0 fanout ∷ []) Greater
    → P (both_within fanout u) (ranked fanout u 1 2)
within-by fanout u P less equal greater = go (ranked fanout u 1 2) refl
  where
    alike : (p : ℕ) → ranked fanout u p p ≡ Equal
    alike p = same (ranked fanout u p p) (nat_list_cmp_total.antisymm (rank_of (caster_to fanout) u p) (rank_of (caster_to fanout) u p))
      where
        same : (r : Ordering) → r ≡ ordering_reverse r → r ≡ Equal
        same Equal e = refl
        same Less e = cc
        same Greater e = cc

    first : ranked fanout u 1 1 ≡ Equal
    first = alike 1

    second : ranked fanout u 2 2 ≡ Equal
    second = alike 2

    back : (r : Ordering) → ranked fanout u 1 2 ≡ r → ranked fanout u 2 1 ≡ ordering_reverse r
    back r e = nat_list_cmp_total.antisymm (rank_of (caster_to fanout) u 2) (rank_of (caster_to fanout) u 1) ∙ ap ordering_reverse e

    go : (r : Ordering) → ranked fanout u 1 2 ≡ r → P (both_within fanout u) (ranked fanout u 1 2)
    go Less e = let other : ranked fanout u 2 1 ≡ Greater = back Less e in simp (first, second, e, other) less
    go Equal e = let other : ranked fanout u 2 1 ≡ Equal = back Equal e in simp (first, second, e, other) equal
    go Greater e = let other : ranked fanout u 2 1 ≡ Less = back Greater e in simp (first, second, e, other) greater

-- of two peers, both are among the first two, and neither is among the first zero
two_of_two : (u : UpdateId) → both_within 2 u ≡ true ∷ true ∷ []
two_of_two u = within-by 2 u (λ within r. within ≡ true ∷ true ∷ []) refl refl refl

none_of_two : (u : UpdateId) → both_within 0 u ≡ false ∷ false ∷ []
none_of_two u = within-by 0 u (λ within r. within ≡ false ∷ false ∷ []) refl refl refl

-- the first one is the peer with the lower rank, or if the ranks are equal, the one with the lower number
one_of_two : (u : UpdateId) → both_within 1 u ≡ (if is_gt (ranked 1 u 1 2) then false ∷ true ∷ [] else true ∷ false ∷ [])
one_of_two u = within-by 1 u (λ within r. within ≡ (if is_gt r then false ∷ true ∷ [] else true ∷ false ∷ [])) refl refl refl

-- ---- blocks

abbrev block_to : ℕ → UpdateId → List ℕ → ℕ × Datagram
block_to p u block = (p, unsigned (record { from = 0; to = p; body = Block u block }))

abbrev sends_after : Member → Log → List (ℕ × Datagram)
sends_after me log = (caster_step me stream log event.Tick).sends

is-within : (u : UpdateId) → is_in_fanout caster u 1 ≡ true
is-within u = ap (λ bs. get_or bs 0 false) (two_of_two u)

is-within-too : (u : UpdateId) → is_in_fanout caster u 2 ≡ true
is-within-too u = ap (λ bs. get_or bs 1 false) (two_of_two u)

-- two blocks of round 1 to both peers
abbrev to_both : List ℕ → List ℕ → List (ℕ × Datagram)
to_both b c = block_to 1 (update 1 0) b ∷ block_to 2 (update 1 0) b ∷ block_to 1 (update 1 1) c ∷ block_to 2 (update 1 1) c ∷ []

abbrev to_second : List ℕ → List ℕ → List (ℕ × Datagram)
to_second b c = block_to 2 (update 1 0) b ∷ block_to 2 (update 1 1) c ∷ []

early-blocks : (b c : List ℕ) → (send_blocks caster 1 0 (b ∷ c ∷ []) (begun (after 2))).sends ≡ to_both b c
early-blocks b c = simp (is-within (update 1 0), is-within-too (update 1 0), is-within (update 1 1), is-within-too (update 1 1))

late-blocks : (b c : List ℕ) → (send_blocks caster 1 0 (b ∷ c ∷ []) (begun (after 6))).sends ≡ to_both b c
late-blocks b c = simp (is-within (update 1 0), is-within-too (update 1 0), is-within (update 1 1), is-within-too (update 1 1))

served-blocks : (b c : List ℕ) → (send_blocks caster 1 0 (b ∷ c ∷ []) (begun (Ticked ∷ Kept 1 [] ∷ after 1))).sends ≡ to_second b c
served-blocks b c = simp (is-within-too (update 1 0), is-within-too (update 1 1))

-- tick 2 is slot 1 of round 1, and tick 6 slot 5: both blocks are sent to both peers
blocks_go_out_in_slot_1 : sends_after caster (after 1) ≡ to_both first_block second_block
unfolding caster_step
blocks_go_out_in_slot_1 = early-blocks first_block second_block

blocks_go_out_in_slot_5 : sends_after caster (after 5) ≡ to_both first_block second_block
unfolding caster_step
blocks_go_out_in_slot_5 = late-blocks first_block second_block

-- not to an evicted peer
an_evicted_peer_gets_no_block : sends_after caster (Kept 1 [] ∷ after 1) ≡ to_second first_block second_block
unfolding caster_step
an_evicted_peer_gets_no_block = served-blocks first_block second_block

-- the stream has no block of round 2
no_block_of_a_later_round : map (λ ticks. sends_after caster (after ticks)) (9 ∷ 13 ∷ []) ≡ [] ∷ [] ∷ []
unfolding caster_step
no_block_of_a_later_round = refl

-- slots 2, 3, 6 and 7
the_other_slots_are_quiet : map (λ ticks. sends_after caster (after ticks)) (2 ∷ 3 ∷ 6 ∷ 7 ∷ []) ≡ [] ∷ [] ∷ [] ∷ [] ∷ []
unfolding caster_step
the_other_slots_are_quiet = refl

-- ---- manifests and evictions

abbrev manifest : ℕ → Datagram
manifest round = caster_signed caster (2 * (round - 1)) (Manifest round (manifest_list caster.session stream round))

abbrev eviction : ℕ → List ℕ → Datagram
eviction round parties = caster_signed caster (2 * (round - 1) + 1) (Evict round parties)

-- the list of round 1 has the hashes of both blocks
the_list_of_a_round : manifest_list caster.session stream 1 ≡ sha256 first_block ∷ sha256 second_block ∷ []
the_list_of_a_round = refl

manifests_go_out_in_slots_0_and_4 :
    map (λ ticks. sends_after caster (after ticks)) (0 ∷ 4 ∷ 8 ∷ [])
    ≡ ((1, manifest 1) ∷ (2, manifest 1) ∷ [])
    ∷ ((1, manifest 1) ∷ (2, manifest 1) ∷ [])
    ∷ ((1, manifest 2) ∷ (2, manifest 2) ∷ [])
    ∷ []
unfolding caster_step
manifests_go_out_in_slots_0_and_4 = refl

-- what was said of a round is sent again
a_manifest_goes_again :
    (signature : List ℕ) → sends_after caster (Said (record (manifest 1) { signature = signature }) ∷ after 4)
    ≡ (1, record (manifest 1) { signature = signature }) ∷ (2, record (manifest 1) { signature = signature }) ∷ []
unfolding caster_step
a_manifest_goes_again signature = refl

-- in slot 0 alone, after the manifest, to those that are served
evictions_go_out_in_slot_0 :
    map (λ ticks. sends_after caster (Kept 2 [] ∷ after ticks)) (8 ∷ 12 ∷ 10 ∷ [])
    ≡ ((1, manifest 2) ∷ (1, eviction 2 (2 ∷ [])) ∷ []) ∷ ((1, manifest 2) ∷ []) ∷ [] ∷ []
unfolding caster_step
evictions_go_out_in_slot_0 = refl

-- what is signed is kept as said
what_is_signed_is_kept :
    (caster_step caster stream (Kept 2 [] ∷ after 8) event.Tick).state
    ≡ Said (eviction 2 (2 ∷ [])) ∷ Said (manifest 2) ∷ Ticked ∷ Kept 2 [] ∷ after 8
unfolding caster_step
what_is_signed_is_kept = refl

-- ---- manifests that are said again

-- the broadcaster of a session of two rounds, by its version
abbrev of_version : ℕ → Member
of_version version = record {
  session = record session { shape = record session.shape { version = version; rounds = 2 }; fanout = 2 };
  party = 0;
  secret = [];
}

-- the ticks that send something in a run of three rounds with no blocks, each as often as it does
abbrev ticks_that_send : ℕ → List ℕ
ticks_that_send version = map (λ sent. sent.0) (caster_sends_of (of_version version) [] (replicate 24 event.Tick))

-- in version 3 the ticks of slot 2 send too, from round 2 to the round after the last
who_sends_in_slot_2 :
    map ticks_that_send (1 ∷ 2 ∷ 3 ∷ [])
    ≡ (1 ∷ 1 ∷ 5 ∷ 5 ∷ 9 ∷ 9 ∷ 13 ∷ 13 ∷ [])
    ∷ (1 ∷ 1 ∷ 5 ∷ 5 ∷ 9 ∷ 9 ∷ 13 ∷ 13 ∷ [])
    ∷ (1 ∷ 1 ∷ 5 ∷ 5 ∷ 9 ∷ 9 ∷ 11 ∷ 11 ∷ 13 ∷ 13 ∷ 19 ∷ 19 ∷ [])
    ∷ []
unfolding caster_step
who_sends_in_slot_2 = refl

-- tick 11 sends what was said of round 1, and tick 19 what was said of round 2, to those that aren't evicted then; neither signs anything
the_manifest_of_the_round_before_goes_again :
    (first second : Datagram) → first.message.body ≡ Manifest 1 [] → second.message.body ≡ Manifest 2 []
    → map (λ ticks. caster_step (of_version 3) [] (Kept 1 [] ∷ Said second ∷ Said first ∷ after ticks) event.Tick) (10 ∷ 18 ∷ [])
    ≡ record { state = Ticked ∷ Kept 1 [] ∷ Said second ∷ Said first ∷ after 10; sends = (2, first) ∷ []; contents = [] }
    ∷ record { state = Ticked ∷ Kept 1 [] ∷ Said second ∷ Said first ∷ after 18; sends = (2, second) ∷ []; contents = [] }
    ∷ []
unfolding caster_step
the_manifest_of_the_round_before_goes_again first second one two = simp (one, two)

-- ---- the end of the stream

-- rounds of one block, and a stream that has a block for a third round
abbrev short : Member
short = record {
  session = record session { shape = record session.shape { rounds = 2; per_round = 1 }; fanout = 2 };
  party = 0;
  secret = [];
}

-- ticks 17, 18, 21 and 22 are the slots 0, 1, 4 and 5 of round 3, with a peer evicted
nothing_goes_out_after_the_last_round :
    map (λ ticks. (caster_step short (replicate 2045 7) (Kept 2 [] ∷ after ticks) event.Tick).sends) (16 ∷ 17 ∷ 20 ∷ 21 ∷ [])
    ≡ [] ∷ [] ∷ [] ∷ [] ∷ []
unfolding caster_step
nothing_goes_out_after_the_last_round = refl

-- after the last tick nothing changes
after_the_last_tick_nothing_is_done :
    map (λ input. caster_step short stream (after 56) input) (event.Tick ∷ event.Datagram [] ∷ [])
    ≡ begun (after 56) ∷ begun (after 56) ∷ []
unfolding caster_step
after_the_last_tick_nothing_is_done = refl

-- ---- evidence

-- a party that is shown is evicted by the first evidence, and by no other
the_first_evidence_counts :
    map (λ log. evict_by log ((7 ∷ []) ∷ []) (Shown 2 Twice)) ([] ∷ (Kept 2 [] ∷ []) ∷ (Kept 1 [] ∷ []) ∷ [])
    ≡ (Kept 2 ((7 ∷ []) ∷ []) ∷ []) ∷ (Kept 2 [] ∷ []) ∷ (Kept 2 ((7 ∷ []) ∷ []) ∷ Kept 1 [] ∷ []) ∷ []
the_first_evidence_counts = refl

what_shows_nothing_evicts_nobody : evict_by (after 3) [] (NotShown Consistent) ≡ after 3
what_shows_nothing_evicts_nobody = refl

-- the judge has the table of the rounds so far
shown_evidence_is_kept :
    (log : Log) (evidence : List (List ℕ))
    → verdict caster.session (caster_table caster stream log) evidence ≡ Shown 2 Twice → kept log 2 ≡ None
    → judge_body caster stream log (Evidence evidence) ≡ Kept 2 evidence ∷ log
shown_evidence_is_kept log evidence shown free = simp (shown, free)
