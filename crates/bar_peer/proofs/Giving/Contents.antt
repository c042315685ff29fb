-- The contents of a round that a store gives out.
use Rattle.bar_wire.specs.Grammar.{words_of}
use Rattle.std.proofs.Common.{◌≡◌, ◌∙◌, ℕ, zero, suc, ◌+◌, ◌-◌, ◌*◌, ◌<◌, ◌≤◌, ◌≢◌, Bool, true, false, List, [], ◌∷◌, ◌++◌, Option, Some, None, sym, ap, refl, subst, arith, map, nat_le, is_some, option_copied, Bor}
use Rattle.std.specs.Prelude.{slice_index_or}
use Rattle.std.specs.Bool.{then_some}
use Rattle.std.specs.List.{flat_map, range_with_len}
use Rattle.std.specs.Option.{option_to_list}
use Rattle.std.proofs.lemmas.Bool.Decides.{nat_tests}
use Rattle.bar_window.specs.declared.update.UpdateId.{UpdateId}
use Rattle.bar_window.specs.Updates.{same_update}
use Rattle.bar_rules.specs.Member.{Member}
use Rattle.bar_rules.specs.Peer.Agreement.{IsFresh}
use Rattle.bar_rules.specs.Peer.Knowledge.{Knowledge}
use Rattle.bar_rules.specs.Peer.Ticks.{content_of, content_at, contents_of_round}
use Rattle.bar_store.specs.declared.kept_block.KeptBlock.{KeptBlock}
use Rattle.bar_store.specs.declared.store.Store.{Store}
use Rattle.bar_store.specs.Code.Held.{block_in}
use Rattle.bar_store.specs.Code.Holds.{Holds}
use Rattle.bar_store.specs.Code.Rooms.{room_of, block_if}
use Rattle.bar_peer.specs.Code.Playing.{content_in, contents_in, PlaysFirst}
use Rattle.bar_exchange.proofs.Begun.{if_none}

-- ---- one by one

-- the contents of the updates that are left are those of the first one, then those of the others
pub one_first : (s : Store) (round next end : ℕ) → next < end
    → flat_map (content_in s round) (range_with_len next (end - next))
    ≡ content_in s round next ++ flat_map (content_in s round) (range_with_len (next + 1) (end - (next + 1)))
one_first s round next end more =
    let long : end - next ≡ suc (end - (next + 1)) = omega (arith, more) in
    ap (λ n. flat_map (content_in s round) (range_with_len next n)) long

-- at the end none is left
pub none_after : (s : Store) (round next end : ℕ) → end ≤ next → flat_map (content_in s round) (range_with_len next (end - next)) ≡ []
none_after s round next end done =
    let none : end - next ≡ zero = omega (arith, done) in
    ap (λ n. flat_map (content_in s round) (range_with_len next n)) none

-- the contents of an update that has one, and of an update that has none
pub one_content : (r : Option (Bor (List ℕ))) (xs : List (List ℕ)) → option_to_list (option_copied r) ≡ xs → is_some r ≡ true
    → (content : List ℕ) × (xs ≡ content ∷ [])
one_content None xs h some = absurd (cc)
one_content (Some b) xs h some = (b.now, sym h)

pub none_played : (r : Option (Bor (List ℕ))) (xs : List (List ℕ)) → option_to_list (option_copied r) ≡ xs → is_some r ≡ false → xs ≡ []
none_played None xs h some = sym h
none_played (Some b) xs h some = absurd (cc)

-- what is given out of them
pub plays_none : (r : Option (Bor (List ℕ))) (old new : List (List ℕ)) → r ≡ None → old ≡ [] → new ≡ []
    → PlaysFirst (option_copied r) old new
plays_none r old new none before after =
    subst (λ (o : Option (Bor (List ℕ))). PlaysFirst (option_copied o) old new) (sym none) (before, after)

pub plays_one : (r : Option (Bor (List ℕ))) (xs old new : List (List ℕ)) (content : List ℕ) → option_to_list (option_copied r) ≡ xs
    → xs ≡ content ∷ [] → old ≡ content ∷ new → PlaysFirst (option_copied r) old new
plays_one None xs old new content h one first = absurd (cc)
plays_one (Some b) xs old new content h one first =
    let both : b.now ∷ [] ≡ content ∷ [] = h ∙ one in
    let same : b.now ≡ content = cc in
    first ∙ ap (λ (c : List ℕ). c ∷ new) (sym same)

-- ---- the updates that a store has no room for

none_if : {X : Type 0} (b : Bool) (x : X) → (b ≡ true → ⊥) → then_some b x ≡ None
none_if false x not = refl
none_if true x not = absurd (not refl)

other_update : (u v : UpdateId) → u.index ≢ v.index → same_update u v ≡ true → ⊥
other_update u v other same = grind (arith, nat_tests, same, other)

past_rooms : (per_round : ℕ) (u : UpdateId) (o : Option KeptBlock) → ((k : KeptBlock) → o ≡ Some k → k.id.index < per_round)
    → per_round ≤ u.index → block_if u o ≡ None
past_rooms per_round u None few past = refl
past_rooms per_round u (Some k) few past =
    let inside : k.id.index < per_round = few k refl in
    none_if (same_update u k.id) k.block (other_update u k.id (omega (arith, inside, past)))

-- the blocks of these updates aren't held
none_past : (s : Store) (u : UpdateId) → s.per_round ≤ u.index → block_in s u ≡ None
unfolding block_in
none_past s u past =
    let room : Option KeptBlock = slice_index_or s.rooms.items (room_of s.life s.per_round u) None in
    if_none (nat_le s.round (u.round + s.life + 1)) (block_if u room)
    (past_rooms s.per_round u room (s.rooms_fit.few (room_of s.life s.per_round u)) past)

no_content : (s : Store) (round index : ℕ) → s.per_round ≤ index → content_in s round index ≡ []
no_content s round index past =
    ap (λ o. flat_map content_of (option_to_list o)) (none_past s (record { round = round; index = index }) past)

-- ---- all of a round

all_none : (f : ℕ → List (List ℕ)) (a n : ℕ) → ((i : ℕ) → a ≤ i → f i ≡ []) → flat_map f (range_with_len a n) ≡ []
all_none f a zero none = refl
all_none f a (suc n) none =
    (λ i. none a (omega arith) i ++ all_none f (a + 1) n (λ j above. none j (omega (arith, above))) i)

-- if all elements after a position are empty, only those before it count
ends_early : (f : ℕ → List (List ℕ)) (a n all : ℕ) → n ≤ all → ((i : ℕ) → a + n ≤ i → f i ≡ [])
    → flat_map f (range_with_len a all) ≡ flat_map f (range_with_len a n)
ends_early f a zero all few none = all_none f a all (λ i above. none i (omega (arith, above)))
ends_early f a (suc n) zero few none = absurd (omega (arith, few))
ends_early f a (suc n) (suc all) few none =
    ap (λ (xs : List (List ℕ)). f a ++ xs)
    (ends_early f (a + 1) n all (omega (arith, few)) (λ i above. none i (omega (arith, above))))

same_contents : (f : ℕ → List (List ℕ)) (g : UpdateId → List (List ℕ)) (round a n : ℕ)
    → ((i : ℕ) → g (record { round = round; index = i }) ≡ f i)
    → flat_map g (map (λ i. record { round = round; index = i }) (range_with_len a n)) ≡ flat_map f (range_with_len a n)
same_contents f g round a zero same = refl
same_contents f g round a (suc n) same = (λ i. same a i ++ same_contents f g round (a + 1) n same i)

-- the contents of a fresh round in the store are those in the knowledge
pub contents_told : (me : Member) (k : Knowledge) (s : Store) (round : ℕ) → Holds me k s → me.session.shape.per_round ≤ 64 * words_of me.session.shape
    → IsFresh me k round → contents_in s round me.session.shape.per_round ≡ contents_of_round me k round
unfolding contents_of_round
contents_told me k s round h few fresh =
    let f : ℕ → List (List ℕ) = content_in s round in
    let n : ℕ = me.session.shape.per_round in
    let fits : s.per_round ≡ n = sym s.table_fits ∙ h.per_round in
    sym (ends_early f 0 n (64 * words_of me.session.shape) few (λ i above. no_content s round i (omega (arith, above, fits))))
    ∙ sym (same_contents f (content_at me k) round 0 (64 * words_of me.session.shape)
    (λ i. ap (λ o. flat_map content_of (option_to_list o)) (h.blocks (record { round = round; index = i }) fresh)))
