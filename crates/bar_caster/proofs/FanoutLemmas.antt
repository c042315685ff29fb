-- The ranks of the peers, and how many precede one of them.
use Rattle.bar_window.specs.declared.update.UpdateId.{UpdateId}
use Rattle.bar_rules.specs.Member.{Member}
use Rattle.bar_rules.specs.Broadcaster.Stream.{rank_of, ranks_before}
use Rattle.bar_window.proofs.Ranges.{range_more}
use Rattle.bar_caster.specs.Code.Fanout.{AreRanksOf, count_before}
use Rattle.std.proofs.Common.{◌≡◌, ℕ, Bool, true, false, List, [], ◌∷◌, ◌++◌, ◌+◌, ◌-◌, ◌<◌, ◌≤◌, cond, refl, sym, ap, ◌∙◌, arith}
use Rattle.std.proofs.Common.{length, map, take, get_or, length-append}
use Rattle.std.specs.Prelude.{filter, slice_set}
use Rattle.std.specs.List.{range_with_len}
use Rattle.std.specs.Ordering.{ordering_then, is_lt, nat_cmp}
use Rattle.std.specs.Cmp.Lexicographic.{slice_cmp}
use Rattle.std.proofs.lemmas.List.{take_more_set}
use Rattle.std.proofs.lemmas.List.Elements.{filter-append}
use Rattle.std.proofs.lemmas.List.FromFn.{map-range_with_len_more, get_or-map-range_with_len, length-map-range_with_len}

-- ---- filling

pub filled_one :
    (me : Member) (u : UpdateId) (ranks : List (List ℕ)) (i : ℕ) (rank : List ℕ)
    → i < length ranks → rank ≡ rank_of me u (i + 1) → take i ranks ≡ map (rank_of me u) (range_with_len 1 i)
    → take (i + 1) (slice_set ranks i rank) ≡ map (rank_of me u) (range_with_len 1 (i + 1))
filled_one me u ranks i rank low is filled =
    take_more_set ranks i rank low ∙ ap (λ z. z ++ rank ∷ []) filled ∙ ap (λ z. map (rank_of me u) (range_with_len 1 i) ++ z ∷ []) is
    ∙ sym (map-range_with_len_more (rank_of me u) 1 i (i + 1) (omega arith))

-- ---- counting

counted-one :
    (me : Member) (u : UpdateId) (i p : ℕ)
    → count_before me u (i + 1) p ≡ count_before me u i p + cond (ranks_before me u (i + 1) p) 1 0
counted-one me u i p =
    let before : ℕ → Bool = λ q. ranks_before me u q p in
    let last : length (filter before ((i + 1) ∷ [])) ≡ cond (before (i + 1)) 1 0 = one (before (i + 1)) in
    let turned : 1 + i ≡ i + 1 = omega arith in
    ap (λ qs. length (filter before qs)) (range_more 1 i)
    ∙ ap (λ q. length (filter before (range_with_len 1 i ++ q ∷ []))) turned
    ∙ ap length (filter-append before (range_with_len 1 i) ((i + 1) ∷ []))
    ∙ length-append (filter before (range_with_len 1 i)) (filter before ((i + 1) ∷ []))
    ∙ ap (λ n. length (filter before (range_with_len 1 i)) + n) last
  where
    one : (b : Bool) → length (cond b ((i + 1) ∷ []) []) ≡ cond b 1 0
    one true = refl
    one false = refl

-- there is a rank for each peer
pub peers_counted : (me : Member) (u : UpdateId) (ranks : List (List ℕ)) → AreRanksOf me u ranks → length ranks ≡ me.session.shape.peers
peers_counted me u ranks are = ap length are ∙ length-map-range_with_len (rank_of me u) 1 me.session.shape.peers

-- the rank at an index
rank-at :
    (me : Member) (u : UpdateId) (ranks : List (List ℕ)) (i p : ℕ)
    → AreRanksOf me u ranks → i < length ranks → i + 1 ≡ p → get_or ranks i [] ≡ rank_of me u p
rank-at me u ranks i p are low e =
    let within : i < me.session.shape.peers = omega (arith, low, peers_counted me u ranks are) in
    ap (λ z. get_or z i []) are
    ∙ get_or-map-range_with_len (rank_of me u) 1 me.session.shape.peers i p [] within (omega (arith, e))

-- the count with one more peer, which the code compared by the ranks
pub counted_more :
    (me : Member) (u : UpdateId) (ranks : List (List ℕ)) (i p place : ℕ) (stands : Bool)
    → AreRanksOf me u ranks → i < length ranks → 1 ≤ p → p ≤ length ranks → place ≡ p
    → stands ≡ is_lt (ordering_then (slice_cmp nat_cmp (get_or ranks i []) (get_or ranks (place - 1) [])) (nat_cmp (i + 1) p))
    → count_before me u (i + 1) p ≡ count_before me u i p + cond stands 1 0
counted_more me u ranks i p place stands are low first last at is =
    let its : get_or ranks i [] ≡ rank_of me u (i + 1) = rank-at me u ranks i (i + 1) are low refl in
    let mine : get_or ranks (place - 1) [] ≡ rank_of me u p = rank-at me u ranks (place - 1) p are (omega arith) (omega arith) in
    let tested : stands ≡ ranks_before me u (i + 1) p =
    is ∙ (λ k. is_lt (ordering_then (slice_cmp nat_cmp (its k) (mine k)) (nat_cmp (i + 1) p))) in
    counted-one me u i p ∙ ap (λ b. count_before me u i p + cond b 1 0) (sym tested)
