-- Findings depend only on what was found at the numbers in range.
use Rattle.std.proofs.Common.{◌≡◌, ℕ, zero, suc, ◌+◌, ◌≤◌, ◌<◌, List, ◌∷◌, ◌++◌, refl, ap, ◌∙◌, arith}
use Rattle.std.specs.List.{flat_map, range_with_len}
use Rattle.bar_findings.specs.Findings.{Found, evidence_name, file_of, findings_of, table_of}

pub range-same : {X : Type 0} (f g : ℕ → List X) (a n : ℕ) → ((i : ℕ) → a ≤ i → i < a + n → f i ≡ g i) →
    flat_map f (range_with_len a n) ≡ flat_map g (range_with_len a n)
range-same f g a zero same = refl
range-same f g a (suc n) same =
    ap (λ xs. xs ++ flat_map f (range_with_len (a + 1) n)) (same a low high)
    ∙ ap (λ xs. g a ++ xs) (range-same f g (a + 1) n (λ i l u. same i (above i l) (below i u)))
  where
    low : a ≤ a
    low = omega arith

    high : a < a + suc n
    high = omega arith

    above : (i : ℕ) → a + 1 ≤ i → a ≤ i
    above i l = omega arith

    below : (i : ℕ) → i < (a + 1) + n → i < a + suc n
    below i u = omega arith

module _ (found : List ℕ) (manifests kept_manifests : Found) (rounds : ℕ) (evidence kept_evidence : Found) (parties : ℕ) where
  -- the same manifests, and the same evidence against each party
  pub findings-same : ((round : ℕ) → kept_manifests round ≡ manifests round) →
      ((party : ℕ) → 1 ≤ party → party ≤ parties → kept_evidence party ≡ evidence party) →
      findings_of found kept_manifests rounds kept_evidence parties ≡ findings_of found manifests rounds evidence parties
  findings-same manifests_are evidence_is =
      ap (λ fs. table_of found kept_manifests rounds ∷ fs)
      (range-same (λ party. file_of (evidence_name found party) (kept_evidence party))
      (λ party. file_of (evidence_name found party) (evidence party)) 1 parties (λ party low high. ap (file_of (evidence_name found party)) (evidence_is party low (omega arith))))
      ∙ (λ i. table_of found (λ round. manifests_are round i) rounds
      ∷ flat_map (λ party. file_of (evidence_name found party) (evidence party)) (range_with_len 1 parties))
