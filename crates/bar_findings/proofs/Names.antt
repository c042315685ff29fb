-- The names of findings are distinct.
use Rattle.std.proofs.Common.{◌≡◌, ◌≢◌, ℕ, zero, suc, ◌+◌, ◌^◌, ◌≤◌, ◌<◌, List, [], ◌∷◌, ◌++◌, Option, None, Some, codes, refl, sym, subst, inl, inr, arith}
use Rattle.std.proofs.lemmas.Fmt.{decimal_injective, decimal_is_IsNumeral}
use Rattle.std.proofs.lemmas.List.{append_cancel_left}
use Rattle.std.specs.Fmt.{decimal}
use Rattle.std.specs.Str.Parse.{AllDigits}
use Rattle.std.specs.List.{AllByRecursion, flat_map, range_with_len}
use Rattle.bar_laws.proofs.Logs.{all-map}
use Rattle.bar_findings.specs.Findings.{Finding, Found, IsFindingName, table_name, evidence_name, file_of, findings_of}
use Rattle.bar_findings.proofs.Lists.{all-range}

-- the evidence files of two parties have different names
pub parties-differ : (found : List ℕ) (p q : ℕ) → p < 2 ^ 64 → q < 2 ^ 64 → evidence_name found p ≡ evidence_name found q → p ≡ q
parties-differ found p q h k e =
    decimal_injective p q h k
    (append_cancel_left (codes ".") (decimal p) (decimal q) (append_cancel_left found (codes "." ++ decimal p) (codes "." ++ decimal q) e))

-- a decimal number isn't the text `table`
no-table : (p : ℕ) → p < 2 ^ 64 → decimal p ≡ codes "table" → ⊥
no-table p h e =
    let digits : AllDigits 10 (codes "table") = subst (AllDigits 10) e (decimal_is_IsNumeral p h).0.1 in
    let first : 29 < 10 = digits.0 in
    absurd (omega arith)

pub table-differs : (found : List ℕ) (p : ℕ) → p < 2 ^ 64 → evidence_name found p ≡ table_name found → ⊥
table-differs found p h e =
    no-table p h
    (append_cancel_left (codes ".") (decimal p) (codes "table") (append_cancel_left found (codes "." ++ decimal p) (codes ".table") e))

-- each file has this name
pub file-names : (name : List ℕ) (o : Option (List ℕ)) → AllByRecursion (λ f. f.name ≡ name) (file_of name o)
file-names name None = tt
file-names name (Some bytes) = (refl, tt)

pub finding-names : (found : List ℕ) (manifests : Found) (rounds : ℕ) (evidence : Found) (parties : ℕ) →
    AllByRecursion (λ f. IsFindingName found f.name) (findings_of found manifests rounds evidence parties)
finding-names found manifests rounds evidence parties = (
  inl refl,
  all-range (λ f. IsFindingName found f.name) (λ party. file_of (evidence_name found party) (evidence party)) 1 parties
      (λ party low high. all-map (λ f. f.name ≡ evidence_name found party) (λ f. IsFindingName found f.name)
      (file_of (evidence_name found party) (evidence party)) (λ f e. inr (party, e)) (file-names (evidence_name found party) (evidence party))),
)

-- no two files have the same name
abbrev pub AreDistinct : List Finding → Type 0
AreDistinct [] = Unit {0}
AreDistinct (f ∷ fs) = AllByRecursion (λ g. g.name ≢ f.name) fs × AreDistinct fs

-- the names of the files of these parties
files-from : (found : List ℕ) (evidence : Found) (a n : ℕ) (P : List ℕ → Type 0) →
    ((i : ℕ) → a ≤ i → i < a + n → P (evidence_name found i)) →
    AllByRecursion (λ f. P f.name) (flat_map (λ party. file_of (evidence_name found party) (evidence party)) (range_with_len a n))
files-from found evidence a n P h =
    all-range (λ f. P f.name) (λ party. file_of (evidence_name found party) (evidence party)) a n
    (λ party low high. all-map (λ f. f.name ≡ evidence_name found party) (λ f. P f.name)
    (file_of (evidence_name found party) (evidence party)) (λ f e. subst P (sym e) (h party low high))
    (file-names (evidence_name found party) (evidence party)))

one-before : (name : List ℕ) (o : Option (List ℕ)) (fs : List Finding) → AllByRecursion (λ f. f.name ≢ name) fs → AreDistinct fs →
    AreDistinct (file_of name o ++ fs)
one-before name None fs others distinct = distinct
one-before name (Some bytes) fs others distinct = (others, distinct)

files-distinct : (found : List ℕ) (evidence : Found) (a n : ℕ) → a + n ≤ 2 ^ 64 →
    AreDistinct (flat_map (λ party. file_of (evidence_name found party) (evidence party)) (range_with_len a n))
files-distinct found evidence a zero few = tt
files-distinct found evidence a (suc n) few =
    let less : (a + 1) + n ≤ 2 ^ 64 = omega arith in
    one-before (evidence_name found a) (evidence a)
    (flat_map (λ party. file_of (evidence_name found party) (evidence party)) (range_with_len (a + 1) n))
    (files-from found evidence (a + 1) n (λ name. name ≢ evidence_name found a) others)
    (files-distinct found evidence (a + 1) n less)
  where
    others : (i : ℕ) → a + 1 ≤ i → i < (a + 1) + n → evidence_name found i ≢ evidence_name found a
    others i low high e =
        let h : i < 2 ^ 64 = omega arith in
        let k : a < 2 ^ 64 = omega arith in
        let same = parties-differ found i a h k e in
        omega arith

pub findings-distinct : (found : List ℕ) (manifests : Found) (rounds : ℕ) (evidence : Found) (parties : ℕ) → parties < 2 ^ 64 →
    AreDistinct (findings_of found manifests rounds evidence parties)
findings-distinct found manifests rounds evidence parties few =
    let all : 1 + parties ≤ 2 ^ 64 = omega arith in (
      files-from found evidence 1 parties (λ name. name ≢ table_name found) others,
      files-distinct found evidence 1 parties all,
    )
  where
    others : (i : ℕ) → 1 ≤ i → i < 1 + parties → evidence_name found i ≢ table_name found
    others i low high e = let h : i < 2 ^ 64 = omega arith in table-differs found i h e
