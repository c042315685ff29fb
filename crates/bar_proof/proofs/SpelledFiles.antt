-- Bytes that are read as a proof file are an encoding of it.
use Rattle.std.proofs.Common.{◌≡◌, ℕ, zero, suc, ◌+◌, ◌<◌, ◌&&◌, ◌++◌, Bool, true, false, List, [], ◌∷◌, length, take, drop, refl, ap, sym, ◌∙◌, arith, append_assoc, nat_le, nat_lt}
use Rattle.std.specs.Prelude.{Option, Some, None, Result, Ok, Err, bytes_eq, slice_index, if◌then◌else◌}
use Rattle.std.proofs.lemmas.Bool.{and_parts, leb-true, ltb-true}
use Rattle.std.proofs.lemmas.List.{take-append-drop}
use Rattle.std.proofs.lemmas.Slice.Eq.{bytes_eq-Decides}
use Rattle.bar_terms.specs.Table.{Lists}
use Rattle.bar_wire.specs.Evidence.{evidence_bytes}
use Rattle.bar_wire.specs.Grammar.{entry as entry_bytes}
use Rattle.bar_wire.proofs.Lists.{IsBytes, IsBytes-append}
use Rattle.bar_rules.specs.Member.{Session}
use Rattle.bar_judge.specs.TableFile.{First, NoByte, Entry, NoEntry, RoundList, first_of, lists_of, list_after, table_bytes}
use Rattle.bar_proof.specs.declared.proof_fault.ProofFault.{ProofFault}
use Rattle.bar_proof.specs.declared.proof_fault.ProofFault.TheVariants.{BadHead}
use Rattle.bar_proof.specs.ProofFile.{letters, most_manifests, with_list, lists_behind, lists_by, counted_lists, evidence_of, with_evidence, proof_behind, has_head}
use Rattle.bar_proof.specs.Laws.{IsProofFile, ProofsAreSpelled}
use Rattle.bar_proof.proofs.EvidenceLemmas.{is-spelled}
use Rattle.bar_proof.proofs.ManifestReading.{entry_joined}

-- So many entries are those of some manifests, and the rest follows them.
record AreCounted (s : Session) (last count : ℕ) (bytes : List ℕ) (lists : Lists) (left : List ℕ) : Type 0 where
  pub manifests : List (List ℕ)
  pub many : length manifests ≡ count
  pub lists_are : lists_of s last manifests ≡ Some lists
  pub is : bytes ≡ table_bytes manifests ++ left

one-more : (s : Session) (last count : ℕ) (bytes manifest rest : List ℕ) (entry : RoundList) (others read : Lists × List ℕ) → bytes ≡ entry_bytes manifest ++ rest
    → list_after s last manifest ≡ Some entry → (entry ∷ others.0, others.1) ≡ read → AreCounted s entry.0 count rest others.0 others.1
    → AreCounted s last (suc count) bytes read.0 read.1
one-more s last count bytes manifest rest entry others read is listed all r = record {
  manifests = manifest ∷ r.manifests;
  many = ap suc r.many;
  lists_are = rw listed (rw r.lists_are (ap (λ (z : Lists × List ℕ). Some z.0) all));
  is = is
      ∙ (ap (λ b. entry_bytes manifest ++ b) r.is
      ∙ (sym (append_assoc (entry_bytes manifest) (table_bytes r.manifests) others.1)
      ∙ ap (λ (z : Lists × List ℕ). (entry_bytes manifest ++ table_bytes r.manifests) ++ z.1) all));
}

counted-are : (count : ℕ) (s : Session) (last at : ℕ) (bytes : List ℕ) (read : Lists × List ℕ) → IsBytes bytes
    → counted_lists count s last at bytes ≡ Ok read → AreCounted s last count bytes read.0 read.1
unfolding counted_lists
counted-are zero s last at bytes read fits e =
    let all : ([], bytes) ≡ read = cc in
    record { manifests = []; many = refl; lists_are = ap (λ (z : Lists × List ℕ). Some z.0) all; is = ap (λ (z : Lists × List ℕ). z.1) all }
counted-are (suc count) s last at bytes read fits e =
    by_first (first_of bytes) refl e (λ round place rest others fit some. counted-are count s round place rest others fit some)
  where
    by_rest : (manifest rest : List ℕ) (entry : RoundList) (r : Result (Lists × List ℕ) ProofFault) → bytes ≡ entry_bytes manifest ++ rest
        → list_after s last manifest ≡ Some entry → with_list entry r ≡ Ok read
        → ((others : Lists × List ℕ) → r ≡ Ok others → AreCounted s entry.0 count rest others.0 others.1) → AreCounted s last (suc count) bytes read.0 read.1
    by_rest manifest rest entry (Ok others) is listed e later =
        let all : (entry ∷ others.0, others.1) ≡ read = cc in one-more s last count bytes manifest rest entry others read is listed all (later others refl)
    by_rest manifest rest entry (Err fault) is listed e later = cc

    by_list : (manifest rest : List ℕ) (o : Option RoundList) → bytes ≡ entry_bytes manifest ++ rest → list_after s last manifest ≡ o
        → lists_behind (λ round. counted_lists count s round (at + length (entry_bytes manifest)) rest) at o ≡ Ok read
        → ((round : ℕ) (others : Lists × List ℕ) → counted_lists count s round (at + length (entry_bytes manifest)) rest ≡ Ok others → AreCounted s round count rest others.0 others.1)
        → AreCounted s last (suc count) bytes read.0 read.1
    by_list manifest rest (Some entry) is listed e later =
        by_rest manifest rest entry (counted_lists count s entry.0 (at + length (entry_bytes manifest)) rest) is listed e (λ others some. later entry.0 others some)
    by_list manifest rest None is listed e later = cc

    by_first : (first : First) → first_of bytes ≡ first → lists_by (λ round place rest. counted_lists count s round place rest) s last at first ≡ Ok read
        → ((round place : ℕ) (rest : List ℕ) (others : Lists × List ℕ) → IsBytes rest → counted_lists count s round place rest ≡ Ok others → AreCounted s round count rest others.0 others.1)
        → AreCounted s last (suc count) bytes read.0 read.1
    by_first NoByte is e later = cc
    by_first NoEntry is e later = cc
    by_first (Entry manifest rest) is e later =
        let stands = entry_joined bytes manifest rest fits is in
        let left : IsBytes rest = IsBytes-append (entry_bytes manifest) rest (λ i. rw (ap (λ (x : List ℕ). slice_index x i) (sym stands.is)) (fits i)) in
        by_list manifest rest (list_after s last manifest) stands.is refl e (λ round others some. later round (at + length (entry_bytes manifest)) rest others left some)

-- ---- the head

drop-one : (n : ℕ) (xs : List ℕ) → n < length xs → drop n xs ≡ slice_index xs n ∷ drop (suc n) xs
drop-one n [] lt = absurd (omega (arith, lt))
drop-one zero (x ∷ xs) lt = refl
drop-one (suc n) (x ∷ xs) lt = drop-one n xs (omega (arith, lt))

head-is : (bytes : List ℕ) → has_head bytes ≡ true → bytes ≡ letters ++ slice_index bytes 5 ∷ drop 6 bytes
head-is bytes head =
    let p : ((nat_lt 5 (length bytes) && bytes_eq (take 5 bytes) letters) ≡ true) × (nat_le (slice_index bytes 5) most_manifests ≡ true) = and_parts _ _ head in
    let q : (nat_lt 5 (length bytes) ≡ true) × (bytes_eq (take 5 bytes) letters ≡ true) = and_parts _ _ p.0 in
    sym (take-append-drop 5 bytes)
    ∙ (ap (λ b. b ++ drop 5 bytes) ((bytes_eq-Decides (take 5 bytes) letters).0 q.1)
    ∙ ap (λ b. letters ++ b) (drop-one 5 bytes (ltb-true 5 (length bytes) q.0)))

-- ---- the file

pub spelled-so : ProofsAreSpelled
spelled-so s bytes proof fits e = by_head (has_head bytes) refl e
  where
    by_evidence : (read : Lists × List ℕ) (o : Option (List (List ℕ))) → has_head bytes ≡ true → counted_lists (slice_index bytes 5) s 0 6 (drop 6 bytes) ≡ Ok read
        → evidence_of read.1 ≡ o → with_evidence read.0 o ≡ Ok proof → IsProofFile s bytes proof
    by_evidence read None head counted of e = cc
    by_evidence read (Some evidence) head counted of e =
        let same : record { lists = read.0; evidence = evidence } ≡ proof = cc in
        let behind : IsBytes (drop 6 bytes) =
        IsBytes-append (take 6 bytes) (drop 6 bytes) (λ i. rw (ap (λ (x : List ℕ). slice_index x i) (take-append-drop 6 bytes)) (fits i)) in
        let r = counted-are (slice_index bytes 5) s 0 6 (drop 6 bytes) read behind counted in
        let spelled = is-spelled read.1 evidence of in
        rw (sym same)
        (record {
          manifests = r.manifests;
          few = omega (arith, r.many, leb-true (slice_index bytes 5) most_manifests (and_parts _ _ head).1);
          lists_are = r.lists_are;
          is = head-is bytes head
              ∙ (ap (λ b. letters ++ slice_index bytes 5 ∷ b) (r.is ∙ ap (λ b. table_bytes r.manifests ++ b) spelled.is)
              ∙ ap (λ n. letters ++ n ∷ (table_bytes r.manifests ++ evidence_bytes evidence)) (sym r.many));
        })

    by_counted : (r : Result (Lists × List ℕ) ProofFault) → has_head bytes ≡ true → counted_lists (slice_index bytes 5) s 0 6 (drop 6 bytes) ≡ r
        → proof_behind r ≡ Ok proof → IsProofFile s bytes proof
    by_counted (Ok read) head counted e = by_evidence read (evidence_of read.1) head counted refl e
    by_counted (Err fault) head counted e = cc

    by_head : (b : Bool) → has_head bytes ≡ b → (if b then proof_behind (counted_lists (slice_index bytes 5) s 0 6 (drop 6 bytes)) else Err BadHead) ≡ Ok proof → IsProofFile s bytes proof
    by_head true head e = by_counted (counted_lists (slice_index bytes 5) s 0 6 (drop 6 bytes)) head refl e
    by_head false head e = cc
