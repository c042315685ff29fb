-- The datagrams of a list, one by one.
use Rattle.std.proofs.Common.{◌≡◌, ℕ, zero, suc, ◌+◌, ◌<◌, ◌≤◌, ◌^◌, List, [], ◌∷◌, ◌++◌, length, length-append, take, drop, refl, sym, ap, subst, ◌∙◌, arith}
use Rattle.std.specs.Prelude.{Result, Ok, Err, MatchResult, IsOkAnd}
use Rattle.std.specs.List.{flat_map, AllByRecursion}
use Rattle.std.proofs.lemmas.List.{append-nil, length-take, length-drop}
use Rattle.bar_bytes.specs.Bytes.{u16_bytes, first_u16}
use Rattle.bar_wire.specs.declared.evidence.EvidenceView.{EvidenceView}
use Rattle.bar_wire.specs.declared.fault.WireFault.{WireFault}
use Rattle.bar_wire.specs.declared.fault.WireFault.TheVariants as faults
use Rattle.bar_wire.specs.Grammar.{entry, IsEntryInRange, AreDatagramsInRange}
use Rattle.bar_wire.specs.Places.{entries, entries_len}
use Rattle.bar_wire.specs.Evidence.{IsEntrySplit, IsEvidence, IsEvidenceFault, evidence_bytes, evidence_len, datagrams_of}
use Rattle.bar_wire.proofs.FieldLengths.{entries_back}
use Rattle.bar_wire.proofs.ReadBack.{entries_back as entries_read}
use Rattle.bar_wire.proofs.Peel.{peel_u8, peel_entries}
use Rattle.bar_wire.proofs.Lists.{IsBytes, entries_joined}
use Rattle.bar_wire.proofs.Steps.{len_step, entries_step}

pub first_entry : (bytes after : List ℕ) (len : ℕ) → bytes ≡ u16_bytes len ++ after → len < 2 ^ 16 → length after + 2 ≡ length bytes → len ≤ length after → IsEntrySplit bytes (take len after) (drop len after)
first_entry bytes after len is lt left fits =
    let long : length (take len after) ≡ len = omega (arith, length-take len after, fits) in
    record {
      first = λ n. entries_step (suc n) n len bytes after refl is lt;
      len = λ n. len_step (suc n) n len bytes after refl is lt ∙ ap (λ k. 2 + k + entries_len n (drop len after)) (sym long);
      total = omega (arith, left, long, length-drop len after, fits);
    }

pub room_for_one : (n : ℕ) (bytes : List ℕ) → 0 < n → length bytes ≡ entries_len n bytes → 2 + first_u16 bytes ≤ length bytes
room_for_one zero bytes some len = absurd (omega (arith, some))
room_for_one (suc n) bytes some len = omega (arith, len)

pub split_is : (bytes rest : List ℕ) (count : ℕ) (ds : List (List ℕ)) → bytes ≡ count ∷ rest → IsBytes rest → length rest ≡ entries_len count rest → AreDatagramsInRange (entries count rest) → entries count rest ≡ ds
    → IsEvidence bytes ds
split_is bytes rest count ds is fits len range same =
    let all = entries_joined count rest fits len in
    subst (λ (x : List (List ℕ)). IsEvidence bytes x) same (record { range = range; is = is ∙ (λ i. sym all.long i ∷ (sym all.joined ∙ sym (append-nil (flat_map entry (entries count rest)))) i) })

-- entries in range have lengths of 16 bits
pub lengths_fit : (ds : List (List ℕ)) → AllByRecursion IsEntryInRange ds → AllByRecursion (λ d. length d < 2 ^ 16) ds
lengths_fit [] all = tt
lengths_fit (d ∷ ds) all = (omega (arith, all.0.1), lengths_fit ds all.1)

-- the bytes of an EVIDENCE have the length that their counts give
pub evidence_whole : (bytes : List ℕ) (ds : List (List ℕ)) → IsEvidence bytes ds → length bytes ≡ evidence_len bytes
evidence_whole bytes ds of =
    let flat = flat_map entry ds in
    let len : evidence_len bytes ≡ 1 + entries_len (length ds) (flat ++ []) = ap evidence_len of.is in
    omega (arith, len, ap length of.is, entries_back ds [] (lengths_fit ds of.range.2), length-append flat [])

-- the bytes encode at most one list of datagrams
pub evidence_once : (bytes : List ℕ) (ds es : List (List ℕ)) → IsEvidence bytes ds → IsEvidence bytes es → ds ≡ es
evidence_once bytes ds es one two =
    let same : evidence_bytes ds ++ [] ≡ evidence_bytes es ++ [] = ap (λ (x : List ℕ). x ++ []) (sym one.is ∙ two.is) in
    let count = peel_u8 (length ds) (length es) (flat_map entry ds ∷ []) (flat_map entry es ∷ []) [] [] same in
    (peel_entries ds es [] [] count.0 (lengths_fit ds one.range.2) (lengths_fit es two.range.2) count.1).0

-- If the datagrams in the bytes are out of range, the bytes encode no list of datagrams.
pub no_evidence : (bytes rest : List ℕ) (count : ℕ) → bytes ≡ count ∷ rest → (AreDatagramsInRange (entries count rest) → ⊥) → (ds : List (List ℕ)) → IsEvidence bytes ds → ⊥
no_evidence bytes rest count is out ds of =
    let flat = flat_map entry ds in
    let same : count ∷ rest ≡ length ds ∷ (flat ++ []) = sym is ∙ of.is in
    let counts : count ≡ length ds = cc in
    let rests : rest ≡ flat ++ [] = cc in
    let back : entries count rest ≡ ds = (λ i. entries (counts i) ((rests ∙ append-nil flat) i)) ∙ entries_read ds (lengths_fit ds of.range.2) in
    out (subst AreDatagramsInRange (sym back) of.range)

-- If the bytes encode a list of datagrams, the reader's result is that list.
pub only_evidence : (bytes : List ℕ) (r : Result EvidenceView WireFault) (ds : List (List ℕ)) → MatchResult r (λ v. IsEvidence bytes (datagrams_of v)) (IsEvidenceFault bytes) → IsEvidence bytes ds → IsOkAnd r (λ v. datagrams_of v ≡ ds)
only_evidence bytes (Ok v) ds read of = evidence_once bytes (datagrams_of v) ds read of
only_evidence bytes (Err faults.BadLength) ds read of = absurd (read (evidence_whole bytes ds of))
only_evidence bytes (Err faults.BadField) ds read of = absurd (read.1 ds of)
only_evidence bytes (Err _) ds read of = absurd read
