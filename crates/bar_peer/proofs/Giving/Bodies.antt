-- Kept evidence, as the body of a report.
use Rattle.std.proofs.Common.{◌≡◌, ◌∙◌, ◌+◌, ℕ, false, List, [], ◌∷◌, ◌++◌, Result, Ok, Err, length, sym, ap, subst, arith}
use Rattle.std.specs.Prelude.{IfOk}
use Rattle.std.specs.Result.{is_err}
use Rattle.std.specs.List.{flat_map}
use Rattle.std.proofs.lemmas.List.{append-nil}
use Rattle.bar_wire.specs.Datagram.{Evidence}
use Rattle.bar_wire.specs.Evidence.{evidence_bytes, datagrams_of, IsEvidence}
use Rattle.bar_wire.specs.Grammar.{entry, message_bytes}
use Rattle.bar_wire.specs.Places.{entries, entries_len}
use Rattle.bar_wire.specs.declared.evidence.EvidenceView.{EvidenceView}
use Rattle.bar_wire.specs.declared.fault.WireFault.{WireFault}
use Rattle.bar_wire.specs.declared.shape.Shape.{Shape}
use Rattle.bar_wire.proofs.EvidenceReads.{evidence_whole, lengths_fit}
use Rattle.bar_wire.proofs.ReadBack.{entries_back}
use Rattle.bar_wire.proofs.Written.{message_len}

-- bytes that `split_evidence` accepts are evidence
pub evidence_of : (bytes : List ℕ) (r : Result EvidenceView WireFault) → false ≡ is_err r → IfOk r (λ v. IsEvidence bytes (datagrams_of v))
    → (ds : List (List ℕ)) × IsEvidence bytes ds
evidence_of bytes (Ok v) none found = (datagrams_of v, found)
evidence_of bytes (Err fault) none found = absurd (cc)

-- the entries of its encoding are its datagrams
pub entries_of : (bytes rest : List ℕ) (count : ℕ) (ds : List (List ℕ)) → bytes ≡ count ∷ rest → IsEvidence bytes ds
    → entries count rest ≡ ds
entries_of bytes rest count ds is of =
    let flat = flat_map entry ds in
    let same : count ∷ rest ≡ length ds ∷ (flat ++ []) = sym is ∙ of.is in
    let counts : count ≡ length ds = cc in
    let rests : rest ≡ flat ++ [] = cc in
    (λ i. entries (counts i) ((rests ∙ append-nil flat) i)) ∙ entries_back ds (lengths_fit ds of.range.2)

-- the entries have the lengths that they state
pub whole_entries : (bytes rest : List ℕ) (count : ℕ) (ds : List (List ℕ)) → bytes ≡ count ∷ rest → IsEvidence bytes ds
    → length rest ≡ entries_len count rest
whole_entries bytes rest count ds is of =
    omega (arith, evidence_whole (count ∷ rest) ds (subst (λ (x : List ℕ). IsEvidence x ds) is of))

-- the length of a report is that of the header and the evidence
pub report_len : (s : Shape) (from : ℕ) (bytes rest : List ℕ) (count : ℕ) (ds : List (List ℕ)) → bytes ≡ count ∷ rest → IsEvidence bytes ds
    → length (message_bytes s (record { from = from; to = 0; body = Evidence (entries count rest) })) ≡ 16 + length bytes
report_len s from bytes rest count ds is of =
    message_len s (record { from = from; to = 0; body = Evidence (entries count rest) })
    ∙ ap (λ (es : List (List ℕ)). 16 + length (evidence_bytes es)) (entries_of bytes rest count ds is of)
    ∙ ap (λ (x : List ℕ). 16 + length x) (sym of.is)
