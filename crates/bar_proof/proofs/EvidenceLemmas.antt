-- The datagrams that bytes are as evidence.
use Rattle.std.proofs.Common.{◌≡◌, List, ℕ, Bool, true, false, ◌&&◌, Option, Some, None, Result, Ok, Err, length, refl, sym, ap, subst, ◌∙◌}
use Rattle.std.specs.Prelude.{IfOk, IsOkAnd, bytes_eq, option_map}
use Rattle.std.specs.Bool.{then_some}
use Rattle.std.specs.List.{flat_map}
use Rattle.std.specs.Result.{result_ok}
use Rattle.std.proofs.lemmas.Bool.{and_from, and_parts}
use Rattle.std.proofs.lemmas.List.{append-nil}
use Rattle.std.proofs.lemmas.Slice.Eq.{bytes_eq-Decides}
use Rattle.bar_wire.specs.Evidence.{IsEvidence, datagrams_of, evidence_bytes}
use Rattle.bar_wire.specs.Grammar.{entry}
use Rattle.bar_wire.specs.Places.{entries}
use Rattle.bar_wire.specs.Ranges.{are_datagrams_in_range, datagrams_decided}
use Rattle.bar_wire.specs.declared.evidence.EvidenceView.{EvidenceView}
use Rattle.bar_wire.specs.declared.fault.WireFault.{WireFault}
use Rattle.bar_wire.proofs.EvidenceReads.{lengths_fit}
use Rattle.bar_wire.proofs.ReadBack.{entries_back}
use Rattle.bar_proof.specs.ProofFile.{datagrams_at, evidence_of}

-- the datagrams are where they are looked for
stand-there : (bytes : List ℕ) (ds : List (List ℕ)) → IsEvidence bytes ds → datagrams_at bytes ≡ ds
stand-there bytes ds of =
    ap datagrams_at of.is ∙ ap (entries (length ds)) (append-nil (flat_map entry ds)) ∙ entries_back ds (lengths_fit ds of.range.2)

-- the datagrams from which bytes were made are those that they encode as evidence
pub spelled : (bytes : List ℕ) (ds : List (List ℕ)) → IsEvidence bytes ds → evidence_of bytes ≡ Some ds
unfolding evidence_of
spelled bytes ds of =
    ap (λ (x : List (List ℕ)). then_some (are_datagrams_in_range x && bytes_eq (evidence_bytes x) bytes) x) (stand-there bytes ds of)
    ∙ ap (λ (b : Bool). then_some b ds)
    (and_from (are_datagrams_in_range ds) (bytes_eq (evidence_bytes ds) bytes) ((datagrams_decided ds).tells.1 of.range)
    ((bytes_eq-Decides (evidence_bytes ds) bytes).1 (sym of.is)))

pub is-spelled : (bytes : List ℕ) (ds : List (List ℕ)) → evidence_of bytes ≡ Some ds → IsEvidence bytes ds
unfolding evidence_of
is-spelled bytes ds h = by_test (are_datagrams_in_range (datagrams_at bytes) && bytes_eq (evidence_bytes (datagrams_at bytes)) bytes) refl h
  where
    by_test : (b : Bool) → (are_datagrams_in_range (datagrams_at bytes) && bytes_eq (evidence_bytes (datagrams_at bytes)) bytes) ≡ b
        → then_some b (datagrams_at bytes) ≡ Some ds → IsEvidence bytes ds
    by_test false e h = absurd cc
    by_test true e h =
        let same : datagrams_at bytes ≡ ds = cc in
        let t = and_parts (are_datagrams_in_range (datagrams_at bytes)) (bytes_eq (evidence_bytes (datagrams_at bytes)) bytes) e in
        subst (λ (x : List (List ℕ)). IsEvidence bytes x) same
        (record {
          range = (datagrams_decided (datagrams_at bytes)).tells.0 t.0;
          is = sym ((bytes_eq-Decides (evidence_bytes (datagrams_at bytes)) bytes).0 t.1);
        })

-- what is found is what the bytes encode
pub evidence-read : (bytes : List ℕ) (r : Result EvidenceView WireFault) → IfOk r (λ v. IsEvidence bytes (datagrams_of v))
    → ((ds : List (List ℕ)) → IsEvidence bytes ds → IsOkAnd r (λ v. datagrams_of v ≡ ds))
    → option_map datagrams_of (result_ok r) ≡ evidence_of bytes
evidence-read bytes (Ok v) found only = sym (spelled bytes (datagrams_of v) found)
evidence-read bytes (Err fault) found only = by_spelling (evidence_of bytes) refl
  where
    by_spelling : (o : Option (List (List ℕ))) → evidence_of bytes ≡ o → None ≡ evidence_of bytes
    by_spelling None e = sym e
    by_spelling (Some ds) e = absurd (only ds (is-spelled bytes ds e))
