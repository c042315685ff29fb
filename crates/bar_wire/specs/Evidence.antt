-- The datagrams of the body of an EVIDENCE.
use Rattle.std.specs.Prelude.{◌≡◌, ◌≢◌, ℕ, suc, ◌+◌, List, [], ◌∷◌, length, drop, slice_index, Option, Some, None}
use Rattle.std.specs.List.{concat}
use Rattle.std.specs.Borrow.{Bor}
use Rattle.bar_wire.specs.declared.evidence.EvidenceView.{EvidenceView}
use Rattle.bar_wire.specs.declared.fault.WireFault.{WireFault}
use Rattle.bar_wire.specs.declared.fault.WireFault.TheVariants.{BadLength, BadField}
use Rattle.bar_wire.specs.Grammar.{evidence_pieces, AreDatagramsInRange}
use Rattle.bar_wire.specs.Places.{entries, entries_len}

-- the bytes of the body of an EVIDENCE
abbrev pub evidence_bytes : List (List ℕ) → List ℕ
evidence_bytes ds = concat (evidence_pieces ds)

abbrev pub other : Option (Bor (List ℕ)) → List (List ℕ)
other None = []
other (Some two) = two.now ∷ []

-- the datagrams of a view
abbrev pub datagrams_of : EvidenceView → List (List ℕ)
datagrams_of v = v.one.now ∷ other v.two

-- The bytes encode these one or two datagrams, each of a length in range.
pub record IsEvidence (bytes : List ℕ) (datagrams : List (List ℕ)) : Type 0 where
  pub range : AreDatagramsInRange datagrams
  pub is : bytes ≡ evidence_bytes datagrams

-- the length that the raw count and the raw lengths give
abbrev pub evidence_len : List ℕ → ℕ
evidence_len bytes = 1 + entries_len (slice_index bytes 0) (drop 1 bytes)

-- this is the first fault
abbrev pub IsEvidenceFault : List ℕ → WireFault → Type 0
IsEvidenceFault bytes BadLength = length bytes ≢ evidence_len bytes
IsEvidenceFault bytes BadField = (length bytes ≡ evidence_len bytes) × ((datagrams : List (List ℕ)) → IsEvidence bytes datagrams → ⊥)
IsEvidenceFault bytes _ = ⊥

-- the first datagram, and what follows it
pub record IsEntrySplit (bytes one rest : List ℕ) : Type 0 where
  pub first : (n : ℕ) → entries (suc n) bytes ≡ one ∷ entries n rest
  pub len : (n : ℕ) → entries_len (suc n) bytes ≡ 2 + length one + entries_len n rest
  pub total : length bytes ≡ 2 + length one + length rest
