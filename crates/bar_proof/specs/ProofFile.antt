-- Proof files: evidence, after the manifest that it needs.
use Rattle.std.specs.Prelude.{◌<◌, ◌^◌, ℕ, zero, suc, ◌+◌, ◌&&◌, nat_le, nat_lt, Bool, false, List, [], ◌∷◌, ◌++◌, codes, length, take, drop, filter, slice_index, bytes_eq, Option, Some, None, Result, Ok, Err, if◌then◌else◌}
use Rattle.std.specs.Bool.{then_some}
use Rattle.std.specs.List.{AllByRecursion}
use Rattle.std.specs.Option.{option_map_or}
use Rattle.bar_terms.specs.Table.{Lists, digests_of}
use Rattle.bar_wire.specs.Bodies.{is_manifest_of}
use Rattle.bar_wire.specs.Evidence.{evidence_bytes}
use Rattle.bar_wire.specs.Grammar.{entry as entry_bytes}
use Rattle.bar_wire.specs.Places.{entries}
use Rattle.bar_wire.specs.Ranges.{are_datagrams_in_range}
use Rattle.bar_rules.specs.Member.{Session}
use Rattle.bar_rules.specs.Values.{datagram_of}
use Rattle.bar_rules.specs.Judge.Verdict.{Verdict, verdict}
use Rattle.bar_judge.specs.TableFile.{First, NoByte, Entry, NoEntry, RoundList, first_of, list_after, table_bytes}
use Rattle.bar_proof.specs.declared.proof_fault.ProofFault.{ProofFault}
use Rattle.bar_proof.specs.declared.proof_fault.ProofFault.TheVariants.{BadHead, BadManifest, BadEvidence}

-- the lists of the manifests, and the datagrams of the evidence
pub record Proof : Type 0 where
  pub lists : Lists
  pub evidence : List (List ℕ)

-- ---- writing

abbrev pub letters : List ℕ
letters = codes "BARP" ++ 1 ∷ []

abbrev pub most_manifests : ℕ
most_manifests = 16

-- the letters BARP, the version, how many manifests there are, each with its length before it, and the bytes of the evidence
abbrev pub file_bytes : List (List ℕ) → List ℕ → List ℕ
file_bytes manifests evidence = letters ++ length manifests ∷ table_bytes manifests ++ evidence

abbrev pub proof_bytes : List (List ℕ) → List (List ℕ) → List ℕ
proof_bytes manifests datagrams = file_bytes manifests (evidence_bytes datagrams)

-- each length fits the two bytes before it
abbrev pub AreShort : List (List ℕ) → Type 0
AreShort manifests = AllByRecursion (λ m. length m < 2 ^ 16) manifests

-- the manifests of a table file that has these lists: as many entries, cut by the lengths before them
abbrev pub manifests_in : Lists → List ℕ → List (List ℕ)
manifests_in lists table = entries (length lists) table

-- the manifest of the round, among those of a table file
abbrev pub is_of_round : Session → ℕ → List ℕ → Bool
is_of_round s round manifest = option_map_or (λ d. is_manifest_of round d.message.body) (datagram_of s manifest) false

-- the packed manifests of a table file, if a round is needed, or none
abbrev pub manifests_for : Session → Option ℕ → List (List ℕ) → List (List ℕ)
manifests_for s None manifests = []
manifests_for s (Some round) manifests = filter (is_of_round s round) manifests

-- ---- reading

abbrev pub with_list : RoundList → Result (Lists × List ℕ) ProofFault → Result (Lists × List ℕ) ProofFault
with_list entry (Ok read) = Ok (entry ∷ read.0, read.1)
with_list entry (Err fault) = Err fault

abbrev pub lists_behind : (ℕ → Result (Lists × List ℕ) ProofFault) → ℕ → Option RoundList → Result (Lists × List ℕ) ProofFault
lists_behind rest_of at (Some entry) = with_list entry (rest_of entry.0)
lists_behind rest_of at None = Err (BadManifest at)

abbrev pub lists_by : (ℕ → ℕ → List ℕ → Result (Lists × List ℕ) ProofFault) → Session → ℕ → ℕ → First → Result (Lists × List ℕ) ProofFault
lists_by rest_of s last at NoByte = Err (BadManifest at)
lists_by rest_of s last at NoEntry = Err (BadManifest at)
lists_by rest_of s last at (Entry manifest rest) =
    lists_behind (λ round. rest_of round (at + length (entry_bytes manifest)) rest) at (list_after s last manifest)

-- the lists of so many entries, and what follows them; the entries begin at this place, after this last round
unfoldable pub counted_lists : ℕ → Session → ℕ → ℕ → List ℕ → Result (Lists × List ℕ) ProofFault
counted_lists zero s last at bytes = Ok ([], bytes)
counted_lists (suc count) s last at bytes = lists_by (λ round at rest. counted_lists count s round at rest) s last at (first_of bytes)

-- as many datagrams as the first byte says, cut by the lengths before them
abbrev pub datagrams_at : List ℕ → List (List ℕ)
datagrams_at bytes = entries (slice_index bytes 0) (drop 1 bytes)

-- The one or two datagrams that bytes are as evidence: those that are cut from the bytes, if their encoding is these bytes.
unfoldable pub evidence_of : List ℕ → Option (List (List ℕ))
evidence_of bytes =
    then_some (are_datagrams_in_range (datagrams_at bytes) && bytes_eq (evidence_bytes (datagrams_at bytes)) bytes) (datagrams_at bytes)

abbrev pub with_evidence : Lists → Option (List (List ℕ)) → Result Proof ProofFault
with_evidence lists (Some evidence) = Ok (record { lists = lists; evidence = evidence })
with_evidence lists None = Err BadEvidence

abbrev pub proof_behind : Result (Lists × List ℕ) ProofFault → Result Proof ProofFault
proof_behind (Ok read) = with_evidence read.0 (evidence_of read.1)
proof_behind (Err fault) = Err fault

abbrev pub has_head : List ℕ → Bool
has_head bytes = nat_lt 5 (length bytes) && bytes_eq (take 5 bytes) letters && nat_le (slice_index bytes 5) most_manifests

-- the contents of a proof file, or its first fault from the left
abbrev pub proof_of : Session → List ℕ → Result Proof ProofFault
proof_of s bytes = if has_head bytes then proof_behind (counted_lists (slice_index bytes 5) s 0 6 (drop 6 bytes)) else Err BadHead

-- the verdict on a proof file's evidence under the table of its manifests
abbrev pub verdict_on : Session → Result Proof ProofFault → Result Verdict ProofFault
verdict_on s (Ok proof) = Ok (verdict s (digests_of proof.lists) proof.evidence)
verdict_on s (Err fault) = Err fault

abbrev pub proof_verdict : Session → List ℕ → Result Verdict ProofFault
proof_verdict s bytes = verdict_on s (proof_of s bytes)
