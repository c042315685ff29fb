-- Laws of portable evidence: what is needed is enough, and what is packed is shown.
use Rattle.std.specs.Prelude.{◌≡◌, ℕ, ◌≤◌, ◌<◌, slice_index, true, List, [], length, Some, Ok}
use Rattle.bar_terms.specs.Table.{Table, Lists, Extends, no_lists, digests_of}
use Rattle.bar_wire.specs.Grammar.{AreDatagramsInRange}
use Rattle.bar_rules.specs.Member.{Session}
use Rattle.bar_rules.specs.Judge.Verdict.{Fault, Shown, verdict}
use Rattle.bar_judge.specs.TableFile.{lists_of, table_bytes, table_of}
use Rattle.bar_proof.specs.Needs.{is_shown, needs, needed}
use Rattle.bar_proof.specs.ProofFile.{Proof, AreShort, manifests_for, manifests_in, most_manifests, proof_bytes, proof_of}

-- Evidence that is shown under a table is shown, of the same party and fault, under the one list that it needs.
abbrev pub NeededIsEnough : Type 0
NeededIsEnough =
    (s : Session) (table : Table) (evidence : List (List ℕ)) (party : ℕ) (fault : Fault) → verdict s table evidence ≡ Shown party fault
    → verdict s (needed table (needs s table evidence)) evidence ≡ Shown party fault

-- Manifests show the fault by their own lists and by all lists that extend these. There is at most one, and none if the fault is shown
-- without it.
pub record Carry (s : Session) (evidence : List (List ℕ)) (party : ℕ) (fault : Fault) (manifests : List (List ℕ)) : Type 0 where
  pub lists : Lists
  pub lists_are : lists_of s 0 manifests ≡ Some lists
  pub shown : verdict s (digests_of lists) evidence ≡ Shown party fault
  pub stays : (more : Table) → Extends (digests_of lists) more → verdict s more evidence ≡ Shown party fault
  pub few : length manifests ≤ 1
  pub without : is_shown (verdict s no_lists evidence) ≡ true → manifests ≡ []

-- this holds for the manifests that are packed from a table file
abbrev pub PackedIsShown : Type 0
PackedIsShown =
    (s : Session) (manifests : List (List ℕ)) (lists : Lists) (evidence : List (List ℕ)) (party : ℕ) (fault : Fault)
    → lists_of s 0 manifests ≡ Some lists → verdict s (digests_of lists) evidence ≡ Shown party fault
    → Carry s evidence party fault (manifests_for s (needs s (digests_of lists) evidence) manifests)

-- If a proof file is written from manifests and evidence, it is read back as their lists and the evidence.
abbrev pub ProofsReadBack : Type 0
ProofsReadBack =
    (s : Session) (manifests evidence : List (List ℕ)) (lists : Lists) → lists_of s 0 manifests ≡ Some lists
    → length manifests ≤ most_manifests → AreShort manifests → AreDatagramsInRange evidence
    → proof_of s (proof_bytes manifests evidence) ≡ Ok (record { lists = lists; evidence = evidence })

-- The bytes are the proof file of some manifests, which give the lists, and of the evidence.
pub record IsProofFile (s : Session) (bytes : List ℕ) (proof : Proof) : Type 0 where
  pub manifests : List (List ℕ)
  pub few : length manifests ≤ most_manifests
  pub lists_are : lists_of s 0 manifests ≡ Some proof.lists
  pub is : bytes ≡ proof_bytes manifests proof.evidence

-- Bytes that are read as a proof file are the encoding of some manifests and evidence.
abbrev pub ProofsAreSpelled : Type 0
ProofsAreSpelled =
    (s : Session) (bytes : List ℕ) (proof : Proof) → ((i : ℕ) → slice_index bytes i < 256) → proof_of s bytes ≡ Ok proof
    → IsProofFile s bytes proof

-- The bytes of a proof file that is read are those of its manifests and of its evidence, and no others.
abbrev pub IsProofSpelled : Session → List ℕ → Type 0
IsProofSpelled s bytes = (proof : Proof) → proof_of s bytes ≡ Ok proof → IsProofFile s bytes proof

-- Bytes that are read as a table file are those of its manifests, and no others.
abbrev pub TablesAreSpelled : Type 0
TablesAreSpelled =
    (s : Session) (bytes : List ℕ) (lists : Lists) → ((i : ℕ) → slice_index bytes i < 256) → table_of s bytes ≡ Ok lists
    → bytes ≡ table_bytes (manifests_in lists bytes)
