-- What packing writes, and when it is refused.
use Rattle.std.specs.Prelude.{◌≡◌, ℕ, List, Some, None, Ok, Err}
use Rattle.bar_terms.specs.Table.{Lists, digests_of}
use Rattle.bar_rules.specs.Member.{Session}
use Rattle.bar_rules.specs.Judge.Verdict.{Fault, Shown, NotShown as NothingShown, verdict}
use Rattle.bar_session.specs.Sessions.{IsSession}
use Rattle.bar_judge.specs.TableFile.{lists_of, table_bytes, table_of}
use Rattle.bar_judge.specs.Code.Verdicts.{plain_why}
use Rattle.bar_judge.specs.declared.table_fault.TableFault.{TableFault}
use Rattle.bar_judge.specs.declared.table_fault.TableFault.TheVariants as tables
use Rattle.bar_proof.specs.declared.pack_fault.PackFault.{PackFault}
use Rattle.bar_proof.specs.declared.pack_fault.PackFault.TheVariants.{Table, Evidence, NotShown, NoMemory}
use Rattle.bar_proof.specs.Needs.{needs}
use Rattle.bar_proof.specs.ProofFile.{evidence_of, manifests_for, manifests_in, proof_bytes, proof_verdict}
use Rattle.bar_proof.specs.Laws.{Carry}

-- the manifests of a table file with these lists that evidence needs
abbrev pub needed_manifests : Session → Lists → List ℕ → List (List ℕ) → List (List ℕ)
needed_manifests s lists table datagrams = manifests_for s (needs s (digests_of lists) datagrams) (manifests_in lists table)

-- the packed file: the evidence with the manifests that it needs of the table file
unfoldable pub packed_bytes : Session → Lists → List ℕ → List (List ℕ) → List ℕ
packed_bytes s lists table datagrams = proof_bytes (needed_manifests s lists table datagrams) datagrams

-- The bytes are a proof file of evidence that a table file shows, and of the manifests that it needs of that file.
pub record IsPacked (s : Session) (table evidence bytes : List ℕ) : Type 0 where
  -- the table file has some lists, which are those of its manifests; the evidence is some datagrams, which show a fault under it
  pub lists : Lists
  pub table_is : table_of s table ≡ Ok lists
  pub lists_are : lists_of s 0 (manifests_in lists table) ≡ Some lists
  pub datagrams : List (List ℕ)
  pub evidence_is : evidence_of evidence ≡ Some datagrams
  pub party : ℕ
  pub fault : Fault
  pub shown : verdict s (digests_of lists) datagrams ≡ Shown party fault
  -- the file has the evidence and what it needs: at most one manifest, and none if the evidence is shown without it
  pub is : bytes ≡ packed_bytes s lists table datagrams
  pub carried : Carry s datagrams party fault (needed_manifests s lists table datagrams)
  -- the proof file is judged alike
  pub judged : proof_verdict s bytes ≡ Ok (Shown party fault)

-- The bytes of a table file that is read are those of its manifests, and no others.
abbrev pub IsSpelled : Session → List ℕ → Type 0
IsSpelled s table = (lists : Lists) → table_of s table ≡ Ok lists → table ≡ table_bytes (manifests_in lists table)

-- This holds for what is packed of a session's table file and of evidence that shows a fault under it.
abbrev pub ShownIsPacked : Type 0
ShownIsPacked =
    (s : Session) (table evidence : List ℕ) (lists : Lists) (datagrams : List (List ℕ)) (party : ℕ) (fault : Fault) → IsSession s
    → table_of s table ≡ Ok lists → evidence_of evidence ≡ Some datagrams → verdict s (digests_of lists) datagrams ≡ Shown party fault
    → IsPacked s table evidence (packed_bytes s lists table datagrams)

-- This is the first cause for which nothing is packed.
abbrev pub IsRefused : Session → List ℕ → List ℕ → PackFault → Type 0
IsRefused s table evidence (Table at) = table_of s table ≡ Err (tables.BadEntry at)
IsRefused s table evidence Evidence = (lists : Lists) × (table_of s table ≡ Ok lists) × (evidence_of evidence ≡ None)
IsRefused s table evidence (NotShown why) =
    (lists : Lists) × (datagrams : List (List ℕ)) × (table_of s table ≡ Ok lists) × (evidence_of evidence ≡ Some datagrams)
    × (verdict s (digests_of lists) datagrams ≡ NothingShown (plain_why why))
IsRefused s table evidence NoMemory = Unit {0}

-- the packing fault for a fault of a table file
abbrev pub fault_of_table : TableFault → PackFault
fault_of_table (tables.BadEntry at) = Table at
fault_of_table tables.NoMemory = NoMemory
