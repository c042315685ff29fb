-- What is packed, and when nothing is.
use Rattle.std.proofs.Common.{◌≡◌, ℕ, List, ap, sym, ◌∙◌, ◌<◌, ◌^◌, length, arith, inl, inr}
use Rattle.std.specs.Prelude.{◌⊎◌, Some, Ok, Err}
use Rattle.bar_terms.specs.Table.{Lists, digests_of}
use Rattle.bar_wire.specs.Evidence.{IsEvidence}
use Rattle.bar_session.specs.Sessions.{IsSession}
use Rattle.bar_rules.specs.Member.{Session}
use Rattle.bar_rules.specs.Judge.Verdict.{Fault, Shown, verdict}
use Rattle.bar_judge.specs.TableFile.{RoundList, list_after, lists_of, table_of}
use Rattle.bar_judge.proofs.TableWriting.{all_fit}
use Rattle.bar_judge.specs.declared.table_fault.TableFault.{TableFault}
use Rattle.bar_judge.specs.declared.table_fault.TableFault.TheVariants as tables
use Rattle.bar_proof.specs.Needs.{needs}
use Rattle.bar_proof.specs.ProofFile.{AreShort, evidence_of, file_bytes, manifests_in, proof_bytes, proof_of, verdict_on}
use Rattle.bar_proof.specs.Laws.{Carry, PackedIsShown, ProofsReadBack}
use Rattle.bar_proof.specs.Packing.{IsPacked, IsRefused, ShownIsPacked, fault_of_table, needed_manifests, packed_bytes}
use Rattle.bar_proof.proofs.EvidenceLemmas.{is-spelled}
use Rattle.bar_proof.proofs.TableManifests.{listed, needed-short}

pub packed : PackedIsShown → ProofsReadBack → (s : Session) (table evidence file : List ℕ) (lists : Lists) (datagrams : List (List ℕ)) (party : ℕ) (fault : Fault)
    → table_of s table ≡ Ok lists → lists_of s 0 (manifests_in lists table) ≡ Some lists → AreShort (manifests_in lists table)
    → evidence_of evidence ≡ Some datagrams → verdict s (digests_of lists) datagrams ≡ Shown party fault
    → file ≡ file_bytes (needed_manifests s lists table datagrams) evidence → IsPacked s table evidence file
unfolding packed_bytes
packed shown back s table evidence file lists datagrams party fault read_as are short of told is =
    let need : List (List ℕ) = needed_manifests s lists table datagrams in
    let carried : Carry s datagrams party fault need = shown s (manifests_in lists table) lists datagrams party fault are told in
    let e : IsEvidence evidence datagrams = is-spelled evidence datagrams of in
    let same : file ≡ proof_bytes need datagrams = is ∙ ap (file_bytes need) e.is in
    let read : proof_of s file ≡ Ok (record { lists = carried.lists; evidence = datagrams }) =
    ap (proof_of s) same
    ∙ back s need datagrams carried.lists carried.lists_are (omega (arith, carried.few))
    (needed-short s (needs s (digests_of lists) datagrams) (manifests_in lists table) short) e.range in
    record {
      lists = lists;
      table_is = read_as;
      lists_are = are;
      datagrams = datagrams;
      evidence_is = of;
      party = party;
      fault = fault;
      shown = told;
      is = same;
      carried = carried;
      judged = ap (verdict_on s) read ∙ ap Ok carried.shown;
    }

pub shown-packed : PackedIsShown → ProofsReadBack
    → ((s : Session) (last : ℕ) (manifest : List ℕ) (list : RoundList) → IsSession s → list_after s last manifest ≡ Some list → length manifest < 2 ^ 16)
    → ShownIsPacked
unfolding packed_bytes
shown-packed shown back fit s table evidence lists datagrams party fault session read_as of told =
    let are = listed s table lists read_as in
    packed shown back s table evidence (packed_bytes s lists table datagrams) lists datagrams party fault read_as are
    (all_fit s (manifests_in lists table) lists 0 (λ last manifest list given. fit s last manifest list session given) are) of told
    (ap (file_bytes (needed_manifests s lists table datagrams)) (sym (is-spelled evidence datagrams of).is))

pub table-refused : (s : Session) (table evidence : List ℕ) (e : TableFault) → (e ≡ tables.NoMemory) ⊎ (table_of s table ≡ Err e)
    → IsRefused s table evidence (fault_of_table e)
table-refused s table evidence (tables.BadEntry at) (inl none) = cc
table-refused s table evidence (tables.BadEntry at) (inr bad) = bad
table-refused s table evidence tables.NoMemory cause = tt
