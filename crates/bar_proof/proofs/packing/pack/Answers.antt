use Rattle.std.proofs.Common.{◌≡◌, ◌∙◌, ℕ, ap, sym, subst, arith, length, ◌≤◌}
use Rattle.std.specs.Prelude.{IfSome, option_copied}
use Rattle.std.specs.Option.{option_to_list}
use Rattle.bar_terms.specs.Table.{digests_of}
use Rattle.bar_wire.specs.Evidence.{datagrams_of}
use Rattle.bar_rules.specs.Judge.Verdict.{Shown, verdict}
use Rattle.bar_judge.specs.TableFile.{table_of}
use Rattle.bar_judge.specs.Code.Verdicts.{plain_fault}
use Rattle.bar_proof.specs.Needs.{needs}
use Rattle.bar_proof.specs.ProofFile.{AreShort, file_bytes, is_of_round, manifests_for}
use Rattle.bar_proof.proofs.PackedFiles.{packed}
use Rattle.bar_proof.proofs.TableManifests.{IsTableFile, cut-off, found-short, has-lists, listed, manifest-found, table-file}
use Rattle.bar_proof.proofs.packing.pack.Goals.{in-Some-2, in-None}
use Rattle.bar_proof.proofs.packing.pack.Goals as goal

pub returns-in-NotShown-clause-err : goal.returns-in-NotShown-clause-err
returns-in-NotShown-clause-err g c =
    let s = c.args.session.now in
    let datagrams = datagrams_of c.in-Some.view in
    let read = has-lists (table_of s c.args.table.now) (digests_of c.in_ok-lists.lists.lists) c.in_ok-lists.ensures.ok in (
      read.0,
      datagrams,
      read.1,
      sym c.in-Some.ensures,
      ap (λ table. verdict s table datagrams) (sym read.2) ∙ sym c.in-NotShown.ensures.exact,
    )

pub proof_file-requires : goal.proof_file-requires
proof_file-requires g c =
    let s = c.args.session.now in
    let read = has-lists (table_of s c.args.table.now) (digests_of c.in_ok-lists.lists.lists) c.in_ok-lists.ensures.ok in
    let f : IsTableFile s 0 c.args.table.now read.0 = table-file s c.args.table.now read.0 (λ i. omega (arith, c.type_inv.table i)) read.1 in
    elim c.match-branch-3.branch [
      | in-Some-2 w ↦ subst (λ o. IfSome o (λ m. length m ≤ 65535))
          (sym (ap option_copied w.manifest-is ∙ w.manifest_of-manifest.ensures f.manifests f.short f.is))
          (found-short (is_of_round s w.in-Some-2.round) f.manifests f.short)
      | in-None w ↦ subst (λ o. IfSome o (λ m. length m ≤ 65535)) (sym (ap option_copied w.manifest-is)) tt
    ]

pub returns-clause-ok : goal.returns-clause-ok
returns-clause-ok g c =
    let s = c.args.session.now in
    let datagrams = datagrams_of c.in-Some.view in
    let read = has-lists (table_of s c.args.table.now) (digests_of c.in_ok-lists.lists.lists) c.in_ok-lists.ensures.ok in
    let f : IsTableFile s 0 c.args.table.now read.0 = table-file s c.args.table.now read.0 (λ i. omega (arith, c.type_inv.table i)) read.1 in
    let party : ℕ = c.in_default-verdict.field-0 in
    let fault = plain_fault c.in_default-verdict.field-1 in
    let told : verdict s (digests_of read.0) datagrams ≡ Shown party fault = ap (λ table. verdict s table datagrams) (sym read.2) ∙ sym c.in_default-verdict.ensures.exact in
    let round : c.in_ok-round.field-0 ≡ needs s (digests_of read.0) datagrams = c.in_ok-round.ensures.exact ∙ ap (λ table. needs s table datagrams) read.2 in
    let cut = cut-off s c.args.table.now read.0 f in
    let chosen : option_to_list (option_copied c.match-branch-3.manifest) ≡ manifests_for s (needs s (digests_of read.0) datagrams) f.manifests = elim c.match-branch-3.branch [
      | in-Some-2 w ↦ ap option_to_list (ap option_copied w.manifest-is ∙ w.manifest_of-manifest.ensures f.manifests f.short f.is)
          ∙ (sym (manifest-found s w.in-Some-2.round f.manifests read.0 f.lists_are)
          ∙ ap (λ o. manifests_for s o f.manifests) (sym w.in-Some-2.is ∙ round))
      | in-None w ↦ ap (λ m. option_to_list (option_copied m)) w.manifest-is ∙ ap (λ o. manifests_for s o f.manifests) (sym w.in-None.is ∙ round)
    ] in
    packed c.what_is_packed_is_shown.ensures c.proofs_are_read_back.ensures s c.args.table.now c.args.evidence.now c.in_ok-file.file.items read.0 datagrams party fault
    read.1 (listed s c.args.table.now read.0 read.1) (subst AreShort (sym cut) f.short) (sym c.in-Some.ensures) told
    (c.in_ok-file.ensures ∙ ap (λ manifests. file_bytes manifests c.args.evidence.now)
    (chosen ∙ ap (manifests_for s (needs s (digests_of read.0) datagrams)) (sym cut)))
