-- A proof file that is written is read back.
use Rattle.std.proofs.Common.{◌≡◌, ℕ, ◌+◌, ◌<◌, ◌^◌, true, List, [], ◌∷◌, ◌++◌, length, refl, sym, ap, ◌∙◌, arith, append_assoc}
use Rattle.std.specs.Prelude.{Some, Ok, Err, if◌then◌else◌}
use Rattle.std.specs.List.{AllByRecursion}
use Rattle.std.proofs.lemmas.Bool.{and_from, le-leb, lt-ltb}
use Rattle.std.proofs.lemmas.Option.{same_Some}
use Rattle.bar_terms.specs.Table.{Lists}
use Rattle.bar_wire.specs.Evidence.{evidence_bytes}
use Rattle.bar_wire.specs.Grammar.{entry as entry_bytes}
use Rattle.bar_rules.specs.Member.{Session}
use Rattle.bar_judge.specs.TableFile.{first_of, lists_of, table_bytes}
use Rattle.bar_judge.proofs.TableWriting.{first_written}
use Rattle.bar_proof.specs.declared.proof_fault.ProofFault.TheVariants.{BadHead}
use Rattle.bar_proof.specs.ProofFile.{most_manifests, proof_bytes, with_list, lists_behind, lists_by, counted_lists, with_evidence, proof_behind, has_head}
use Rattle.bar_proof.specs.Laws.{ProofsReadBack}
use Rattle.bar_proof.proofs.EvidenceLemmas.{spelled}
use Rattle.bar_proof.proofs.ManifestReading.{counted_more, counted_none}
use Rattle.bar_proof.proofs.Packed.{splits}

-- ---- all of them

counted_back : (s : Session) (manifests : List (List ℕ)) (lists : Lists) (last at : ℕ) (rest : List ℕ) → lists_of s last manifests ≡ Some lists
    → AllByRecursion (λ m. length m < 2 ^ 16) manifests
    → counted_lists (length manifests) s last at (table_bytes manifests ++ rest) ≡ Ok (lists, rest)
counted_back s [] lists last at rest are fit = counted_none s last at rest ∙ ap (λ (l : Lists). Ok (l, rest)) (same_Some [] lists are)
counted_back s (manifest ∷ manifests) lists last at rest are fit =
    let p = splits s last manifest manifests lists are in
    counted_more s (length manifests) last at (table_bytes (manifest ∷ manifests) ++ rest)
    ∙ (ap (λ f. lists_by (λ round place others. counted_lists (length manifests) s round place others) s last at f)
    (ap first_of (append_assoc (entry_bytes manifest) (table_bytes manifests) rest) ∙ first_written manifest (table_bytes manifests ++ rest) fit.0)
    ∙ (ap (λ o. lists_behind (λ round. counted_lists (length manifests) s round (at + length (entry_bytes manifest)) (table_bytes manifests ++ rest)) at o) p.first
    ∙ (ap (with_list p.entry) (counted_back s manifests p.rest p.entry.0 (at + length (entry_bytes manifest)) rest p.rest_are fit.1)
    ∙ ap (λ (l : Lists). Ok (l, rest)) (sym p.is))))

-- ---- the file

pub reads-back : ProofsReadBack
reads-back s manifests evidence lists are few fit range =
    let head : has_head (proof_bytes manifests evidence) ≡ true = and_from _ _ (and_from _ _ (lt-ltb 5 _ (omega arith)) refl) (le-leb (length manifests) most_manifests few) in
    ap (λ b. if b then proof_behind (counted_lists (length manifests) s 0 6 (table_bytes manifests ++ evidence_bytes evidence)) else Err BadHead) head
    ∙ (ap proof_behind (counted_back s manifests lists 0 6 (evidence_bytes evidence) are fit)
    ∙ ap (with_evidence lists) (spelled (evidence_bytes evidence) evidence (record { range = range; is = refl })))
