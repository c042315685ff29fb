-- What is packed, or why nothing is, in terms of the plan of `pack`.
use Rattle.std.proofs.Common.{◌≡◌, ℕ, List, [], Some, Ok, Err, sym, ap, subst, refl}
use Rattle.std.specs.Option.{ok_or}
use Rattle.bar_outside.specs.Plan.{Outside, doing}
use Rattle.bar_outside.specs.Ends.{EndsWith}
use Rattle.bar_outside.specs.Stages.{plan_by, refuses}
use Rattle.bar_outside.specs.Stages.Stages.{does}
use Rattle.bar_outside.proofs.Ending.{EndsWith-ending}
use Rattle.bar_outside.proofs.StageEnds.{EndsWith-accepts, EndsWith-refuses}
use Rattle.bar_terms.specs.Table.{Lists, digests_of}
use Rattle.bar_session.specs.SessionData.{SessionData}
use Rattle.bar_rules.specs.Judge.Verdict.{Verdict, Shown, NotShown, verdict}
use Rattle.bar_judge.specs.TableFile.{table_of}
use Rattle.bar_judge.specs.Code.Verdicts.{plain_why}
use Rattle.bar_judge.specs.declared.table_fault.TableFault.TheVariants.{BadEntry}
use Rattle.bar_judge.specs.declared.why.Why.{Why}
use Rattle.bar_proof.specs.declared.pack_fault.PackFault.TheVariants as fault
use Rattle.bar_proof.specs.Packing.{IsPacked, IsRefused, packed_bytes}
use Rattle.bar_proof.specs.ProofFile.{evidence_of}
use Rattle.bar_cli.specs.Judge.Judging.{datagrams_in, lists_of, or_place, verdict_of}
use Rattle.bar_cli.specs.Judge.Plan.{saying_plan}
use Rattle.bar_cli.specs.Pack.{PackFiles, evidence_stages, inputs_stages, packing_actions, packing_end}
use Rattle.bar_cli.specs.Refusals.{table_refused, evidence_refused}

-- the lists that are read are those of the plan
lists-read : (s : SessionData) (table : List ℕ) (lists : Lists) → table_of s table ≡ Ok lists → lists_of s table ≡ Ok lists
unfolding lists_of
lists-read s table lists e = ap or_place e

lists-refused : (s : SessionData) (table : List ℕ) (at : ℕ) → table_of s table ≡ Err (BadEntry at) → lists_of s table ≡ Err at
unfolding lists_of
lists-refused s table at e = ap or_place e

verdict-told : (s : SessionData) (lists : Lists) (ds : List (List ℕ)) (v : Verdict) → verdict s (digests_of lists) ds ≡ v →
    verdict_of s lists ds ≡ v
unfolding verdict_of
verdict-told s lists ds v e = e

module _ (names : PackFiles) (s : SessionData) (table evidence : List ℕ) (old new : Outside) (status : ℕ) (line : List ℕ) where
  -- both are accepted, and the rest depends on the verdict
  by-verdict : (lists : Lists) (ds : List (List ℕ)) (v : Verdict) → table_of s table ≡ Ok lists → evidence_of evidence ≡ Some ds →
      verdict s (digests_of lists) ds ≡ v → EndsWith (plan_by (does (packing_end names (packed_bytes s lists table ds) v))) old new status line →
      EndsWith (plan_by (inputs_stages names s table evidence)) old new status line
  by-verdict lists ds v t e is ends =
      EndsWith-accepts (lists_of s table) (evidence_stages names s table evidence) (λ at. refuses 8 (table_refused at)) _ _ _ _ lists
      (lists-read s table lists t)
      (EndsWith-accepts (datagrams_in evidence) (λ ds. does (packing_end names (packed_bytes s lists table ds) (verdict_of s lists ds)))
      (λ _. refuses 8 evidence_refused) _ _ _ _ ds (ap (λ o. ok_or o (tt {0})) e)
      (subst (λ (x : Verdict). EndsWith (plan_by (does (packing_end names (packed_bytes s lists table ds) x))) old new status line)
      (sym (verdict-told s lists ds v is)) ends))

  pub one-shown : (file : List ℕ) → IsPacked s table evidence file →
      EndsWith (doing (packing_actions names.proof file) 0 []) old new status line →
      EndsWith (plan_by (inputs_stages names s table evidence)) old new status line
  one-shown file p ends =
      by-verdict p.lists p.datagrams (Shown p.party p.fault) p.table_is p.evidence_is p.shown
      (subst (λ (x : List ℕ). EndsWith (doing (packing_actions names.proof x) 0 []) old new status line) p.is ends)

  pub nothing-shown : (why : Why) → IsRefused s table evidence (fault.NotShown why) →
      EndsWith (saying_plan (NotShown (plain_why why))) old new status line →
      EndsWith (plan_by (inputs_stages names s table evidence)) old new status line
  nothing-shown why r ends = by-verdict r.0 r.1 (NotShown (plain_why why)) r.2 r.3 r.4 ends

module _ (names : PackFiles) (s : SessionData) (table evidence : List ℕ) (old : Outside) where
  pub bad-table : (at : ℕ) → IsRefused s table evidence (fault.Table at) →
      EndsWith (plan_by (inputs_stages names s table evidence)) old old 8 (table_refused at)
  bad-table at r =
      EndsWith-refuses (lists_of s table) (evidence_stages names s table evidence) (λ at. refuses 8 (table_refused at)) _ _ _ _ at
      (lists-refused s table at r) (EndsWith-ending 8 (table_refused at) old refl)

  pub bad-evidence : IsRefused s table evidence fault.Evidence →
      EndsWith (plan_by (inputs_stages names s table evidence)) old old 8 evidence_refused
  bad-evidence r =
      EndsWith-accepts (lists_of s table) (evidence_stages names s table evidence) (λ at. refuses 8 (table_refused at)) _ _ _ _ r.0
      (lists-read s table r.0 r.1)
      (EndsWith-refuses (datagrams_in evidence) (λ ds. does (packing_end names (packed_bytes s r.0 table ds) (verdict_of s r.0 ds)))
      (λ _. refuses 8 evidence_refused) _ _ _ _ tt (ap (λ o. ok_or o (tt {0})) r.2) (EndsWith-ending 8 evidence_refused old refl))
