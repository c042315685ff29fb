-- The rows of the status table, derived from how `pack` ended.
use Rattle.std.proofs.Common.{◌≡◌, ◌⊎◌, ◌==◌, ℕ, List, [], Option, Some, None, Result, Ok, Err, false, true, IsTrue, refl, sym, ap, ◌∙◌, inl, inr}
use Rattle.std.specs.Option.{ok_or}
use Rattle.bar_outside.specs.Disk.{Content}
use Rattle.bar_outside.specs.Plan.{Outside, Plan, doing, is_stop}
use Rattle.bar_outside.specs.Stages.{Went, GoesInOrder, IsUnchanged, HasShown, refuses}
use Rattle.bar_outside.specs.Stages.Stages.{does}
use Rattle.bar_outside.proofs.Stages.{each-accepts, shows_there}
use Rattle.bar_outside.proofs.StageRows.{IsEndWithin, IsWithin, Sorts, cause_at, outcome as sorted, refusal-within, sorts-accepts, sorts-last, sorts-refusal, sorts-stage, stage-within, unlinked-within}
use Rattle.bar_outside.proofs.Unlinked.{IsUnlinked}
use Rattle.bar_terms.specs.Table.{Lists, digests_of}
use Rattle.bar_roster.specs.declared.fault.SessionFault.{SessionFault}
use Rattle.bar_session.specs.SessionData.{SessionData}
use Rattle.bar_rules.specs.Judge.Verdict.{Verdict, Fault, Why, Shown, NotShown, verdict}
use Rattle.bar_judge.specs.TableFile.{table_of}
use Rattle.bar_judge.specs.declared.table_fault.TableFault.{TableFault}
use Rattle.bar_proof.specs.Packing.{IsPacked, ShownIsPacked, packed_bytes}
use Rattle.bar_proof.specs.ProofFile.{evidence_of}
use Rattle.bar_proof.specs.Laws.{TablesAreSpelled}
use Rattle.bar_session_files.specs.Accepting.{HasBadSession, session_of}
use Rattle.bar_cli.specs.Judge.Judging.{datagrams_in, lists_of, or_place, verdict_of, verdict_line}
use Rattle.bar_cli.specs.Pack.{PackFiles, HasInputs, HasTable, PackAccepted, HasBadTable, HasBadEvidence, HasShownOne, Packed, NotPacked, IsPackCall, evidence_stages, file_in, file_of, inputs_stages, pack_plan, pack_stages, packed_line, packing_actions, packing_end, reading_stages, verdict_in}
use Rattle.bar_cli.specs.Refusals.{session_refused, table_refused, evidence_refused}
use Rattle.bar_cli.proofs.EndLemmas.{differ, go-on}
use Rattle.bar_cli.proofs.MadeFiles.{made, making-within, others-untouched}
use Rattle.bar_session_files.proofs.Accepted.{AreInRange, in-range_here}

-- ---- its stages

end-within : (names : PackFiles) (file : List ℕ) (v : Verdict) → IsEndWithin (IsPackCall names) (packing_end names file v)
end-within names file (Shown party fault) =
    making-within (IsPackCall names) names.proof file (packed_line file) (inr (inr (inr (inl refl)))) (inr (inr (inr (inr refl))))
end-within names file (NotShown why) = record { unlinked = tt; calls = λ call h. absurd h }

evidence-within : (names : PackFiles) (s : SessionData) (table evidence : List ℕ) (lists : Lists) →
    IsWithin (IsPackCall names) (evidence_stages names s table evidence lists)
evidence-within names s table evidence lists =
    each-accepts _ _ (datagrams_in evidence) (λ ds. does (packing_end names (packed_bytes s lists table ds) (verdict_of s lists ds)))
    (λ _. refuses 8 evidence_refused)
    (λ ds. end-within names (packed_bytes s lists table ds) (verdict_of s lists ds))
    (λ none. refusal-within (IsPackCall names) 8 evidence_refused)

pub within : (names : PackFiles) → IsWithin (IsPackCall names) (pack_stages names)
within names =
    stage-within (IsPackCall names) names.session session_of 4 session_refused (reading_stages names) (inl refl)
    (λ s. (
      inr (inl refl),
      λ table. (
        inr (inr (inl refl)),
        λ evidence.
            each-accepts _ _ (lists_of s table) (evidence_stages names s table evidence) (λ at. refuses 8 (table_refused at))
            (evidence-within names s table evidence) (λ at. refusal-within (IsPackCall names) 8 (table_refused at)),
      ),
    ))

-- nothing is done over the link
pub unlinked-plan : (names : PackFiles) (content : Content) → IsUnlinked (pack_plan names content).actions
unlinked-plan names content = unlinked-within (IsPackCall names) (pack_stages names) content (within names)

module _ (names : PackFiles) (content : Content) where
  abbrev pub pack_end : PackAccepted names content → Plan
  pack_end a = packing_end names (file_in names content a) (verdict_in names content a)

  -- the cause of a refusal, by the status
  abbrev pub Causes : ℕ → Type 0
  Causes status =
      cause_at (status == 4) ((fault : SessionFault) × HasBadSession names.session content fault)
      (cause_at (status == 8) (((at : ℕ) × HasBadTable names content at) ⊎ HasBadEvidence names content) ⊥)

  sorts-evidence : (t : HasTable names content) →
      Sorts Causes pack_end content (evidence_stages names t.inputs.session t.inputs.table t.inputs.evidence t.lists)
  sorts-evidence t =
      let i = t.inputs in
      sorts-accepts Causes pack_end content (datagrams_in i.evidence)
      (λ ds. does (packing_end names (packed_bytes i.session t.lists i.table ds) (verdict_of i.session t.lists ds)))
      (λ _. refuses 8 evidence_refused)
      (λ none is. sorts-refusal Causes pack_end content 8 evidence_refused (inr (record { by_table = t; is = is })))
      (λ ds is. sorts-last Causes pack_end content (record { by_table = t; datagrams = ds; is = is }))

  sorts-inputs : (i : HasInputs names content) → Sorts Causes pack_end content (inputs_stages names i.session i.table i.evidence)
  sorts-inputs i =
      sorts-accepts Causes pack_end content (lists_of i.session i.table) (evidence_stages names i.session i.table i.evidence)
      (λ at. refuses 8 (table_refused at))
      (λ at is. sorts-refusal Causes pack_end content 8 (table_refused at) (inl (at, record { inputs = i; is = is })))
      (λ lists is. sorts-evidence (record { inputs = i; lists = lists; is = is }))

  sorts : Sorts Causes pack_end content (pack_stages names)
  sorts =
      sorts-stage Causes pack_end content names.session session_of 4 session_refused (reading_stages names) (λ fault bad. (fault, bad))
      (λ s has end c. sorts-inputs (record {
        session = s;
        in_session = has;
        table = c.0;
        table_read = c.1;
        evidence = c.2.0;
        evidence_read = c.2.1;
      }) end c.2.2)

-- ---- how far it got

-- everything was accepted, no fault is shown, and the reason was printed
pub record HasPrintedReason (names : PackFiles) (old new : Outside) (status : ℕ) : Type 0 where
  pub accepted : PackAccepted names old.files.content
  pub why : Why
  pub is : verdict_in names old.files.content accepted ≡ NotShown why
  pub told : HasShown (verdict_line (NotShown why)) 1 old new status

-- a fault is shown, and the making of the proof file got this far
pub record IsMaking (names : PackFiles) (old new : Outside) (status : ℕ) : Type 0 where
  pub one : HasShownOne names old.files.content
  pub went : Went (doing (packing_actions names.proof (file_of names old.files.content one)) 0 [] old.files.content) old new status

-- nothing was changed or printed, because of a stop or a refusal; or the reason was printed, or the proof file was made
abbrev pub Outcome : PackFiles → Outside → Outside → ℕ → Type 0
Outcome names old new status =
    (IsUnchanged status old new × ((is_stop status ≡ true) ⊎ Causes names old.files.content status))
    ⊎ (HasPrintedReason names old new status ⊎ IsMaking names old new status)

module _ (names : PackFiles) (old new : Outside) (status : ℕ) (told : IsTrue new.files.told) where
  by-verdict : (a : PackAccepted names old.files.content) (v : Verdict) → verdict_in names old.files.content a ≡ v →
      Went (packing_end names (file_in names old.files.content a) v) old new status →
      HasPrintedReason names old new status ⊎ IsMaking names old new status
  by-verdict a (Shown party fault) e w = inr (record { one = record { accepted = a; party = party; fault = fault; shown = e }; went = w })
  by-verdict a (NotShown why) e w =
      inl (record { accepted = a; why = why; is = e; told = shows_there (verdict_line (NotShown why)) 1 [] old new status told w })

  pub outcome : GoesInOrder (pack_stages names) old new status → Outcome names old new status
  outcome order =
      elim (sorted (Causes names old.files.content) (pack_end names old.files.content) old new status (pack_stages names) told
      (sorts names old.files.content) order.gone) [
        | inl same ↦ inl same
        | inr a ↦ inr (by-verdict a.0 (verdict_in names old.files.content a.0) refl a.1)
      ]

-- ---- what is packed

-- the lists that are read are those of the table file
lists-are : (s : SessionData) (table : List ℕ) (lists : Lists) → lists_of s table ≡ Ok lists → table_of s table ≡ Ok lists
unfolding lists_of
lists-are s table lists e = by_read (table_of s table) e
  where
    by_read : (r : Result Lists TableFault) → or_place r ≡ Ok lists → r ≡ Ok lists
    by_read (Ok read) e = let same : read ≡ lists = cc in ap Ok same
    by_read (Err fault) e = cc

-- the datagrams that are read are those of the evidence file
evidence-is : (o : Option (List (List ℕ))) (ds : List (List ℕ)) → ok_or o (tt {0}) ≡ Ok ds → o ≡ Some ds
evidence-is (Some read) ds e = let same : read ≡ ds = cc in ap Some same
evidence-is None ds e = cc

-- the verdict of the rules on datagrams under lists
verdict-is : (s : SessionData) (lists : Lists) (ds : List (List ℕ)) (v : Verdict) → verdict_of s lists ds ≡ v →
    verdict s (digests_of lists) ds ≡ v
unfolding verdict_of
verdict-is s lists ds v e = e

one-read : (r : Result Lists TableFault) (a b : Lists) → r ≡ Ok a → r ≡ Ok b → a ≡ b
one-read r a b e f = let same : ◌≡◌ {A = Result Lists TableFault} (Ok a) (Ok b) = sym e ∙ f in cc

one-evidence : (o : Option (List (List ℕ))) (a b : List (List ℕ)) → o ≡ Some a → o ≡ Some b → a ≡ b
one-evidence o a b e f = let same : ◌≡◌ {A = Option (List (List ℕ))} (Some a) (Some b) = sym e ∙ f in cc

one-verdict : (p q : ℕ) (f g : Fault) → Shown p f ≡ Shown q g → (p ≡ q) × (f ≡ g)
one-verdict p q f g e = let same : p ≡ q = cc in let alike : f ≡ g = cc in (same, alike)

-- a packed file shows the fault of the verdict
same-shown : (s : SessionData) (table evidence file : List ℕ) (lists : Lists) (ds : List (List ℕ)) (party : ℕ) (fault : Fault) →
    table_of s table ≡ Ok lists → evidence_of evidence ≡ Some ds → verdict s (digests_of lists) ds ≡ Shown party fault →
    (p : IsPacked s table evidence file) → (p.party ≡ party) × (p.fault ≡ fault)
same-shown s table evidence file lists ds party fault t e v p =
    let l = one-read (table_of s table) p.lists lists p.table_is t in
    let d = one-evidence (evidence_of evidence) p.datagrams ds p.evidence_is e in
    one-verdict p.party party p.fault fault (sym p.shown ∙ (λ i. verdict s (digests_of (l i)) (d i)) ∙ v)

-- ---- the rows

module _ (names : PackFiles) (old new : Outside) where
  -- at 0 the proof was packed
  pub packed : ShownIsPacked → TablesAreSpelled → AreInRange → IsTrue new.files.told → Outcome names old new 0 → Packed names old new
  packed law spells ranged told (inl r) = absurd (elim r.1 [ inl stop ↦ go-on 0 refl stop | inr none ↦ none ])
  packed law spells ranged told (inr (inl t)) =
      absurd (elim t.told.ended [ inl same ↦ differ 0 1 refl same | inr stop ↦ go-on 0 refl stop ])
  packed law spells ranged told (inr (inr p)) =
      let one = p.one in
      let i = one.accepted.by_table.inputs in
      let lists = one.accepted.by_table.lists in
      let ds = one.accepted.datagrams in
      let evidence = evidence-is (evidence_of i.evidence) ds one.accepted.is in
      let file : List ℕ = file_of names old.files.content one in
      let read = lists-are i.session i.table lists one.accepted.by_table.is in
      let says = verdict-is i.session lists ds (Shown one.party one.fault) one.shown in
      let is = law i.session i.table i.evidence lists ds one.party one.fault (in-range_here ranged i.in_session.bytes i.session i.in_session.is)
      read evidence says in
      let same = same-shown i.session i.table i.evidence file lists ds one.party one.fault read evidence says is in
      let m = made names.proof file (packed_line file) old new told (p.went.carried refl).ran in
      record {
        one = one;
        packed = is;
        spelled = λ bytes read_lists is_read. spells i.session i.table read_lists bytes is_read;
        party_is = same.0;
        fault_is = same.1;
        written = m.written;
        printed = m.printed;
        others = m.others;
      }

  -- at 1 the reason was printed
  pub not-packed : Outcome names old new 1 → NotPacked names old new
  not-packed (inl r) = absurd (elim r.1 [ inl stop ↦ go-on 1 refl stop | inr none ↦ none ])
  not-packed (inr (inl t)) =
      record { accepted = t.accepted; why = t.why; is = t.is; printed = t.told.whole refl; files = t.told.files }
  not-packed (inr (inr p)) = absurd (differ 1 0 refl (p.went.carried refl).is)

  -- at a refusal nothing was changed or printed
  pub refused_so : (status : ℕ) → (status == 0) ≡ false → (status == 1) ≡ false → is_stop status ≡ false → Outcome names old new status →
      IsUnchanged status old new × Causes names old.files.content status
  refused_so status other others go (inl r) = (r.0, elim r.1 [ inl stop ↦ absurd (go-on status go stop) | inr why ↦ why ])
  refused_so status other others go (inr (inl t)) =
      absurd (elim t.told.ended [ inl same ↦ differ status 1 others same | inr stop ↦ go-on status go stop ])
  refused_so status other others go (inr (inr p)) = absurd (differ status 0 other (p.went.carried go).is)

-- at every status, no file except the proof file was changed
pub other-untouched : (names : PackFiles) (old new : Outside) (status : ℕ) (path : List ℕ) → IsTrue new.files.told →
    (path ≡ names.proof → ⊥) → Outcome names old new status → new.files.content path ≡ old.files.content path
other-untouched names old new status path told differs (inl r) = ap (λ (holds : Content). holds path) r.0.files
other-untouched names old new status path told differs (inr (inl t)) = ap (λ (holds : Content). holds path) t.told.files
other-untouched names old new status path told differs (inr (inr p)) =
    let file : List ℕ = file_of names old.files.content p.one in
    others-untouched names.proof file (packed_line file) old new status path told differs p.went.part
