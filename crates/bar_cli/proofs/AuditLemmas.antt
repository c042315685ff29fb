-- Recordings are read one after the other, and a report on them is printed.
use Rattle.std.proofs.Common.{append-nil, append_assoc, ◌≡◌, ◌<◌, ◌≤◌, ◌+◌, ◌-◌, ℕ, suc, zero, Bool, true, false, List, [], ◌∷◌, ◌++◌, Vec, Option, Some, None, length, Ok, Err, refl, sym, ap, ◌∙◌, subst, take, arith}
use Rattle.std.specs.Prelude.{option_map, slice_get}
use Rattle.std.specs.Bool.{then_some}
use Rattle.std.specs.List.{flat_map, range_with_len}
use Rattle.std.specs.Option.{ok_or}
use Rattle.std.specs.declared.alloc.Global.{Global}
use Rattle.bar_outside.specs.Disk.{Content, Disk, Reads}
use Rattle.bar_outside.specs.Ends.{EndsWith}
use Rattle.bar_outside.specs.Code.Faults.{code_of_fault, fault_of_file, line_of_fault}
use Rattle.bar_outside.specs.Plan.{Outside, Plan, no_memory, with_files}
use Rattle.bar_outside.specs.declared.files.FileFault.{FileFault}
use Rattle.bar_outside.proofs.Ending.{EndsWith-ending, EndsWith-memory, EndsWith-unread}
use Rattle.bar_outside.proofs.StageEnds.{EndsWith-accepts, EndsWith-refuses, EndsWith-stage, EndsWith-stage_memory, EndsWith-stage_refused}
use Rattle.bar_outside.specs.Stages.{Stages, plan_by, refuses}
use Rattle.bar_window.specs.declared.exchange.Exchange.{Exchange}
use Rattle.bar_wire.specs.Inputs.{Input}
use Rattle.bar_wire.specs.declared.shape.Shape.{Shape}
use Rattle.bar_record.specs.declared.fault.RecordFault.{RecordFault}
use Rattle.bar_session.specs.SessionData.{SessionData}
use Rattle.bar_audit.specs.declared.audit.Audit.{Audit}
use Rattle.bar_audit.specs.declared.line.Line.{Line}
use Rattle.bar_audit.specs.Audits.{Audits}
use Rattle.bar_audit.specs.Exchanges.{unbalanced}
use Rattle.bar_audit.specs.Listed.{recorded}
use Rattle.bar_audit.specs.Recordings.{Recording}
use Rattle.bar_cli.specs.Audit.Plan.{AuditFiles, Leaves, all_parties, all_plan, audit_text, balance_of, inputs_listed, is_range, parties_of, parties_stages, recording_name, recordings_stages, telling_plan}
use Rattle.bar_cli.specs.Audit.Text.{text_for}
use Rattle.bar_cli.specs.Refusals.{parties_refused, recording_refused}

-- the number of parties
abbrev pub count : AuditFiles → ℕ
count names = suc (names.last - names.first)

-- the parties from a place on
abbrev pub parties_left : AuditFiles → ℕ → List ℕ
parties_left names place = range_with_len (names.first + place) (count names - place)

abbrev pub left_plan : AuditFiles → SessionData → ℕ → List Recording → Content → Plan
left_plan names s place given = plan_by (recordings_stages names.results s (parties_left names place) given)

-- the recordings before a place were accepted and given to the auditor, and the others are left
pub record Gathered (names : AuditFiles) (s : SessionData) (place : ℕ) (audit : Audit) (old now : Disk) : Type 0 where
  pub recordings : List Recording
  pub knows : Audits s recordings audit
  pub leaves : (w : Outside) → Leaves (all_plan names s) (left_plan names s place recordings) (with_files w old) (with_files w now)

all-left : (names : AuditFiles) → parties_left names 0 ≡ all_parties names
unfolding all_parties
all-left names =
    let first : names.first + 0 ≡ names.first = omega arith in
    let many : count names - 0 ≡ count names = omega arith in
    λ i. range_with_len (first i) (many i)

pub gathered-none : (names : AuditFiles) (s : SessionData) (audit : Audit) (old : Disk) → Audits s [] audit →
    Gathered names s 0 audit old old
gathered-none names s audit old knows = record {
  recordings = [];
  knows = knows;
  leaves = λ w new status line e.
      subst (λ parties. EndsWith (plan_by (recordings_stages names.results s parties [])) (with_files w old) new status line) (all-left names) e;
}

next-party : (first place n : ℕ) → place < n →
    range_with_len (first + place) (n - place) ≡ (first + place) ∷ range_with_len (first + (place + 1)) (n - (place + 1))
next-party first place n within =
    let step : n - place ≡ suc (n - (place + 1)) = omega (arith, within) in
    let place_more : first + place + 1 ≡ first + (place + 1) = omega arith in
    ap (range_with_len (first + place)) step
    ∙ ap (λ next. (first + place) ∷ range_with_len next (n - (place + 1))) place_more

module _ (names : AuditFiles) (s : SessionData) (place : ℕ) (audit : Audit) (old now : Disk)
    (g : Gathered names s place audit old now) where
  -- memory ran out
  pub gathered-memory : (w : Outside) → EndsWith (all_plan names s) (with_files w old) (with_files w now) 70 no_memory
  gathered-memory w = g.leaves w (with_files w now) 70 no_memory (EndsWith-memory (left_plan names s place g.recordings) (with_files w now))

  -- no recording is left
  pub gathered-all : count names ≤ place → (w : Outside) →
      Leaves (all_plan names s) (telling_plan s g.recordings) (with_files w old) (with_files w now)
  gathered-all past w =
      subst (λ n. Leaves (all_plan names s) (plan_by (recordings_stages names.results s (range_with_len (names.first + place) n) g.recordings))
      (with_files w old) (with_files w now)) (let none : count names - place ≡ 0 = omega (arith, past) in none) (g.leaves w)

  module _ (within : place < count names) where
    -- the recording of the next party is to be read
    abbrev after : List ℕ
    after = parties_left names (place + 1)

    abbrev party : ℕ
    party = names.first + place

    next-leaves : (w : Outside) →
        Leaves (all_plan names s) (plan_by (recordings_stages names.results s (party ∷ after) g.recordings)) (with_files w old) (with_files w now)
    next-leaves w =
        subst (λ parties. Leaves (all_plan names s) (plan_by (recordings_stages names.results s parties g.recordings)) (with_files w old) (with_files w now))
        (next-party names.first place (count names) within) (g.leaves w)

    -- the read failed
    pub gathered-unread : (mid : Disk) (cause : FileFault) → Reads (recording_name names.results party) now mid (Err cause) →
        (w : Outside) → EndsWith (all_plan names s) (with_files w old) (with_files w mid)
        (code_of_fault (fault_of_file cause)) (line_of_fault (fault_of_file cause))
    gathered-unread mid cause reads w =
        next-leaves w (with_files w mid) _ _
        (EndsWith-unread (recording_name names.results party) _ now mid w cause reads)

    module _ (mid : Disk) (bytes : Vec ℕ Global) (reads : Reads (recording_name names.results party) now mid (Ok bytes)) where
      abbrev others : List Input → Stages
      others inputs = recordings_stages names.results s after (g.recordings ++ (record { party = party; inputs = inputs }) ∷ [])

      -- memory ran out after the read
      pub gathered-late : (w : Outside) → EndsWith (all_plan names s) (with_files w old) (with_files w mid) 70 no_memory
      gathered-late w =
          next-leaves w (with_files w mid) 70 no_memory
          (EndsWith-stage_memory (recording_name names.results party) (inputs_listed s party) 8 recording_refused others now mid w bytes reads)

      -- it is refused
      pub gathered-refused : (fault : RecordFault) → inputs_listed s party bytes.items ≡ Err fault → (w : Outside) →
          EndsWith (all_plan names s) (with_files w old) (with_files w mid) 8 (recording_refused fault)
      gathered-refused fault is w =
          next-leaves w (with_files w mid) 8 (recording_refused fault)
          (EndsWith-stage_refused (recording_name names.results party) (inputs_listed s party) 8 recording_refused others now mid w bytes reads
          fault refl is)

      -- it is accepted, and given to the auditor
      pub gathered-more : (inputs : List Input) (more : Audit) → inputs_listed s party bytes.items ≡ Ok inputs →
          ((recordings : List Recording) → Audits s recordings audit →
          Audits s (recordings ++ (record { party = party; inputs = inputs }) ∷ []) more) →
          Gathered names s (place + 1) more old mid
      gathered-more inputs more is adds = record {
        recordings = g.recordings ++ (record { party = party; inputs = inputs }) ∷ [];
        knows = adds g.recordings g.knows;
        leaves = λ w new status line e. next-leaves w new status line
            (EndsWith-stage (recording_name names.results party) (inputs_listed s party) 8 recording_refused others now mid w bytes reads inputs
            new status line is e);
      }

-- ---- the parties

-- whether the parties are a valid range, as the code tests it
pub range-is : (names : AuditFiles) (some shape : Shape) (tested is : Bool) → some ≡ shape → tested ≡ is_range names some.peers →
    tested ≡ is → is_range names shape.peers ≡ is
range-is names some shape tested is same test e = sym (ap (λ (shape : Shape). is_range names shape.peers) same) ∙ (sym test ∙ e)

-- the parties are refused
pub refused-parties : (names : AuditFiles) (s : SessionData) (old : Outside) → is_range names s.shape.peers ≡ false →
    EndsWith (plan_by (parties_stages names s)) old old 8 parties_refused
refused-parties names s old none =
    EndsWith-refuses (parties_of names s) (λ parties. recordings_stages names.results s parties []) (λ _. refuses 8 parties_refused) _ _ _ _ tt
    (ap (λ b. ok_or (then_some b (all_parties names)) (tt {0})) none) (EndsWith-ending 8 parties_refused old refl)

-- the parties are accepted
pub accepted-parties : (names : AuditFiles) (s : SessionData) (old new : Outside) (status : ℕ) (line : List ℕ) →
    is_range names s.shape.peers ≡ true → EndsWith (all_plan names s) old new status line →
    EndsWith (plan_by (parties_stages names s)) old new status line
accepted-parties names s old new status line range h =
    EndsWith-accepts (parties_of names s) (λ parties. recordings_stages names.results s parties []) (λ _. refuses 8 parties_refused) _ _ _ _
    (all_parties names) (ap (λ b. ok_or (then_some b (all_parties names)) (tt {0})) range) h

-- ---- the report

take-next : {A : Type 0} (xs : List A) (k : ℕ) (x : A) → slice_get xs k ≡ Some x → take (suc k) xs ≡ take k xs ++ x ∷ []
take-next [] k x e = cc
take-next (y ∷ ys) zero x e = let same : y ≡ x = cc in ap (λ z. z ∷ []) same
take-next (y ∷ ys) (suc k) x e = ap (λ zs. y ∷ zs) (take-next ys k x e)

flat_map-one : {A B : Type 0} (f : A → List B) (xs : List A) (x : A) → flat_map f (xs ++ x ∷ []) ≡ flat_map f xs ++ f x
flat_map-one f [] x = append-nil (f x)
flat_map-one f (y ∷ ys) x = ap (λ zs. f y ++ zs) (flat_map-one f ys x) ∙ sym (append_assoc (f y) (flat_map f ys) (f x))

-- the text with one more element
pub text-more : {A B : Type 0} (f : A → List B) (xs : List A) (k : ℕ) (x : A) → slice_get xs k ≡ Some x →
    flat_map f (take (k + 1) xs) ≡ flat_map f (take k xs) ++ f x
text-more f xs k x e =
    let next : k + 1 ≡ suc k = omega arith in
    ap (λ n. flat_map f (take n xs)) next ∙ (ap (flat_map f) (take-next xs k x e) ∙ flat_map-one f (take k xs) x)

-- the line with this number is that of the exchange there
pub line-there : (f : Exchange → Line) (xs : List Exchange) (k : ℕ) (line : Line) → Some line ≡ option_map f (slice_get xs k) →
    (x : Exchange) × (slice_get xs k ≡ Some x) × (line ≡ f x)
line-there f xs k line e = go (slice_get xs k) refl e
  where
    go : (o : Option Exchange) → slice_get xs k ≡ o → Some line ≡ option_map f o → (x : Exchange) × (slice_get xs k ≡ Some x) × (line ≡ f x)
    go None h e = cc
    go (Some x) h e = (x, h, cc)

pub line-missing : (f : Exchange → Line) (xs : List Exchange) (k : ℕ) → None ≡ option_map f (slice_get xs k) → k < length xs → ⊥
line-missing f [] k e l = omega (arith, l)
line-missing f (x ∷ xs) zero e l = cc
line-missing f (x ∷ xs) (suc k) e l = line-missing f xs k e (omega (arith, l))

-- the report is that of the one list of recorded exchanges
pub text-told : (s : SessionData) (recordings : List Recording) (text : List ℕ) (xs : List Exchange) → text ≡ text_for s recordings xs →
    xs ≡ recorded s recordings → text ≡ audit_text s recordings
unfolding audit_text
text-told s recordings text xs is one = is ∙ ap (text_for s recordings) one

pub balance-told : (s : SessionData) (recordings : List Recording) (balance : Option Exchange) (xs : List Exchange) →
    balance ≡ unbalanced s recordings xs → xs ≡ recorded s recordings → balance ≡ balance_of s recordings
unfolding balance_of
balance-told s recordings balance xs is one = is ∙ ap (unbalanced s recordings) one
