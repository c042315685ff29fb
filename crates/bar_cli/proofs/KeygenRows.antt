-- The rows of the status table, derived from how `keygen` ended.
use Rattle.std.proofs.Common.{◌≡◌, ◌⊎◌, ◌==◌, ℕ, List, false, IsTrue, refl, ap, inl, inr}
use Rattle.bar_outside.specs.Disk.{Content}
use Rattle.bar_outside.specs.Plan.{Outside, Plan, is_stop}
use Rattle.bar_outside.specs.Ends.{SameFiles, NothingPrinted}
use Rattle.bar_outside.specs.Stages.{GoesInOrder, IsUnchanged, refuses}
use Rattle.bar_outside.specs.Stages.Stages.{does}
use Rattle.bar_outside.proofs.Stages.{each-accepts}
use Rattle.bar_outside.proofs.StageRows.{IsWithin, Outcome, Sorts, accepted-at, cause_at, outcome, refusal-within, refused-at, sorts-accepts, sorts-last, sorts-refusal, sorts-stage, stage-within, unlinked-within}
use Rattle.bar_outside.proofs.Unlinked.{IsUnlinked}
use Rattle.bar_roster.specs.KeyText.{key_text_of}
use Rattle.bar_cli.specs.Refusals.{session_refused, secret_refused}
use Rattle.bar_cli.specs.Keygen.Plan.{Keygen, KeygenAccepted, KeyMade, HasFewLeaves, IsKeygenCall, KeyBegun, KeyWritten, SecretRefused, key_made, keygen_plan, keygen_stages, leaves_for, lines_of, making_end, secret_of, secret_stages}
use Rattle.bar_cli.proofs.EndLemmas.{differ}
use Rattle.bar_cli.proofs.MadeFiles.{IsPartlyMade, made as made-file, made-so-far, making-within, others-untouched}

-- ---- its stages

pub within : (asked : Keygen) → IsWithin (IsKeygenCall asked) (keygen_stages asked)
within asked =
    each-accepts _ _ (leaves_for asked) (λ _. secret_stages asked) (λ fault. refuses 4 (session_refused fault))
    (λ enough. stage-within (IsKeygenCall asked) asked.secret secret_of 8 secret_refused (λ secret. does (making_end asked secret)) (inl refl)
    (λ secret. making-within (IsKeygenCall asked) asked.key (key_text_of (key_made asked secret)) (lines_of asked secret)
    (inr (inl refl)) (inr (inr refl))))
    (λ fault. refusal-within (IsKeygenCall asked) 4 (session_refused fault))

-- nothing is done over the link
pub unlinked-plan : (asked : Keygen) (content : Content) → IsUnlinked (keygen_plan asked content).actions
unlinked-plan asked content = unlinked-within (IsKeygenCall asked) (keygen_stages asked) content (within asked)

module _ (asked : Keygen) (content : Content) where
  abbrev pub key_end : KeygenAccepted asked content → Plan
  key_end a = making_end asked a.secret

  -- the cause of a refusal, by the status
  abbrev pub Causes : ℕ → Type 0
  Causes status =
      cause_at (status == 4) (HasFewLeaves asked) (cause_at (status == 8) ((len : ℕ) × SecretRefused asked content len) ⊥)

  sorts : Sorts Causes key_end content (keygen_stages asked)
  sorts =
      sorts-accepts Causes key_end content (leaves_for asked) (λ _. secret_stages asked) (λ fault. refuses 4 (session_refused fault))
      (λ fault is. sorts-refusal Causes key_end content 4 (session_refused fault) (fault, is))
      (λ enough is. sorts-stage Causes key_end content asked.secret secret_of 8 secret_refused (λ secret. does (making_end asked secret))
      (λ len bad. (len, record { leaves = is; in_secret = bad }))
      (λ secret has. sorts-last Causes key_end content (record { secret = secret; leaves = is; in_secret = has })))

-- ---- the rows

module _ (asked : Keygen) (old new : Outside) (status : ℕ) (told : IsTrue new.files.told)
    (order : GoesInOrder (keygen_stages asked) old new status) where
  abbrev content : Content
  content = old.files.content

  abbrev text : KeygenAccepted asked content → List ℕ
  text a = key_text_of (key_made asked a.secret)

  came : Outcome (Causes asked content) (key_end asked content) old new status
  came = outcome (Causes asked content) (key_end asked content) old new status (keygen_stages asked) told (sorts asked content) order.gone

  -- at 0 the key was made
  pub made : is_stop status ≡ false → (Causes asked content status → ⊥) → KeyMade asked old new
  made go none =
      let a = accepted-at (Causes asked content) (key_end asked content) old new status go none came in
      let m = made-file asked.key (text a.0) (lines_of asked a.0.secret) old new told (a.1.carried go).ran in
      record { accepted = a.0; written = m.written; printed = m.printed; others = m.others }

  -- at a refusal nothing was changed or printed
  pub refused : is_stop status ≡ false → (status == 0) ≡ false → IsUnchanged status old new × Causes asked content status
  refused go zero =
      refused-at (Causes asked content) (key_end asked content) old new status go (λ a e. differ status 0 zero e) came

  -- at every status, no file except the key file was changed
  pub other-untouched : (path : List ℕ) → (path ≡ asked.key → ⊥) → new.files.content path ≡ old.files.content path
  other-untouched path differs =
      elim came [
        | inl same ↦ ap (λ (holds : Content). holds path) same.0.files
        | inr a ↦ others-untouched asked.key (text a.0) (lines_of asked a.0.secret) old new status path told differs a.1.part
      ]

  -- nothing was changed or printed; or the key was begun, and if a write failed, its whole text was written
  so-far : IsUnchanged status old new
      ⊎ ((a : KeygenAccepted asked content) × IsPartlyMade asked.key (text a) (lines_of asked a.secret) status old new)
  so-far =
      elim came [
        | inl same ↦ inl same.0
        | inr a ↦ elim (made-so-far asked.key (text a.0) (lines_of asked a.0.secret) old new status told a.1.part)
            [ inl same ↦ inl same | inr b ↦ inr (a.0, b) ]
      ]

  -- at every status, nothing was changed or printed, or the key was begun
  pub a_front : (SameFiles old new × NothingPrinted old new) ⊎ KeyBegun asked old new
  a_front =
      elim so-far [
        | inl same ↦ inl (same.files, same.out)
        | inr b ↦ inr (record {
          accepted = b.0;
          written_count = b.1.written_count;
          printed_count = b.1.printed_count;
          written = b.1.written;
          printed = b.1.printed;
          order = b.1.order;
        })
      ]

  -- what was written if the output failed
  pub written-key : status ≡ 7 → KeyWritten asked old new
  written-key seven =
      elim so-far [
        | inl same ↦ absurd (same.no_output seven)
        | inr b ↦ record { accepted = b.0; printed_count = b.1.printed_count; written = b.1.at_output seven; printed = b.1.printed }
      ]
