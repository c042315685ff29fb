-- What holds after an audit.
use Rattle.std.specs.Prelude.{◌≡◌, ◌≢◌, ℕ, List, ◌++◌, Option, None, take, true, IsTrue}
use Rattle.bar_outside.specs.Disk.{Content}
use Rattle.bar_outside.specs.Ends.{SameFiles}
use Rattle.bar_outside.specs.Plan.{Outside}
use Rattle.bar_window.specs.declared.exchange.Exchange.{Exchange}
use Rattle.bar_window.specs.declared.exchange.Role.{Role}
use Rattle.bar_rules.specs.Member.{Session}
use Rattle.bar_audit.specs.Exchanges.{AreRecorded, is_recorded, unbalanced}
use Rattle.bar_audit.specs.Code.Found.{has_key_from}
use Rattle.bar_audit.specs.Laws.{HoldsPartners}
use Rattle.bar_audit.specs.Recordings.{Recording}
use Rattle.bar_audit.specs.Runs.{AreOfRuns}
use Rattle.bar_cli.specs.Audit.Plan.{AuditAccepted, AuditFiles, audit_text, balance_of}
use Rattle.bar_cli.specs.Audit.Text.{status_of_balance, text_for}

-- If a party's key was received in a recorded exchange, the party has recorded its partner's briefcase. By the terms of that briefcase both
-- sides promise equally many items. Its terms equal those of the party's own briefcase, if the partner has recorded that one.
abbrev pub KeysPaid : Session → List Recording → Type 0
KeysPaid s recordings =
    (x : Exchange) (role : Role) → IsTrue (is_recorded s recordings x) → has_key_from s recordings x role ≡ true →
    HoldsPartners s recordings x role

-- All files were accepted and no file was changed. A line for each recorded exchange was printed, in order, and then a line that all are
-- balanced, or the first that isn't. If all are balanced, each key was paid for.
pub record Audited (names : AuditFiles) (balance : Option Exchange) (old new : Outside) : Type 0 where
  pub accepted : AuditAccepted names old.files.content
  pub exchanges : List Exchange
  pub are : AreRecorded accepted.session accepted.recordings exchanges
  pub is : unbalanced accepted.session accepted.recordings exchanges ≡ balance
  pub printed : new.out.bytes ≡ old.out.bytes ++ text_for accepted.session accepted.recordings exchanges
  pub paid : balance ≡ None → KeysPaid accepted.session accepted.recordings
  pub files : SameFiles old new

-- this holds for the balance that has this status
abbrev pub HasAudited : AuditFiles → ℕ → Outside → Outside → Type 0
HasAudited names status old new = (balance : Option Exchange) × (status ≡ status_of_balance balance) × Audited names balance old new

-- the balance of the accepted recordings
abbrev pub balance_in : (names : AuditFiles) (content : Content) → AuditAccepted names content → Option Exchange
balance_in names content accepted = balance_of accepted.session accepted.recordings

-- everything was accepted, and a prefix of the report was printed
pub record AuditedFront (names : AuditFiles) (old new : Outside) : Type 0 where
  pub accepted : AuditAccepted names old.files.content
  pub printed : (k : ℕ) × (new.out.bytes ≡ old.out.bytes ++ take k (audit_text accepted.session accepted.recordings))

-- At every status, no file was changed. No exchange is reported as unbalanced, if each recording lists the inputs of a run of its party,
-- and everything recorded as signed by these parties was signed by them.
pub record AuditStays (names : AuditFiles) (old new : Outside) (status : ℕ) : Type 0 where
  pub files : SameFiles old new
  pub of_runs :
      (accepted : AuditAccepted names old.files.content) (secrets : ℕ → List ℕ) →
      AreOfRuns accepted.session secrets accepted.recordings → status ≢ 1
