-- An auditor that was given recordings.
use Rattle.std.specs.Prelude.{◌≡◌, ℕ, List, option_map}
use Rattle.bar_window.specs.declared.exchange.Exchange.{Exchange}
use Rattle.bar_window.specs.declared.exchange.Role.{Role}
use Rattle.bar_rules.specs.Member.{Session}
use Rattle.bar_audit.specs.declared.audit.Audit.{Audit}
use Rattle.bar_audit.specs.Exchanges.{AreRecorded}
use Rattle.bar_audit.specs.Code.Findings.{case_at, has_side, has_number, AreKeptWindows, KeepsExchanges}
use Rattle.bar_audit.specs.Code.Found.{promised_by, case_from, has_key_from}
use Rattle.bar_audit.specs.Recordings.{Recording, is_given}
use Rattle.bar_audit.specs.Code.Sides.{side_at}

-- It contains whose recordings are given, what is found of each side of an exchange, and which exchanges are recorded.
pub record Audits (s : Session) (recordings : List Recording) (a : Audit) : Type 0 where
  pub parties : (party : ℕ) → has_number a.parties.keys party ≡ is_given recordings party
  pub cases :
      (x : Exchange) (role : Role) → case_at a.found.cases.entries (side_at x role)
      ≡ option_map (promised_by s) (case_from s recordings x role)
  pub keys : (x : Exchange) (role : Role) → has_side a.found.keys.keys (side_at x role) ≡ has_key_from s recordings x role
  pub windows : AreKeptWindows s a.found.cases.entries
  pub exchanges : KeepsExchanges a.found
  pub recorded : AreRecorded s recordings a.recorded.items
