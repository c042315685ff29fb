-- What was heard arrived as an input, and what it can show.
use Rattle.std.specs.Prelude.{◌≡◌, ℕ, false, List, [], ◌++◌, Some, Contains}
use Rattle.bar_window.specs.declared.exchange.Exchange.{Exchange}
use Rattle.bar_wire.specs.Datagram.{Datagram, Briefcase}
use Rattle.bar_wire.specs.Inputs.{Input}
use Rattle.bar_wire.specs.Inputs as event
use Rattle.bar_rules.specs.Peer.Knowledge.{known}
use Rattle.bar_rules.specs.Peer.Log.{Log, Heard, table}
use Rattle.bar_rules.specs.Member.{Session, Member}
use Rattle.bar_rules.specs.Peer.Run.{log_after}
use Rattle.bar_rules.specs.Peer.Terms.{case_heard}
use Rattle.bar_rules.specs.Values.{opening_of, is_unknown, datagram_of}
use Rattle.bar_laws.specs.Always.{OnAllInputs}

-- The bytes of one of the inputs encode the datagram.
pub record IsSpelledIn (s : Session) (inputs : List Input) (d : Datagram) : Type 0 where
  pub bytes : List ℕ
  pub came : Contains inputs (event.Datagram bytes)
  pub spells : datagram_of s bytes ≡ Some d

-- this holds for each datagram that was admitted, for every list of inputs
abbrev pub HeardHasCome : Type 0
HeardHasCome =
    OnAllInputs (λ me inputs. (d : Datagram) → Contains (log_after me [] inputs) (Heard d) → IsSpelledIn me.session inputs d)

-- At every moment of every run, if a CASE of the partner is admitted, the table determines all that it promises: no key opens it to
-- Unknown. This holds for each admitted KEY, when it is admitted and ever after.
abbrev pub OpeningsAreTold : Type 0
OpeningsAreTold =
    (me : Member) (inputs : List Input) (later log : Log) → log_after me [] inputs ≡ later ++ log
    → (x : Exchange) (case : Briefcase) (key : List ℕ) → case_heard me (known me log) x ≡ Some case
    → is_unknown (opening_of me.session (table log) x case key) ≡ false
