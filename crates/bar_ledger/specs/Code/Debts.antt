-- Who owes a key, from the kept exchanges.
use Rattle.std.specs.Prelude.{ℕ, ◌==◌, ◌&&◌, not, Bool, is_some}
use Rattle.std.specs.List.{list_any}
use Rattle.bar_window.specs.Exchange.{other_role, party_on}
use Rattle.bar_wire.specs.Grammar.{is_third}
use Rattle.bar_rules.specs.Peer.Debts.{is_due}
use Rattle.bar_ledger.specs.declared.ledger.Ledger.{Ledger}
use Rattle.bar_ledger.specs.Code.Asking.{is_open}
use Rattle.bar_ledger.specs.Code.Kept.{Kept}
use Rattle.bar_ledger.specs.Code.Memory.{entries_in}

-- the exchange is open and with the party, its KEYs are due, this peer's is said, and the party's isn't heard
abbrev pub is_owed : ℕ → ℕ → ℕ → Kept → Bool
is_owed life party now k =
    is_open k
    && ((party_on k.entry.x (other_role k.entry.role) == party) && is_due life k.entry.x.round now && k.entry.key_said && not (is_some k.key))

-- whether a party owes a key in a round, in version 3
abbrev pub owes_by : Ledger → ℕ → ℕ → Bool
owes_by l party now = is_third l.shape && list_any (is_owed l.shape.life party now) (entries_in l)
