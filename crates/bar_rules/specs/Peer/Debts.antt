-- Debts: which partners were given this member's KEY of an exchange and have not given their own.
use Rattle.std.specs.Prelude.{ℕ, ◌+◌, ◌==◌, ◌&&◌, not, Bool, nat_le}
use Rattle.std.specs.List.{list_any}
use Rattle.bar_window.specs.declared.exchange.Exchange.{Exchange}
use Rattle.bar_window.specs.Exchange.{other_role}
use Rattle.bar_wire.specs.Grammar.{is_third}
use Rattle.bar_wire.specs.declared.kind.Kind.TheVariants as kinds
use Rattle.bar_rules.specs.Member.{Member}
use Rattle.bar_rules.specs.Peer.Exchanges.{role_of, partner_in}
use Rattle.bar_rules.specs.Peer.Knowledge.{Knowledge, this_round, answer_deadline, has_heard_of, has_said_of}

-- with this life of updates, an exchange of this round is past the time of its CASEs, and its KEYs may still be given
abbrev pub is_due : ℕ → ℕ → ℕ → Bool
is_due life round now = nat_le (round + answer_deadline) now && nat_le now (round + life)

-- the exchange is with the party, whose KEY is due: this member's KEY is said, and the party's isn't heard
abbrev pub is_owed : Member → Knowledge → ℕ → Exchange → Bool
is_owed me k party x =
    (partner_in me x == party)
    && is_due me.session.shape.life x.round (this_round k)
    && has_said_of k kinds.Key x (role_of me x)
    && not (has_heard_of k kinds.Key x (other_role (role_of me x)))

-- In version 3, the party owes this member a key, of an exchange of either kind, with this member on either side. An exchange of which a
-- KEY is said stays open as long as the key may be asked for.
abbrev pub owes : Member → Knowledge → ℕ → Bool
owes me k party = is_third me.session.shape && list_any (is_owed me k party) k.opens
