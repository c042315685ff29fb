-- What a peer holds: the blocks that admitted datagrams added, each the first for its update.
use Rattle.std.specs.Prelude.{ℕ, List, Bool, filter, Option, Some, None, is_some, option_and_then, if◌then◌else◌}
use Rattle.std.specs.Bool.{then_some}
use Rattle.bar_wire.specs.Bodies.{briefcase_in}
use Rattle.bar_wire.specs.declared.kind.Kind.TheVariants as kinds
use Rattle.bar_window.specs.declared.update.UpdateId.{UpdateId}
use Rattle.bar_window.specs.declared.exchange.Exchange.{Exchange}
use Rattle.bar_window.specs.declared.exchange.Role.{Role}
use Rattle.bar_window.specs.Updates.{same_update}
use Rattle.bar_terms.specs.Table.{Table}
use Rattle.bar_wire.specs.Datagram.{Message, Datagram, Body, Block, Key, Briefcase, is_of, exchange_by}
use Rattle.bar_rules.specs.Member.{Session, is_alive}
use Rattle.bar_rules.specs.Values.{window_of, opening_of, is_good, opened_block}
use Rattle.bar_rules.specs.Peer.Log.{Log, Entry, Ticked, Heard, Said, Kept, earliest, first_heard, first_said, table, round_now}

abbrev pub case_in : Option Datagram → Option Briefcase
case_in o = option_and_then (λ d. briefcase_in d.message.body) o

-- the briefcase of an exchange that was heard from a side of it
abbrev pub case_heard_from : Log → Exchange → Role → Option Briefcase
case_heard_from log x role = case_in (first_heard (is_of kinds.Case x role) log)

-- the briefcase of an exchange that this member said, on a side of it
abbrev pub case_said_by : Log → Exchange → Role → Option Briefcase
case_said_by log x role = case_in (first_said (is_of kinds.Case x role) log)

-- the block of an update in an opened briefcase, if its opening is good
abbrev pub block_opened : Session → Table → Exchange → UpdateId → List ℕ → Option Briefcase → Option (List ℕ)
block_opened s table x u key None = None
block_opened s table x u key (Some c) = if is_good (opening_of s table x c key) then opened_block s c key u else None

-- the block that an admitted datagram adds for an update, in a round, under a table and with the briefcases heard; a key adds those that
-- are alive in that round
abbrev pub block_by : Session → ℕ → Table → (Exchange → Role → Option Briefcase) → UpdateId → Message → Body → Option (List ℕ)
block_by s now table cases u m (Block v block) = then_some (same_update u v) block
block_by s now table cases u m (Key g) =
    let x = exchange_by g.round g.kind g.role m.from m.to in
    if is_alive s u.round now then block_opened s table x u g.key (cases x g.role) else None
block_by s now table cases u m _ = None

abbrev pub block_from : Session → Log → UpdateId → Message → Body → Option (List ℕ)
block_from s before u m b = block_by s (round_now before) (table before) (case_heard_from before) u m b

abbrev pub block_in : Session → Log → UpdateId → Entry → Option (List ℕ)
block_in s before u (Heard d) = block_from s before u d.message d.message.body
block_in s before u Ticked = None
block_in s before u (Said d) = None
block_in s before u (Kept q e) = None

abbrev pub block_of : Session → Log → UpdateId → Option (List ℕ)
block_of s log u = earliest (λ before e. block_in s before u e) log

abbrev pub is_held : Session → Log → UpdateId → Bool
is_held s log u = is_some (block_of s log u)

-- the held updates of a round's window, given the blocks that are held
abbrev pub history : Session → (UpdateId → Option (List ℕ)) → ℕ → List UpdateId
history s block round = filter (λ u. is_some (block u)) (window_of s round)
