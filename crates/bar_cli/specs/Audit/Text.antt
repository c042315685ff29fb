-- The report of an audit.
use Rattle.std.specs.Prelude.{ℕ, Bool, false, List, ◌++◌, codes, slice_index, slice_index_or, Option, None, Some, if◌then◌else◌}
use Rattle.std.specs.List.{flat_map}
use Rattle.std.specs.Fmt.{decimal}
use Rattle.bar_window.specs.declared.exchange.Exchange.{Exchange}
use Rattle.bar_window.specs.Exchange.{kind_code}
use Rattle.bar_rules.specs.Member.{Session}
use Rattle.bar_audit.specs.declared.line.Line.{Line}
use Rattle.bar_audit.specs.Exchanges.{line_of, unbalanced}
use Rattle.bar_audit.specs.Recordings.{Recording}

-- an exchange's round, its kind as 0 or 1, its initiator and its responder
abbrev pub exchange_words : Exchange → List ℕ
exchange_words x =
    decimal x.round
    ++ (codes " " ++ (decimal (kind_code x.kind) ++ (codes " " ++ (decimal x.initiator ++ (codes " " ++ decimal x.responder)))))

abbrev pub bit : Bool → ℕ
bit there = if there then 1 else 0

-- the line of an exchange: how many items the CASE of each side promises, and whether the KEY of each was received
abbrev pub exchange_line : Line → List ℕ
exchange_line l =
    codes "exchange "
    ++ (exchange_words l.x
    ++ (codes " cases "
    ++ (decimal (slice_index l.cases 0)
    ++ (codes " "
    ++ (decimal (slice_index l.cases 1)
    ++ (codes " keys "
    ++ (decimal (bit (slice_index_or l.keys 0 false)) ++ (codes " " ++ (decimal (bit (slice_index_or l.keys 1 false)) ++ codes "\n")))))))))

abbrev pub line_for : Session → List Recording → Exchange → List ℕ
line_for s recordings x = exchange_line (line_of s recordings x)

abbrev pub lines_for : Session → List Recording → List Exchange → List ℕ
lines_for s recordings xs = flat_map (line_for s recordings) xs

-- the first unbalanced exchange, or that all are balanced
abbrev pub balance_line : Option Exchange → List ℕ
balance_line None = codes "balanced\n"
balance_line (Some x) = codes "unbalanced " ++ (exchange_words x ++ codes "\n")

-- a line for each of these exchanges, and then the balance
unfoldable pub text_for : Session → List Recording → List Exchange → List ℕ
text_for s recordings xs = lines_for s recordings xs ++ balance_line (unbalanced s recordings xs)

-- 0 if all are balanced, 1 if one isn't
abbrev pub status_of_balance : Option Exchange → ℕ
status_of_balance None = 0
status_of_balance (Some x) = 1
