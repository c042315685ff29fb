-- The kept exchanges that a peer was asked for, and those in which it said a message.
use Rattle.std.specs.Prelude.{ℕ, ◌==◌, ◌&&◌, Bool, true, List, [], Option, fold, count_by}
use Rattle.std.specs.Option.{option_to_list}
use Rattle.std.specs.Bool.{then_some}
use Rattle.bar_window.specs.declared.exchange.Exchange.{Exchange}
use Rattle.bar_window.specs.declared.exchange.Role.TheVariants.{Responder}
use Rattle.bar_window.specs.declared.exchange.XKind.{XKind}
use Rattle.bar_window.specs.Exchange.{same_role, same_kind}
use Rattle.bar_rules.specs.Peer.Exchanges.{with_exchange}
use Rattle.bar_ledger.specs.Code.Kept.{Kept}

-- whether it is an exchange of a kind and round that this peer was asked for
abbrev pub is_asked : XKind → ℕ → Kept → Bool
is_asked kind round k = same_role k.entry.role Responder && same_kind k.entry.x.kind kind && (k.entry.x.round == round)

-- 1 if it is such an exchange, else 0
abbrev pub asked_as : XKind → ℕ → Option Kept → ℕ
asked_as kind round o = count_by (is_asked kind round) (option_to_list o)

-- the exchange, if its kept state passes the test
abbrev pub chosen : (Kept → Bool) → Kept → Option Exchange
chosen test k = then_some (test k) k.entry.x

abbrev pub with_chosen : (Kept → Bool) → List Exchange → Kept → List Exchange
with_chosen test xs k = with_exchange (chosen test k) xs

-- the exchanges whose kept state passes the test, in order
abbrev pub in_order : (Kept → Bool) → List Kept → List Exchange
in_order test ks = fold (with_chosen test) [] ks

-- whether this peer said its first message
abbrev pub is_open : Kept → Bool
is_open k = k.entry.first_said

-- the exchange, if this peer said its first message
abbrev pub open_of : Kept → Option Exchange
open_of k = chosen is_open k

abbrev pub with_open : List Exchange → Kept → List Exchange
with_open xs k = with_chosen is_open xs k

-- the exchanges in which this peer said its first message, in order
abbrev pub opens_of : List Kept → List Exchange
opens_of ks = in_order is_open ks

-- all kept exchanges, in order
abbrev pub is_any : Kept → Bool
is_any k = true

abbrev pub all_of : List Kept → List Exchange
all_of ks = in_order is_any ks
