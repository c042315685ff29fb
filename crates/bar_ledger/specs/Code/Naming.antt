-- The leaves that the signatures of heard datagrams name.
use Rattle.std.specs.Prelude.{ℕ, ◌-◌, ◌==◌, ◌&&◌, ◌||◌, not, nat_le, Bool, false, List, length, drop}
use Rattle.std.specs.Option.{option_map_or}
use Rattle.bar_window.specs.declared.exchange.Exchange.{Exchange}
use Rattle.bar_window.specs.Exchange.{same_exchange}
use Rattle.bar_ledger.specs.Code.Kept.{Kept}

-- whether the signature at the end of a datagram, of `len` bytes, names a leaf
abbrev pub names : (List ℕ → ℕ) → ℕ → ℕ → List ℕ → Bool
names named len leaf bytes = nat_le len (length bytes) && (named (drop (length bytes - len) bytes) == leaf)

-- whether the signature of a signed datagram that was heard in an exchange names a leaf
abbrev pub any_names : (List ℕ → ℕ) → ℕ → ℕ → Kept → Bool
any_names named len leaf k =
    option_map_or (names named len leaf) k.first false
    || option_map_or (names named len leaf) k.case false
    || option_map_or (names named len leaf) k.key false

-- whether `y` is another exchange than `x`, and with a party
abbrev pub is_beside : Exchange → ℕ → Exchange → Bool
is_beside x party y = not (same_exchange x y) && ((y.initiator == party) || (y.responder == party))

abbrev pub shares_leaf : (List ℕ → ℕ) → ℕ → ℕ → Exchange → ℕ → Kept → Bool
shares_leaf named len leaf x party k = is_beside x party k.entry.x && any_names named len leaf k
