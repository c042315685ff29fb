-- A whole push in a world: eight deliveries complete it, whatever hostile parties did before.
use Rattle.std.specs.Prelude.{◌≡◌, ℕ, Bool, List, Some, slice_get}
use Rattle.bar_window.specs.declared.exchange.Exchange.{Exchange}
use Rattle.bar_window.specs.declared.update.UpdateId.{UpdateId}
use Rattle.bar_window.specs.Terms.{Terms}
use Rattle.bar_wire.specs.Datagram.{Datagram}
use Rattle.bar_rules.specs.Peer.Log.{Log}
use Rattle.bar_rules.specs.World.World.{Move, Setup}
use Rattle.bar_laws.specs.Parties.{after}
use Rattle.bar_progress.specs.Pushing.{CanPush, offer_terms_then, push}
use Rattle.bar_progress.specs.Trades.{HaveTraded, IsUnderWay, delivering, pair_in, talk_in}

-- The QUERY of a push is on its way between two trusted peers that can push to each other.
pub record BeginsPush (setup : Setup) (trusted : ℕ → Bool) (moves : List Move) (query a b round : ℕ)
    (young aged : List UpdateId) : Type 0 where
  pub way : IsUnderWay setup trusted moves query a b
  pub can : CanPush (pair_in setup a b round) (talk_in setup a b way.mine way.theirs way.d) young aged

-- the QUERY is delivered, and then the seven that are sent for it
abbrev pub pushing : Setup → List Move → ℕ → List Move
pushing setup moves query = delivering setup moves query 7

-- the exchange of the pair, and the terms that both then have
abbrev pub push_in : Setup → ℕ → ℕ → ℕ → Exchange
push_in setup a b round = push (pair_in setup a b round)

abbrev pub offered : Setup → ℕ → ℕ → ℕ → Log → Log → Datagram → List UpdateId → List UpdateId → Terms
offered setup a b round mine theirs d young aged = offer_terms_then (pair_in setup a b round) (talk_in setup a b mine theirs d) young aged

abbrev pub PushesComplete : Type 0
PushesComplete =
    (setup : Setup) (trusted : ℕ → Bool) (moves : List Move) (query a b round : ℕ) (young aged : List UpdateId)
    (mine theirs : Log) → (t : BeginsPush setup trusted moves query a b round young aged)
    → slice_get (after setup (pushing setup moves query)).logs a ≡ Some mine
    → slice_get (after setup (pushing setup moves query)).logs b ≡ Some theirs
    → HaveTraded setup (push_in setup a b round) (offered setup a b round t.way.mine t.way.theirs t.way.d young aged) mine theirs
