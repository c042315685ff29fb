-- A balanced exchange continues, whatever moves occur between its deliveries.
use Rattle.std.specs.Prelude.{◌≡◌, ℕ, ◌<◌, Bool, true, List, [], ◌∷◌, ◌++◌, Some, slice_get}
use Rattle.bar_session.specs.Time.{last_tick}
use Rattle.bar_window.specs.Exchange.{other_role, party_on}
use Rattle.bar_window.specs.Terms.{Terms}
use Rattle.bar_window.specs.declared.exchange.Exchange.{Exchange}
use Rattle.bar_window.specs.declared.exchange.Role.{Role}
use Rattle.bar_window.specs.declared.exchange.Role.TheVariants.{Initiator, Responder}
use Rattle.bar_window.specs.declared.update.UpdateId.{UpdateId}
use Rattle.bar_wire.specs.Datagram.{Datagram, is_of}
use Rattle.bar_wire.specs.Inputs as event
use Rattle.bar_wire.specs.declared.kind.Kind.{Kind}
use Rattle.bar_wire.specs.declared.kind.Kind.TheVariants.{Response, Divulge, Case, KeyReq, Key}
use Rattle.bar_rules.specs.Peer.Exchanges.{revealed}
use Rattle.bar_rules.specs.Peer.Knowledge.{is_in_time, known}
use Rattle.bar_rules.specs.Peer.Log.{Log, ticks}
use Rattle.bar_rules.specs.Values.{datagram_bytes, datagram_of}
use Rattle.bar_rules.specs.World.World.{Deliver, Move, Setup, member}
use Rattle.bar_laws.specs.OwnRuns.{input_at}
use Rattle.bar_laws.specs.Parties.{ForgesNothing, after}
use Rattle.bar_progress.specs.Trades.{BeginsTrade, HaveTraded, agreed, and_deliver, pair_in, trade_in}
use Rattle.bar_progress.specs.Trading.{trade}

-- a datagram of an exchange, by its kind and the side that sends it
abbrev pub Part : Type 0
Part = Kind × Role

-- what follows the REQUEST of a balanced exchange, in order
abbrev pub parts : List Part
parts =
    (Response, Responder) ∷ (Divulge, Initiator) ∷ (Case, Initiator) ∷ (Case, Responder) ∷ (KeyReq, Responder) ∷ (KeyReq, Initiator)
    ∷ (Key, Initiator) ∷ (Key, Responder) ∷ []

abbrev pub receiver : Exchange → Part → ℕ
receiver x part = party_on x (other_role part.1)

-- Such a datagram was sent to the other side: it is a packet of the pool.
pub record IsSent (setup : Setup) (moves : List Move) (x : Exchange) (part : Part) : Type 0 where
  pub d : Datagram
  pub number : ℕ
  pub packet : slice_get (after setup moves).packets number ≡ Some (receiver x part, datagram_bytes setup.session d)
  pub reads : datagram_of setup.session (datagram_bytes setup.session d) ≡ Some d
  pub of : is_of part.0 x part.1 d.message ≡ true

-- a delivery of the packet gives the receiver its bytes
abbrev pub PacketsAreGiven : Type 0
PacketsAreGiven =
    (setup : Setup) (moves : List Move) (x : Exchange) (part : Part) → (sent : IsSent setup moves x part)
    → input_at (after setup moves) (receiver x part) (Deliver sent.number) ≡ event.Datagram (datagram_bytes setup.session sent.d) ∷ []

-- The move gives a peer the bytes of a datagram, by a delivery or from any party that has them. The peer takes it in time: before its last
-- tick, and within the deadline of its kind. Before a DIVULGE, nobody has revealed to the peer another nonce or history than those that the
-- REQUEST commits to, which would need two openings of one commitment.
pub record IsTaken (setup : Setup) (moves : List Move) (move : Move) (peer : ℕ) (d : Datagram) (x : Exchange) (kind : Kind)
    (commits : List ℕ × List UpdateId) : Type 0 where
  pub brings : input_at (after setup moves) peer move ≡ event.Datagram (datagram_bytes setup.session d) ∷ []
  pub log : Log
  pub log_is : slice_get (after setup moves).logs peer ≡ Some log
  pub going : ticks log < last_tick setup.session
  pub in_time : is_in_time setup.session (known (member setup peer) log) kind x.round ≡ true
  pub bound : kind ≡ Divulge → (a : List ℕ × List UpdateId) → revealed (member setup peer) log x ≡ Some a → a ≡ commits

-- Whatever unforged moves occur in between, the next of these parts has been sent. Once the receiver takes it in time, the same holds for
-- the parts that follow. After the last part this end is reached.
abbrev pub GoesOn : Setup → (ℕ → Bool) → Exchange → List ℕ × List UpdateId → (List Move → Type 0) → List Part → List Move → Type 0
GoesOn setup trusted x commits Ends [] moves = Ends moves
GoesOn setup trusted x commits Ends (part ∷ rest) moves =
    (between : List Move) → ForgesNothing setup trusted (moves ++ between)
    → (sent : IsSent setup (moves ++ between) x part)
    × ((move : Move) → IsTaken setup (moves ++ between) move (receiver x part) sent.d x part.0 commits
    → GoesOn setup trusted x commits Ends rest ((moves ++ between) ++ move ∷ []))

-- Both have traded, whatever moves follow; later forgeries make no difference.
abbrev pub HaveTradedForGood : Setup → (ℕ → Bool) → ℕ → ℕ → ℕ → Terms → List Move → Type 0
HaveTradedForGood setup trusted a b round terms moves =
    ForgesNothing setup trusted moves → (later : List Move) (mine theirs : Log) → slice_get (after setup (moves ++ later)).logs a ≡ Some mine
    → slice_get (after setup (moves ++ later)).logs b ≡ Some theirs → HaveTraded setup (trade_in setup a b round) terms mine theirs

-- If two trusted peers can trade, and the REQUEST is delivered, then the exchange continues to its end.
abbrev pub TradesGoOn : Type 0
TradesGoOn =
    (setup : Setup) (trusted : ℕ → Bool) (moves : List Move) (request a b round : ℕ) (nonce : List ℕ) (ha : List UpdateId)
    → (t : BeginsTrade setup trusted moves request a b round nonce ha)
    → GoesOn setup trusted (trade (pair_in setup a b round)) (nonce, ha)
    (HaveTradedForGood setup trusted a b round (agreed setup a b round t.way.mine t.way.theirs t.way.d nonce ha)) parts (and_deliver moves request)
