-- A round's request is made, and its partner admits it.
use Rattle.std.specs.Prelude.{◌≡◌, ℕ, ◌+◌, ◌<◌, ◌≤◌, true, false, List, ◌∷◌, Some, Contains, slice_get}
use Rattle.bar_window.specs.declared.exchange.Role.TheVariants.{Initiator}
use Rattle.bar_window.specs.declared.exchange.XKind.TheVariants.{Balanced}
use Rattle.bar_wire.specs.Datagram.{Datagram, Request, exchange_by}
use Rattle.bar_wire.specs.Grammar.{IsPeer}
use Rattle.bar_wire.specs.Inputs as event
use Rattle.bar_wire.specs.Limits.{seats_a_round}
use Rattle.bar_wire.specs.declared.kind.Kind.TheVariants as kinds
use Rattle.bar_rules.specs.Member.{Member}
use Rattle.bar_rules.specs.Secrets.{partner_of, seed_of}
use Rattle.bar_rules.specs.Peer.Admission.{is_admitted}
use Rattle.bar_rules.specs.Peer.Debts.{owes}
use Rattle.bar_rules.specs.Peer.Knowledge.{has_heard_of, is_in_time, known}
use Rattle.bar_rules.specs.Peer.Log.{Log, Said, Ticked, is_announced, round_now}
use Rattle.bar_rules.specs.Peer.Run.{Out, step}
use Rattle.bar_rules.specs.World.World.{IsSetup, Move, Setup, member}
use Rattle.bar_laws.specs.Parties.{after}
use Rattle.bar_progress.specs.Rounds.{IsRoundDue}

-- ---- at a tick

-- the partner that the round's seed chooses for a balanced exchange
abbrev pub partner_then : Member → ℕ → ℕ
partner_then me round = partner_of me.session (seed_of me round) Balanced me.party

-- A REQUEST of the round is signed, and is sent to the partner.
pub record MakesRequest (out : Out) (partner round : ℕ) : Type 0 where
  pub request : Datagram
  pub seed : List ℕ
  pub commitment : List ℕ
  pub body : request.message.body ≡ Request round seed commitment
  pub said : Contains out.state (Said request)
  pub sent : Contains out.sends (partner, request)

-- this occurs at the first slot of each round, unless the partner is announced evicted or owes a key in this round
abbrev pub RequestsAreMade : Type 0
RequestsAreMade =
    (me : Member) (log : Log) (round : ℕ) → IsRoundDue me log round → is_announced log (partner_then me round) ≡ false
    → owes me (known me (Ticked ∷ log)) (partner_then me round) ≡ false
    → MakesRequest (step me log event.Tick) (partner_then me round) round

-- ---- at its partner

-- A peer of a world has signed a REQUEST to another party, whatever is forged.
pub record IsRequested (setup : Setup) (moves : List Move) (from to round : ℕ) (request : Datagram) : Type 0 where
  pub setup_is : IsSetup setup
  pub asker : IsPeer setup.session.shape from
  pub log : Log
  pub log_is : slice_get (after setup moves).logs from ≡ Some log
  pub said : Contains log (Said request)
  pub seed : List ℕ
  pub commitment : List ℕ
  pub body : request.message.body ≡ Request round seed commitment
  pub receiver : request.message.to ≡ to

-- A peer hasn't announced the asker evicted and is owed no key by it, has admitted no REQUEST from it in the round, has a seat left, and is
-- in time.
pub record CanSeat (me : Member) (log : Log) (from round : ℕ) : Type 0 where
  pub trading : is_announced log from ≡ false
  pub unowed : owes me (known me log) from ≡ false
  pub first : has_heard_of (known me log) kinds.Request (exchange_by round Balanced Initiator from me.party) Initiator ≡ false
  pub seats : (known me log).asked Balanced round < seats_a_round
  pub early : round ≤ round_now log + 1
  pub in_time : is_in_time me.session (known me log) kinds.Request round ≡ true

-- then it admits the REQUEST
abbrev pub RequestsAreAdmitted : Type 0
RequestsAreAdmitted =
    (setup : Setup) (moves : List Move) (from to round : ℕ) (request : Datagram) (log : Log)
    → IsRequested setup moves from to round request → CanSeat (member setup to) log from round
    → is_admitted (member setup to) (known (member setup to) log) request ≡ true
