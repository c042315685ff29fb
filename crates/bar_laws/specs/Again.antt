-- A briefcase is sent again, tick by tick, until it is known to have arrived.
use Rattle.std.specs.Prelude.{◌≡◌, ℕ, ◌+◌, ◌<◌, ◌≤◌, ◌&&◌, not, Contains, nat_le, Bool, true, false, List, [], ◌∷◌, ◌++◌, Some, if◌then◌else◌}
use Rattle.std.specs.List.{AllByRecursion}
use Rattle.bar_window.specs.Exchange.{other_role}
use Rattle.bar_window.specs.declared.exchange.Exchange.{Exchange}
use Rattle.bar_window.specs.declared.exchange.Role.{Role}
use Rattle.bar_window.specs.declared.exchange.Role.TheVariants.{Initiator, Responder}
use Rattle.bar_window.specs.declared.exchange.XKind.{XKind}
use Rattle.bar_window.specs.declared.exchange.XKind.TheVariants.{Balanced, Push}
use Rattle.bar_window.specs.declared.update.UpdateId.{UpdateId}
use Rattle.bar_wire.specs.Datagram.{Datagram, Divulge, KeyReq, is_of}
use Rattle.bar_wire.specs.Grammar.{is_third}
use Rattle.bar_wire.specs.Inputs as event
use Rattle.bar_wire.specs.declared.kind.Kind.TheVariants as kinds
use Rattle.bar_session.specs.Time.{last_tick}
use Rattle.bar_rules.specs.Member.{Member}
use Rattle.bar_rules.specs.Peer.Exchanges.{role_of, partner_in}
use Rattle.bar_rules.specs.Peer.Knowledge.{Knowledge, known, this_round, has_heard_of, has_said_of}
use Rattle.bar_rules.specs.Peer.Log.{Log, Ticked, Heard, has_heard, round_now, ticks}
use Rattle.bar_rules.specs.Peer.Machine.{message_to}
use Rattle.bar_rules.specs.Peer.Run.{step, sends_of}
use Rattle.bar_rules.specs.Values.{unsigned}
use Rattle.bar_rules.specs.World.World.{Move, Setup, member}
use Rattle.bar_laws.specs.Always.{InEachPeersLog}
use Rattle.bar_laws.specs.OwnRuns.{inputs_of}
use Rattle.bar_laws.specs.Parties.{ForgesNothing, IsTrustedPeer, after}

-- ---- which briefcases

-- At a tick of a session of version 3, this CASE of the exchange was said, and its partner isn't announced evicted.
pub record IsSaidCase (me : Member) (log : Log) (x : Exchange) (d : Datagram) : Type 0 where
  pub third : is_third me.session.shape ≡ true
  pub in_time : ticks log < last_tick me.session
  pub said : (known me log).said kinds.Case x (role_of me x) ≡ Some d
  pub present : (known me log).is_announced (partner_in me x) ≡ false

abbrev pub has_partners_case : Member → Knowledge → Exchange → Bool
has_partners_case me k x = has_heard_of k kinds.Case x (other_role (role_of me x))

-- CASEs of its round are still admitted, and no KEY of it is said or heard
abbrev pub is_waiting : Member → Knowledge → Exchange → Bool
is_waiting me k x =
    nat_le (this_round k) (x.round + 2)
    && not (has_said_of k kinds.Key x (role_of me x))
    && not (has_heard_of k kinds.Key x (other_role (role_of me x)))

-- ---- what is sent beside them

-- a balanced initiator that hasn't heard the partner's CASE
abbrev pub divulges_by : XKind → Role → Bool → Bool
divulges_by Balanced Initiator heard = not heard
divulges_by Balanced Responder heard = false
divulges_by Push role heard = false

abbrev pub divulges : Member → Knowledge → Exchange → Bool
divulges me k x = divulges_by x.kind (role_of me x) (has_partners_case me k x)

-- the DIVULGE of the exchange to the partner, revealing what the exchange was begun with
abbrev pub divulge_of : Member → Exchange → List ℕ × List UpdateId → ℕ × Datagram
divulge_of me x a = (partner_in me x, unsigned (message_to me x (Divulge x.round a.0 a.1)))

-- the DIVULGE is sent if and only if the member is such an initiator
pub record IsDivulged (me : Member) (k : Knowledge) (x : Exchange) (front : List (ℕ × Datagram)) : Type 0 where
  pub sent :
      divulges me k x ≡ true → (a : List ℕ × List UpdateId) × (k.revealed x ≡ Some a) × (front ≡ divulge_of me x a ∷ [])
  pub none : divulges me k x ≡ false → front ≡ []

-- the KEYREQ of the exchange to the partner, if the partner's CASE is heard
abbrev pub key_requests : Member → Knowledge → Exchange → List (ℕ × Datagram)
key_requests me k x =
    if has_partners_case me k x
    then (partner_in me x, unsigned (message_to me x (KeyReq x.round x.kind (role_of me x)))) ∷ []
    else []

-- a datagram that is no CASE of the exchange
abbrev pub IsNoCase : Exchange → ℕ × Datagram → Type 0
IsNoCase x send = (role : Role) → is_of kinds.Case x role send.1.message ≡ false

-- The tick sends this CASE once, to the partner. Directly before it is the DIVULGE of such an initiator, and directly after it the KEYREQ
-- of a member that has the partner's CASE.
pub record SendsCase (me : Member) (log : Log) (x : Exchange) (d : Datagram) : Type 0 where
  pub before : List (ℕ × Datagram)
  pub front : List (ℕ × Datagram)
  pub after : List (ℕ × Datagram)
  pub sends :
      (step me log event.Tick).sends
      ≡ before ++ ((front ++ (partner_in me x, d) ∷ key_requests me (known me (Ticked ∷ log)) x) ++ after)
  pub divulged : IsDivulged me (known me (Ticked ∷ log)) x front
  pub none_before : AllByRecursion (IsNoCase x) before
  pub none_after : AllByRecursion (IsNoCase x) after

-- ---- all of them

-- In the round after the tick, each CASE that was said is sent if it waits. If it doesn't wait, no CASE of its exchange is sent.
pub record SaysCasesAgain (me : Member) (log : Log) : Type 0 where
  pub said :
      (x : Exchange) (d : Datagram) → IsSaidCase me log x d → is_waiting me (known me (Ticked ∷ log)) x ≡ true → SendsCase me log x d
  pub not_said :
      (x : Exchange) (d : Datagram) → IsSaidCase me log x d → is_waiting me (known me (Ticked ∷ log)) x ≡ false
      → AllByRecursion (IsNoCase x) (step me log event.Tick).sends

-- for every list of inputs
abbrev pub BriefcasesAreSaidAgain : Type 0
BriefcasesAreSaidAgain = InEachPeersLog SaysCasesAgain

-- ---- between two trusted peers

-- each admitted KEYREQ of an exchange is one that its partner has sent
abbrev pub AsksItself : Setup → List Move → Member → Log → Exchange → Type 0
AsksItself setup moves me log x =
    (d : Datagram) → Contains log (Heard d) → is_of kinds.KeyReq x (other_role (role_of me x)) d.message ≡ true
    → (send : ℕ × ℕ × Datagram)
    × Contains (sends_of (member setup (partner_in me x)) (inputs_of setup moves (partner_in me x))) send × (send.2 ≡ d)

-- A trusted peer has said this CASE to a trusted partner, which hasn't admitted it, and nobody else has asked for the KEY in the partner's
-- name.
pub record IsMissing (setup : Setup) (trusted : ℕ → Bool) (moves : List Move) (peer : ℕ) (log : Log) (x : Exchange) (d : Datagram) :
    Type 0 where
  pub this : IsTrustedPeer trusted (after setup moves) peer log
  pub said : (known (member setup peer) log).said kinds.Case x (role_of (member setup peer) x) ≡ Some d
  pub theirs : Log
  pub partner : IsTrustedPeer trusted (after setup moves) (partner_in (member setup peer) x) theirs
  pub missing : has_heard (is_of kinds.Case x (role_of (member setup peer) x)) theirs ≡ false
  pub asked : AsksItself setup moves (member setup peer) log x

-- In version 3 each tick up to two rounds after the exchange's sends the CASE again.
abbrev pub MissingAreSaidAgain : Type 0
MissingAreSaidAgain =
    (setup : Setup) (trusted : ℕ → Bool) (moves : List Move) → ForgesNothing setup trusted moves
    → (peer : ℕ) (log : Log) (x : Exchange) (d : Datagram) → IsMissing setup trusted moves peer log x d
    → is_third setup.session.shape ≡ true → ticks log < last_tick setup.session → round_now (Ticked ∷ log) ≤ x.round + 2
    → SendsCase (member setup peer) log x d
