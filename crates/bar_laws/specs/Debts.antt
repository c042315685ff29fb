-- Debts in plain terms: a party that owes a key isn't served.
use Rattle.std.specs.Prelude.{◌≡◌, ◌⊎◌, ℕ, ◌+◌, ◌*◌, ◌<◌, ◌≤◌, ◌==◌, ◌&&◌, nat_le, nat_lt, Bool, true, false, List, [], ◌∷◌, ◌++◌, length, Contains}
use Rattle.std.specs.List.{AllByRecursion, IsDistinct, list_all, sum_by}
use Rattle.bar_window.specs.Exchange.{other_role, same_exchange}
use Rattle.bar_window.specs.declared.exchange.Exchange.{Exchange}
use Rattle.bar_wire.specs.Datagram.{Datagram, Body, Request, Query, is_of}
use Rattle.bar_wire.specs.Grammar.{is_third}
use Rattle.bar_wire.specs.Inputs.{Input}
use Rattle.bar_wire.specs.Inputs as event
use Rattle.bar_wire.specs.declared.kind.Kind.TheVariants as kinds
use Rattle.bar_rules.specs.Member.{Member}
use Rattle.bar_rules.specs.Peer.Admission.{is_admitted}
use Rattle.bar_rules.specs.Peer.Debts.{owes}
use Rattle.bar_rules.specs.Peer.Exchanges.{role_of, partner_in}
use Rattle.bar_rules.specs.Peer.Knowledge.{known}
use Rattle.bar_rules.specs.Peer.Log.{Log, Entry, Ticked, Heard, Said, Kept, round_now}
use Rattle.bar_rules.specs.Peer.Run.{step, log_after}
use Rattle.bar_laws.specs.Always.{OfEachPeer}
use Rattle.bar_laws.specs.Balance.{totals_of}
use Rattle.bar_laws.specs.Rooms.{is_kept}

-- ---- what a debt is

-- no KEY of the other side of an exchange was admitted
abbrev pub IsUnpaid : Member → Log → Exchange → Type 0
IsUnpaid me log x = (d : Datagram) → Contains log (Heard d) → is_of kinds.Key x (other_role (role_of me x)) d.message ≡ false

-- In a session of version 3, this member has said its KEY of an exchange with the party, and none of the party's was admitted. The round is
-- at least two after the exchange's, and KEYs of the exchange are still admitted in it.
pub record IsDebt (me : Member) (log : Log) (party : ℕ) : Type 0 where
  pub third : is_third me.session.shape ≡ true
  pub exchange : Exchange
  pub partner : partner_in me exchange ≡ party
  pub from : exchange.round + 2 ≤ round_now log
  pub to : round_now log ≤ exchange.round + me.session.shape.life
  pub key : Datagram
  pub said : Contains log (Said key)
  pub mine : is_of kinds.Key exchange (role_of me exchange) key.message ≡ true
  pub unpaid : IsUnpaid me log exchange

-- the rules find a debt in a log if and only if there is one
pub record ReadsDebts (me : Member) (log : Log) (party : ℕ) : Type 0 where
  pub read : owes me (known me log) party ≡ true → IsDebt me log party
  pub there : IsDebt me log party → owes me (known me log) party ≡ true

-- for every log
abbrev pub DebtsAreRead : Type 0
DebtsAreRead = (me : Member) (log : Log) (party : ℕ) → ReadsDebts me log party

-- ---- a debtor isn't served

-- a REQUEST or a QUERY, with which an exchange begins
abbrev pub begins : Body → Bool
begins (Request round seed commitment) = true
begins (Query round seed young aged) = true
begins _ = false

-- an exchange with the party begins: its REQUEST or QUERY is admitted, or one to it is said
abbrev pub BeginsWith : ℕ → Entry → Type 0
BeginsWith party (Heard d) = (begins d.message.body ≡ true) × (d.message.from ≡ party)
BeginsWith party (Said d) = (begins d.message.body ≡ true) × (d.message.to ≡ party)
BeginsWith party Ticked = ⊥
BeginsWith party (Kept q evidence) = ⊥

-- This member said its KEY of an exchange, and no KEY of the other side was ever admitted.
pub record IsNeverPaid (me : Member) (log : Log) (x : Exchange) : Type 0 where
  pub third : is_third me.session.shape ≡ true
  pub later : Log
  pub key : Datagram
  pub earlier : Log
  pub split : log ≡ later ++ Said key ∷ earlier
  pub mine : is_of kinds.Key x (role_of me x) key.message ≡ true
  pub unpaid : IsUnpaid me log x

-- the exchange was begun with a party, and its round is this one or a later one, within the life of an update
abbrev pub is_begun_with : Member → Log → ℕ → ℕ → Exchange → Bool
is_begun_with me log party round y =
    (partner_in me y == party) && (nat_le round y.round && nat_lt y.round (round + me.session.shape.life)) && is_kept me (known me log) y

-- for each of the two kinds: two exchanges that this member asked for, and three that the party asked for
abbrev pub most_with_debtor : ℕ
most_with_debtor = 2 * (2 + 3)

-- Distinct exchanges of this sort are few, and so is what is opened in them.
pub record IsFew (me : Member) (inputs : List Input) (xs : List Exchange) : Type 0 where
  pub exchanges : length xs ≤ most_with_debtor
  pub opened : sum_by (λ y. (totals_of me inputs y).opened) xs ≤ most_with_debtor * me.session.cap

-- No REQUEST or QUERY is admitted from a party that owes a key, and a tick sends it none but those that were said before. So no exchange
-- with it begins between the KEY of an exchange that is never paid and the last round in which it may be paid. If that KEY was said at most
-- one round after the exchange's, few exchanges with the party are of the rounds, from the exchange's on, in which an update of it lives.
pub record ServesNoDebtor (me : Member) (inputs : List Input) : Type 0 where
  pub admits :
      (d : Datagram) → begins d.message.body ≡ true → owes me (known me (log_after me [] inputs)) d.message.from ≡ true
      → is_admitted me (known me (log_after me [] inputs)) d ≡ false
  pub sends :
      (party : ℕ) → owes me (known me (Ticked ∷ log_after me [] inputs)) party ≡ true
      → AllByRecursion (λ send. send.0 ≡ party → begins send.1.message.body ≡ true → Contains (log_after me [] inputs) (Said send.1))
      (step me (log_after me [] inputs) event.Tick).sends
  pub begun :
      (later before : Log) (e : Entry) (party : ℕ) → log_after me [] inputs ≡ later ++ e ∷ before → BeginsWith party e
      → owes me (known me before) party ≡ false
  pub none_after :
      (x : Exchange) (w : IsNeverPaid me (log_after me [] inputs) x) (new between : Log) (e : Entry)
      → w.later ≡ new ++ e ∷ between → BeginsWith (partner_in me x) e
      → (round_now (between ++ Said w.key ∷ w.earlier) < x.round + 2)
      ⊎ (x.round + me.session.shape.life < round_now (between ++ Said w.key ∷ w.earlier))
  pub few :
      (x : Exchange) (w : IsNeverPaid me (log_after me [] inputs) x) → round_now w.earlier ≤ x.round + 1
      → (xs : List Exchange) → IsDistinct same_exchange xs
      → list_all (is_begun_with me (log_after me [] inputs) (partner_in me x) x.round) xs ≡ true → IsFew me inputs xs

-- for every list of inputs
abbrev pub WhoOwesIsNotServed : Type 0
WhoOwesIsNotServed = OfEachPeer ServesNoDebtor
