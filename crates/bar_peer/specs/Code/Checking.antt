-- The guard of a peer, and how a datagram changes it: the memo of checked datagrams, and the kept seeds of peers.
use Rattle.std.specs.Prelude.{◌≡◌, ℕ, ◌⊎◌, ◌+◌, ◌*◌, ◌&&◌, ◌≤◌, Bool, true, false, not, List, [], Option, Some, None, is_some, nat_le, slice_get, option_and_then}
use Rattle.std.specs.Option.{option_map_or}
use Rattle.bar_seeds.specs.Code.Checkpoints.{kept_round, MovesOn}
use Rattle.bar_seeds.specs.declared.checkpoints.Checkpoints.{Checkpoints}
use Rattle.bar_wire.specs.Bodies.{choice_in, choice_round}
use Rattle.bar_wire.specs.Datagram.{Datagram, is_signed, round_of}
use Rattle.bar_wire.specs.Inputs.{Input}
use Rattle.bar_wire.specs.Inputs as event
use Rattle.bar_session.specs.Points.{AreSeeds}
use Rattle.bar_session.specs.SessionData.{SessionData}
use Rattle.bar_session.specs.Time.{last_tick}
use Rattle.bar_rules.specs.Member.{Member, key_of_party}
use Rattle.bar_rules.specs.Values.{datagram_of}
use Rattle.bar_rules.specs.Verifiers.{IsVerifierOf, NamesLeavesOf}
use Rattle.bar_rules.specs.Peer.Admission.{is_admitted}
use Rattle.bar_rules.specs.Peer.Knowledge.{Knowledge, known}
use Rattle.bar_rules.specs.Peer.Log.{Log}
use Rattle.bar_rules.specs.Peer.Rules.{IsObedient}
use Rattle.bar_rules.specs.Peer.Run.{log_after}
use Rattle.bar_seal.specs.Code.Memo.{Pair, Memo, has_pair, with_pair}
use Rattle.bar_seal.specs.declared.scheme.Verifier.{Ghosts}
use Rattle.bar_peer.specs.declared.arrival.Arrival.{Arrival}
use Rattle.bar_peer.specs.declared.credentials.Credentials.{Credentials}
use Rattle.bar_peer.specs.declared.guard.Guard.{Guard}
use Rattle.bar_peer.specs.declared.memory.Memory.{Memory}
use Rattle.bar_peer.specs.Code.Arrivals.{datagram_by}
use Rattle.bar_peer.specs.Code.Memory.{Represents, member_of}
use Rattle.bar_peer.specs.Code.StandsFor.{Inputs, StandsFor}

-- The guard of a peer of a session. It accepts signatures and names leaves as the session's scheme does, and each seed that it keeps is the
-- seed of its peer.
pub record IsGuardOf {V : Type 0} {g : Ghosts V} (s : SessionData) (guard : Guard V g) : Type 0 where
  pub verifies : IsVerifierOf s (g.is_accepted guard.checker.verifier)
  pub names : NamesLeavesOf s (g.leaf_named guard.checker.verifier) (g.signature_len guard.checker.verifier)
  pub seeds : AreSeeds s guard.points

-- ---- the datagram of an input, if it is one and decodes

abbrev pub datagram_in : SessionData → Input → Option Datagram
datagram_in s event.Tick = None
datagram_in s (event.Datagram bytes) = datagram_of s bytes

abbrev pub bytes_in : Input → List ℕ
bytes_in event.Tick = []
bytes_in (event.Datagram bytes) = bytes

-- its sender, and the pair that is checked: the sender's key in the session, and the bytes
abbrev pub sender_in : SessionData → Input → ℕ
sender_in s input = option_map_or (λ d. d.message.from) (datagram_in s input) 0

abbrev pub checked_in : SessionData → Input → Pair
checked_in s input = (key_of_party s (sender_in s input), bytes_in input)

-- its round, and the round of the seed in a REQUEST or a QUERY; 0 if there is none
abbrev pub round_in : SessionData → Input → ℕ
round_in s input = option_map_or (λ d. round_of d.message.body) (datagram_in s input) 0

abbrev pub choice_round_in : SessionData → Input → ℕ
choice_round_in s input = option_map_or (λ d. choice_round d.message.body) (datagram_in s input) 0

abbrev pub shows_seed : SessionData → Input → Bool
shows_seed s input = is_some (option_and_then (λ d. choice_in d.message.body) (datagram_in s input))

-- whether it has a signature
abbrev pub is_signed_in : SessionData → Input → Bool
is_signed_in s input = option_map_or (λ d. is_signed d.message.body) (datagram_in s input) false

-- whether a peer with this knowledge admits it
abbrev pub admits : Member → Knowledge → Input → Bool
admits me k input = option_map_or (is_admitted me k) (datagram_in me.session input) false

-- ---- what a datagram gives a guard to check

-- The pair that is checked: the sender's key in the session, and the bytes. Further the sender; the round of the seed in a REQUEST or a
-- QUERY, else 0; and whether the datagram has a signature.
pub record Shown : Type 0 where
  pub pair : Pair
  pub sender : ℕ
  pub round : ℕ
  pub is_signed : Bool

-- this, for bytes that encode a datagram, or that don't decode
abbrev pub shown : SessionData → List ℕ → Option Datagram → Shown
shown s bytes o = record {
  pair = (key_of_party s (option_map_or (λ d. d.message.from) o 0), bytes);
  sender = option_map_or (λ d. d.message.from) o 0;
  round = option_map_or (λ d. choice_round d.message.body) o 0;
  is_signed = option_map_or (λ d. is_signed d.message.body) o false;
}

abbrev pub shown_by : Credentials → Arrival → Shown
shown_by who a = shown who.session a.bytes.now (Some (datagram_by who a))

abbrev pub shown_in : SessionData → Input → Shown
shown_in s input = shown s (bytes_in input) (datagram_in s input)

-- ---- how it changes a guard

-- The memo is unchanged, or is the one after a check of this pair.
abbrev pub IsCheckedOnce : Pair → Memo → Memo → Type 0
IsCheckedOnce p old new = (new ≡ old) ⊎ (new ≡ with_pair p old)

-- Kept seeds advance for the sender alone, at most to the round of the seed in the datagram. Each round of the way takes at most one step.
pub record FollowsSeed (s : SessionData) (d : Shown) (old new : Checkpoints) (before after : ℕ) : Type 0 where
  pub seeds : AreSeeds s new
  pub moves : MovesOn d.sender old new
  pub most : after ≤ before + d.round

-- No signature is verified.
pub record ChecksSeed {V : Type 0} {g : Ghosts V} (s : SessionData) (d : Shown) (old new : Guard V g) (before after : ℕ) : Type 0 where
  pub checker : new.checker ≡ old.checker
  pub follows : FollowsSeed s d old.points new.points before after

-- The result is a guard with the same verifier. The memo is unchanged, or is the one after one check; kept seeds advance for the sender
-- alone. The cost is at most one verification, or none if the datagram is remembered, and `ways` times the steps along the seeds.
pub record Checks {V : Type 0} {g : Ghosts V} (s : SessionData) (d : Shown) (ways : ℕ) (old new : Guard V g) (before after : ℕ) : Type 0 where
  pub guards : IsGuardOf s new
  pub verifier : new.checker.verifier ≡ old.checker.verifier
  pub memo : IsCheckedOnce d.pair old.checker.memo new.checker.memo
  pub moves : MovesOn d.sender old.points new.points
  pub most : after ≤ before + (g.most_steps old.checker.verifier + ways * d.round)
  pub remembered : has_pair d.pair old.checker.memo.pairs ≡ true → after ≤ before + ways * d.round

-- How an admitted datagram is remembered. If it is signed, it was checked; if it is a REQUEST or a QUERY, the sender's kept seed is of its
-- round or a later one.
pub record Remembers {V : Type 0} {g : Ghosts V} (d : Shown) (old new : Guard V g) : Type 0 where
  pub first : d.is_signed ≡ true → new.checker.memo ≡ with_pair d.pair old.checker.memo
  pub reached : d.round ≤ kept_round new.points d.sender

-- this holds if a peer admits the datagram that the bytes encode
abbrev pub RemembersAdmitted : {V : Type 0} {g : Ghosts V} → Memory → List ℕ → Option Datagram → Guard V g → Guard V g → Type 0
RemembersAdmitted m bytes o old new =
    (log : Log) → IsObedient (member_of m.who) log → Represents log m
    → option_map_or (is_admitted (member_of m.who) (known (member_of m.who) log)) o false ≡ true
    → Remembers (shown m.who.session bytes o) old new

-- ---- for an input

-- whether a peer that has this memory after these inputs admits the next one, before its last tick
abbrev pub admits_next : Memory → Inputs → Input → Bool
admits_next m inputs input =
    not (nat_le (last_tick m.who.session) m.ticks)
    && admits (member_of m.who) (known (member_of m.who) (log_after (member_of m.who) [] inputs)) input

-- after a step admits a signed datagram, it is the first one in the memo
abbrev pub StandsFirst : Memory → Input → Memo → Type 0
StandsFirst m input memo =
    (inputs : Inputs) → StandsFor m inputs → admits_next m inputs input ≡ true → is_signed_in m.who.session input ≡ true
    → slice_get memo.pairs 0 ≡ Some (checked_in m.who.session input)

-- and the sender's kept seed is of the round of the shown seed or a later one
abbrev pub IsSeedKept : Memory → Input → Checkpoints → Type 0
IsSeedKept m input points =
    (inputs : Inputs) → StandsFor m inputs → admits_next m inputs input ≡ true
    → choice_round_in m.who.session input ≤ kept_round points (sender_in m.who.session input)

-- so an admitted datagram is remembered after the step
abbrev pub AdmittedIsRemembered : Type 0
AdmittedIsRemembered =
    (m : Memory) (inputs : Inputs) (input : Input) (memo : Memo) → StandsFirst m input memo → StandsFor m inputs
    → admits_next m inputs input ≡ true → is_signed_in m.who.session input ≡ true
    → has_pair (checked_in m.who.session input) memo.pairs ≡ true
