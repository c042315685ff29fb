-- What messages are written from, and what it means that they are written.
use Rattle.std.specs.Prelude.{◌≡◌, ℕ, ◌+◌, ◌≤◌, true, List, Option, option_map, length, take, drop, IfSome, IsSome, MatchOption}
use Rattle.std.specs.List.{All}
use Rattle.bar_window.specs.declared.exchange.Exchange.{Exchange}
use Rattle.bar_window.specs.declared.exchange.Role.{Role}
use Rattle.bar_window.specs.declared.update.UpdateId.{UpdateId}
use Rattle.bar_window.specs.Terms.{Terms}
use Rattle.bar_terms.specs.Terms.{can_promise, promised_updates}
use Rattle.bar_wire.specs.Datagram.{Body}
use Rattle.bar_wire.specs.Grammar.{IsRound}
use Rattle.bar_wire.specs.declared.kind.Kind.{Kind}
use Rattle.bar_wire.specs.declared.kind.Kind.TheVariants as kinds
use Rattle.bar_rules.specs.Member.{Member}
use Rattle.bar_rules.specs.Secrets.{secrets_of}
use Rattle.bar_rules.specs.Values.{message_bytes}
use Rattle.bar_rules.specs.Peer.Exchanges.{role_of}
use Rattle.bar_rules.specs.Peer.Knowledge.{Knowledge, this_round, answer_deadline}
use Rattle.bar_rules.specs.Peer.Machine.{message_to}
use Rattle.bar_rules.specs.Peer.Terms.{terms_of}
use Rattle.bar_store.specs.Code.Holds.{Holds}
use Rattle.bar_ledger.specs.Code.Recalls.{Recalls}
use Rattle.bar_exchange.specs.declared.sources.Sources.{Sources}

-- The session, the secrets and the seed chain are a member's, and the store and the ledger represent its knowledge.
pub record AreSourcesOf (me : Member) (k : Knowledge) (s : Sources) : Type 0 where
  pub session : me.session ≡ s.session.now
  pub secrets : s.secrets.now ≡ secrets_of me
  pub chain : s.chain.now ≡ record { secrets = secrets_of me; rounds = me.session.shape.rounds }
  pub holds : Holds me k s.store.now
  pub recalls : Recalls me k s.ledger.now

-- ---- what is written

-- the largest message of an exchange, in bytes: a CASE of sixteen junk items with the longest terms
abbrev pub largest_message : ℕ
largest_message = 21529

-- the bytes of the message of a body to the partner in an exchange
abbrev pub bytes_to : Member → Exchange → Body → List ℕ
bytes_to me x b = message_bytes me.session (message_to me x b)

-- the message of the body is at the start of `out`, and the result is its length; the result is `None` if there is no body
abbrev pub IsWritten : Member → Exchange → Option Body → Option ℕ → List ℕ → Type 0
IsWritten me x body result out = option_map (λ n. take n out) result ≡ option_map (bytes_to me x) body

-- The written message is at most as long as the largest one, and all bytes after it are unchanged.
pub record LeavesRest (old : List ℕ) (result : Option ℕ) (new : List ℕ) : Type 0 where
  pub short : IfSome result (λ n. n ≤ largest_message)
  pub rest : MatchOption result (new ≡ old) (λ n. drop n new ≡ drop n old)
  pub long : length new ≡ length old

-- ---- what can be written

-- A side can promise something by the terms, and the blocks of the updates that it promises are held.
pub record IsSealable (blocks : UpdateId → Option (List ℕ)) (cap : ℕ) (t : Terms) (role : Role) : Type 0 where
  pub promise : can_promise cap t ≡ true
  pub held : All (λ u. IsSome (blocks u)) (promised_updates cap t role)

-- A CASE may still be sealed: it is in time, its terms make a promise, and the blocks of the updates that this member promises are held.
pub record CanSeal (me : Member) (k : Knowledge) (x : Exchange) : Type 0 where
  pub time : this_round k ≤ x.round + answer_deadline
  pub promise : IfSome (terms_of me k x) (λ t. IsSealable k.block me.session.cap t (role_of me x))

-- What a message requires besides knowledge of its exchange: a REQUEST and a QUERY contain a seed, so the round must be one of the session.
abbrev pub CanWrite : Member → Knowledge → Kind → Exchange → Type 0
CanWrite me k kinds.Request x = IsRound me.session.shape x.round
CanWrite me k kinds.Query x = IsRound me.session.shape x.round
CanWrite me k kinds.Case x = CanSeal me k x
CanWrite me k kind x = Unit {0}
