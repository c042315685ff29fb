-- Which datagrams a new one is tried with for evidence: all that were admitted from its sender and may still be asked about. With those of
-- another exchange it is tried by leaves alone.
use Rattle.std.specs.Prelude.{◌≡◌, ◌==◌, ℕ, true, List, [], ◌∷◌, Option, Some, None, if◌then◌else◌}
use Rattle.std.specs.Bool.{then_some}
use Rattle.std.specs.Option.{option_or}
use Rattle.std.specs.List.{list_any}
use Rattle.bar_window.specs.Exchange.{other_role, same_exchange}
use Rattle.bar_window.specs.declared.exchange.Exchange.{Exchange}
use Rattle.bar_window.specs.declared.exchange.Role.{Role}
use Rattle.bar_wire.specs.declared.kind.Kind.{Kind}
use Rattle.bar_wire.specs.declared.kind.Kind.TheVariants as kinds
use Rattle.bar_wire.specs.Datagram.{Datagram, Place, place_of}
use Rattle.bar_wire.specs.Grammar.{IsDatagram}
use Rattle.bar_rules.specs.Member.{Session, Member}
use Rattle.bar_rules.specs.Peer.Agreement.{IsRecent}
use Rattle.bar_rules.specs.Peer.Evidence.{is_tried, pairs_elsewhere, shared_with}
use Rattle.bar_rules.specs.Peer.Exchanges.{role_of, opening_kind}
use Rattle.bar_rules.specs.Peer.Knowledge.{Knowledge, known}
use Rattle.bar_rules.specs.Values.{datagram_bytes, leaf_named}
use Rattle.bar_laws.specs.Soundness.{IsSound}
use Rattle.bar_laws.specs.Always.{InEachLog}

-- The exchange is among those with the sender, and the side is not this member's.
pub record IsAmong (me : Member) (k : Knowledge) (x : Exchange) (role : Role) (d : Datagram) : Type 0 where
  pub listed : list_any (same_exchange x) (shared_with me k d.message.from) ≡ true
  pub side : role ≡ other_role (role_of me x)

-- each admitted datagram of an exchange that may still be asked about
abbrev pub TriesMissNone : Member → Knowledge → Type 0
TriesMissNone me k =
    (kind : Kind) (x : Exchange) (role : Role) (d : Datagram) → k.heard kind x role ≡ Some d → IsRecent me k x.round → IsAmong me k x role d

-- for every list of inputs
abbrev pub RunTriesAll : Type 0
RunTriesAll = InEachLog (λ me log. TriesMissNone me (known me log))

-- ---- by leaves

-- the pair of an earlier datagram and this one, if their signatures name one leaf
abbrev pub by_leaf : Session → Datagram → Option Datagram → Option (List (List ℕ))
by_leaf s d None = None
by_leaf s d (Some e) = then_some (leaf_named s e == leaf_named s d) (datagram_bytes s e ∷ datagram_bytes s d ∷ [])

-- with what was heard from a side of an exchange
abbrev pub leaves_in : Session → Knowledge → Datagram → Exchange → Role → Option (List (List ℕ))
leaves_in s k d y role =
    option_or (by_leaf s d (k.heard (opening_kind y.kind role) y role))
    (option_or (by_leaf s d (k.heard kinds.Case y role)) (by_leaf s d (k.heard kinds.Key y role)))

-- with what was heard of other exchanges than this one
abbrev pub leaves_among : Member → Knowledge → Datagram → Exchange → List Exchange → Option (List (List ℕ))
leaves_among me k d x [] = None
leaves_among me k d x (y ∷ ys) =
    option_or (if same_exchange x y then None else leaves_in me.session k d y (other_role (role_of me y))) (leaves_among me k d x ys)

-- In other exchanges only a leaf is looked for: no table is read, no message is compared, and nothing is hashed.
abbrev pub OthersAreTriedByLeaves : Type 0
OthersAreTriedByLeaves =
    (me : Member) (k : Knowledge) (d : Datagram) (p : Place) → IsSound me k → is_tried me k d ≡ true → IsDatagram me.session.shape d
    → place_of d.message ≡ Some p → pairs_elsewhere me k d (Some p) ≡ leaves_among me k d p.exchange (shared_with me k d.message.from)
