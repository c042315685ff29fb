-- The datagrams that are given out for orders.
use Rattle.std.specs.Prelude.{◌≡◌, ℕ, ◌<◌, List, [], Some, IfSome}
use Rattle.std.specs.Bool.{MatchBool}
use Rattle.bar_lms.specs.Schemes.{leaves_by}
use Rattle.bar_wire.specs.Datagram.{Datagram, kind_of, part_of, place_of}
use Rattle.bar_wire.specs.Grammar.{IsRound}
use Rattle.bar_wire.specs.Kinds.{is_signed_kind}
use Rattle.bar_wire.specs.Limits.{seats_a_round}
use Rattle.bar_rules.specs.Member.{Member}
use Rattle.bar_rules.specs.Peer.Agreement.{IsRecent}
use Rattle.bar_rules.specs.Peer.Exchanges.{role_of, partner_in}
use Rattle.bar_rules.specs.Peer.Knowledge.{Knowledge}
use Rattle.bar_rules.specs.Peer.Machine.{message_to}
use Rattle.bar_rules.specs.Peer.Signing.{leaf_for, signed}
use Rattle.bar_rules.specs.Peer.Writing.{body_now}
use Rattle.bar_laws.specs.Sizes.{FitsItsRoom}
use Rattle.bar_exchange.specs.declared.say.Say.{Say}
use Rattle.bar_exchange.specs.Code.Writing.{CanWrite}
use Rattle.bar_peer.specs.declared.order.Order.{Order}
use Rattle.bar_peer.specs.declared.order.Order.TheVariants as orders
use Rattle.bar_peer.specs.Code.Sending.{report_of}

-- A datagram of an order is signed as the current knowledge requires. It is of the order's kind, exchange and side, its round is one of the
-- session, and its leaf is one of the key's.
pub record IsSignedFor (me : Member) (k : Knowledge) (say : Say) (d : Datagram) : Type 0 where
  pub kind : kind_of d.message.body ≡ say.kind
  pub part : part_of d.message.body ≡ Some (say.x.round, say.x.kind, role_of me say.x)
  pub place : place_of d.message ≡ Some (record { exchange = say.x; role = role_of me say.x })
  pub round : IsRound me.session.shape say.x.round
  pub seat : IfSome (k.seat say.x) (λ seat. seat < seats_a_round)
  pub below : leaf_for k d.message < leaves_by me.session.top me.session.params
  pub signature : d ≡ signed me k d.message

-- The body of the order's datagram is the one that would be written now, and it can be written. The datagram is signed if its kind is.
pub record IsDue (me : Member) (k : Knowledge) (say : Say) (d : Datagram) : Type 0 where
  pub body : body_now me k say.kind say.x ≡ Some d.message.body
  pub message : d.message ≡ message_to me say.x d.message.body
  pub recent : IsRecent me k say.x.round
  pub can : CanWrite me k say.kind say.x
  pub signature : MatchBool (is_signed_kind say.kind) (IsSignedFor me k say d) (d.signature ≡ [])

-- The datagram of a report contains the evidence that is kept against the party, which fits its room.
pub record IsReportDue (me : Member) (k : Knowledge) (party : ℕ) (d : Datagram) : Type 0 where
  pub evidence : List (List ℕ)
  pub kept : k.evidence party ≡ Some evidence
  pub fits : FitsItsRoom me evidence
  pub is : d ≡ report_of me evidence

-- the datagram that is due for an order
abbrev pub IsOrderDue : Member → Knowledge → Order → Datagram → Type 0
IsOrderDue me k (orders.Say say) d = IsDue me k say d
IsOrderDue me k (orders.Report party) d = IsReportDue me k party d

-- the receiver of an order's datagram
abbrev pub receiver_of : Member → Order → ℕ
receiver_of me (orders.Say say) = partner_in me say.x
receiver_of me (orders.Report party) = 0
