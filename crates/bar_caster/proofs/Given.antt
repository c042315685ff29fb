-- The datagrams that a broadcaster gives out for orders.
use Rattle.std.proofs.Common.{◌≡◌, ◌∙◌, ℕ, ◌+◌, ◌<◌, ◌++◌, List, [], ◌∷◌, Option, Some, None, length, refl, sym, ap, length-append, arith}
use Rattle.std.specs.Prelude.{map, option_map, slice_get}
use Rattle.std.proofs.lemmas.List.{append-nil}
use Rattle.std.proofs.lemmas.Option.{slice_get_within}
use Rattle.std.proofs.NetLemmas.Options.{map_some}
use Rattle.bar_bytes.specs.Bytes.{u32_bytes}
use Rattle.bar_bytes.proofs.Lengths.{length_u32}
use Rattle.bar_wire.specs.declared.shape.Shape.{Shape}
use Rattle.bar_wire.specs.Datagram.{Datagram, Message, Block}
use Rattle.bar_wire.specs.Grammar as grammar
use Rattle.bar_wire.proofs.Written.{message_len}
use Rattle.bar_rules.specs.Code.Giving.{IsGiven}
use Rattle.bar_rules.specs.Member.{Session, Member}
use Rattle.bar_rules.specs.Peer.Log.{Log}
use Rattle.bar_rules.specs.Values.{datagram_bytes, message_bytes, unsigned}
use Rattle.bar_caster.specs.declared.order.Order.{Order}
use Rattle.bar_caster.specs.Code.Orders.{AreFor, datagram_now, order_now}

-- an index that has a value is within the list
pub one_within : {X Y : Type 0} (f : X → Y) (xs : List X) (index : ℕ) (y : Y) → option_map f (slice_get xs index) ≡ Some y
    → index < length xs
one_within f xs index y made = map_some f (slice_get xs index) y made (λ x is same. slice_get_within xs index x is)

-- the encoding of an unsigned datagram is that of its message
pub unsigned_bytes : (s : Session) (m : Message) → datagram_bytes s (unsigned m) ≡ message_bytes s m
unsigned_bytes s m = append-nil (message_bytes s m)

-- the length of a BLOCK is that of the header, the update and the block
pub block_len : (s : Shape) (peer round index : ℕ) (block : List ℕ)
    → length (grammar.message_bytes s (record { from = 0; to = peer; body = Block (record { round = round; index = index }) block }))
    ≡ 21 + length block
block_len s peer round index block =
    omega (
      arith,
      message_len s (record { from = 0; to = peer; body = Block (record { round = round; index = index }) block }),
      length_u32 round,
      length-append (u32_bytes round) (index ∷ (block ++ [])),
      length-append block [],
    )

-- ---- the next one

-- if nothing is to be sent, no orders are left
pub none_left : (me : Member) (stream : List ℕ) (log : Log) (left new : List Order) (sends : List (ℕ × Datagram)) → left ≡ [] → new ≡ []
    → AreFor me stream log left sends → (sends ≡ []) × AreFor me stream log new []
none_left me stream log left new [] none empty are = (refl, ap (map (order_now me stream log)) empty)
none_left me stream log left new (send ∷ sends) none empty are =
    let is : [] ≡ Some send ∷ map Some sends = sym (ap (map (order_now me stream log)) none) ∙ are in absurd (cc)

-- The order's datagram is the first that is to be sent, and the others are left.
pub record IsNext (me : Member) (stream : List ℕ) (log : Log) (order : Order) (left : List Order) (sends : List (ℕ × Datagram))
    : Type 0 where
  pub given : Datagram
  pub rest : List (ℕ × Datagram)
  pub is : sends ≡ (order.peer, given) ∷ rest
  pub due : datagram_now me stream log order.peer order.item ≡ Some given
  pub others : AreFor me stream log left rest

pub next_of : (me : Member) (stream : List ℕ) (log : Log) (order : Order) (old left : List Order) (sends : List (ℕ × Datagram))
    → old ≡ order ∷ left → AreFor me stream log old sends → IsNext me stream log order left sends
next_of me stream log order old left [] first are =
    let is : order_now me stream log order ∷ map (order_now me stream log) left ≡ [] = sym (ap (map (order_now me stream log)) first) ∙ are in
    absurd (cc)
next_of me stream log order old left (send ∷ sends) first are =
    let is : order_now me stream log order ∷ map (order_now me stream log) left ≡ Some send ∷ map Some sends =
    sym (ap (map (order_now me stream log)) first) ∙ are in
    let now : order_now me stream log order ≡ Some send = cc in
    let others : map (order_now me stream log) left ≡ map Some sends = cc in
    map_some {B = ℕ × Datagram} (λ d. (order.peer, d)) (datagram_now me stream log order.peer order.item) send now
    (λ d due same. record {
      given = d;
      rest = sends;
      is = ap (λ (s : ℕ × Datagram). s ∷ sends) (sym same);
      due = due;
      others = others;
    })

-- if a datagram is to be given, the result is a length
pub never_none : (s : Session) (d : Datagram) (result : Option ℕ) (buf : List ℕ) → IsGiven s d result buf
    → ((n : ℕ) → result ≡ Some n → ⊥) → ⊥
never_none s d None buf given none = given
never_none s d (Some n) buf given none = none n refl
