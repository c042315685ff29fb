-- The outcome of a tick of the broadcaster.
use Rattle.std.proofs.Common.{◌≡◌, ◌∙◌, ℕ, ◌+◌, ◌-◌, ◌*◌, ◌<◌, ◌≤◌, ◌++◌, ◌⊎◌, inl, inr, Bool, true, false, List, [], ◌∷◌, length, refl}
use Rattle.std.proofs.Common.{sym, ap, subst, arith, map}
use Rattle.std.specs.Prelude.{◌==◌, ◌&&◌, ◌||◌, not, if◌then◌else◌, nat_le, nat_lt, Some, None, slice_get}
use Rattle.std.specs.Bool.{then_some}
use Rattle.std.specs.Option.{option_or}
use Rattle.std.proofs.lemmas.Bool.{eq-eqb, and_parts, leb-true, true≢false}
use Rattle.std.proofs.lemmas.Bool.Decides.{nat_tests}
use Rattle.bar_wire.specs.Datagram.{Datagram, Evict, Manifest}
use Rattle.bar_wire.specs.Grammar.{is_third}
use Rattle.bar_wire.specs.declared.kind.Kind.{Kind}
use Rattle.bar_wire.specs.declared.kind.Kind.TheVariants as kinds
use Rattle.bar_rules.specs.Broadcaster.Sending.{announce, announce_by, announce_evictions, announce_manifest, caster_tick, evicted}
use Rattle.bar_rules.specs.Broadcaster.Sending.{repeat_all, repeat_manifest, repeats_manifest, send_blocks, served}
use Rattle.bar_rules.specs.Broadcaster.Stream.{manifest_list, round_blocks}
use Rattle.bar_session.specs.Time.{round_after, slot_after}
use Rattle.bar_rules.specs.Member.{Member, Session}
use Rattle.bar_rules.specs.Members.{member_by}
use Rattle.bar_rules.specs.Peer.Log.{Log, Ticked, Said, has_kind_and_round, round_now, ticks}
use Rattle.bar_rules.specs.Runs.{Outcome, begun}
use Rattle.bar_laws.specs.Broadcasting.{SignsOnce, manifest_of}
use Rattle.bar_caster.specs.declared.item.Item.TheVariants as items
use Rattle.bar_caster.specs.declared.memory.Memory.{Memory}
use Rattle.bar_caster.specs.declared.order.Order.{Order}
use Rattle.bar_caster.specs.Code.Memory.{IsOfTheSame, Represents, member_of, said_of, stream_of}
use Rattle.bar_caster.specs.Code.Orders.{AreFor, Orders, HasOutcome, order_now, orders_to}
use Rattle.bar_caster.specs.Code.Ticking.{begins_round, begun_round, block_orders, notice_now, says_again}
use Rattle.bar_caster.proofs.Grown.{not_said_yet, same_said, same_served}
use Rattle.bar_caster.proofs.Flat.{all-flat, blocks_from, blocks-flat, for-blocks, for-both, for-each, to_each, with_sends}

-- ---- the member of the memory

same-member : (old new : Memory) → IsOfTheSame old new → member_of new ≡ member_of old
same-member old new same = λ i. member_by (same.session i) (same.secrets i)

same-stream : (old new : Memory) → IsOfTheSame old new → stream_of new ≡ stream_of old
same-stream old new same = λ i. (same.stream i).bytes.items

-- the member and the stream of the outcome are those of the memory after the tick
pub stands-so : (old new : Memory) (o : Orders) (at : Log) → IsOfTheSame old new
    → HasOutcome (caster_tick (member_of new) (stream_of new) (begun at)) new o
    → HasOutcome (caster_tick (member_of old) (stream_of old) (begun at)) new o
stands-so old new o at same stands =
    subst (λ (out : Outcome Log). HasOutcome out new o)
    (λ i. caster_tick (same-member old new same i) (same-stream old new same i) (begun at))
    stands

pub signs-so : (old new : Memory) (log : Log) → IsOfTheSame old new → SignsOnce (member_of old) (stream_of old) log
    → SignsOnce (member_of new) (stream_of new) log
signs-so old new log same signs =
    subst (λ (w : Member × List ℕ). SignsOnce w.0 w.1 log) (λ i. (sym (same-member old new same) i, sym (same-stream old new same) i)) signs

-- ---- the cases of a tick

-- the manifest of the previous round, if it is sent again
abbrev again_by : Member → Log → Bool → Outcome Log
again_by me at again = if again then repeat_manifest me.session (round_now at - 1) (begun at) else begun at

-- the cases of a tick: whether the slot is 2, whether the round is one of the session, and whether the slot is 0, 4, or one of 1 and 5
abbrev tick_by : Member → List ℕ → Log → Bool → Bool → Bool → Bool → Bool → Outcome Log
tick_by me stream at second low first fourth middle =
    if second then again_by me at (repeats_manifest me.session (round_now at))
    else (if not low then begun at
    else (if first then announce_evictions me (round_now at) (announce_manifest me stream (round_now at) (begun at))
    else (if fourth then announce_manifest me stream (round_now at) (begun at)
    else (if middle then send_blocks me (round_now at) 0 (round_blocks me.session stream (round_now at)) (begun at)
    else begun at))))

abbrev slot : Log → ℕ
slot at = slot_after (ticks at)

tick-is : (me : Member) (stream : List ℕ) (at : Log) (second low first fourth middle : Bool) → (slot at == 2) ≡ second
    → nat_le (round_now at) me.session.shape.rounds ≡ low → (slot at == 0) ≡ first → (slot at == 4) ≡ fourth
    → ((slot at == 1) || (slot at == 5)) ≡ middle → caster_tick me stream (begun at) ≡ tick_by me stream at second low first fourth middle
tick-is me stream at second low first fourth middle z a b c d = λ i. tick_by me stream at (z i) (a i) (b i) (c i) (d i)

module _ (n : Memory) (o : Orders) (at : Log) (tells : Represents at n) where
  abbrev me : Member
  me = member_of n

  abbrev stream : List ℕ
  stream = stream_of n

  abbrev out : Outcome Log
  out = caster_tick me stream (begun at)

  -- if the outcome sends a list, and the orders are for this list, the outcome holds
  stand-for : (sends : List (ℕ × Datagram)) → out ≡ with_sends (begun at) sends → AreFor me stream at o.list.items sends → HasOutcome out n o
  stand-for sends is for =
      subst (λ (out : Outcome Log). HasOutcome out n o) (sym is)
      (let r : HasOutcome (with_sends (begun at) sends) n o = record { tells = tells; orders = for } in r)

  none-stand : out ≡ begun at → o.list.items ≡ [] → HasOutcome out n o
  none-stand is empty = stand-for [] is (ap (map (order_now me stream at)) empty)

  round-is : round_now at ≡ round_after n.ticks
  round-is = ap round_after tells.time

  slot-is : slot at ≡ slot_after n.ticks
  slot-is = ap slot_after tells.time

  -- if no manifest is sent again, nothing is sent in slot 2
  unless-again : says_again n.session n.ticks ≡ false → (rest : Outcome Log) → rest ≡ begun at
      → (if slot at == 2 then again_by me at (repeats_manifest n.session (round_now at)) else rest) ≡ begun at
  unless-again none rest is =
      go (slot at == 2) (repeats_manifest n.session (round_now at))
      ((λ i. (slot-is i == 2) && repeats_manifest n.session (round-is i)) ∙ none)
    where
      go : (second again : Bool) → (second && again) ≡ false → (if second then again_by me at again else rest) ≡ begun at
      go true true none = absurd (true≢false none)
      go true false none = refl
      go false again none = is

  pub past-stands : says_again n.session n.ticks ≡ false → n.session.shape.rounds < round_after n.ticks → o.list.items ≡ []
      → HasOutcome out n o
  past-stands none past empty =
      let low : nat_le (round_now at) n.session.shape.rounds ≡ false = grind (arith, nat_tests, past, round-is) in
      none-stand (tick-is me stream at _ false _ _ _ refl low refl refl refl ∙ unless-again none (begun at) refl) empty

  low-is : round_after n.ticks ≤ n.session.shape.rounds → nat_le (round_now at) n.session.shape.rounds ≡ true
  low-is high = grind (arith, nat_tests, high, round-is)

  pub idle-stands : says_again n.session n.ticks ≡ false → round_after n.ticks ≤ n.session.shape.rounds
      → (slot_after n.ticks == 0) ≡ false → (slot_after n.ticks == 1) ≡ false → (slot_after n.ticks == 4) ≡ false
      → (slot_after n.ticks == 5) ≡ false → o.list.items ≡ [] → HasOutcome out n o
  idle-stands none high zeroth first fourth fifth empty =
      none-stand
      (tick-is me stream at _ true false false false refl (low-is high)
      (ap (λ s. s == 0) slot-is ∙ zeroth)
      (ap (λ s. s == 4) slot-is ∙ fourth)
      ((λ i. (slot-is i == 1) || (slot-is i == 5)) ∙ (λ i. first i || fifth i))
      ∙ unless-again none (begun at) refl)
      empty

  blocks-stand-at : (s : ℕ) → slot_after n.ticks ≡ s → (s == 2) ≡ false → (s == 0) ≡ false → (s == 4) ≡ false
      → ((s == 1) || (s == 5)) ≡ true → round_after n.ticks ≤ n.session.shape.rounds
      → o.list.items ≡ block_orders me at 0 (length (round_blocks n.session stream (round_now at))) → HasOutcome out n o
  blocks-stand-at s is second zeroth fourth middle high orders =
      let blocks : List (List ℕ) = round_blocks n.session stream (round_now at) in
      stand-for (blocks_from me at (round_now at) 0 blocks)
      (tick-is me stream at false true false false true
      (ap (λ s. s == 2) (slot-is ∙ is) ∙ second)
      (low-is high)
      (ap (λ s. s == 0) (slot-is ∙ is) ∙ zeroth)
      (ap (λ s. s == 4) (slot-is ∙ is) ∙ fourth)
      (ap (λ s. (s == 1) || (s == 5)) (slot-is ∙ is) ∙ middle)
      ∙ blocks-flat me (round_now at) 0 blocks (begun at))
      (ap (map (order_now me stream at)) orders
      ∙ for-blocks me stream at 0 blocks (λ k. let same : k ≡ 0 + k = omega arith in ap (slice_get blocks) same))

  pub blocks-stand : (slot_after n.ticks ≡ 1) ⊎ (slot_after n.ticks ≡ 5) → round_after n.ticks ≤ n.session.shape.rounds
      → o.list.items ≡ block_orders me at 0 (length (round_blocks n.session stream (round_now at))) → HasOutcome out n o
  blocks-stand (inl one) high orders = blocks-stand-at 1 one refl refl refl refl high orders
  blocks-stand (inr five) high orders = blocks-stand-at 5 five refl refl refl refl high orders

  -- the manifest is sent again
  pub manifest-stands : said_of kinds.Manifest (round_now at) at ≡ Some (manifest_of me stream (round_now at)) → slot_after n.ticks ≡ 4
      → round_after n.ticks ≤ n.session.shape.rounds → o.list.items ≡ orders_to items.Manifest (served n.session at) → HasOutcome out n o
  manifest-stands said is high orders =
      let m : ℕ = round_now at in
      let d : Datagram = manifest_of me stream m in
      stand-for (to_each (served n.session at) d)
      (tick-is me stream at false true false true false
      (ap (λ s. s == 2) (slot-is ∙ is))
      (low-is high)
      (ap (λ s. s == 0) (slot-is ∙ is))
      (ap (λ s. s == 4) (slot-is ∙ is))
      (ap (λ s. (s == 1) || (s == 5)) (slot-is ∙ is))
      ∙ ap (announce_by me (begun at) (2 * (m - 1)) (Manifest m (manifest_list n.session stream m))) said
      ∙ all-flat (begun at) (served n.session at) d)
      (ap (map (order_now me stream at)) orders ∙ for-each me stream at items.Manifest (λ p. d) (served n.session at) (λ p. said))

  -- the manifest of the previous round is sent again
  pub again-stands : says_again n.session n.ticks ≡ true
      → said_of kinds.Manifest (round_now at - 1) at ≡ Some (manifest_of me stream (round_now at - 1))
      → o.list.items ≡ orders_to items.ManifestBefore (served n.session at) → HasOutcome out n o
  again-stands again said orders =
      let d : Datagram = manifest_of me stream (round_now at - 1) in
      let both = and_parts (slot_after n.ticks == 2) (repeats_manifest n.session (round_after n.ticks)) again in
      stand-for (to_each (served n.session at) d)
      (tick-is me stream at true _ _ _ _ (ap (λ s. s == 2) slot-is ∙ both.0) refl refl refl refl
      ∙ ap (again_by me at) (ap (repeats_manifest n.session) round-is ∙ both.1)
      ∙ ap (repeat_all n.session (begun at)) said
      ∙ all-flat (begun at) (served n.session at) d)
      (ap (map (order_now me stream at)) orders ∙ for-each me stream at items.ManifestBefore (λ p. d) (served n.session at) (λ p. said))

-- appending to an empty list gives the appended list
pub from-none : (old list new : List Order) → new ≡ old ++ list → old ≡ [] → new ≡ list
from-none old list new is empty = is ∙ ap (λ old. old ++ list) empty

-- in a later slot of a round, its manifest was said
pub said-again : (me : Member) (stream : List ℕ) (log : Log) → SignsOnce me stream log → 1 ≤ slot_after (ticks log + 1)
    → round_after (ticks log + 1) ≤ me.session.shape.rounds
    → said_of kinds.Manifest (round_now (Ticked ∷ log)) (Ticked ∷ log) ≡ Some (manifest_of me stream (round_now (Ticked ∷ log)))
said-again me stream log signs later high =
    let m : ℕ = round_now (Ticked ∷ log) in
    ap (λ o. option_or o None) (signs.manifests m (omega arith) (omega arith) (omega arith))

-- if the manifest of the previous round is sent again, it was said
pub said-before : (me : Member) (stream : List ℕ) (log : Log) → SignsOnce me stream log → says_again me.session (ticks log + 1) ≡ true
    → said_of kinds.Manifest (round_now (Ticked ∷ log) - 1) (Ticked ∷ log) ≡ Some (manifest_of me stream (round_now (Ticked ∷ log) - 1))
said-before me stream log signs again =
    let m : ℕ = round_after (ticks log + 1) in
    let repeats = (and_parts (slot_after (ticks log + 1) == 2) (repeats_manifest me.session m) again).1 in
    let within = and_parts (nat_le 2 m) (nat_le m (me.session.shape.rounds + 1)) (and_parts (is_third me.session.shape) _ repeats).1 in
    let low : 2 ≤ m = leb-true _ _ within.0 in
    let high : m ≤ me.session.shape.rounds + 1 = leb-true _ _ within.1 in
    ap (λ o. option_or o None) (signs.manifests (m - 1) (omega (arith, low)) (omega (arith, high)) (omega arith))

-- a tick of a round of the session that doesn't begin it isn't in slot 0
pub first-passed : (s : Session) (ticks : ℕ) → begins_round s ticks ≡ false → round_after (ticks + 1) ≤ s.shape.rounds
    → (slot_after (ticks + 1) == 0) ≡ false
first-passed s ticks none high =
    go (slot_after (ticks + 1) == 0) (nat_le (round_after (ticks + 1)) s.shape.rounds) (grind (arith, nat_tests, high)) none
  where
    go : (first low : Bool) → low ≡ true → (first && low) ≡ false → first ≡ false
    go true low is none = absurd (true≢false (sym is ∙ none))
    go false low is none = refl

-- ---- the tick that begins a round

-- the tick is in slot 0 of a round of the session
pub round-begins : (s : Session) (ticks : ℕ) → begins_round s ticks ≡ true
    → (slot_after (ticks + 1) ≡ 0) × (round_after (ticks + 1) ≤ s.shape.rounds)
round-begins s ticks is =
    let both = and_parts (slot_after (ticks + 1) == 0) (nat_le (round_after (ticks + 1)) s.shape.rounds) is in
    let first : (slot_after (ticks + 1) == 0) ≡ true = both.0 in
    let low : nat_le (round_after (ticks + 1)) s.shape.rounds ≡ true = both.1 in
    (grind (arith, nat_tests, first), grind (arith, nat_tests, low))

-- a message that is said changes neither the round nor the evictions
pub same-round : (log : Log) (d : Datagram) → round_now (Said d ∷ log) ≡ round_now log
same-round log d = let same : ticks log + 0 ≡ ticks log = omega arith in ap round_after same

module _ (me : Member) (stream : List ℕ) (log : Log) (signs : SignsOnce me stream log) (first : slot_after (ticks log + 1) ≡ 0)
    (high : round_after (ticks log + 1) ≤ me.session.shape.rounds) where
  abbrev at : Log
  at = Ticked ∷ log

  abbrev round : ℕ
  round = round_now at

  abbrev manifest : Datagram
  manifest = manifest_of me stream round

  -- the log after the manifest was said, and the log after the notice was said
  abbrev said : Log
  said = begun_round me stream log

  abbrev notice : Datagram
  notice = notice_now me said

  abbrev told : Log
  told = Said notice ∷ said

  -- the manifest, to all served peers
  abbrev sends : List (ℕ × Datagram)
  sends = to_each (served me.session said) manifest

  unsaid : (kind : Kind) → said_of kind round at ≡ None
  unsaid kind =
      same_said (has_kind_and_round kind round) Ticked log refl ∙ not_said_yet me stream log kind round signs (omega (arith, first))

  begins-so : caster_tick me stream (begun at) ≡ announce_evictions me round (with_sends (begun said) sends)
  begins-so =
      let low : nat_le round me.session.shape.rounds ≡ true = grind (arith, nat_tests, high) in
      tick-is me stream at false true true _ _ (ap (λ s. s == 2) first) low (ap (λ s. s == 0) first) refl refl
      ∙ ap
      (λ found.
      announce_evictions me round
      (announce_by me (begun at) (2 * (round - 1)) (Manifest round (manifest_list me.session stream round)) found))
      (unsaid kinds.Manifest)
      ∙ ap (announce_evictions me round) (all-flat (begun said) (served me.session at) manifest)
      ∙ ap (λ ps. announce_evictions me round (with_sends (begun said) (to_each ps manifest)))
      (sym (same_served me.session (Said manifest) at (λ q. refl)))

  round-then : round_now said ≡ round
  round-then = same-round at manifest

  manifest-said : said_of kinds.Manifest (round_now said) said ≡ Some manifest
  manifest-said =
      (λ i. said_of kinds.Manifest (round-then i) said)
      ∙ (λ i. option_or (unsaid kinds.Manifest i) (then_some (eq-eqb round round refl i) manifest))

  pub notice-unsaid : said_of kinds.Evict (round_now said) said ≡ None
  notice-unsaid = (λ i. said_of kinds.Evict (round-then i) said) ∙ (λ i. option_or (unsaid kinds.Evict i) None)

  round-later : round_now told ≡ round_now said
  round-later = same-round said notice

  still-said : said_of kinds.Manifest (round_now told) told ≡ Some manifest
  still-said = (λ i. said_of kinds.Manifest (round-later i) told) ∙ (λ i. option_or (manifest-said i) None)

  notice-said : said_of kinds.Evict (round_now told) told ≡ Some notice
  notice-said =
      (λ i. said_of kinds.Evict (round-later i) told)
      ∙ (λ i. option_or (notice-unsaid i) (then_some (eq-eqb (round_now said) (round_now said) refl i) notice))

  -- if no peer is evicted
  alone-is : evicted me.session said ≡ [] → caster_tick me stream (begun at) ≡ with_sends (begun said) sends
  alone-is none =
      let out : Outcome Log = with_sends (begun said) sends in
      begins-so
      ∙ ap
      (λ ps. if nat_lt 0 (length ps) then announce me out (2 * (round - 1) + 1) round (Evict round (evicted me.session said)) else out)
      none

  alone-for : AreFor me stream said (orders_to items.Manifest (served me.session said)) sends
  alone-for = for-each me stream said items.Manifest (λ p. manifest) (served me.session said) (λ p. manifest-said)

  -- if some peers are evicted
  both-are : nat_lt 0 (length (evicted me.session said)) ≡ true
      → caster_tick me stream (begun at) ≡ with_sends (begun told) (sends ++ to_each (served me.session said) notice)
  both-are some =
      let out : Outcome Log = with_sends (begun said) sends in
      let now : ℕ = round_now said in
      begins-so
      ∙ ap (λ m. announce_evictions me m out) (sym round-then)
      ∙ ap (λ b. if b then announce me out (2 * (now - 1) + 1) now (Evict now (evicted me.session said)) else out) some
      ∙ ap (announce_by me out (2 * (now - 1) + 1) (Evict now (evicted me.session said))) notice-unsaid
      ∙ all-flat (with_sends (begun told) sends) (served me.session said) notice

  both-for :
      AreFor me stream told (orders_to items.Manifest (served me.session said) ++ orders_to items.Evictions (served me.session said))
      (sends ++ to_each (served me.session said) notice)
  both-for =
      for-both me stream told (orders_to items.Manifest (served me.session said)) (orders_to items.Evictions (served me.session said))
      sends
      (to_each (served me.session said) notice)
      (for-each me stream told items.Manifest (λ p. manifest) (served me.session said) (λ p. still-said))
      (for-each me stream told items.Evictions (λ p. notice) (served me.session said) (λ p. notice-said))

-- the orders and datagrams of a member are those of its memory
stands-with : (old n : Memory) (o : Orders) (before after : Outcome Log) → IsOfTheSame old n → before ≡ after → Represents after.state n
    → AreFor (member_of old) (stream_of old) after.state o.list.items after.sends → HasOutcome before n o
stands-with old n o before after same is tells for =
    subst (λ (out : Outcome Log). HasOutcome out n o) (sym is)
    (record {
      tells = tells;
      orders = subst (λ (w : Member × List ℕ). AreFor w.0 w.1 after.state o.list.items after.sends)
          (λ i. (sym (same-member old n same) i, sym (same-stream old n same) i)) for;
    })

pub alone-stands : (old n : Memory) (o : Orders) (log : Log) → IsOfTheSame old n → SignsOnce (member_of old) (stream_of old) log
    → slot_after (ticks log + 1) ≡ 0 → round_after (ticks log + 1) ≤ old.session.shape.rounds
    → Represents (begun_round (member_of old) (stream_of old) log) n → n.evictions.list.items ≡ []
    → o.list.items ≡ orders_to items.Manifest (served n.session (begun_round (member_of old) (stream_of old) log))
    → HasOutcome (caster_tick (member_of old) (stream_of old) (begun (Ticked ∷ log))) n o
alone-stands old n o log same signs first high tells none is =
    let me : Member = member_of old in
    let stream : List ℕ = stream_of old in
    let said : Log = begun_round me stream log in
    let list : List (ℕ × Datagram) = to_each (served me.session said) (manifest_of me stream (round_now (Ticked ∷ log))) in
    let empty : evicted me.session said ≡ [] = (λ i. evicted (sym same.session i) said) ∙ sym tells.evictions.list ∙ none in
    stands-with old n o (caster_tick me stream (begun (Ticked ∷ log))) (with_sends (begun said) list) same
    (alone-is me stream log signs first high empty)
    tells
    (ap (map (order_now me stream said)) (is ∙ (λ i. orders_to items.Manifest (served (same.session i) said)))
    ∙ alone-for me stream log signs first high)

same-both : (old m n : Memory) → IsOfTheSame old m → IsOfTheSame m n → IsOfTheSame old n
same-both old m n first second = record {
  session = second.session ∙ first.session;
  secrets = second.secrets ∙ first.secrets;
  stream = second.stream ∙ first.stream;
}

-- the memory after the manifest was signed, and the memory after the notice was signed
pub both-stand : (old m n : Memory) (o : Orders) (list : List Order) (log : Log) → IsOfTheSame old m → IsOfTheSame m n
    → SignsOnce (member_of old) (stream_of old) log → slot_after (ticks log + 1) ≡ 0
    → round_after (ticks log + 1) ≤ old.session.shape.rounds → Represents (begun_round (member_of old) (stream_of old) log) m
    → (length m.evictions.list.items == 0) ≡ false
    → (let said : Log = begun_round (member_of old) (stream_of old) log in
    let told : Log = Said (notice_now (member_of m) said) ∷ said in
    Represents told n → list ≡ orders_to items.Manifest (served m.session said)
    → o.list.items ≡ list ++ orders_to items.Evictions (served n.session told)
    → HasOutcome (caster_tick (member_of old) (stream_of old) (begun (Ticked ∷ log))) n o)
both-stand old m n o list log same later signs first high knows some tells first-orders later-orders =
    let me : Member = member_of old in
    let stream : List ℕ = stream_of old in
    let said : Log = begun_round me stream log in
    let notice : Datagram = notice_now me said in
    let told : Log = Said notice ∷ said in
    let listed : evicted old.session said ≡ m.evictions.list.items =
    (λ i. evicted (sym same.session i) said) ∙ sym knows.evictions.list in
    let long : (length (evicted old.session said) == 0) ≡ false = ap (λ ps. length ps == 0) listed ∙ some in
    let any : nat_lt 0 (length (evicted old.session said)) ≡ true = grind (arith, nat_tests, long) in
    let noticed : notice_now (member_of m) said ≡ notice = (λ i. notice_now (same-member old m same i) said) in
    let whole : IsOfTheSame old n = same-both old m n same later in
    let is : o.list.items ≡ orders_to items.Manifest (served old.session said) ++ orders_to items.Evictions (served old.session said) =
    later-orders
    ∙ (λ i. first-orders i ++ orders_to items.Evictions (same_served n.session (Said (notice_now (member_of m) said)) said (λ q. refl) i))
    ∙ (λ i. orders_to items.Manifest (served (same.session i) said) ++ orders_to items.Evictions (served (whole.session i) said)) in
    let sends : List (ℕ × Datagram) = to_each (served old.session said) (manifest_of me stream (round_now (Ticked ∷ log))) in
    stands-with old n o (caster_tick me stream (begun (Ticked ∷ log)))
    (with_sends (begun told) (sends ++ to_each (served old.session said) notice))
    whole
    (both-are me stream log signs first high any)
    (subst (λ (d : Datagram). Represents (Said d ∷ said) n) noticed tells)
    (ap (map (order_now me stream told)) is ∙ both-for me stream log signs first high)
