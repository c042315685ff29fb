-- The outcome of a step, given the inputs before it.
use Rattle.bar_wire.specs.Grammar.{words_of}
use Rattle.std.proofs.Common.{◌≡◌, ◌≤◌, ◌-◌, ◌*◌, ◌&&◌, ◌∙◌, ℕ, Bool, true, false, List, [], ◌∷◌, ◌++◌, refl, sym, ap, subst, arith}
use Rattle.std.specs.Prelude.{nat_le, ◌==◌, if◌then◌else◌, map, Some}
use Rattle.std.specs.List.{AllByRecursion}
use Rattle.bar_wire.specs.Datagram.{Datagram}
use Rattle.std.proofs.lemmas.Bool.{false≢true, true≢false}
use Rattle.std.proofs.lemmas.Bool.Decides.{nat_tests}
use Rattle.bar_wire.specs.Inputs.{Input}
use Rattle.bar_wire.specs.Inputs as event
use Rattle.bar_session.specs.Time.{last_tick, slot_after}
use Rattle.bar_rules.specs.Member.{Member}
use Rattle.bar_rules.specs.Runs.{begun}
use Rattle.bar_rules.specs.Values.{datagram_of}
use Rattle.bar_rules.specs.Peer.Knowledge.{Knowledge, known, this_round}
use Rattle.bar_rules.specs.Peer.Log.{Log, Ticked, ticks}
use Rattle.bar_rules.specs.Peer.Machine as machine
use Rattle.bar_rules.specs.Peer.Run.{Out, step, log_after, take_input}
use Rattle.bar_rules.specs.Peer.Agreement.{IsFresh}
use Rattle.bar_rules.specs.Peer.Ticks.{contents_at_tick, contents_of_round, orders_at_tick}
use Rattle.bar_store.specs.declared.store.Store.{Store}
use Rattle.bar_store.specs.Code.Holds.{Holds}
use Rattle.bar_laws.specs.Knowing.{EntryIsLearned}
use Rattle.bar_laws.specs.Obedience.{SignedByRule}
use Rattle.bar_rules.specs.Peer.Rules.{IsObedient}
use Rattle.bar_peer.specs.declared.credentials.Credentials.{Credentials}
use Rattle.bar_peer.specs.declared.memory.Memory.{Memory}
use Rattle.bar_peer.specs.declared.order.Order.{Order}
use Rattle.bar_peer.specs.Code.Orders.{Orders}
use Rattle.bar_peer.specs.declared.playing.Playing.{Playing}
use Rattle.bar_peer.specs.Code.Memory.{member_of, Represents}
use Rattle.bar_core.specs.Code.Orders.{left_in}
use Rattle.bar_peer.specs.Code.Sending.{AreFor, IsOrderTimely, HasOutcome, order_now}
use Rattle.bar_peer.specs.Code.StandsFor.{StandsFor, AreLeft, contents_left}
use Rattle.bar_peer.specs.Code.Steps.{is_tick}
use Rattle.bar_peer.specs.Code.Playing.{contents_in}
use Rattle.bar_peer.proofs.Giving.Contents.{contents_told}
use Rattle.bar_peer.proofs.Orders.Silence.{perform_all-plays, datagram-silent}

-- ---- the log after one more input

pub log-more : (me : Member) (log : Log) (inputs : List Input) (input : Input) → log_after me log (inputs ++ input ∷ []) ≡ (step me (log_after me log inputs) input).state
log-more me log [] input = refl
log-more me log (i ∷ inputs) input = log-more me (step me log i).state inputs input

abbrev step-by : Member → Log → Input → Bool → Out
step-by me log input over = if over then begun log else take_input me log input

step-is : (me : Member) (log : Log) (input : Input) (over : Bool) → nat_le (last_tick me.session) (ticks log) ≡ over → step me log input ≡ step-by me log input over
unfolding machine.step
step-is me log input over e = ap (step-by me log input) e

-- ---- before the last tick

module _ (m n : Memory) (p : Orders) (inputs : List Input) (input : Input) (who : n.who ≡ m.who) (go : nat_le (last_tick m.who.session) m.ticks ≡ false)
    (stood : StandsFor m inputs) (stands : HasOutcome (take_input (member_of m.who) (log_after (member_of m.who) [] inputs) input) n p) where
  abbrev pub me : Member
  me = member_of m.who

  abbrev pub log : Log
  log = log_after me [] inputs

  now : step me log input ≡ take_input me log input
  now = step-is me log input false (ap (nat_le (last_tick me.session)) stood.time ∙ go)

  after : log_after (member_of n.who) [] (inputs ++ input ∷ []) ≡ (take_input me log input).state
  after = ap (λ (w : Credentials). log_after (member_of w) [] (inputs ++ input ∷ [])) who ∙ log-more me [] inputs input ∙ ap (λ (out : Out). out.state) now

  pub then-stands : StandsFor n (inputs ++ input ∷ [])
  then-stands = subst (λ (l : Log). Represents l n) (sym after) stands.tells

  pub then-sends : left_in p ≡ p.list.items → AreLeft n p (inputs ++ input ∷ []) (step me log input).sends
  then-sends all =
      let one = subst (λ (l : Log). AreFor (member_of n.who) (known (member_of n.who) l) p.list.items (take_input me log input).sends) (sym after) stands.orders in
      let two = subst (λ says. AreFor (member_of n.who) (known (member_of n.who) (log_after (member_of n.who) [] (inputs ++ input ∷ []))) says (take_input me log input).sends) (sym all) one in
      subst (λ (out : Out). AreFor (member_of n.who) (known (member_of n.who) (log_after (member_of n.who) [] (inputs ++ input ∷ []))) (left_in p) out.sends) (sym now) two

  pub then-silent : (contents : List (List ℕ)) → contents ≡ (take_input me log input).contents → contents ≡ (step me log input).contents
  then-silent contents e = e ∙ ap (λ (out : Out). out.contents) (sym now)

-- what a tick plays, from the memory after it
pub tick-plays : EntryIsLearned → (m n : Memory) (playing : Playing) (log : Log) → n.who ≡ m.who → Represents (take_input (member_of m.who) log event.Tick).state n
    → ((log : Log) → Represents log n → contents_left n.store playing ≡ contents_at_tick (member_of n.who) (known (member_of n.who) log))
    → contents_left n.store playing ≡ (take_input (member_of m.who) log event.Tick).contents
tick-plays learned m n playing log who tells plays =
    let me : Member = member_of m.who in
    let final : Log = (take_input me log event.Tick).state in
    plays final tells
    ∙ ap (λ (w : Credentials). contents_at_tick (member_of w) (known (member_of w) final)) who
    ∙ (perform_all-plays learned me (begun (Ticked ∷ log)) (orders_at_tick me (known me (Ticked ∷ log)))).now

pub datagram-plays : EntryIsLearned → (me : Member) (log : Log) (bytes : List ℕ) → [] ≡ (take_input me log (event.Datagram bytes)).contents
datagram-plays learned me log bytes = sym (datagram-silent learned me log (datagram_of me.session bytes))

-- ---- after the last tick

pub over-stands : (m : Memory) (inputs : List Input) (input : Input) → nat_le (last_tick m.who.session) m.ticks ≡ true → StandsFor m inputs
    → step (member_of m.who) (log_after (member_of m.who) [] inputs) input ≡ begun (log_after (member_of m.who) [] inputs)
over-stands m inputs input over stood =
    step-is (member_of m.who) (log_after (member_of m.who) [] inputs) input true (ap (nat_le (last_tick m.who.session)) stood.time ∙ over)

-- ---- what the last tick plays

pub plays-now : (me : Member) (k : Knowledge) (s : Store) (round : ℕ) (contents : List (List ℕ)) → contents ≡ contents_in s round me.session.shape.per_round
    → Holds me k s → me.session.shape.per_round ≤ 64 * words_of me.session.shape → round ≡ this_round k - me.session.shape.life → slot_after k.ticks ≡ 0 → 1 ≤ round
    → round ≤ me.session.shape.rounds → contents ≡ contents_at_tick me k
plays-now me k s round contents is h few at slot low high =
    let first : (slot_after k.ticks == 0) ≡ true = grind (arith, nat_tests, slot) in
    let some : nat_le 1 round ≡ true = grind (arith, nat_tests, low) in
    let last : nat_le round me.session.shape.rounds ≡ true = grind (arith, nat_tests, high) in
    let fresh : IsFresh me k round = omega (arith, at, low) in
    is ∙ contents_told me k s round h few fresh
    ∙ sym (ap (λ b. if b then contents_of_round me k round else []) (λ i. first i && (some i && last i)))
    ∙ ap (λ (r : ℕ). if (slot_after k.ticks == 0) && (nat_le 1 r && nat_le r me.session.shape.rounds) then contents_of_round me k r else []) at

-- ---- obedience

pub obeys-now : (m : Memory) (inputs : List Input) (input : Input) → SignedByRule → nat_le (last_tick m.who.session) m.ticks ≡ false → StandsFor m inputs
    → IsObedient (member_of m.who) (take_input (member_of m.who) (log_after (member_of m.who) [] inputs) input).state
obeys-now m inputs input law go stood =
    let me : Member = member_of m.who in
    let log : Log = log_after me [] inputs in
    let now : step me log input ≡ take_input me log input = step-is me log input false (ap (nat_le (last_tick me.session)) stood.time ∙ go) in
    subst (IsObedient me) (log-more me [] inputs input ∙ ap (λ (out : Out). out.state) now) (law me m.who.is_member (inputs ++ input ∷ [])).obedient

-- if nothing was sent, no orders are left
pub none-left : (me : Member) (k : Knowledge) (left : List Order) (sends : List (ℕ × Datagram)) → left ≡ [] → sends ≡ [] → AreFor me k left sends
none-left me k left sends e f = record {
  same = ap (map (order_now me k)) e ∙ sym (ap (map (λ send. Some send)) f);
  timely = subst (AllByRecursion (IsOrderTimely me k)) (sym e) tt;
}

-- ---- what a step plays

abbrev pub PlaysNow : Memory → Playing → Type 0
PlaysNow n playing = (log : Log) → Represents log n → contents_left n.store playing ≡ contents_at_tick (member_of n.who) (known (member_of n.who) log)

pub tick-step : EntryIsLearned → (m n : Memory) (p : Orders) (playing : Playing) (inputs : List Input) (input : Input) → n.who ≡ m.who
    → nat_le (last_tick m.who.session) m.ticks ≡ false → StandsFor m inputs
    → HasOutcome (take_input (member_of m.who) (log_after (member_of m.who) [] inputs) input) n p → is_tick input ≡ true → PlaysNow n playing
    → contents_left n.store playing ≡ (step (member_of m.who) (log_after (member_of m.who) [] inputs) input).contents
tick-step learned m n p playing inputs event.Tick who go stood stands t plays =
    then-silent m n p inputs event.Tick who go stood stands (contents_left n.store playing)
    (tick-plays learned m n playing (log_after (member_of m.who) [] inputs) who stands.tells plays)
tick-step learned m n p playing inputs (event.Datagram bytes) who go stood stands t plays = absurd (false≢true t)

pub datagram-step : EntryIsLearned → (m n : Memory) (p : Orders) (playing : Playing) (inputs : List Input) (input : Input) → n.who ≡ m.who
    → nat_le (last_tick m.who.session) m.ticks ≡ false → StandsFor m inputs
    → HasOutcome (take_input (member_of m.who) (log_after (member_of m.who) [] inputs) input) n p → is_tick input ≡ false
    → contents_left n.store playing ≡ [] → contents_left n.store playing ≡ (step (member_of m.who) (log_after (member_of m.who) [] inputs) input).contents
datagram-step learned m n p playing inputs (event.Datagram bytes) who go stood stands t none =
    then-silent m n p inputs (event.Datagram bytes) who go stood stands (contents_left n.store playing)
    (none ∙ datagram-plays learned (member_of m.who) (log_after (member_of m.who) [] inputs) bytes)
datagram-step learned m n p playing inputs event.Tick who go stood stands t none = absurd (true≢false t)
