-- The outcome of an input, given the inputs before it.
use Rattle.std.proofs.Common.{◌≡◌, ◌∙◌, ℕ, Bool, true, false, List, [], ◌∷◌, ◌++◌, map, sym, ap, subst}
use Rattle.std.specs.Prelude.{nat_le, if◌then◌else◌, Option, Some}
use Rattle.bar_core.specs.Code.Orders.{left_in}
use Rattle.bar_wire.specs.Datagram.{Datagram}
use Rattle.bar_wire.specs.Inputs.{Input}
use Rattle.bar_rules.specs.Broadcaster.Sending.{caster_log_after, caster_step, caster_take}
use Rattle.bar_session.specs.Time.{last_tick}
use Rattle.bar_rules.specs.Member.{Member}
use Rattle.bar_rules.specs.Members.{member_by}
use Rattle.bar_rules.specs.Peer.Log.{Log, ticks}
use Rattle.bar_rules.specs.Runs.{Outcome, begun}
use Rattle.bar_rules.proofs.LongerRuns.{state_after_both}
use Rattle.bar_caster.specs.declared.memory.Memory.{Memory}
use Rattle.bar_caster.specs.declared.order.Order.{Order}
use Rattle.bar_caster.specs.Code.Memory.{Represents, IsOfTheSame, member_of, stream_of}
use Rattle.bar_caster.specs.Code.Orders.{Orders, AreFor, HasOutcome, order_now}
use Rattle.bar_caster.specs.Code.StandsFor.{StandsFor, AreLeft, log_of}

-- ---- one more input

-- the log after one more input
pub log_more : (me : Member) (stream : List ℕ) (inputs : List Input) (input : Input)
    → caster_log_after me stream (inputs ++ input ∷ []) ≡ (caster_step me stream (caster_log_after me stream inputs) input).state
log_more me stream inputs input = state_after_both (caster_step me stream) [] inputs (input ∷ [])

-- the log depends only on the session, the secrets and the stream
log_same : (m n : Memory) (inputs : List Input) → IsOfTheSame m n → log_of n inputs ≡ log_of m inputs
log_same m n inputs same = λ i. caster_log_after (member_by (same.session i) (same.secrets i)) (same.stream i).bytes.items inputs

abbrev step_by : Member → List ℕ → Log → Input → Bool → Outcome Log
step_by me stream log input over = if over then begun log else caster_take me stream log input

step_is : (me : Member) (stream : List ℕ) (log : Log) (input : Input) (over : Bool) → nat_le (last_tick me.session) (ticks log) ≡ over
    → caster_step me stream log input ≡ step_by me stream log input over
unfolding caster_step
step_is me stream log input over is = ap (step_by me stream log input) is

-- if nothing was sent, no orders are left
pub nothing_left : (me : Member) (stream : List ℕ) (log : Log) (left : List Order) (sends : List (ℕ × Datagram)) → left ≡ [] → sends ≡ []
    → AreFor me stream log left sends
nothing_left me stream log left sends none silent =
    ap (map (order_now me stream log)) none ∙ sym (ap {B = List (Option (ℕ × Datagram))} (map (λ send. Some send)) silent)

-- ---- before the last tick

module _ (m n : Memory) (inputs : List Input) (input : Input) (same : IsOfTheSame m n) (go : nat_le (last_tick m.session) m.ticks ≡ false)
    (stood : StandsFor m inputs) where
  abbrev taken : Outcome Log
  taken = caster_take (member_of m) (stream_of m) (log_of m inputs) input

  now : caster_step (member_of m) (stream_of m) (log_of m inputs) input ≡ taken
  now = step_is (member_of m) (stream_of m) (log_of m inputs) input false (ap (nat_le (last_tick m.session)) stood.time ∙ go)

  after : log_of n (inputs ++ input ∷ []) ≡ taken.state
  after =
      log_same m n (inputs ++ input ∷ []) same ∙ log_more (member_of m) (stream_of m) inputs input ∙ ap (λ (out : Outcome Log). out.state) now

  pub then_stands : Represents taken.state n → StandsFor n (inputs ++ input ∷ [])
  then_stands tells = subst (λ (log : Log). Represents log n) (sym after) tells

  pub then_sends : (o : Orders) → HasOutcome taken n o → left_in o ≡ o.list.items
      → AreLeft n o (inputs ++ input ∷ []) (caster_step (member_of m) (stream_of m) (log_of m inputs) input).sends
  then_sends o stands all =
      let one : AreFor (member_of n) (stream_of n) (log_of n (inputs ++ input ∷ [])) o.list.items taken.sends =
      subst (λ (log : Log). AreFor (member_of n) (stream_of n) log o.list.items taken.sends) (sym after) stands.orders in
      let two : AreFor (member_of n) (stream_of n) (log_of n (inputs ++ input ∷ [])) (left_in o) taken.sends =
      subst (λ (left : List Order). AreFor (member_of n) (stream_of n) (log_of n (inputs ++ input ∷ [])) left taken.sends) (sym all) one in
      subst (λ (out : Outcome Log). AreFor (member_of n) (stream_of n) (log_of n (inputs ++ input ∷ [])) (left_in o) out.sends) (sym now) two

  pub then_silent : (o : Orders) → left_in o ≡ [] → taken.sends ≡ []
      → AreLeft n o (inputs ++ input ∷ []) (caster_step (member_of m) (stream_of m) (log_of m inputs) input).sends
  then_silent o none silent =
      nothing_left (member_of n) (stream_of n) (log_of n (inputs ++ input ∷ [])) (left_in o)
      (caster_step (member_of m) (stream_of m) (log_of m inputs) input).sends
      none
      (ap (λ (out : Outcome Log). out.sends) now ∙ silent)

-- ---- after the last tick

over_is : (m : Memory) (inputs : List Input) (input : Input) → nat_le (last_tick m.session) m.ticks ≡ true → StandsFor m inputs
    → caster_step (member_of m) (stream_of m) (log_of m inputs) input ≡ begun (log_of m inputs)
over_is m inputs input over stood =
    step_is (member_of m) (stream_of m) (log_of m inputs) input true (ap (nat_le (last_tick m.session)) stood.time ∙ over)

pub over_stands : (m : Memory) (inputs : List Input) (input : Input) → nat_le (last_tick m.session) m.ticks ≡ true → StandsFor m inputs
    → StandsFor m (inputs ++ input ∷ [])
over_stands m inputs input over stood =
    subst (λ (log : Log). Represents log m)
    (sym (log_more (member_of m) (stream_of m) inputs input ∙ ap (λ (out : Outcome Log). out.state) (over_is m inputs input over stood)))
    stood

pub over_silent : (m : Memory) (o : Orders) (inputs : List Input) (input : Input) → nat_le (last_tick m.session) m.ticks ≡ true
    → StandsFor m inputs → left_in o ≡ []
    → AreLeft m o (inputs ++ input ∷ []) (caster_step (member_of m) (stream_of m) (log_of m inputs) input).sends
over_silent m o inputs input over stood none =
    nothing_left (member_of m) (stream_of m) (log_of m (inputs ++ input ∷ [])) (left_in o)
    (caster_step (member_of m) (stream_of m) (log_of m inputs) input).sends
    none
    (ap (λ (out : Outcome Log). out.sends) (over_is m inputs input over stood))
