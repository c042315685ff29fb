-- Before the last tick an input is taken; afterwards nothing changes, and nothing is sent.
use Rattle.std.proofs.Common.{◌∙◌, ◌++◌, ◌∷◌, [], refl, sym, ap, subst}
use Rattle.std.proofs.lemmas.Bool.{false≢true}
use Rattle.bar_wire.specs.Inputs as event
use Rattle.bar_wire.specs.Inputs.{plain_input}
use Rattle.bar_wire.specs.declared.input.Input.{Input as RawInput}
use Rattle.bar_rules.specs.Broadcaster.Sending.{caster_step}
use Rattle.bar_laws.specs.Ignoring.{is_ignored_by_caster, is_unread}
use Rattle.bar_core.proofs.Left.{all-left, nothing-left}
use Rattle.bar_caster.specs.declared.memory.Memory.{Memory}
use Rattle.bar_caster.specs.Code.Ignoring.{IsAsBefore}
use Rattle.bar_caster.specs.Code.Memory.{member_of, stream_of}
use Rattle.bar_caster.specs.Code.StandsFor.{StandsFor, AreLeft, log_of}
use Rattle.bar_caster.proofs.Stepped.{then_stands, then_sends, then_silent, over_stands, over_silent}
use Rattle.bar_caster.proofs.caster.Caster.step.Goals as goal

pub returns-then-is_over-clause-stands : goal.returns-then-is_over-clause-stands
returns-then-is_over-clause-stands g c inputs stood =
    over_stands c.args.self.now.memory inputs (plain_input c.args.input) (sym c.is_over.ensures ∙ c.if-is_over.true) stood

pub returns-then-is_over-clause-sends : goal.returns-then-is_over-clause-sends
returns-then-is_over-clause-sends g c inputs stood =
    over_silent c.args.self.now.memory c.args.self.now.orders inputs (plain_input c.args.input) (sym c.is_over.ensures ∙ c.if-is_over.true) stood
    c.requires.sends

pub returns-in-Tick-clause-stands : goal.returns-in-Tick-clause-stands
returns-in-Tick-clause-stands g c inputs stood =
    let m = c.args.self.now.memory in
    let n = c.take_tick.new.self.memory in
    let go = sym c.is_over.ensures ∙ c.if-is_over.false in
    subst (λ (x : RawInput). StandsFor n (inputs ++ plain_input x ∷ [])) (sym c.in-Tick.is)
    (then_stands m n inputs event.Tick c.take_tick.ensures.same go stood (c.take_tick.ensures.stands inputs stood).tells)

pub returns-in-Tick-clause-sends : goal.returns-in-Tick-clause-sends
returns-in-Tick-clause-sends g c inputs stood =
    let m = c.args.self.now.memory in
    let n = c.take_tick.new.self.memory in
    let o = c.take_tick.new.self.orders in
    let go = sym c.is_over.ensures ∙ c.if-is_over.false in
    subst (λ (x : RawInput). AreLeft n o (inputs ++ plain_input x ∷ []) (caster_step (member_of m) (stream_of m) (log_of m inputs) (plain_input x)).sends)
    (sym c.in-Tick.is)
    (then_sends m n inputs event.Tick c.take_tick.ensures.same go stood o (c.take_tick.ensures.stands inputs stood)
    (all-left o (c.take_tick.ensures.given ∙ c.clear.ensures.1)))

pub returns-in-Datagram-clause-stands : goal.returns-in-Datagram-clause-stands
returns-in-Datagram-clause-stands g c inputs stood =
    let m = c.args.self.now.memory in
    let n = c.take_datagram.new.self in
    let go = sym c.is_over.ensures ∙ c.if-is_over.false in
    subst (λ (x : RawInput). StandsFor n (inputs ++ plain_input x ∷ [])) (sym c.in-Datagram.is)
    (then_stands m n inputs (event.Datagram c.in-Datagram.bytes.now) c.take_datagram.ensures.same go stood
    (c.take_datagram.ensures.judged (log_of m inputs) stood))

pub returns-in-Datagram-clause-sends : goal.returns-in-Datagram-clause-sends
returns-in-Datagram-clause-sends g c inputs stood =
    let m = c.args.self.now.memory in
    let n = c.take_datagram.new.self in
    let o = c.clear.new.self in
    let go = sym c.is_over.ensures ∙ c.if-is_over.false in
    subst (λ (x : RawInput). AreLeft n o (inputs ++ plain_input x ∷ []) (caster_step (member_of m) (stream_of m) (log_of m inputs) (plain_input x)).sends)
    (sym c.in-Datagram.is)
    (then_silent m n inputs (event.Datagram c.in-Datagram.bytes.now) c.take_datagram.ensures.same go stood o
    (nothing-left o c.clear.ensures.0 c.clear.ensures.1) refl)

as-before : (m : Memory) → IsAsBefore m m
as-before m = record {
  session = refl;
  secrets = refl;
  stream = refl;
  ticks = refl;
  table = refl;
  manifests = refl;
  notice = refl;
  evictions = refl;
}

pub returns-then-is_over-clause-unread : goal.returns-then-is_over-clause-unread
returns-then-is_over-clause-unread g c unread = record { memory = as-before c.args.self.now.memory; sends = c.requires.sends }

pub returns-then-is_over-clause-ignored : goal.returns-then-is_over-clause-ignored
returns-then-is_over-clause-ignored g c inputs stood ignored = record { memory = as-before c.args.self.now.memory; sends = c.requires.sends }

pub returns-in-Tick-clause-unread : goal.returns-in-Tick-clause-unread
returns-in-Tick-clause-unread g c unread =
    absurd (false≢true (ap (λ (x : RawInput). is_unread c.args.self.now.memory.session (plain_input x)) (sym c.in-Tick.is) ∙ unread))

pub returns-in-Tick-clause-ignored : goal.returns-in-Tick-clause-ignored
returns-in-Tick-clause-ignored g c inputs stood ignored =
    let m = c.args.self.now.memory in
    absurd (false≢true (ap (λ (x : RawInput). is_ignored_by_caster (member_of m) (stream_of m) (log_of m inputs) (plain_input x)) (sym c.in-Tick.is) ∙ ignored))

pub returns-in-Datagram-clause-unread : goal.returns-in-Datagram-clause-unread
returns-in-Datagram-clause-unread g c unread =
    record {
      memory = c.take_datagram.ensures.unread
          (ap (λ (x : RawInput). is_unread c.args.self.now.memory.session (plain_input x)) (sym c.in-Datagram.is) ∙ unread);
      sends = nothing-left c.clear.new.self c.clear.ensures.0 c.clear.ensures.1;
    }

pub returns-in-Datagram-clause-ignored : goal.returns-in-Datagram-clause-ignored
returns-in-Datagram-clause-ignored g c inputs stood ignored =
    let m = c.args.self.now.memory in
    record {
      memory = c.take_datagram.ensures.ignored (log_of m inputs) stood
          (ap (λ (x : RawInput). is_ignored_by_caster (member_of m) (stream_of m) (log_of m inputs) (plain_input x)) (sym c.in-Datagram.is) ∙ ignored);
      sends = nothing-left c.clear.new.self c.clear.ensures.0 c.clear.ensures.1;
    }
