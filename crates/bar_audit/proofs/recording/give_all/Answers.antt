use Rattle.std.proofs.Common.{◌∙◌, ◌∷◌, ap}
use Rattle.bar_record.specs.Code.Inputs.{inputs_left}
use Rattle.bar_wire.specs.Inputs.{plain_input}
use Rattle.bar_audit.proofs.Takings.{taken-none, taken-tick, taken-more, taken-within, taken-cases, taken-keys, taken-cost}
use Rattle.bar_audit.proofs.recording.give_all.Goals as goal

pub loop-input-init : goal.loop-input-init
loop-input-init g c = (
  tt,
  tt,
  rw c.into_iter-input-iterator.ensures.into_iter_gives
      (taken-none c.args.session.now c.args.party (inputs_left c.args.items) c.args.found.now c.args.steps.now
      (g.V.Verifier.most_steps c.args.verifier.now)),
)

pub loop-input-preserved-in-Continue-1 : goal.loop-input-preserved-in-Continue-1
loop-input-preserved-in-Continue-1 g c = (
  tt,
  tt,
  taken-more c.args.session.now c.args.party (inputs_left c.args.items) (inputs_left c.loop-input.input-iterator) (inputs_left c.next.new.self)
      c.in-Datagram.bytes.now c.args.found.now c.loop-input.found c.give.new.found c.args.steps.now c.loop-input.steps c.give.new.steps
      (g.V.Verifier.most_steps c.args.verifier.now)
      (c.in-Some.ensures.steps ∙ ap (λ i. plain_input i ∷ inputs_left c.next.new.self) c.in-Datagram.is) c.loop-input.invariant.2
      c.in_ok-give.ensures.cases c.in_ok-give.ensures.keys c.in_ok-give.ensures.windows c.in_ok-give.ensures.exchanges c.give.ensures.cost,
)

pub returns-in_err-give-clause-cost : goal.returns-in_err-give-clause-cost
returns-in_err-give-clause-cost g c =
    taken-within c.args.session.now c.args.party (inputs_left c.args.items) (inputs_left c.loop-input.input-iterator)
    (inputs_left c.next.new.self) c.in-Datagram.bytes.now c.args.found.now c.loop-input.found c.args.steps.now c.loop-input.steps
    c.give.new.steps (g.V.Verifier.most_steps c.args.verifier.now)
    (c.in-Some.ensures.steps ∙ ap (λ i. plain_input i ∷ inputs_left c.next.new.self) c.in-Datagram.is) c.loop-input.invariant.2
    c.give.ensures.cost

pub loop-input-preserved : goal.loop-input-preserved
loop-input-preserved g c = (
  tt,
  tt,
  taken-tick c.args.session.now c.args.party (inputs_left c.args.items) (inputs_left c.loop-input.input-iterator)
      (inputs_left c.next.new.self) c.args.found.now c.loop-input.found c.args.steps.now c.loop-input.steps
      (g.V.Verifier.most_steps c.args.verifier.now)
      (c.in-Some.ensures.steps ∙ ap (λ i. plain_input i ∷ inputs_left c.next.new.self) c.in_default.is) c.loop-input.invariant.2,
)

pub returns-clause-cases : goal.returns-clause-cases
returns-clause-cases g c =
    taken-cases c.args.session.now c.args.party (inputs_left c.args.items) (inputs_left c.loop-input.input-iterator) c.args.found.now
    c.loop-input.found c.args.steps.now c.loop-input.steps (g.V.Verifier.most_steps c.args.verifier.now) c.in-None.ensures.steps.0
    c.loop-input.invariant.2

pub returns-clause-keys : goal.returns-clause-keys
returns-clause-keys g c =
    taken-keys c.args.session.now c.args.party (inputs_left c.args.items) (inputs_left c.loop-input.input-iterator) c.args.found.now
    c.loop-input.found c.args.steps.now c.loop-input.steps (g.V.Verifier.most_steps c.args.verifier.now) c.in-None.ensures.steps.0
    c.loop-input.invariant.2

pub returns-clause-windows : goal.returns-clause-windows
returns-clause-windows g c = c.loop-input.invariant.2.windows

pub returns-clause-exchanges : goal.returns-clause-exchanges
returns-clause-exchanges g c = c.loop-input.invariant.2.exchanges

pub returns-clause-cost : goal.returns-clause-cost
returns-clause-cost g c =
    taken-cost c.args.session.now c.args.party (inputs_left c.args.items) (inputs_left c.loop-input.input-iterator) c.args.found.now
    c.loop-input.found c.args.steps.now c.loop-input.steps (g.V.Verifier.most_steps c.args.verifier.now) c.loop-input.invariant.2
