use Rattle.std.proofs.Common.{refl, arith}
use Rattle.bar_ledger.proofs.Making.{made-none, made-more, made-distinct}
use Rattle.bar_ledger.proofs.Recalled.{starts}
use Rattle.bar_ledger.proofs.ledger.Ledger.make.Goals as goal

pub loop-init : goal.loop-init
loop-init c = made-none c.args.shape.now c.new-slots.result.items c.new-slots.ensures.items

pub loop-preserved : goal.loop-preserved
loop-preserved c =
    made-more c.args.shape.now c.loop.slots.items c.push.new.self.items c.loop.counter c.in_ok-slot.slot c.loop.invariant c.in_ok-push.ensures.items c.in_ok-slot.ensures.empty c.in_ok-slot.ensures.rooms

pub invariant_of-result : goal.invariant_of-result
invariant_of-result c = record {
  cap_fits = c.requires.cap;
  signatures_fit = c.requires.signatures;
  count = omega (arith, c.loop.invariant.count, c.loop.auto.counter-end, c.loop-test.false, c.from.ensures);
  rooms = c.loop.invariant.rooms;
  distinct = made-distinct c.args.shape.now.life c.loop.slots.items c.loop.invariant.empty;
}

pub returns-clause-starts : goal.returns-clause-starts
returns-clause-starts c = starts _ c.loop.invariant.empty refl
