use Rattle.std.proofs.Common.{◌∙◌, ◌==◌, ℕ, refl, sym, ap, subst, arith}
use Rattle.bar_session.specs.Time.{slot_after}
use Rattle.bar_peer.specs.declared.memory.Memory.{Memory}
use Rattle.bar_peer.specs.Code.Orders.{Orders}
use Rattle.bar_peer.proofs.Ticking.All.{IsAsked, asked_at_tick, unasked_at_tick, reported_at_tick, unreported_at_tick}
use Rattle.bar_peer.proofs.ticks.act.Goals as goal
use Rattle.bar_peer.proofs.ticks.act.Goals.{then-is_first_slot, else-is_first_slot}

pub returns-then-is_last_slot-clause-stands : goal.returns-then-is_last_slot-clause-stands
returns-then-is_last_slot-clause-stands c = λ log obedient h none most.
    let m = c.args.memory.now in
    let o = c.repeat_all.new.orders in
    let again = c.repeat_all.ensures.stands log h none most in
    let asked : IsAsked m c.if-is_first_slot.memory o c.if-is_first_slot.orders log = elim c.if-is_first_slot.branch [
      | then-is_first_slot w ↦
          subst (λ (n : Memory). IsAsked m n o c.if-is_first_slot.orders log) (sym w.memory-is)
          (subst (λ (p : Orders). IsAsked m w.ask_partners.new.memory o p log) (sym w.orders-is)
          (record {
            stands = asked_at_tick m w.ask_partners.new.memory o w.ask_partners.new.orders log h.time
                (sym c.is_first_slot.ensures ∙ w.if-is_first_slot.true)
                w.ask_partners.ensures.stands
                (omega (arith, c.repeat_all.ensures.length log h none, most, c.repeat_all.ensures.room.room))
                again
                obedient;
            who = w.ask_partners.ensures.party.who;
            ticks = w.ask_partners.ensures.party.ticks;
            length = w.ask_partners.ensures.length;
            room = w.ask_partners.ensures.room.room;
          }))
      | else-is_first_slot w ↦
          subst (λ (n : Memory). IsAsked m n o c.if-is_first_slot.orders log) (sym w.memory-is)
          (subst (λ (p : Orders). IsAsked m m o p log) (sym w.orders-is)
          (record {
            stands = unasked_at_tick m o log (sym c.is_first_slot.ensures ∙ w.if-is_first_slot.false) again;
            who = refl;
            ticks = refl;
            length = omega arith;
            room = refl;
          }))
    ] in
    reported_at_tick m c.if-is_first_slot.memory c.if-is_first_slot.orders c.report_all.new.orders log asked.who h.time
    (ap (λ (ticks : ℕ). slot_after ticks == 7) (sym asked.ticks) ∙ sym c.is_last_slot.ensures ∙ c.if-is_last_slot.true)
    c.report_all.ensures.stands
    (omega (arith, c.repeat_all.ensures.length log h none, most, c.repeat_all.ensures.room.room, asked.length, asked.room))
    asked.stands

pub returns-else-is_last_slot-clause-stands : goal.returns-else-is_last_slot-clause-stands
returns-else-is_last_slot-clause-stands c = λ log obedient h none most.
    let m = c.args.memory.now in
    let o = c.repeat_all.new.orders in
    let again = c.repeat_all.ensures.stands log h none most in
    let asked : IsAsked m c.if-is_first_slot.memory o c.if-is_first_slot.orders log = elim c.if-is_first_slot.branch [
      | then-is_first_slot w ↦
          subst (λ (n : Memory). IsAsked m n o c.if-is_first_slot.orders log) (sym w.memory-is)
          (subst (λ (p : Orders). IsAsked m w.ask_partners.new.memory o p log) (sym w.orders-is)
          (record {
            stands = asked_at_tick m w.ask_partners.new.memory o w.ask_partners.new.orders log h.time
                (sym c.is_first_slot.ensures ∙ w.if-is_first_slot.true)
                w.ask_partners.ensures.stands
                (omega (arith, c.repeat_all.ensures.length log h none, most, c.repeat_all.ensures.room.room))
                again
                obedient;
            who = w.ask_partners.ensures.party.who;
            ticks = w.ask_partners.ensures.party.ticks;
            length = w.ask_partners.ensures.length;
            room = w.ask_partners.ensures.room.room;
          }))
      | else-is_first_slot w ↦
          subst (λ (n : Memory). IsAsked m n o c.if-is_first_slot.orders log) (sym w.memory-is)
          (subst (λ (p : Orders). IsAsked m m o p log) (sym w.orders-is)
          (record {
            stands = unasked_at_tick m o log (sym c.is_first_slot.ensures ∙ w.if-is_first_slot.false) again;
            who = refl;
            ticks = refl;
            length = omega arith;
            room = refl;
          }))
    ] in
    unreported_at_tick m c.if-is_first_slot.memory c.if-is_first_slot.orders log h.time
    (ap (λ (ticks : ℕ). slot_after ticks == 7) (sym asked.ticks) ∙ sym c.is_last_slot.ensures ∙ c.if-is_last_slot.false)
    asked.stands
