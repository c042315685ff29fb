use Rattle.std.proofs.Common.{sym, ◌∙◌}
use Rattle.std.proofs.lemmas.Bool.{both_ways}
use Rattle.bar_exchange.proofs.Marks.{one_none, some_found}
use Rattle.bar_exchange.proofs.Begun.{ask_recalls}
use Rattle.bar_exchange.proofs.Room.{has_room, not_kept}
use Rattle.bar_exchange.proofs.saying.ask.Goals as goal
use Rattle.bar_exchange.proofs.saying.ask.Goals.{then-not-has_room-via-then-not-has_room, then-not-has_room-via-else-not-has_room+then-is_some}

pub returns-then-not-has_room-clause-learns : goal.returns-then-not-has_room-clause-learns
returns-then-not-has_room-clause-learns c me k d h s own left b commit =
    elim c.then-not-has_room.branch [
      | then-not-has_room-via-then-not-has_room w ↦
          absurd (both_ways _ w.if-not-has_room.true
          (c.has_room.ensures.few ∙ has_room me k c.args.ledger.now h left c.has_room.ensures.distinct c.has_room.ensures.each))
      | then-not-has_room-via-else-not-has_room+then-is_some w ↦
          absurd (not_kept me k d c.args.x c.args.ledger.now h s own
          (some_found w.find.result _ w.find.ensures.entry ∙ sym w.is_some.ensures ∙ w.if-is_some.true))
    ]

pub returns-clause-learns : goal.returns-clause-learns
returns-clause-learns c me k d h s own left b commit =
    let none = some_found c.find.result _ c.find.ensures.entry ∙ sym c.is_some.ensures ∙ c.if-is_some.false in
    ask_recalls me k d c.args.x c.args.ledger.now c.add.new.self c.args.terms h s own b commit
    (one_none me k c.args.ledger.now c.args.x h s.recent none)
    (record { found = c.add.ensures.found; asked = c.add.ensures.asked; opens = c.add.ensures.opens; same = c.add.ensures.same })
