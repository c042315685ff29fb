-- The moves of the definitions that the code's moves represent.
use Rattle.bar_rules.specs.World.World as plain
use Rattle.bar_world.specs.declared.moves.Move.{Move}
use Rattle.bar_world.specs.declared.moves.Move.TheVariants.{TickOf, Deliver, Hostile}

abbrev pub plain_move : Move → plain.Move
plain_move (TickOf party) = plain.TickOf party
plain_move (Deliver number) = plain.Deliver number
plain_move (Hostile to bytes) = plain.Hostile to bytes.items
