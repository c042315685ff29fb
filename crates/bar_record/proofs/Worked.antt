-- Worked examples of pacing, computed by its definition: a session of ten rounds in which an update lives for four, whose last tick is 120.
use Rattle.std.proofs.Common.{◌≡◌, [], ◌∷◌, refl}
use Rattle.bar_wire.specs.Inputs.{Tick, Datagram}
use Rattle.bar_record.specs.Pacing.{paced_from}

-- a tick is inserted before the 65,537th datagram in a row
a_tick_in_a_long_row : paced_from 120 0 65536 (Datagram [] ∷ Datagram [] ∷ []) ≡ Tick ∷ Datagram [] ∷ Datagram [] ∷ []
a_tick_in_a_long_row = refl

nothing_after_the_last_tick : paced_from 120 118 0 (Datagram [] ∷ Tick ∷ Tick ∷ Datagram [] ∷ Tick ∷ []) ≡ Datagram [] ∷ Tick ∷ Tick ∷ []
nothing_after_the_last_tick = refl

nothing_after_an_added_last_tick : paced_from 120 119 65536 (Datagram [] ∷ []) ≡ Tick ∷ []
nothing_after_an_added_last_tick = refl
