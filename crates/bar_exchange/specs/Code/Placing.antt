-- The place of a view's datagram.
use Rattle.std.specs.Prelude.{◌≡◌, Option, option_map}
use Rattle.bar_wire.specs.Datagram.{Message, place_of}
use Rattle.bar_wire.specs.Code.Sides.{place_in}
use Rattle.bar_wire.specs.Code.Views.{plain}
use Rattle.bar_wire.specs.declared.place.Place.{Place}
use Rattle.bar_wire.specs.declared.view.View.{View}

-- the message of a view
abbrev pub message_in : View → Message
message_in v = record { from = v.from; to = v.to; body = plain v.body }

-- the message has this place in an exchange, or is of no exchange
abbrev pub StandsAt : View → Option Place → Type 0
StandsAt v place = option_map place_in place ≡ place_of (message_in v)
