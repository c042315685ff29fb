-- The inputs that a recording's iterator has not yet returned.
use Rattle.std.specs.Prelude.{List}
use Rattle.bar_wire.specs.Inputs.{Input}
use Rattle.bar_record.specs.declared.items.Items.{Items}
use Rattle.bar_record.specs.Code.Items.{entries}

abbrev pub inputs_left : Items → List Input
inputs_left items = entries items.left items.bytes.now
