-- The calls that an in-memory spawner represents.
use Rattle.std.specs.Prelude.{map, string_bytes}
use Rattle.bar_outside.specs.Code.Children.{ChildCall, Started, Waited}
use Rattle.bar_outside.specs.declared.mem_call.MemCall.{MemCall}
use Rattle.bar_outside.specs.declared.mem_call.MemCall.TheVariants as raw

abbrev pub call_in : MemCall → ChildCall
call_in (raw.Started words child) = Started (map string_bytes words.items) child
call_in (raw.Waited child status) = Waited child status
