-- Lists of bytes that the code keeps.
use Rattle.std.specs.Prelude.{ℕ, List, map, Vec}
use Rattle.std.specs.declared.alloc.Global.{Global}

-- the bytes of each list
abbrev pub texts : List (Vec ℕ Global) → List (List ℕ)
texts played = map (λ (bytes : Vec ℕ Global). bytes.items) played
