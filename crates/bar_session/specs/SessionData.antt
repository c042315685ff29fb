-- A session: the numbers of its datagrams and of its trade, the types of its signatures, and the keys of its parties.
use Rattle.std.specs.Prelude.{ℕ, List, Option, None}
use Rattle.bar_lms.specs.declared.params.Params.{Params}
use Rattle.bar_lms.specs.declared.params.Height.{Height}
use Rattle.bar_wire.specs.declared.shape.Shape.{Shape}

-- The upper tree has a height if signatures have two levels. The types are those of the trees that sign messages. Public keys are those of
-- the parties from 0 on, and anchors those of the peers from 1 on.
pub record SessionData : Type 0 where
  pub shape : Shape
  pub cap : ℕ
  pub fanout : ℕ
  pub port : ℕ
  pub tick_ms : ℕ
  pub top : Option Height
  pub params : Params
  pub keys : List (List ℕ)
  pub anchors : List (List ℕ)

-- the session with these numbers, keys and anchors, whose signatures have one level
abbrev pub session_of_parts : Shape → ℕ → ℕ → ℕ → ℕ → Params → List (List ℕ) → List (List ℕ) → SessionData
session_of_parts shape cap fanout port tick_ms params keys anchors = record {
  shape = shape;
  cap = cap;
  fanout = fanout;
  port = port;
  tick_ms = tick_ms;
  top = None;
  params = params;
  keys = keys;
  anchors = anchors;
}
