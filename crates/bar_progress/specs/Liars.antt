-- The premises of the laws of evidence can be met: in every setup of at least three peers some moves lead to a party that is denounced and
-- a peer that awaits the notice.
use Rattle.std.specs.Prelude.{◌≡◌, ℕ, ◌≤◌, Bool, true, List, [], ◌∷◌, ◌++◌}
use Rattle.bar_wire.specs.Grammar.{IsPeer}
use Rattle.bar_rules.specs.World.World.{IsSetup, Move, Setup, TickOf}
use Rattle.bar_progress.specs.Evictions.{AwaitsNotice}
use Rattle.bar_progress.specs.Silence.{IsDenounced, until_tick}

-- Some moves forge nothing of the trusted parties. After them one of the other parties is denounced, and a trusted peer awaits the notice.
pub record HasLiar (setup : Setup) : Type 0 where
  pub trusted : ℕ → Bool
  pub moves : List Move
  pub report : Move
  pub waiting : List Move
  pub party : ℕ
  pub round : ℕ
  pub denounced : IsDenounced setup trusted moves report waiting party round
  pub peer : ℕ
  pub present : IsPeer setup.session.shape peer
  pub trust : trusted peer ≡ true
  pub awaits : AwaitsNotice setup trusted (until_tick moves report waiting ++ TickOf 0 ∷ []) peer round

-- a peer that asks another peer than its partner is such a liar
abbrev pub LiarsAreDenounced : Type 0
LiarsAreDenounced = (setup : Setup) → IsSetup setup → 3 ≤ setup.session.shape.peers → HasLiar setup
