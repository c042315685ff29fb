-- The plan of the command `simulate`, and what it prints.
use Rattle.std.specs.Prelude.{ℕ, suc, List, [], ◌∷◌, ◌++◌, codes}
use Rattle.std.specs.List.{flat_map}
use Rattle.std.specs.Fmt.{decimal}
use Rattle.bar_outside.specs.Disk.{Content}
use Rattle.bar_outside.specs.Plan.{Plan, doing}
use Rattle.bar_outside.specs.Plan.Action.{show}
use Rattle.bar_world.specs.Ends.{End, sim_end}
use Rattle.bar_world.specs.Code.Shown.{parties_of}
use Rattle.bar_world.specs.declared.sim_end.SimEnd.{SimEnd}

abbrev pub played_line : ℕ → ℕ → List ℕ
played_line party bytes = codes "party " ++ (decimal party ++ (codes " played " ++ (decimal bytes ++ codes " bytes\n")))

-- a line for each peer from this one on
abbrev pub played_lines : ℕ → List ℕ → List ℕ
played_lines party [] = []
played_lines party (bytes ∷ others) = played_line party bytes ++ played_lines (suc party) others

abbrev pub counts_line : End → List ℕ
counts_line end =
    codes "delivered "
    ++ (decimal end.delivered ++ (codes " lost " ++ (decimal end.lost ++ (codes " repeated " ++ (decimal end.repeated ++ codes "\n")))))

-- parties, each preceded by a blank
abbrev pub parties_text : List ℕ → List ℕ
parties_text [] = codes " none"
parties_text (party ∷ others) = flat_map (λ p. codes " " ++ decimal p) (party ∷ others)

abbrev pub evicted_line : End → List ℕ
evicted_line end = codes "evicted" ++ (parties_text end.evicted ++ codes "\n")

-- the text printed for an end
abbrev pub text_of : End → List ℕ
text_of end = played_lines 1 end.played ++ (counts_line end ++ evicted_line end)

-- the text printed for a seed's simulation
unfoldable pub simulation_text : ℕ → List ℕ
simulation_text seed = text_of (sim_end seed)

abbrev pub simulate_plan : ℕ → Content → Plan
simulate_plan seed = doing (show (simulation_text seed) ∷ []) 0 []

-- the end that a value of the code represents
abbrev pub end_view : SimEnd → End
end_view end =
    record {
      played = end.played;
      delivered = end.delivered;
      lost = end.lost;
      repeated = end.repeated;
      evicted = parties_of end.evicted;
    }
