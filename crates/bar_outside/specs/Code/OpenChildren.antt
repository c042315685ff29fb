-- Which children a spawner has started, and how many of them haven't been waited for.
use Rattle.std.specs.Prelude.{ℕ, suc, zero, ◌+◌, Bool, List, nat_lt, if◌then◌else◌}
use Rattle.std.specs.List.{list_all}
use Rattle.bar_outside.specs.Code.Children.{ChildCall, child_of, is_waited}

-- each call concerns one of the first `started` children
abbrev pub are_below : ℕ → List ChildCall → Bool
are_below started calls = list_all (λ call. nat_lt (child_of call) started) calls

-- how many of the first children haven't been waited for
abbrev pub open_below : ℕ → List ChildCall → ℕ
open_below zero calls = 0
open_below (suc n) calls = (if is_waited n calls then 0 else 1) + open_below n calls
