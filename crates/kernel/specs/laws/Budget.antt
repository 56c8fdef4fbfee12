-- Of how many nodes a search never opens as many.
use Rattle.std.specs.Prelude.{ℕ, ◌+◌, ◌*◌}
use Rattle.sched_model.specs.Data.{Data}
use Rattle.region.specs.Points.{budget_of}

-- where it begins anew at most r times
abbrev pub budget_with : Data → ℕ → ℕ
budget_with m r = (r + 1) * budget_of m
