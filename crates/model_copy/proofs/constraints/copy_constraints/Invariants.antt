use Rattle.std.proofs.Common.{◌≡◌, ◌++◌, drop}
use Rattle.std.specs.Prelude.{filter_map, slice_get}
use Rattle.model_copy.proofs.constraints.copy_constraints.Given as goal

abbrev pub invariant-loop-c : goal.invariant-loop-c
invariant-loop-c l = l.found.items ++ filter_map (λ c. slice_get l.constraints c.0) (drop l.c-index l.keep) ≡ filter_map (λ c. slice_get l.constraints c.0) l.keep
