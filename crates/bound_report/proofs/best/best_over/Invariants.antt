use Rattle.std.proofs.Common.{◌≡◌, ◌++◌, length, map}
use Rattle.std.specs.Prelude.{option_to_list}
use Rattle.kernel.specs.code.Open.{AreOpenOf}
use Rattle.bound_report.specs.Bound.{reach}
use Rattle.bound_report.specs.code.Best.{best_in}
use Rattle.bound_report.proofs.best.best_over.Given as goal

abbrev pub invariant-each : goal.invariant-each
invariant-each l = record {
  of : AreOpenOf l.model l.regions;
  same : best_in l.objective.sense (option_to_list l.so_far ++ map (reach l.model l.objective) l.regions.behind) ≡ best_in l.objective.sense (option_to_list l.initial.so_far ++ map (reach l.model l.objective) l.initial.regions.behind);
}

abbrev pub decreases-each : goal.decreases-each
decreases-each l = length l.regions.behind
