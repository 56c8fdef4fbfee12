use Rattle.std.proofs.Common.{◌≡◌, ◌≤◌}
use Rattle.cpo_text.specs.code.Lists.{after}
use Rattle.cpo_text.specs.code.Contributions.{added_at}
use Rattle.cpo_text.specs.code.Gives.{ahead}
use Rattle.cpo_text.proofs.contributions.added.Given as goal

abbrev pub invariant-loop-left : goal.invariant-loop-left
invariant-loop-left l = record {
  same : after l.parts (added_at l.left (ahead l.here)) ≡ added_at l.fuel (ahead l.place);
  within : l.left ≤ l.fuel;
}

abbrev pub decreases-loop-left : goal.decreases-loop-left
decreases-loop-left l = l.left
