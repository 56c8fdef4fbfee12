use Rattle.std.proofs.Common.{◌≡◌, drop, fold}
use Rattle.svg_page.specs.Cumuls.{over_bound}
use Rattle.svg_page.proofs.cumuls.over_bounds.Given as goal

abbrev pub invariant-loop-c : goal.invariant-loop-c
invariant-loop-c l = fold (over_bound l.k) l.reach (drop l.c-index l.constraints) ≡ fold (over_bound l.k) l.initial.reach l.constraints
