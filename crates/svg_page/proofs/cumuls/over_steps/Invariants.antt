use Rattle.std.proofs.Common.{◌≡◌, drop, fold}
use Rattle.svg_page.specs.Cumuls.{over_step}
use Rattle.svg_page.proofs.cumuls.over_steps.Given as goal

abbrev pub invariant-loop-s : goal.invariant-loop-s
invariant-loop-s l = fold over_step l.reach (drop l.s-index l.steps) ≡ fold over_step l.initial.reach l.steps
