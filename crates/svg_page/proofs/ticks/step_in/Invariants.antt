use Rattle.std.proofs.Common.{◌≡◌, drop}
use Rattle.svg_page.specs.Axis.{step_in}
use Rattle.svg_page.proofs.ticks.step_in.Given as goal

abbrev pub invariant-loop-k : goal.invariant-loop-k
invariant-loop-k l = step_in (drop l.k-index l.steps) l.long ≡ step_in l.steps l.long
