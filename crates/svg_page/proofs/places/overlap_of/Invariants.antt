use Rattle.std.proofs.Common.{◌≡◌, drop}
use Rattle.svg_page.specs.Bars.{overlap_from}
use Rattle.svg_page.proofs.places.overlap_of.Given as goal

abbrev pub invariant-loop-k : goal.invariant-loop-k
invariant-loop-k l = overlap_from l.i l.k (drop l.k l.model.constraints) ≡ overlap_from l.i 0 l.model.constraints
