use Rattle.std.proofs.Common.{◌≡◌, drop}
use Rattle.svg_page.specs.Shades.{kin}
use Rattle.svg_page.proofs.shades.kin.Given as goal

abbrev pub invariant-loop-c : goal.invariant-loop-c
invariant-loop-c l = kin l.i (drop l.c-index l.constraints) ≡ kin l.i l.constraints
