use Rattle.std.proofs.Common.{◌-ℤ◌, rules, to_z, of_z, w64}
use Rattle.std.specs.Int.{int_max, int_min}
use Rattle.look_hull.proofs.Known.{unless_empty_by}
use Rattle.look_hull.proofs.intervals.size_ends.Goals as goal

pub returns : goal.returns
returns c =
    let b = c.args.c in
    unless_empty_by (to_z w64 (of_z w64 c.least_size-least.result)) (to_z w64 (of_z w64 c.greatest_size-greatest.result)) (to_z w64 (of_z w64 c.args.c.pmin)) (to_z w64 (of_z w64 c.args.c.pmax)) (int_max b.pmin (b.emin -ℤ b.smax)) (int_min b.pmax (b.emax -ℤ b.smin)) (b.pmin) (b.pmax) _ c.unless_empty.ensures (search rules) (search rules) (search rules) (search rules)
