use Rattle.std.proofs.Common.{◌-ℤ◌, rules, to_z, of_z, w64}
use Rattle.std.specs.Int.{int_min}
use Rattle.look_hull.proofs.Known.{unless_empty_by}
use Rattle.look_hull.proofs.intervals.start_ends.Goals as goal

pub returns : goal.returns
returns c =
    let b = c.args.c in
    unless_empty_by (to_z w64 (of_z w64 c.args.c.smin)) (to_z w64 (of_z w64 c.latest_start-last.result)) (to_z w64 (of_z w64 c.args.c.smin)) (to_z w64 (of_z w64 c.args.c.smax)) (b.smin) (int_min b.smax (b.emax -ℤ b.pmin)) (b.smin) (b.smax) _ c.unless_empty.ensures (search rules) (search rules) (search rules) (search rules)
