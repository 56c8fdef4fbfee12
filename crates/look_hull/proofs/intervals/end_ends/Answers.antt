use Rattle.std.proofs.Common.{◌+ℤ◌, rules, to_z, of_z, w64}
use Rattle.std.specs.Int.{int_max}
use Rattle.look_hull.proofs.Known.{unless_empty_by}
use Rattle.look_hull.proofs.intervals.end_ends.Goals as goal

pub returns : goal.returns
returns c =
    let b = c.args.c in
    unless_empty_by (to_z w64 (of_z w64 c.earliest_end-first.result)) (to_z w64 (of_z w64 c.args.c.emax)) (to_z w64 (of_z w64 c.args.c.emin)) (to_z w64 (of_z w64 c.args.c.emax)) (int_max b.emin (b.smin +ℤ b.pmin)) (b.emax) (b.emin) (b.emax) _ c.unless_empty.ensures (search rules) (search rules) (search rules) (search rules)
