use Rattle.std.proofs.Common.{codes, SFits, w64}
use Rattle.std.proofs.lemmas.Int.{to_z-of_z}
use Rattle.sched_text.proofs.Calls.{opened, first, more, closed}
use Rattle.sched_text.proofs.constraints.put_between.Goals as goal

pub returns : goal.returns
returns g c =
    let fits_u : SFits w64 c.args.u = c.ranges.u in
    let fits_v : SFits w64 c.args.v = c.ranges.v in
    let fits_lo : SFits w64 c.args.lo = c.ranges.lo in
    let fits_hi : SFits w64 c.args.hi = c.ranges.hi in
    closed (more (more (more (more (first (opened (codes "alwaysIn") c.put_text.ensures) c.put_function.ensures) (simp to_z-of_z at c.put_next_number.ensures)) (simp to_z-of_z at c.put_next_number-2.ensures)) (simp to_z-of_z at c.put_next_number-3.ensures)) (simp to_z-of_z at c.put_next_number-4.ensures)) c.put_text-2.ensures
