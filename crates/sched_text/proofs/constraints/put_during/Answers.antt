use Rattle.std.proofs.Common.{codes, SFits, w64}
use Rattle.std.proofs.lemmas.Int.{to_z-of_z}
use Rattle.sched_text.proofs.Calls.{opened, first, more, closed}
use Rattle.sched_text.proofs.constraints.put_during.Goals as goal

pub returns : goal.returns
returns g c =
    let fits_lo : SFits w64 c.args.lo = c.ranges.lo in
    let fits_hi : SFits w64 c.args.hi = c.ranges.hi in
    closed (more (more (more (first (opened (codes "alwaysIn") c.put_text.ensures) c.put_function.ensures) c.put_next_interval.ensures) (simp to_z-of_z at c.put_next_number.ensures)) (simp to_z-of_z at c.put_next_number-2.ensures)) c.put_text-2.ensures
