use Rattle.std.proofs.Common.{codes, SFits, w64}
use Rattle.std.proofs.lemmas.Int.{to_z-of_z}
use Rattle.sched_text.proofs.Calls.{opened, first, more, closed}
use Rattle.sched_text.proofs.cumulative.put_pulse.Goals as goal

pub returns : goal.returns
returns g c =
    let fits_u : SFits w64 c.args.u = c.ranges.u in
    let fits_v : SFits w64 c.args.v = c.ranges.v in
    let fits_h : SFits w64 c.args.h = c.ranges.h in
    closed (more (more (first (opened (codes "pulse") c.put_text.ensures) (simp to_z-of_z at c.put_number.ensures)) (simp to_z-of_z at c.put_next_number.ensures)) (simp to_z-of_z at c.put_next_number-2.ensures)) c.put_text-2.ensures
