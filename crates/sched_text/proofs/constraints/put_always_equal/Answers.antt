use Rattle.std.proofs.Common.{codes, SFits, w64}
use Rattle.std.proofs.lemmas.Int.{to_z-of_z}
use Rattle.sched_text.proofs.Calls.{opened, first, more, closed}
use Rattle.sched_text.proofs.constraints.put_always_equal.Goals as goal

pub returns : goal.returns
returns g c =
    let fits_v : SFits w64 c.args.v = c.ranges.v in
    closed (more (more (more (more (first (opened (codes "alwaysEqual") c.put_text.ensures) c.put_state.ensures) c.put_next_interval.ensures) (simp to_z-of_z at c.put_next_number.ensures)) c.put_next_flag.ensures) c.put_next_flag-2.ensures) c.put_text-2.ensures
