use Rattle.std.proofs.Common.{SFits, w64}
use Rattle.std.proofs.lemmas.Int.{to_z-of_z}
use Rattle.sched_text.proofs.Calls.{opened, first, more, closed}
use Rattle.sched_text.proofs.expressions.put_measured.Goals as goal

pub returns : goal.returns
returns g c =
    let fits_d : SFits w64 c.args.d = c.ranges.d in
    closed (more (first (opened (c.args.word.now) c.put_open.ensures) c.put_interval.ensures) (simp to_z-of_z at c.put_next_number.ensures)) c.put_text.ensures
