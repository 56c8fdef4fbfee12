use Rattle.std.proofs.Common.{SFits, w64}
use Rattle.std.proofs.lemmas.Int.{to_z-of_z}
use Rattle.sched_text.proofs.Printing.{both, «as»}
use Rattle.sched_text.proofs.answers.put_moments.Goals as goal

pub returns : goal.returns
returns g c =
    let fits_s : SFits w64 c.args.s = c.ranges.s in
    let fits_e : SFits w64 c.args.e = c.ranges.e in
    «as» (both c.put_number.ensures (both c.put_text.ensures (both c.put_number-2.ensures c.put_text-2.ensures))) (simp to_z-of_z)
