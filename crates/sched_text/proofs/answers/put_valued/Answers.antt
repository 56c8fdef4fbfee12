use Rattle.std.proofs.Common.{SFits, w64}
use Rattle.std.proofs.lemmas.Int.{to_z-of_z}
use Rattle.sched_text.proofs.Printing.{both, «as»}
use Rattle.sched_text.proofs.answers.put_valued.Goals as goal

pub returns : goal.returns
returns g c =
    let fits_v : SFits w64 c.args.v = c.ranges.v in
    «as» (both c.put_text.ensures (both c.put_text-2.ensures (both c.put_values.ensures c.put_text-3.ensures))) (simp to_z-of_z)
