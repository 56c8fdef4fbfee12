use Rattle.std.proofs.Common.{◌++◌, ap, codes}
use Rattle.sched_text.specs.Answers.{segment_words}
use Rattle.sched_text.proofs.Lines.{line_of_lists}
use Rattle.sched_text.proofs.Printing.{both, «as»}
use Rattle.sched_text.proofs.answers.put_segments.Goals as goal

pub returns : goal.returns
returns g c =
    «as» (both c.put_text.ensures (both (rw c.as_slice.ensures at c.put_text-2.ensures) (both c.put_all_segments.ensures c.put_text-3.ensures)))
    (ap (λ t. codes "state " ++ t) (line_of_lists segment_words c.args.segments.now _))
