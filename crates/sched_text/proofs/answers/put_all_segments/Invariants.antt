use Rattle.std.proofs.Common.{drop}
use Rattle.std.specs.List.{flat_map}
use Rattle.textline.specs.Lines.{spaced}
use Rattle.sched_text.specs.Answers.{segment_words}
use Rattle.sched_text.specs.code.Printing.{Leaves}
use Rattle.sched_text.proofs.answers.put_all_segments.Given as goal

abbrev pub invariant-loop-s : goal.invariant-loop-s
invariant-loop-s g l = Leaves (flat_map (λ s. spaced (segment_words s)) l.segments) (flat_map (λ s. spaced (segment_words s)) (drop l.s-index l.segments)) l.initial.page l.page (g.D.Desk.state l.initial.desk) (g.D.Desk.state l.desk)
