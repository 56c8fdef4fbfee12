use Rattle.std.proofs.Common.{drop}
use Rattle.std.specs.List.{flat_map}
use Rattle.sched_text.specs.Canonical.{later_part}
use Rattle.sched_text.specs.code.Printing.{Leaves}
use Rattle.sched_text.proofs.cumulative.put_later_parts.Given as goal

abbrev pub invariant-loop-part : goal.invariant-loop-part
invariant-loop-part g l = Leaves (flat_map (later_part l.model) l.parts) (flat_map (later_part l.model) (drop l.part-index l.parts)) l.initial.page l.page (g.D.Desk.state l.initial.desk) (g.D.Desk.state l.desk)
