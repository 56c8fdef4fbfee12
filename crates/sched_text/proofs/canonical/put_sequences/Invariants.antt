use Rattle.std.proofs.Common.{drop}
use Rattle.std.specs.List.{flat_map}
use Rattle.sched_text.specs.Canonical.{named_sequence_text}
use Rattle.sched_text.specs.code.Printing.{Leaves}
use Rattle.sched_text.proofs.canonical.put_sequences.Given as goal

abbrev pub invariant-loop-d : goal.invariant-loop-d
invariant-loop-d g l = Leaves (flat_map (named_sequence_text l.model) l.defs) (flat_map (named_sequence_text l.model) (drop l.d-index l.defs)) l.initial.page l.page (g.D.Desk.state l.initial.desk) (g.D.Desk.state l.desk)
