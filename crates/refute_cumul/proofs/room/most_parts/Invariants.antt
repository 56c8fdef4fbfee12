use Rattle.std.proofs.Common.{◌≤◌, ◌<◌, length, get_or}
use Rattle.sched_model.specs.declared.types.CumulDef.{CumulDef}
use Rattle.refute_cumul.proofs.room.most_parts.Given as goal

abbrev pub invariant-loop-d : goal.invariant-loop-d
invariant-loop-d l = (i : _) (d : CumulDef) → i < l.d-index → length (get_or l.model.cumuls i d).parts ≤ l.most
