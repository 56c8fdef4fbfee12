use Rattle.prop_hier.proofs.Silence.{SilentFirst}
use Rattle.prop_hier.proofs.relations.ask_relation.Given as goal

abbrev pub invariant-loop-i : goal.invariant-loop-i
invariant-loop-i l = SilentFirst l.model l.region.region l.best l.relation l.c l.members l.i
