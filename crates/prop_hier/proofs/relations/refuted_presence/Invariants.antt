use Rattle.prop_hier.proofs.Presences.{NoneFirst}
use Rattle.prop_hier.proofs.relations.refuted_presence.Given as goal

abbrev pub invariant-loop-i : goal.invariant-loop-i
invariant-loop-i l = NoneFirst l.model l.region.region l.best l.w l.pairs l.i
