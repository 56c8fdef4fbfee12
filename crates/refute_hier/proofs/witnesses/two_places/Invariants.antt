use Rattle.refute_hier.proofs.Two.{HasFound}
use Rattle.refute_hier.proofs.witnesses.two_places.Given as goal

abbrev pub invariant-loop-i : goal.invariant-loop-i
invariant-loop-i l = HasFound l.look.region l.a l.parts l.i l.first
