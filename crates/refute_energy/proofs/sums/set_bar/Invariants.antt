use Rattle.refute_energy.specs.Energy.{bar_at}
use Rattle.refute_energy.proofs.Gathering.{Gathered}
use Rattle.refute_energy.proofs.sums.set_bar.Given as goal

abbrev pub invariant-loop-n : goal.invariant-loop-n
invariant-loop-n l = Gathered (bar_at l.look.region l.parts) l.first l.rest l.n-index l.whole
