use Rattle.std.proofs.Common.{◌≤◌, length}
use Rattle.theta_passes.specs.code.Witnesses.{AreEnded}
use Rattle.theta_passes.proofs.shown.Showing.{NoneFrom}
use Rattle.theta_passes.proofs.witnesses.full_cut.Given as goal

abbrev pub invariant-loop-m : goal.invariant-loop-m
invariant-loop-m l = record {
  none : NoneFrom l.rows l.with l.m;
  known : AreEnded l.rows l.with l.known;
  most : l.m ≤ length l.rows;
}

abbrev pub decreases-loop-m : goal.decreases-loop-m
decreases-loop-m l = l.m
