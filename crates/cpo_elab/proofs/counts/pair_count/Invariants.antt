use Rattle.std.proofs.Common.{◌≡◌, ◌≤◌, ◌*◌}
use Rattle.sched_model.specs.Valid.{pair_count}
use Rattle.cpo_elab.proofs.counts.pair_count.Given as goal

abbrev pub invariant-loop-i : goal.invariant-loop-i
invariant-loop-i l = record {
  pairs : l.total ≡ pair_count l.i;
  few : l.total ≤ 500 * l.i;
  within : l.i ≤ l.n;
}
