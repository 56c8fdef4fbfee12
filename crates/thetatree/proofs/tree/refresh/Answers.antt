use Rattle.std.proofs.Common.{arith, ◌∙◌, length-set}
use Rattle.thetatree.proofs.Writes.{other_node, join_small, small_write, joins_up}
use Rattle.thetatree.proofs.tree.refresh.Goals as goal

pub loop-at-preserved : goal.loop-at-preserved
loop-at-preserved c =
    let at = c.loop-at.at in
    let ns = c.loop-at.nodes in
    let same = length-set ns at c.join.result in
    let even = c.requires.even in
    record {
      within = omega (arith, same, c.loop-at.invariant.within);
      leaves = λ j high. other_node ns at j c.join.result (λ e. omega (arith, e, high, same, c.loop-at.invariant.within)) ∙ c.loop-at.invariant.leaves j (omega (arith, high, same));
      joins = joins_up ns at c.join.result c.loop-at-test.true (omega (arith, c.loop-at.invariant.within)) c.join.ensures c.loop-at.invariant.joins;
      small = small_write ns at c.join.result (omega (arith, c.loop-at.invariant.within))
          (join_small ns at c.join.result c.loop-at-test.true (omega (arith, c.loop-at.invariant.within)) c.join.ensures c.loop-at.invariant.small) c.loop-at.invariant.small;
    }
