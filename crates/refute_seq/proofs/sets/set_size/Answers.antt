use Rattle.std.proofs.Common.{◌≡◌, rules, arith, to_z, of_z}
use Rattle.std.specs.Int.{w128}
use Rattle.std.proofs.lemmas.Int.{ints}
use Rattle.task_sets.specs.Times.{turned}
use Rattle.refute_seq.specs.Sets.{times_of}
use Rattle.refute_seq.proofs.Walking.{sum_step}
use Rattle.refute_seq.proofs.sets.set_size.Goals as goal

pub loop-n-preserved : goal.loop-n-preserved
loop-n-preserved c =
    let same : to_z w128 (of_z w128 c.longer-sum.result) ≡ c.longer-sum.result = search rules in
    record {
      whole = sum_step (turned c.args.side (times_of c.args.look.now.region)) c.args.set.now c.loop-n.n-index (to_z w128 c.loop-n.sum-bits) (to_z w128 (of_z w128 c.longer-sum.result)) _ c.loop-n.invariant.whole c.loop-n-test.true (search rules);
      low = omega (arith, ints, same, c.longer-sum.ensures.low, c.loop-n.invariant.low);
      high = omega (arith, ints, same, c.longer-sum.ensures.high, c.loop-n.invariant.high);
    }
