use Rattle.std.proofs.Common.{arith, rules}
use Rattle.sched_model.specs.Data.{type_of}
use Rattle.sched_model.proofs.walks.Lists.{cached_more}
use Rattle.sched_model.proofs.sequence.types_in.Goals as goal

pub loop-i-preserved : goal.loop-i-preserved
loop-i-preserved c = record {
  size = search rules;
  same = cached_more (type_of c.args.model.now c.args.p) c.args.xs.now c.loop-i.types c.loop-i.i c.type_of.result _ c.loop-i.invariant.same (omega arith) (omega arith) c.type_of.ensures;
}

pub returns : goal.returns
returns c = λ k x in_xs in_types at_k. c.loop-i.invariant.same k x (omega (arith, in_xs, in_types)) at_k
