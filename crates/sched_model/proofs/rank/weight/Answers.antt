use Rattle.std.proofs.Common.{ap, ◌∙◌, ◌*◌, arith}
use Rattle.sched_model.specs.Hull.{hull_of}
use Rattle.sched_model.proofs.Weights.{weight_turn, weight_over}
use Rattle.sched_model.proofs.rank.weight.Goals as goal

pub returns-then-next-gt-LIMIT : goal.returns-then-next-gt-LIMIT
returns-then-next-gt-LIMIT c =
    weight_over c.args.model.now c.loop-i.so_far (c.loop-i.so_far * c.width.result) c.args.es.now c.loop-i.i _ c.in_ok-r.r _ c.loop-i.invariant.kept c.loop-i-test.true (c.in_ok-r.ensures ∙ ap (hull_of c.args.model.now) c.index-es-i.is) (ap (λ w. c.loop-i.so_far * w) c.width.ensures.value) (let more = c.if-next-gt-LIMIT.true in omega (arith, more))

pub loop-i-preserved : goal.loop-i-preserved
loop-i-preserved c = record {
  kept = weight_turn c.args.model.now c.loop-i.so_far (c.loop-i.so_far * c.width.result) c.args.es.now c.loop-i.i _ c.in_ok-r.r _ c.loop-i.invariant.kept c.loop-i-test.true (c.in_ok-r.ensures ∙ ap (hull_of c.args.model.now) c.index-es-i.is) (ap (λ w. c.loop-i.so_far * w) c.width.ensures.value);
  few = (let less = c.if-next-gt-LIMIT.false in omega (arith, less));
}
