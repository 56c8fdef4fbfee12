use Rattle.std.proofs.Common.{arith}
use Rattle.region.specs.declared.types.OrderCell.TheVariants.{Forward, Unknown}
use Rattle.prop_unary.specs.code.Silence.{SilentRow}
use Rattle.prop_unary.proofs.Walks.{between_more}
use Rattle.prop_unary.proofs.pairs.ask_told_places.Goals as goal

pub loop-k-preserved : goal.loop-k-preserved
loop-k-preserved c = record {
  told = between_more (SilentRow c.args.view.now.model.now c.args.view.now.region.now.region c.args.view.now.best c.args.d.now Forward c.args.members.now) c.args.members.now c.args.from c.loop-k.k c.loop-k.invariant.told c.in_default.ensures.none;
  free = λ closed. let two = c.in_default.ensures.free closed in let before = c.loop-k.invariant.free two.0 in
      (before.0, between_more (SilentRow c.args.view.now.model.now c.args.view.now.region.now.region c.args.view.now.best c.args.d.now Unknown c.args.members.now) c.args.members.now c.args.from c.loop-k.k before.1 two.1);
}

pub returns-clause-none : goal.returns-clause-none
returns-clause-none c = λ k past below. let end = c.loop-k-test.false in c.loop-k.invariant.told k past (omega (arith, end, below))

pub returns-clause-free : goal.returns-clause-free
returns-clause-free c = λ closed. let before = c.loop-k.invariant.free closed in (before.0, λ k past below. let end = c.loop-k-test.false in before.1 k past (omega (arith, end, below)))
