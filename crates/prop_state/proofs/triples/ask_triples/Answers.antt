use Rattle.prop_state.specs.code.Walks.{EachOf, SilentAround}
use Rattle.prop_state.proofs.Asked.{is_of, each_more, each_all}
use Rattle.prop_state.proofs.triples.ask_triples.Goals as goal

pub loop-i-preserved : goal.loop-i-preserved
loop-i-preserved c = each_more (λ c1. EachOf (SilentAround c.args.model.now c.args.region.now.region c.args.best c.args.k c1 c.args.between.now.cs.now) c.args.last.now.cs.now) c.args.first.now.cs.now c.loop-i.i _ 0 c.loop-i-test.true (c.requires.first.named c.loop-i.i c.loop-i-test.true 0 _).constraint c.loop-i.invariant c.in_default.ensures.none

pub returns-clause-none : goal.returns-clause-none
returns-clause-none c = each_all (λ c1. EachOf (SilentAround c.args.model.now c.args.region.now.region c.args.best c.args.k c1 c.args.between.now.cs.now) c.args.last.now.cs.now) c.args.first.now.cs.now c.loop-i.i c.loop-i-test.false c.loop-i.invariant

pub ask_row-requires-clause-first : goal.ask_row-requires-clause-first
ask_row-requires-clause-first c = is_of c.args.model.now c.args.region.now.region c.args.k _ _ (c.requires.first.named c.loop-i.i c.loop-i-test.true 0 _)
