use Rattle.prop_state.specs.code.Walks.{SilentThree}
use Rattle.prop_state.proofs.Asked.{is_of, each_more, each_all}
use Rattle.prop_state.proofs.triples.ask_between.Goals as goal

pub loop-i-preserved : goal.loop-i-preserved
loop-i-preserved c = each_more (λ c2. SilentThree c.args.model.now c.args.region.now.region c.args.best c.args.k c.args.a.c c2 c.args.b.c) c.args.cs.now c.loop-i.i _ 0 c.loop-i-test.true (c.requires.noted c.loop-i.i c.loop-i-test.true 0 _).constraint c.loop-i.invariant c.in_default.ensures.none

pub returns-clause-none : goal.returns-clause-none
returns-clause-none c = each_all (λ c2. SilentThree c.args.model.now c.args.region.now.region c.args.best c.args.k c.args.a.c c2 c.args.b.c) c.args.cs.now c.loop-i.i c.loop-i-test.false c.loop-i.invariant

pub ask_three-requires-clause-second : goal.ask_three-requires-clause-second
ask_three-requires-clause-second c = is_of c.args.model.now c.args.region.now.region c.args.k _ _ (c.requires.noted c.loop-i.i c.loop-i-test.true 0 _)
