use Rattle.std.proofs.Common.{arith, to_z-of_z}
use Rattle.std.proofs.lemmas.Int.{ints}
use Rattle.prop_state.specs.code.Walks.{SilentAround}
use Rattle.prop_state.proofs.Asked.{is_of, covered_more, each_more, each_all}
use Rattle.prop_state.proofs.triples.ask_row.Goals as goal

pub loop-i-preserved : goal.loop-i-preserved
loop-i-preserved c = each_more (SilentAround c.args.model.now c.args.region.now.region c.args.best c.args.k c.args.a.c c.args.between.now.cs.now) c.args.last.now.cs.now c.loop-i.i _ 0 c.loop-i-test.true (c.requires.last.named c.loop-i.i c.loop-i-test.true 0 _).constraint c.loop-i.invariant c.in_default.ensures.none

pub returns-clause-none : goal.returns-clause-none
returns-clause-none c = each_all (SilentAround c.args.model.now c.args.region.now.region c.args.best c.args.k c.args.a.c c.args.between.now.cs.now) c.args.last.now.cs.now c.loop-i.i c.loop-i-test.false c.loop-i.invariant

pub ask_around-requires-clause-third : goal.ask_around-requires-clause-third
ask_around-requires-clause-third c = is_of c.args.model.now c.args.region.now.region c.args.k _ _ (c.requires.last.named c.loop-i.i c.loop-i-test.true 0 _)

pub ask_around-requires-clause-covered : goal.ask_around-requires-clause-covered
ask_around-requires-clause-covered c = covered_more c.args.model.now c.args.region.now.region _ _ c.args.between.now.cs.now (grind (arith, ints, to_z-of_z)) c.requires.covered
