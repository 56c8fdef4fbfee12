use Rattle.std.proofs.Common.{rules}
use Rattle.prop_state.proofs.Asked.{around_same, around_apart, around_calm}
use Rattle.prop_state.proofs.triples.ask_around.Goals as goal

pub returns-then-not-same_state-clause-none : goal.returns-then-not-same_state-clause-none
returns-then-not-same_state-clause-none c = around_apart c.args.view.now.model.now c.args.view.now.region.now.region c.args.view.now.best c.args.k c.args.a c.args.b c.args.cs.now c.requires.first c.requires.third (search rules)

pub returns-then-not-may_refute_around-clause-none : goal.returns-then-not-may_refute_around-clause-none
returns-then-not-may_refute_around-clause-none c = around_calm c.args.view.now.model.now c.args.view.now.region.now.region c.args.view.now.best c.args.k c.args.longest c.args.a c.args.b c.args.cs.now c.requires.covered c.requires.first c.requires.third (search rules)

pub returns-then-a-b-clause-none : goal.returns-then-a-b-clause-none
returns-then-a-b-clause-none c = around_same c.args.view.now.model.now c.args.view.now.region.now.region c.args.view.now.best c.args.k c.args.a.c c.args.b.c c.args.cs.now (search rules)
