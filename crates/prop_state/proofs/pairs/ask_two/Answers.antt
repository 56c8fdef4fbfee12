use Rattle.prop_state.proofs.Asked.{none_to, two_calm, two_asked}
use Rattle.std.proofs.Common.{rules}
use Rattle.prop_state.proofs.pairs.ask_two.Goals as goal

pub returns-then-not-may_refute_pair-clause-none : goal.returns-then-not-may_refute_pair-clause-none
returns-then-not-may_refute_pair-clause-none c = two_calm c.args.model.now c.args.region.now.region c.args.best c.args.k c.args.a c.args.b c.requires.first c.requires.second (search rules)

pub returns-clause-none : goal.returns-clause-none
returns-clause-none c = none_to c.ask_state.result (two_asked c.args.model.now c.args.region.now.region c.args.best c.args.k c.args.a.c c.args.b.c) c.ask_state.ensures.none
