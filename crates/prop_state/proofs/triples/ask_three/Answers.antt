use Rattle.std.proofs.Common.{rules}
use Rattle.prop_state.proofs.Asked.{none_to, three_calm, three_asked}
use Rattle.prop_state.proofs.triples.ask_three.Goals as goal

pub returns-then-not-may_refute_triple-clause-none : goal.returns-then-not-may_refute_triple-clause-none
returns-then-not-may_refute_triple-clause-none c = three_calm c.args.model.now c.args.region.now.region c.args.best c.args.k c.args.a c.args.x c.args.b c.requires.first c.requires.second c.requires.third (search rules)

pub returns-clause-none : goal.returns-clause-none
returns-clause-none c = none_to c.ask_state3.result (three_asked c.args.model.now c.args.region.now.region c.args.best c.args.k c.args.a.c c.args.x.c c.args.b.c) c.ask_state3.ensures.none
