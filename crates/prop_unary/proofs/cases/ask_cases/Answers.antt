use Rattle.prop_unary.proofs.Asked.{busy_pair, none_to, some_to}
use Rattle.prop_unary.proofs.cases.ask_cases.Goals as goal

pub returns-in-Some-clause-busy : goal.returns-in-Some-clause-busy
returns-in-Some-clause-busy c = busy_pair c.args.view.now.model.now c.args.view.now.region.now.region c.args.view.now.best c.args.d.now c.args.a c.args.b c.args.first c.requires.is c.in-Some.ensures.busy

pub returns-clause-none : goal.returns-clause-none
returns-clause-none c = none_to c.ask_case-2.result (λ last. (c.in_default.ensures.none, last)) c.ask_case-2.ensures.none

pub returns-clause-busy : goal.returns-clause-busy
returns-clause-busy c = some_to c.ask_case-2.result (busy_pair c.args.view.now.model.now c.args.view.now.region.now.region c.args.view.now.best c.args.d.now c.args.a c.args.b c.args.second c.requires.is) c.ask_case-2.ensures.busy
