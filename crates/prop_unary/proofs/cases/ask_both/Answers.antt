use Rattle.std.proofs.Common.{◌≡◌, true, rules}
use Rattle.std.specs.Option.{is_none}
use Rattle.prop_unary.specs.laws.Silence.{both_cases, one_case}
use Rattle.prop_unary.proofs.Asked.{busy_pair, none_to, some_to, no_matrix}
use Rattle.prop_unary.proofs.cases.ask_both.Goals as goal

pub returns-then-is_none-clause-none : goal.returns-then-is_none-clause-none
returns-then-is_none-clause-none c =
    let none : is_none c.args.d.now.matrix ≡ true = search rules in
    none_to c.ask_case.result (one_case c.args.model.now c.args.region.now.region c.args.best c.args.d.now c.args.a c.args.b c.requires.is (no_matrix c.args.d.now.matrix none)) c.ask_case.ensures.none

pub returns-then-is_none-clause-busy : goal.returns-then-is_none-clause-busy
returns-then-is_none-clause-busy c = some_to c.ask_case.result (busy_pair c.args.model.now c.args.region.now.region c.args.best c.args.d.now c.args.a c.args.b 0 c.requires.is) c.ask_case.ensures.busy

pub returns-then-d-clause-none : goal.returns-then-d-clause-none
returns-then-d-clause-none c =
    none_to c.ask_cases.result (λ both. both_cases c.args.model.now c.args.region.now.region c.args.best c.args.d.now c.args.a c.args.b c.requires.is both.0 both.1) c.ask_cases.ensures.none

pub returns-clause-none : goal.returns-clause-none
returns-clause-none c =
    none_to c.ask_cases-2.result (λ both. both_cases c.args.model.now c.args.region.now.region c.args.best c.args.d.now c.args.a c.args.b c.requires.is both.1 both.0) c.ask_cases-2.ensures.none
