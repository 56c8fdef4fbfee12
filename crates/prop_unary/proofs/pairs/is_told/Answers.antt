use Rattle.std.proofs.Common.{◌≡◌, rules}
use Rattle.region.specs.declared.types.OrderCell.TheVariants.{Forward, Unknown}
use Rattle.prop_unary.proofs.Asked.{silent_same}
use Rattle.prop_unary.proofs.Noted.{silent_by_test}
use Rattle.prop_unary.proofs.pairs.is_told.Goals as goal

pub returns-then-a-b-clause-other : goal.returns-then-a-b-clause-other
returns-then-a-b-clause-other c = λ best off.
    let same : c.args.first.member.0 ≡ c.args.second.member.0 = search rules in
    silent_same c.args.model.now c.args.region.now.region best c.args.d.now Forward c.args.first.member c.args.second.member c.requires.is same

pub returns-then-a-b-clause-free : goal.returns-then-a-b-clause-free
returns-then-a-b-clause-free c = λ best closed.
    let same : c.args.first.member.0 ≡ c.args.second.member.0 = search rules in
    (closed, silent_same c.args.model.now c.args.region.now.region best c.args.d.now Unknown c.args.first.member c.args.second.member c.requires.is same)

pub returns-then-is_surely_silent-clause-free : goal.returns-then-is_surely_silent-clause-free
returns-then-is_surely_silent-clause-free c = λ best closed.
    (closed, silent_by_test c.args.model.now c.args.region.now.region best c.args.d.now Unknown c.args.first.member c.args.second.member c.requires.is (c.is_surely_silent.ensures c.if-is_surely_silent.true))
