use Rattle.std.proofs.Common.{◌≡◌, true, arith, rules}
use Rattle.prop_unary.specs.code.Silence.{AreSilentBoth}
use Rattle.prop_unary.specs.code.Circles.{EachBetween}
use Rattle.prop_unary.specs.code.Rows.{member_at}
use Rattle.prop_unary.proofs.Resting.{rows_more, each_two}
use Rattle.prop_unary.proofs.rest.are_all_silent.Goals as goal

pub loop-at-preserved : goal.loop-at-preserved
loop-at-preserved c = λ best.
    let told : c.is_row_silent.result ≡ true = search rules in
    rows_more (λ i. EachBetween (AreSilentBoth c.args.model.now c.args.region.now.region best c.args.d.now (member_at c.args.members.now i)) c.args.members.now 0 i) c.loop-at.at (c.loop-at.invariant best) (c.is_row_silent.ensures best told)

pub returns : goal.returns
returns c = λ best _. let end = c.loop-at-test.false in each_two c.args.model.now c.args.region.now.region best c.args.d.now c.args.members.now c.loop-at.at c.requires.is (omega (arith, end)) (c.loop-at.invariant best)
