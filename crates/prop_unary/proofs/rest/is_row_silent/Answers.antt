use Rattle.std.proofs.Common.{◌≡◌, true, arith, rules}
use Rattle.prop_unary.specs.code.Silence.{AreSilentBoth}
use Rattle.prop_unary.specs.code.Rows.{member_at}
use Rattle.prop_unary.proofs.Walks.{between_more}
use Rattle.prop_unary.proofs.rest.is_row_silent.Goals as goal

pub loop-k-preserved : goal.loop-k-preserved
loop-k-preserved c = λ best.
    let told : c.are_two_silent.result ≡ true = search rules in
    between_more (AreSilentBoth c.args.model.now c.args.region.now.region best c.args.d.now (member_at c.args.members.now c.args.at)) c.args.members.now 0 c.loop-k.k (c.loop-k.invariant best) (c.are_two_silent.ensures best told)

pub returns : goal.returns
returns c = λ best _ k past below. let end = c.loop-k-test.false in c.loop-k.invariant best k past (omega (arith, end, below))
