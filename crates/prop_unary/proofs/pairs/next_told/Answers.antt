use Rattle.std.proofs.Common.{arith}
use Rattle.region.specs.declared.types.OrderCell.TheVariants.{Forward, Unknown}
use Rattle.prop_unary.specs.code.Silence.{AreSilentWhere}
use Rattle.prop_unary.proofs.Walks.{between_more}
use Rattle.prop_unary.proofs.Noted.{silent_by_test}
use Rattle.prop_unary.proofs.pairs.next_told.Goals as goal

pub loop-k-preserved-then-are_surely_silent : goal.loop-k-preserved-then-are_surely_silent
loop-k-preserved-then-are_surely_silent c =
    let m = c.args.model.now in
    let r = c.args.region.now.region in
    let d = c.args.d.now in
    let a = c.args.first.member in
    let silent = c.are_surely_silent.ensures c.if-are_surely_silent.true in
    record {
      told = λ best. between_more (AreSilentWhere m r best d Forward a) c.args.members.now c.args.from c.loop-k.k (c.loop-k.invariant.told best) (silent_by_test m r best d Forward a _ c.requires.is silent.told);
      free = λ best closed. let before = c.loop-k.invariant.free best closed in
          (before.0, between_more (AreSilentWhere m r best d Unknown a) c.args.members.now c.args.from c.loop-k.k before.1 (silent_by_test m r best d Unknown a _ c.requires.is silent.free));
    }

pub loop-k-preserved : goal.loop-k-preserved
loop-k-preserved c =
    let m = c.args.model.now in
    let r = c.args.region.now.region in
    let d = c.args.d.now in
    let a = c.args.first.member in
    record {
      told = λ best. between_more (AreSilentWhere m r best d Forward a) c.args.members.now c.args.from c.loop-k.k (c.loop-k.invariant.told best) (c.is_told.ensures.other best c.if-is_told.false);
      free = λ best closed. let two = c.is_told.ensures.free best closed in let before = c.loop-k.invariant.free best two.0 in
          (before.0, between_more (AreSilentWhere m r best d Unknown a) c.args.members.now c.args.from c.loop-k.k before.1 two.1);
    }

pub returns-then-is_told-clause-free : goal.returns-then-is_told-clause-free
returns-then-is_told-clause-free c = λ best closed. c.loop-k.invariant.free best (c.is_told.ensures.free best closed).0

pub returns-clause-told : goal.returns-clause-told
returns-clause-told c = λ best k past below. let end = c.loop-k-test.false in c.loop-k.invariant.told best k past (omega (arith, end, below))

pub returns-clause-free : goal.returns-clause-free
returns-clause-free c = λ best closed. let before = c.loop-k.invariant.free best closed in (before.0, λ k past below. let end = c.loop-k-test.false in before.1 k past (omega (arith, end, below)))
