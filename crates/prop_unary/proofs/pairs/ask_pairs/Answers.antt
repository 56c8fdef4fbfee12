use Rattle.std.proofs.Common.{◌≡◌, true, false, rules}
use Rattle.prop_unary.proofs.Asked.{none_to, quiet_pairs}
use Rattle.prop_unary.proofs.Resting.{quiet_all}
use Rattle.prop_unary.proofs.pairs.ask_pairs.Goals as goal

pub returns-then-are_all_silent-clause-none : goal.returns-then-are_all_silent-clause-none
returns-then-are_all_silent-clause-none c =
    quiet_all c.args.model.now c.args.region.now.region c.args.best c.args.d.now c.args.members.now c.requires.of c.requires.is c.requires.members (c.are_all_silent.ensures c.args.best c.if-are_all_silent.true)

pub returns-then-not-is_open-clause-none : goal.returns-then-not-is_open-clause-none
returns-then-not-is_open-clause-none c =
    let closed : c.ask_told_order.new.is_open ≡ false = search rules in
    quiet_pairs c.args.model.now c.args.region.now.region c.args.best c.args.d.now c.args.members.now c.requires.of c.requires.is c.requires.members c.in_default.ensures.none (c.in_default.ensures.free closed).1

pub returns-clause-none : goal.returns-clause-none
returns-clause-none c =
    none_to c.ask_order.result (quiet_pairs c.args.model.now c.args.region.now.region c.args.best c.args.d.now c.args.members.now c.requires.of c.requires.is c.requires.members c.in_default.ensures.none) c.ask_order.ensures.none
