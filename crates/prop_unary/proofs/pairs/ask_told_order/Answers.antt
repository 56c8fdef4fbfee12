use Rattle.std.proofs.Common.{length, arith}
use Rattle.region.specs.declared.types.OrderCell.TheVariants.{Forward, Unknown}
use Rattle.prop_unary.specs.code.Silence.{SilentRow}
use Rattle.prop_unary.proofs.Walks.{all_round}
use Rattle.prop_unary.proofs.Asked.{none_to}
use Rattle.prop_unary.proofs.pairs.ask_told_order.Goals as goal

pub returns-clause-none : goal.returns-clause-none
returns-clause-none c =
    let ms = c.args.members.now in
    none_to c.ask_told_places-2.result
    (λ sooner. all_round (SilentRow c.args.model.now c.args.region.now.region c.args.best c.args.d.now Forward ms) ms c.min-start.result (length ms) (omega arith) c.in_default.ensures.none sooner)
    c.ask_told_places-2.ensures.none

pub returns-clause-free : goal.returns-clause-free
returns-clause-free c =
    let ms = c.args.members.now in
    none_to c.ask_told_places-2.result
    (λ rest closed. let sooner = rest closed in let later = c.in_default.ensures.free sooner.0 in
    (later.0, all_round (SilentRow c.args.model.now c.args.region.now.region c.args.best c.args.d.now Unknown ms) ms c.min-start.result (length ms) (omega arith) later.1 sooner.1))
    c.ask_told_places-2.ensures.free
