use Rattle.std.proofs.Common.{length, arith}
use Rattle.prop_unary.specs.code.Silence.{AreSilentWhere}
use Rattle.prop_unary.specs.code.Circles.{EachOf}
use Rattle.prop_unary.proofs.Walks.{all_round}
use Rattle.prop_unary.proofs.Asked.{none_to}
use Rattle.prop_unary.proofs.pairs.ask_order.Goals as goal

pub returns-clause-none : goal.returns-clause-none
returns-clause-none c =
    let ms = c.args.members.now in
    none_to c.ask_places-2.result
    (λ sooner. all_round (λ a. EachOf (AreSilentWhere c.args.model.now c.args.region.now.region c.args.best c.args.d.now c.args.order a) ms) ms c.min-start.result (length ms) (omega arith) c.in_default.ensures.none sooner)
    c.ask_places-2.ensures.none
