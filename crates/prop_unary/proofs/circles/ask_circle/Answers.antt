use Rattle.std.proofs.Common.{◌≡◌, rules}
use Rattle.region.specs.declared.types.OrderCell.TheVariants.{Backward}
use Rattle.region.specs.Orders.{order_in}
use Rattle.region.specs.Cells.{cells_of}
use Rattle.prop_unary.specs.laws.Circles.{backward_silent}
use Rattle.prop_unary.proofs.circles.ask_circle.Goals as goal

pub returns-in-Backward-clause-none : goal.returns-in-Backward-clause-none
returns-in-Backward-clause-none c =
    let back : order_in (cells_of c.args.region.now.region c.args.p) c.args.z c.args.x ≡ Backward = search rules in
    backward_silent c.args.model.now c.args.region.now.region c.args.best c.args.p c.args.x c.args.y c.args.z c.requires.of back
