use Rattle.std.proofs.Common.{◌∙◌, ap}
use Rattle.region.specs.code.Flat.{order_under}
use Rattle.region.proofs.Shown.{shown_order}
use Rattle.region.proofs.look.Look.order.Goals as goal

pub returns-in-Some : goal.returns-in-Some
returns-in-Some c = rw (← c.self.view_is)
    (c.order_under.ensures ∙ ap (order_under c.topic.result c.args.p c.args.a c.args.b) c.read_order-order.ensures
    ∙ shown_order c.self.inside.frame.now c.self.inside.cells.now c.self.inside.guess c.in-Some.g c.topic.result c.args.p c.args.a c.args.b c.self.invariant c.in-Some.is c.topic.ensures)
