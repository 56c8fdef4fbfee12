use Rattle.std.proofs.Common.{List, subst, length}
use Rattle.std.proofs.lemmas.Result.{on_ok_weaker}
use Rattle.prop_sets.specs.declared.orders.Keyed.{Keyed}
use Rattle.prop_sets.specs.code.Orders.{ArePlaces}
use Rattle.prop_sets.proofs.Ordering.{in_order}
use Rattle.prop_sets.proofs.orders.order_by.Goals as goal

pub returns : goal.returns
returns c = on_ok_weaker c.places.result (λ made.
    in_order c.args.by c.args.rows.now c.keyed_by.new.keyed.items c.sort_all.new.keyed.items c.places.new.order.items c.in_ok-keyed_by.ensures c.sort_all.ensures.moved c.sort_all.ensures.rises
    (subst (λ (ks : List Keyed). ArePlaces ks (length ks) c.places.new.order.items) c.deref.ensures.value made)) c.places.ensures
