use Rattle.std.proofs.Common.{arith}
use Rattle.region.proofs.flat.order_write.Goals as goal

pub order_place-requires-clause-one : goal.order_place-requires-clause-one
order_place-requires-clause-one c = omega (arith, c.place-i.ensures.within, c.row-row.ensures.row.few)

pub order_place-requires-clause-other : goal.order_place-requires-clause-other
order_place-requires-clause-other c = omega (arith, c.place-j.ensures.within, c.row-row.ensures.row.few)

pub overflow_add-result : goal.overflow_add-result
overflow_add-result c = omega (arith, c.order_place.ensures.few, c.row-row.ensures.row.near)
