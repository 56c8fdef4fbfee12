use Rattle.std.proofs.Common.{◌≡◌, ◌+◌, inl, inr, refl, ◌∙◌, ap, length, arith, w64, to_z, of_z}
use Rattle.std.proofs.lemmas.Int.{to_z-of_z}
use Rattle.std.proofs.lemmas.Bool.Decides.{nat_tests}
use Rattle.region.specs.code.Flat.{order_from, number_at}
use Rattle.region.specs.Orders.{reversed}
use Rattle.region.proofs.Shown.{order_nowhere, order_none, order_inside, order_read, two_ways, below_last}
use Rattle.region.proofs.flat.read_order.Goals.{then-i-members-via-then-i-members, then-i-members-via-else-i-members+then-j-members, then-i-members-via-else-i-members+else-j-members+then-i-j}
use Rattle.region.proofs.flat.read_order.Goals as goal

pub returns-then-p-sequences : goal.returns-then-p-sequences
returns-then-p-sequences c = order_nowhere c.args.frame.now c.args.cells.now c.args.p c.args.x c.args.y (grind (arith, nat_tests))

pub returns-then-i-members : goal.returns-then-i-members
returns-then-i-members c =
    let none = order_none c.args.frame.now c.args.cells.now c.args.p c.args.x c.args.y c.row-row.result.now.members c.place-i.result c.place-j.result c.row-row.ensures.members c.place-i.ensures.value c.place-j.ensures.value in
    elim c.then-i-members.branch [
      | then-i-members-via-then-i-members w ↦ none (inl (w.if-i-members.true ∙ c.len-members.ensures))
      | then-i-members-via-else-i-members+then-j-members w ↦ none (inr (inl (w.if-j-members.true ∙ c.len-members.ensures)))
      | then-i-members-via-else-i-members+else-j-members+then-i-j w ↦ none (inr (inr w.if-i-j.true))
    ]

pub order_place-requires-clause-one : goal.order_place-requires-clause-one
order_place-requires-clause-one c = omega (arith, c.place-i.ensures.within, c.row-row.ensures.row.few)

pub order_place-requires-clause-other : goal.order_place-requires-clause-other
order_place-requires-clause-other c = omega (arith, c.place-j.ensures.within, c.row-row.ensures.row.few)

pub overflow_add-row : goal.overflow_add-row
overflow_add-row c = omega (arith, c.order_place.ensures.few, c.row-row.ensures.row.near)

pub offset_bounds-cells-row : goal.offset_bounds-cells-row
offset_bounds-cells-row c = omega (arith, c.order_place.ensures.few, c.row-row.ensures.row.near)

pub bounds-cells-row : goal.bounds-cells-row
bounds-cells-row c =
    order_inside c.args.frame.now c.args.cells.now c.args.p c.row-row.result.now.members c.row-row.result.now.start c.place-i.result c.place-j.result c.order_place.result c.requires (omega (arith, c.if-p-sequences.false, c.sequences.ensures))
    c.row-row.ensures.members c.row-row.ensures.row.start (below_last c.place-i.result (length c.row-row.result.now.members) c.len-members.result c.place-i.ensures.within c.len-members.ensures c.if-i-members.false) (below_last c.place-j.result (length c.row-row.result.now.members) c.len-members.result c.place-j.ensures.within c.len-members.ensures c.if-j-members.false) (two_ways c.place-i.result c.place-j.result c.if-i-j.false) c.order_place.ensures.value

pub returns-then-i-j-2 : goal.returns-then-i-j-2
returns-then-i-j-2 c =
    let own : to_z w64 (of_z w64 (number_at c.args.cells.now (c.row-row.result.now.start + c.order_place.result))) ≡ number_at c.args.cells.now (c.row-row.result.now.start + c.order_place.result) = grind (arith, to_z-of_z) in
    let read = order_read c.args.frame.now c.args.cells.now c.args.p c.args.x c.args.y c.row-row.result.now.members c.row-row.result.now.start c.place-i.result c.place-j.result c.order_place.result (number_at c.args.cells.now (c.row-row.result.now.start + c.order_place.result))
    (omega (arith, c.if-p-sequences.false, c.sequences.ensures)) c.row-row.ensures.members c.row-row.ensures.row.start c.place-i.ensures.value c.place-j.ensures.value (below_last c.place-i.result (length c.row-row.result.now.members) c.len-members.result c.place-i.ensures.within c.len-members.ensures c.if-i-members.false) (below_last c.place-j.result (length c.row-row.result.now.members) c.len-members.result c.place-j.ensures.within c.len-members.ensures c.if-j-members.false) c.order_place.ensures.value refl in
    c.order_from-order.ensures ∙ ap order_from own ∙ read.0 c.if-i-j-2.true

pub returns-else-i-j-2 : goal.returns-else-i-j-2
returns-else-i-j-2 c =
    let own : to_z w64 (of_z w64 (number_at c.args.cells.now (c.row-row.result.now.start + c.order_place.result))) ≡ number_at c.args.cells.now (c.row-row.result.now.start + c.order_place.result) = grind (arith, to_z-of_z) in
    let read = order_read c.args.frame.now c.args.cells.now c.args.p c.args.x c.args.y c.row-row.result.now.members c.row-row.result.now.start c.place-i.result c.place-j.result c.order_place.result (number_at c.args.cells.now (c.row-row.result.now.start + c.order_place.result))
    (omega (arith, c.if-p-sequences.false, c.sequences.ensures)) c.row-row.ensures.members c.row-row.ensures.row.start c.place-i.ensures.value c.place-j.ensures.value (below_last c.place-i.result (length c.row-row.result.now.members) c.len-members.result c.place-i.ensures.within c.len-members.ensures c.if-i-members.false) (below_last c.place-j.result (length c.row-row.result.now.members) c.len-members.result c.place-j.ensures.within c.len-members.ensures c.if-j-members.false) c.order_place.ensures.value refl in
    c.reversed.ensures ∙ ap reversed (c.order_from-order.ensures ∙ ap order_from own) ∙ read.1 (elim (two_ways c.place-i.result c.place-j.result c.if-i-j.false) [ inl h ↦ absurd (omega (arith, h, c.if-i-j-2.false)) | inr h ↦ h ])
