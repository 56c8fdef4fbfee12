use Rattle.std.proofs.Common.{refl, sym, subst, arith}
use Rattle.sched_model.specs.Valid.{IsValid}
use Rattle.sched_model.specs.laws.Limits.{limits_of}
use Rattle.cpo_elab.specs.code.Items.{with_item}
use Rattle.cpo_elab.proofs.adding.Grown.{absent_key}
use Rattle.cpo_elab.proofs.adding.Gained.{few_paired, room_for_item, grown_named}
use Rattle.cpo_elab.proofs.draft.Draft.with_named.Goals as goal

pub cells-more-requires : goal.cells-more-requires
cells-more-requires c = few_paired c.args.self c.args.item c.requires.valid

pub add_item-requires-clause-valid : goal.add_item-requires-clause-valid
add_item-requires-clause-valid c = subst (λ m. IsValid (with_item c.args.item m)) (sym c.self.view_is) c.requires.valid

pub add_item-requires-clause-fresh : goal.add_item-requires-clause-fresh
add_item-requires-clause-fresh c = absent_key c.self.inside.names c.self.inside.model c.args.self _ _ c.self.invariant.names c.self.view_is refl c.requires.fresh

pub invariant_of-result : goal.invariant_of-result
invariant_of-result c =
    let absent = absent_key c.self.inside.names c.self.inside.model c.args.self _ _ c.self.invariant.names c.self.view_is refl c.requires.fresh in
    let valid = subst (λ m. IsValid (with_item c.args.item m)) (sym c.self.view_is) c.requires.valid in
    grown_named c.self.inside.names _ c.self.inside.cells c.self.inside.room _ _ c.self.inside.model _ c.args.item _ _ c.self.invariant absent c.requires.named c.in_ok-add_item.ensures.names refl c.in_ok-add_item.ensures.model valid c.cells-more.ensures.count c.nodes-nodes.ensures

pub overflow_add-cells : goal.overflow_add-cells
overflow_add-cells c = let limits = limits_of c.self.inside.model c.self.invariant.valid.limits in omega (arith, limits.cells, c.self.invariant.cell_sum, c.cells-more.ensures.few)

pub overflow_sub-room : goal.overflow_sub-room
overflow_sub-room c =
    let valid = subst (λ m. IsValid (with_item c.args.item m)) (sym c.self.view_is) c.requires.valid in
    let fits = room_for_item c.self.inside.room _ c.self.inside.model c.args.item c.self.invariant.room_sum valid c.nodes-nodes.ensures in
    omega (arith, fits)
