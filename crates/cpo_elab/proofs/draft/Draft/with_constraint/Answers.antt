use Rattle.std.proofs.Common.{sym, subst, arith}
use Rattle.sched_model.specs.Data.{with_constraint}
use Rattle.sched_model.specs.Valid.{IsValid}
use Rattle.sched_model.specs.laws.Limits.{limits_of}
use Rattle.cpo_elab.specs.code.Items.{with_any}
use Rattle.cpo_elab.proofs.adding.Grown.{room_for_constraint, grown_constraint}
use Rattle.cpo_elab.proofs.adding.Gained.{few_any, room_for_any, grown_any}
use Rattle.cpo_elab.proofs.draft.Draft.with_constraint.Goals as goal

pub any_cells-more-requires : goal.any_cells-more-requires
any_cells-more-requires c = few_any c.args.self c.args.written c.requires.written

pub add_constraint-requires-clause-written : goal.add_constraint-requires-clause-written
add_constraint-requires-clause-written c = subst (λ m. IsValid (with_any c.args.written m)) (sym c.self.view_is) c.requires.written

pub add_constraint-requires-clause-valid : goal.add_constraint-requires-clause-valid
add_constraint-requires-clause-valid c = subst (λ m. IsValid (with_constraint c.args.c (with_any c.args.written m))) (sym c.self.view_is) c.requires.valid

pub invariant_of-result : goal.invariant_of-result
invariant_of-result c =
    let old = subst (λ m. IsValid (with_any c.args.written m)) (sym c.self.view_is) c.requires.written in
    let valid = subst (λ m. IsValid (with_constraint c.args.c (with_any c.args.written m))) (sym c.self.view_is) c.requires.valid in
    let mid = grown_any c.self.inside.names c.self.inside.cells c.self.inside.room _ _ c.self.inside.model c.args.written c.self.invariant c.requires.unnamed old c.any_cells-more.ensures.count c.any_nodes-nodes.ensures in
    grown_constraint c.self.inside.names _ _ _ (with_any c.args.written c.self.inside.model) _ c.args.c mid c.in_ok-add_constraint.ensures valid c.constraint_nodes-count.ensures

pub overflow_add-cells : goal.overflow_add-cells
overflow_add-cells c = let limits = limits_of c.self.inside.model c.self.invariant.valid.limits in omega (arith, limits.cells, c.self.invariant.cell_sum, c.any_cells-more.ensures.few)

pub overflow_sub-left : goal.overflow_sub-left
overflow_sub-left c =
    let old = subst (λ m. IsValid (with_any c.args.written m)) (sym c.self.view_is) c.requires.written in
    let fits = room_for_any c.self.inside.room _ c.self.inside.model c.args.written c.self.invariant.room_sum old c.any_nodes-nodes.ensures in
    omega (arith, fits)

pub overflow_sub-room : goal.overflow_sub-room
overflow_sub-room c =
    let old = subst (λ m. IsValid (with_any c.args.written m)) (sym c.self.view_is) c.requires.written in
    let valid = subst (λ m. IsValid (with_constraint c.args.c (with_any c.args.written m))) (sym c.self.view_is) c.requires.valid in
    let mid = grown_any c.self.inside.names c.self.inside.cells c.self.inside.room _ _ c.self.inside.model c.args.written c.self.invariant c.requires.unnamed old c.any_cells-more.ensures.count c.any_nodes-nodes.ensures in
    let fits = room_for_constraint _ _ (with_any c.args.written c.self.inside.model) c.args.c mid.room_sum valid c.constraint_nodes-count.ensures in
    omega (arith, fits)
