use Rattle.std.proofs.Common.{sym, ap, subst, ◌∙◌, arith}
use Rattle.sched_model.specs.Data.{with_objective}
use Rattle.sched_model.specs.Valid.{IsValid}
use Rattle.cpo_elab.proofs.adding.Grown.{room_for_objective, grown_objective}
use Rattle.cpo_elab.proofs.draft.Draft.with_objective.Goals as goal

pub set_objective-requires : goal.set_objective-requires
set_objective-requires c = subst (λ m. IsValid (with_objective c.args.o m)) (sym c.self.view_is) c.requires.valid

pub invariant_of-result : goal.invariant_of-result
invariant_of-result c =
    let valid = subst (λ m. IsValid (with_objective c.args.o m)) (sym c.self.view_is) c.requires.valid in
    grown_objective c.self.inside.names c.self.inside.cells c.self.inside.room _ c.self.inside.model _ c.args.o c.self.invariant (ap (λ m. m.objective) c.self.view_is ∙ c.requires.first) c.set_objective.ensures valid c.criteria_nodes-count.ensures

pub overflow_sub-room : goal.overflow_sub-room
overflow_sub-room c =
    let valid = subst (λ m. IsValid (with_objective c.args.o m)) (sym c.self.view_is) c.requires.valid in
    let none = ap (λ m. m.objective) c.self.view_is ∙ c.requires.first in
    let fits = room_for_objective c.self.inside.room _ c.self.inside.model c.args.o c.self.invariant.room_sum none valid c.criteria_nodes-count.ensures in
    omega (arith, fits)
