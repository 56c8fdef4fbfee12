use Rattle.std.proofs.Common.{subst, List}
use Rattle.std.specs.Prelude.{IfSome}
use Rattle.theta_passes.specs.declared.rows.Row.{Row}
use Rattle.prop_sets.specs.code.Busy.{IsLateFound}
use Rattle.prop_sets.proofs.Asking.{busy_not_end}
use Rattle.prop_sets.proofs.sides.ask_not_ends.Goals as goal

pub answer_not_end-requires-clause-busy : goal.answer_not_end-requires-clause-busy
answer_not_end-requires-clause-busy c =
    let found = subst (λ o. IfSome o (λ b. IsLateFound c.deref.result.now b.place b.set.items)) c.in-Some.is c.in_ok-found.ensures.some in
    busy_not_end _ _ _ _ _ _ _ _ _ _ c.in_ok-rows_for.ensures.rowed (subst (λ (rs : List Row). IsLateFound rs c.in-Some.found.place c.in-Some.found.set.items) c.deref.ensures.value found)
