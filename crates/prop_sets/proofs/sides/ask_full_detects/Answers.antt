use Rattle.std.proofs.Common.{subst, List, true, false}
use Rattle.std.specs.Prelude.{IfSome}
use Rattle.theta_passes.specs.declared.rows.Row.{Row}
use Rattle.prop_sets.specs.code.Busy.{IsOverFound}
use Rattle.prop_sets.proofs.Asking.{busy_overload}
use Rattle.prop_sets.proofs.sides.ask_full_detects.Goals as goal

pub answer_overload-requires-clause-busy : goal.answer_overload-requires-clause-busy
answer_overload-requires-clause-busy c =
    let found = subst (λ o. IfSome o (λ b. IsOverFound c.as_slice-rows.result.now b.place b.set.items)) c.in-Some.is c.in_ok-found.ensures.some in
    busy_overload _ _ _ _ _ _ false false true _ _ _ c.in_ok-rows_for.ensures.rowed (subst (λ (rs : List Row). IsOverFound rs c.in-Some.found.place c.in-Some.found.set.items) c.as_slice-rows.ensures.value found)

pub returns-in-Some-clause-busy : goal.returns-in-Some-clause-busy
returns-in-Some-clause-busy c = c.answer_overload.ensures.busy false
