-- What an answer without an end says of the state of its log.
use Rattle.std.proofs.Common.{◌≡◌, ◌+◌, ℤ, true, false, List, [], ◌∷◌, ◌++◌, Option, Some, None, refl}
use Rattle.std.specs.Prelude.{option_to_list, if◌then◌else◌}
use Rattle.sched_model.specs.declared.types.Answer.{Answer}
use Rattle.sched_model.specs.declared.types.Answer.TheVariants.{Optimal, Feasible, Infeasible, Unfinished}
use Rattle.sched_model.specs.Words.{is_empty}
use Rattle.region.specs.Cells.{Region}
use Rattle.kernel.specs.declared.types.Found.{Found}
use Rattle.sched_model.specs.declared.types.Verdict.TheVariants.{Unclosed}
use Rattle.kernel.specs.Steps.{best_of, best_verdict, closed_verdict}
use Rattle.sched_model.specs.Answers.{verdict_in}
use Rattle.solver.specs.Answers.{is_unfinished}

-- Where the verdict is open and no region is current, one waits.

best_closed : (v b : Option ℤ) → best_verdict v ≡ Unclosed b → ⊥
best_closed None b is = cc
best_closed (Some x) b is = cc

found_closed : (found : Option Found) (b : Option ℤ) → closed_verdict found ≡ Unclosed b → ⊥
found_closed None b is = cc
found_closed (Some f) b is = best_closed f.value b is

pub one_waits : (current : Option Region) (waiting : List Region) (found : Option Found) (b : Option ℤ) → current ≡ None → (if is_empty (option_to_list current ++ waiting) then closed_verdict found else Unclosed (best_of found)) ≡ Unclosed b → is_empty waiting ≡ false
one_waits None [] found b none is = absurd (found_closed found b is)
one_waits None (r ∷ rs) found b none is = refl
one_waits (Some r) waiting found b none is = absurd cc

pub unclosed : (a : Answer) → is_unfinished a ≡ true → (b : Option ℤ) × (verdict_in a ≡ Unclosed b)
unclosed (Optimal v a) is = absurd cc
unclosed (Feasible a) is = absurd cc
unclosed Infeasible is = absurd cc
unclosed (Unfinished found) is = (_, refl)
