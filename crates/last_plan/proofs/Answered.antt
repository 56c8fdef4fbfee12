-- The answer that is made of the state of a log has its verdict and its schedule.
use Rattle.std.proofs.Common.{◌≡◌, ℕ, ◌+◌, ℤ, Bool, true, false, not, List, [], ◌∷◌, Option, Some, None, Ok, refl, sym, ap, subst, ◌∙◌}
use Rattle.std.specs.Prelude.{option_map, is_some, IfSome, if◌then◌else◌}
use Rattle.sched_model.specs.declared.types.Assignment.{Assignment}
use Rattle.sched_model.specs.declared.types.Objective.{Objective}
use Rattle.sched_model.specs.declared.types.Verdict.{Verdict}
use Rattle.sched_model.specs.declared.types.Verdict.TheVariants as verdict
use Rattle.sched_model.specs.Answers.{verdict_in}
use Rattle.sched_model.specs.Data.{Data}
use Rattle.sched_model.specs.Solution.{IsSolution, objective_of}
use Rattle.sched_model.specs.Words.{is_empty}
use Rattle.region.specs.Cells.{Region}
use Rattle.region.specs.Looks.{Refuting}
use Rattle.kernel.specs.declared.types.Found.{Found}
use Rattle.kernel.specs.declared.types.Line.{Line}
use Rattle.kernel.specs.declared.types.Line.TheVariants.{Derive, Fail, Split, Sol, Restart}
use Rattle.kernel.specs.declared.types.Witness.{Witness}
use Rattle.kernel.specs.Promises.{IsFound, IfFound}
use Rattle.kernel.specs.Steps.{LogState, Node, Steps, best_of, best_verdict, closed, closed_verdict, found_in, is_restart, left_after, open_regions, opening, step, step_at, verdict_of}
use Rattle.kernel.specs.Steps.Steps.{done, more}
use Rattle.kernel.specs.laws.Outcomes.{same_ok, unless_ok}
use Rattle.replay.specs.LastSchedule.{found_schedule}
use Rattle.replay.specs.lemmas.LastSchedule.{found_of}
use Rattle.last_plan.specs.Plans.{schedule_shown, value_beside}
use Rattle.last_plan.specs.code.Answers.{answer_of}

-- The verdict.

of_best : (v : Option ℤ) (a : Assignment) → verdict_in (answer_of (best_verdict v) (Some a)) ≡ best_verdict v
of_best None a = refl
of_best (Some v) a = refl

of_open : (v : Option ℤ) (a : Assignment) → verdict_in (answer_of (verdict.Unclosed v) (Some a)) ≡ verdict.Unclosed v
of_open None a = refl
of_open (Some v) a = refl

of_parts : (b : Bool) (found : Option Found) → let v : Verdict = if b then closed_verdict found else verdict.Unclosed (best_of found) in verdict_in (answer_of v (found_schedule found)) ≡ v
of_parts true None = refl
of_parts true (Some f) = of_best f.value f.assignment
of_parts false None = refl
of_parts false (Some f) = of_open f.value f.assignment

pub says_verdict : (s : LogState) → verdict_in (answer_of (verdict_of s) (found_schedule s.found)) ≡ verdict_of s
says_verdict s = of_parts (is_empty (open_regions s)) s.found

-- Where regions are left, what was found has a value.

abbrev pub HasValues : LogState → Type 0
HasValues s = (f : Found) → s.found ≡ Some f → f.value ≡ None → open_regions s ≡ []

abbrev AllValued : Option Found → Type 0
AllValued found = (f : Found) → found ≡ Some f → f.value ≡ None → ⊥

keeps_found : (found : Option Found) (t : LogState) → t.found ≡ found → AllValued found → HasValues t
keeps_found found t same valued f is none = absurd (valued f (sym same ∙ is) none)

-- without an objective nothing waits behind a solution
none_waits : (o : Option Objective) (value : Objective → ℤ) (rs : List Region) → option_map value o ≡ None → (if is_some o then rs else []) ≡ []
none_waits None value rs h = refl
none_waits (Some o) value rs h = absurd cc

value_is : (m : Data) (a : Assignment) (f : Found) → Some (found_in m a) ≡ Some f → f.value ≡ None → objective_of m a ≡ None
value_is m a f is none = let same : found_in m a ≡ f = cc in ap (λ (x : Found). x.value) same ∙ none

at_node : {W : Type 0} (refutes : Refuting (Witness W)) (m : Data) (n : Node) (l : Line W) (t : LogState) → AllValued n.found → step_at refutes m n l ≡ Ok t → HasValues t
at_node refutes m n (Derive g w) t valued is = keeps_found n.found t (found_of _ t (unless_ok _ _ _ t (unless_ok _ _ _ t is))) valued
at_node refutes m n (Fail w) t valued is = keeps_found n.found t (found_of _ t (unless_ok _ _ _ t is)) valued
at_node refutes m n (Split g) t valued is = keeps_found n.found t (found_of _ t (unless_ok _ _ _ t is)) valued
at_node refutes m n (Sol a) t valued is =
    subst HasValues (same_ok (closed n (left_after m n.waiting) (Some (found_in m a))) t (unless_ok _ _ _ t is)) (λ f found none. none_waits m.objective _ n.waiting (value_is m a f found none))
at_node refutes m n Restart t valued is = keeps_found n.found t (found_of _ t is) valued

one_left : (r : Region) (rs : List Region) → r ∷ rs ≡ [] → ⊥
one_left r rs h = cc

at_parts : {W : Type 0} (refutes : Refuting (Witness W)) (m : Data) (current : Option Region) (waiting : List Region) (k : ℕ) (found : Option Found) (l : Line W) (t : LogState)
    → let s : LogState = record { current = current; waiting = waiting; nodes = k; found = found } in HasValues s → step refutes m l s ≡ Ok t → HasValues t
at_parts refutes m (Some r) rs k found l t has is = at_node refutes m (record { region = r; waiting = rs; nodes = k; found = found }) l t (λ f here none. one_left r rs (has f here none)) is
at_parts refutes m None (r ∷ rs) k found l t has is = at_node refutes m (record { region = r; waiting = rs; nodes = if not (is_restart l) then k + 1 else k; found = found }) l t (λ f here none. one_left r rs (has f here none)) is
at_parts refutes m None [] k found l t has is = absurd cc

pub keeps_values : {W : Type 0} (refutes : Refuting (Witness W)) (m : Data) {s t : LogState} {ls : List (Line W)} → Steps refutes m s ls t → HasValues s → HasValues t
keeps_values refutes m done has = has
keeps_values refutes m (more {s} {t} {u} {line} {lines} is rest) has = keeps_values refutes m rest (at_parts refutes m s.current s.waiting s.nodes s.found line t has is)

pub opening_values : (m : Data) → HasValues (opening m)
opening_values m f is none = absurd cc

-- The schedule.

best_shown : (v : Option ℤ) (a : Assignment) → schedule_shown (answer_of (best_verdict v) (Some a)) ≡ Some a
best_shown None a = refl
best_shown (Some v) a = refl

open_shown : (v : Option ℤ) (a : Assignment) → (v ≡ None → ⊥) → schedule_shown (answer_of (verdict.Unclosed v) (Some a)) ≡ Some a
open_shown None a some = absurd (some refl)
open_shown (Some v) a some = refl

shown_parts : (b : Bool) (found : Option Found) → (b ≡ false → AllValued found) → schedule_shown (answer_of (if b then closed_verdict found else verdict.Unclosed (best_of found)) (found_schedule found)) ≡ found_schedule found
shown_parts true None valued = refl
shown_parts true (Some f) valued = best_shown f.value f.assignment
shown_parts false None valued = refl
shown_parts false (Some f) valued = open_shown f.value f.assignment (valued refl f refl)

none_left : (rs : List Region) → rs ≡ [] → is_empty rs ≡ false → ⊥
none_left [] none some = cc
none_left (r ∷ rs) none some = cc

pub says_schedule : (s : LogState) → HasValues s → schedule_shown (answer_of (verdict_of s) (found_schedule s.found)) ≡ found_schedule s.found
says_schedule s has = shown_parts (is_empty (open_regions s)) s.found (λ some f is none. none_left (open_regions s) (has f is none) some)

-- It is a solution of the value beside it.

abbrev pub ShowsSolution : Data → Verdict → Option Assignment → Type 0
ShowsSolution m v found = IfSome (schedule_shown (answer_of v found)) (λ a. IsSolution m a × (objective_of m a ≡ value_beside (verdict_in (answer_of v found))))

best_solution : (m : Data) (f : Found) (v : Option ℤ) → f.value ≡ v → IsFound m f → ShowsSolution m (best_verdict v) (Some f.assignment)
best_solution m f None is found = (found.solution, sym found.value ∙ is)
best_solution m f (Some v) is found = (found.solution, sym found.value ∙ is)

open_solution : (m : Data) (f : Found) (v : Option ℤ) → f.value ≡ v → IsFound m f → ShowsSolution m (verdict.Unclosed v) (Some f.assignment)
open_solution m f None is found = tt
open_solution m f (Some v) is found = (found.solution, sym found.value ∙ is)

solution_parts : (m : Data) (b : Bool) (found : Option Found) → IfFound m found → ShowsSolution m (if b then closed_verdict found else verdict.Unclosed (best_of found)) (found_schedule found)
solution_parts m true None is = tt
solution_parts m true (Some f) is = best_solution m f f.value refl is
solution_parts m false None is = tt
solution_parts m false (Some f) is = open_solution m f f.value refl is

pub says_solution : (m : Data) (s : LogState) → IfFound m s.found → ShowsSolution m (verdict_of s) (found_schedule s.found)
says_solution m s is = solution_parts m (is_empty (open_regions s)) s.found is
