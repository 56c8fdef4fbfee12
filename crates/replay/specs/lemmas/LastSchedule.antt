-- The last solution in a log is what its state has found.
use Rattle.std.proofs.Common.{◌≡◌, ℕ, ◌+◌, not, List, [], ◌∷◌, Option, Some, None, Ok, Err, refl, sym, ap, ◌∙◌}
use Rattle.std.specs.Prelude.{if◌then◌else◌}
use Rattle.std.specs.Option.{option_or}
use Rattle.sched_model.specs.declared.types.Assignment.{Assignment}
use Rattle.sched_model.specs.Data.{Data}
use Rattle.region.specs.Cells.{Region}
use Rattle.region.specs.Looks.{Refuting}
use Rattle.kernel.specs.declared.types.Witness.{Witness}
use Rattle.kernel.specs.declared.types.Line.{Line}
use Rattle.kernel.specs.declared.types.Line.TheVariants.{Derive, Fail, Split, Sol, Restart}
use Rattle.kernel.specs.declared.types.Found.{Found}
use Rattle.kernel.specs.Steps.{LogState, Node, Outcome, Steps, is_restart, step, step_at}
use Rattle.kernel.specs.Steps.Steps.{done, more}
use Rattle.kernel.specs.laws.Outcomes.{unless_ok}
use Rattle.replay.specs.LastSchedule.{schedule_in, last_schedule, found_schedule}

abbrev pub found_after : Outcome → Option Found → Option Found
found_after (Ok s) other = s.found
found_after (Err fault) other = other

abbrev pub Comes : Outcome → LogState → Type 0
Comes out t = out ≡ Ok t

pub found_of : (s t : LogState) → Comes (Ok s) t → t.found ≡ s.found
found_of s t is = sym (ap (λ x. found_after x None) is)

at_node : {W : Type 0} (refutes : Refuting (Witness W)) (m : Data) (n : Node) (l : Line W) (t : LogState) → step_at refutes m n l ≡ Ok t → found_schedule t.found ≡ option_or (schedule_in l) (found_schedule n.found)
at_node refutes m n (Derive g w) t is = ap found_schedule (found_of _ t (unless_ok _ _ _ t (unless_ok _ _ _ t is)))
at_node refutes m n (Fail w) t is = ap found_schedule (found_of _ t (unless_ok _ _ _ t is))
at_node refutes m n (Split g) t is = ap found_schedule (found_of _ t (unless_ok _ _ _ t is))
at_node refutes m n (Sol a) t is = ap found_schedule (found_of _ t (unless_ok _ _ _ t is))
at_node refutes m n Restart t is = ap found_schedule (found_of _ t is)

at_parts : {W : Type 0} (refutes : Refuting (Witness W)) (m : Data) (current : Option Region) (waiting : List Region) (k : ℕ) (found : Option Found) (l : Line W) (t : LogState)
    → let s : LogState = record { current = current; waiting = waiting; nodes = k; found = found } in step refutes m l s ≡ Ok t → found_schedule t.found ≡ option_or (schedule_in l) (found_schedule found)
at_parts refutes m (Some r) rs k found l t is = at_node refutes m (record { region = r; waiting = rs; nodes = k; found = found }) l t is
at_parts refutes m None (r ∷ rs) k found l t is = at_node refutes m (record { region = r; waiting = rs; nodes = if not (is_restart l) then k + 1 else k; found = found }) l t is
at_parts refutes m None [] k found l t is = absurd cc

or_or : {X : Type 0} (a b c : Option X) → option_or a (option_or b c) ≡ option_or (option_or a b) c
or_or None b c = refl
or_or (Some x) b c = refl

pub last_found : {W : Type 0} (refutes : Refuting (Witness W)) (m : Data) {s t : LogState} {ls : List (Line W)} → Steps refutes m s ls t → found_schedule t.found ≡ option_or (last_schedule ls) (found_schedule s.found)
last_found refutes m done = refl
last_found refutes m (more {s} {t} {u} {line} {lines} is rest) =
    last_found refutes m rest
    ∙ ap (option_or (last_schedule lines)) (at_parts refutes m s.current s.waiting s.nodes s.found line t is)
    ∙ or_or (last_schedule lines) (schedule_in line) (found_schedule s.found)

or_none : {X : Type 0} (a : Option X) → option_or a None ≡ a
or_none None = refl
or_none (Some x) = refl

pub last_shown : {W : Type 0} (refutes : Refuting (Witness W)) (m : Data) (ls : List (Line W)) (s t : LogState) (shown : Option Assignment) → Steps refutes m s ls t → s.found ≡ None → found_schedule t.found ≡ shown → last_schedule ls ≡ shown
last_shown refutes m ls s t shown steps none is = sym (or_none (last_schedule ls)) ∙ ap (λ f. option_or (last_schedule ls) (found_schedule f)) (sym none) ∙ sym (last_found refutes m steps) ∙ is
