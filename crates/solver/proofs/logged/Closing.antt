-- The line that ends a node, what it steps to, and the log with it.
use Rattle.std.proofs.Common.{◌≡◌, ℕ, ◌+◌, ℤ, Bool, true, not, ◌&&◌, List, [], ◌∷◌, ◌++◌, Option, Some, None, Ok, refl, sym, ap, subst, ◌∙◌, true≢false}
use Rattle.std.specs.Prelude.{IfSome, is_some}
use Rattle.sched_model.specs.declared.types.Assignment.{Assignment}
use Rattle.sched_model.specs.Words.{passes_if_any}
use Rattle.sched_model.specs.Data.{Data}
use Rattle.sched_model.specs.Solution.{is_solution, is_better}
use Rattle.region.specs.declared.types.Guess.{Guess}
use Rattle.region.specs.Cells.{Region, is_settled, allows}
use Rattle.region.specs.Guesses.{splits, with_guess, with_fact}
use Rattle.region.specs.Looks.{Refuting, seen_at}
use Rattle.region.specs.laws.Lists.{true_both}
use Rattle.kernel.specs.declared.types.Witness.{Witness}
use Rattle.kernel.specs.declared.types.Line.{Line}
use Rattle.kernel.specs.declared.types.Line.TheVariants.{Fail, Split, Sol}
use Rattle.kernel.specs.declared.types.Found.{Found}
use Rattle.kernel.specs.declared.types.StepFault.{StepFault}
use Rattle.kernel.specs.declared.types.StepFault.TheVariants.{NotRefuted, NotSplitting, NotSolution}
use Rattle.kernel.specs.Agenda.{first_in}
use Rattle.kernel.specs.Steps.{LogState, Node, Steps, done, more, step_at, step_on, taken, node_of, is_restart, unless, closed, best_of, is_wanted, found_in, left_after}
use Rattle.kernel.specs.laws.Outcomes.{same_ok}
use Rattle.logtext.specs.Lifted.{refutes_logged}
use Rattle.logtext.specs.Logs.{PlainLine}
use Rattle.solver.specs.Cuts.{plain_step}
use Rattle.solver.specs.Written.{WellPutFrom, derived_after, derived_in}
use Rattle.solver.specs.code.Leaves.{settled_assignment, Solves}
use Rattle.solver.specs.code.Searching.{HasValue}

-- steps, one after another
pub steps_on : {W : Type 0} {refutes : Refuting (Witness W)} {m : Data} {s t u : LogState} {xs ys : List (Line W)} → Steps refutes m s xs t → Steps refutes m t ys u → Steps refutes m s (xs ++ ys) u
steps_on done rest = rest
steps_on (more first others) rest = more first (steps_on others rest)

pub well_on : (m : Data) (n : ℕ) {s t : LogState} {xs : List PlainLine} (ys : List PlainLine) → Steps refutes_logged m s xs t → WellPutFrom m n s xs → WellPutFrom m (derived_in n xs) t ys → WellPutFrom m n s (xs ++ ys)
well_on m n ys done first rest = rest
well_on m n ys (more {s} {t} {u} {line} {lines} step_is others) first rest =
    (first.0, λ v is. subst (λ (w : LogState). WellPutFrom m (derived_after line n) w (lines ++ ys)) (same_ok t v (sym step_is ∙ is)) (well_on m (derived_after line n) ys others (first.1 t step_is) rest))

pub derived_on : (n : ℕ) (xs ys : List PlainLine) → derived_in n (xs ++ ys) ≡ derived_in (derived_in n xs) ys
derived_on n [] ys = refl
derived_on n (x ∷ xs) ys = derived_on (derived_after x n) xs ys

-- a state whose node this is
first_taken : (current : Option Region) (waiting : List Region) (nodes : ℕ) (found : Option Found) (node : Node) → taken true current waiting nodes found ≡ Some node → (first_in current waiting ≡ Some node.region) × (found ≡ node.found)
first_taken (Some r) waiting nodes found node is = (let same : record { region = r; waiting = waiting; nodes = nodes; found = found } ≡ node = cc in ap (λ (n : Node). Some n.region) same, let same : record { region = r; waiting = waiting; nodes = nodes; found = found } ≡ node = cc in ap (λ (n : Node). n.found) same)
first_taken None (r ∷ rs) nodes found node is = (let same : record { region = r; waiting = rs; nodes = nodes + 1; found = found } ≡ node = cc in ap (λ (n : Node). Some n.region) same, let same : record { region = r; waiting = rs; nodes = nodes + 1; found = found } ≡ node = cc in ap (λ (n : Node). n.found) same)
first_taken None [] nodes found node is = cc

pub node_first : (s : LogState) (node : Node) → node_of s ≡ Some node → (first_in s.current s.waiting ≡ Some node.region) × (s.found ≡ node.found)
node_first s node is = first_taken s.current s.waiting s.nodes s.found node is

pub node_steps : (m : Data) (s : LogState) (node : Node) (line : PlainLine) → not (is_restart line) ≡ true → node_of s ≡ Some node → plain_step m line s ≡ step_at refutes_logged m node line
node_steps m s node line plain is = ap (λ o. step_on refutes_logged m o line) (ap (λ b. taken b s.current s.waiting s.nodes s.found) plain ∙ is)

-- what each line steps to
unless_true : (b : Bool) (f : StepFault) (t : LogState) → b ≡ true → unless b f (Ok t) ≡ Ok t
unless_true b f t h = rw h refl

pub fail_steps : (m : Data) (node : Node) (w : Witness _) → refutes_logged m (seen_at node.region (best_of node.found) None) w ≡ true → step_at refutes_logged m node (Fail w) ≡ Ok (closed node node.waiting node.found)
fail_steps m node w h = unless_true _ NotRefuted _ h

pub split_steps : (m : Data) (node : Node) (g : Guess) → splits node.region g ≡ true → step_at refutes_logged m node (Split g) ≡ Ok (closed node (with_guess g node.region ∷ with_fact g node.region ∷ node.waiting) node.found)
split_steps m node g h = unless_true _ NotSplitting _ h

-- a better solution is wanted where a region waits
some_there : {X : Type 0} (o : Option X) → is_some o ≡ true → (x : X) × (o ≡ Some x)
some_there None h = cc
some_there (Some x) h = (x, refl)

wanted_by : (m : Data) (f : Found) (a : Assignment) (v : Option ℤ) → f.value ≡ v → HasValue m f → passes_if_any (λ o. is_better m v a) m.objective ≡ true → (is_some v && is_better m v a) ≡ true
wanted_by m f a None is has better = absurd (true≢false (sym has.some ∙ ap is_some is))
wanted_by m f a (Some v) is has better = let o = some_there m.objective has.objective in
    sym (ap (passes_if_any (λ p. is_better m (Some v) a)) o.1) ∙ better

pub wanted : (m : Data) (found : Option Found) (a : Assignment) → IfSome found (HasValue m) → passes_if_any (λ o. is_better m (best_of found) a) m.objective ≡ true → is_wanted m found a ≡ true
wanted m None a has better = refl
wanted m (Some f) a has better = wanted_by m f a f.value refl has better

pub sol_steps : (m : Data) (node : Node) (a : Assignment) → is_settled node.region ≡ true → IfSome node.found (HasValue m) → a ≡ settled_assignment m node.region → Solves m (seen_at node.region (best_of node.found) None)
    → step_at refutes_logged m node (Sol a) ≡ Ok (closed node (left_after m node.waiting) (Some (found_in m a)))
sol_steps m node a settled valued is solves =
    let here : is_solution m a ≡ true = subst (λ b. is_solution m b ≡ true) (sym is) solves.solution in
    let allowed : allows node.region a ≡ true = subst (λ b. allows node.region b ≡ true) (sym is) solves.allowed in
    let better : passes_if_any (λ o. is_better m (best_of node.found) a) m.objective ≡ true = subst (λ b. passes_if_any (λ o. is_better m (best_of node.found) b) m.objective ≡ true) (sym is) solves.better in
    unless_true _ NotSolution _ (true_both _ _ (true_both _ _ (true_both _ _ settled here) allowed) (wanted m node.found a valued better))
