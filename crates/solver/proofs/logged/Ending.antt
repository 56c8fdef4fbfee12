-- The line that ends a node: that a log may hold it, that it is well put, and what is left then.
use Rattle.std.proofs.Common.{◌≡◌, ℕ, ℤ, Bool, true, false, ◌∷◌, Option, Some, None, Result, Ok, Err, ◌⊎◌, inl, inr, refl, sym, subst, ◌∙◌, true≢false}
use Rattle.std.specs.Prelude.{IfSome, IfOk, IsTrue}
use Rattle.sched_model.specs.declared.types.Assignment.{Assignment}
use Rattle.sched_model.specs.Data.{Data}
use Rattle.sched_model.specs.Valid.{IsValid}
use Rattle.region.specs.declared.types.Guess.{Guess}
use Rattle.region.specs.Cells.{Region, is_settled}
use Rattle.region.specs.Looks.{Seen, IsRegionOf, seen_at}
use Rattle.region.specs.laws.Found.{none_of_all}
use Rattle.region.specs.laws.Settling.{allowed_from_test}
use Rattle.sched_model.specs.laws.Tested.{solution_from_test}
use Rattle.refute_energy.specs.Named.{named}
use Rattle.refute_energy.specs.laws.Sound.{sound_law}
use Rattle.kernel.specs.declared.types.Line.TheVariants.{Derive, Fail, Split, Sol, Restart}
use Rattle.kernel.specs.declared.types.Witness.{Witness}
use Rattle.kernel.specs.declared.types.Witness.TheVariants.{Basic, Hier, Seq, Cumul, State, Extra}
use Rattle.kernel.specs.declared.no_extra.NoWitness.{NoWitness}
use Rattle.logtext.specs.Extra.{log_numbers, log_valid}
use Rattle.logtext.specs.Lifted.{refutes_logged, lifted_witness}
use Rattle.logtext.specs.Logs.{PlainLine, IsLine}
use Rattle.engine.specs.declared.stops.Stop.{Stop}
use Rattle.engine.specs.declared.stops.Stop.TheVariants.{Quiet, Failed, Capped}
use Rattle.engine.specs.Plain.{refutes_plain}
use Rattle.prop_energy.specs.Full.{HasNoOverload}
use Rattle.engine.specs.Runs.{Ends, Counts, cap_at}
use Rattle.propagators.specs.Quiet.{IsQuietRegion}
use Rattle.solver.specs.code.Leaves.{settled_assignment}
use Rattle.solver.specs.laws.Quiet.{quiet_solves}
use Rattle.solver.specs.Written.{IsWellPut}
use Rattle.kernel.specs.Steps.{LogState, Node, step_at, best_of, closed, left_after, found_in}
use Rattle.region.specs.Guesses.{with_guess, with_fact}
use Rattle.solver.specs.code.Searching.{AskedUnlessSettled, Closes, IsSpent, HasValue, QuietUnlessFailed, is_failed, is_capped}
use Rattle.solver.proofs.logged.Closing.{fail_steps, split_steps, sol_steps}
use Rattle.solver.proofs.logged.Deriving.{EndsNode}
use Rattle.solver.proofs.logged.Fitting.{fail_line, split_line, sol_line}

pub closes_line : (m : Data) (r : Region) (best : Option ℤ) (failed : Bool) (line : PlainLine) → IsValid m → IsRegionOf m r → Closes m r best failed line → IsLine log_numbers log_valid line
closes_line m r best failed (Fail w) valid of h = fail_line m (seen_at r best None) w valid h
closes_line m r best failed (Split g) valid of h = split_line m r g valid of h.0.splits_it
closes_line m r best failed (Sol a) valid of h = subst (λ b. IsLine log_numbers log_valid (Sol b)) (sym h.1) (sol_line m r valid of h.2.solution)
closes_line m r best failed (Derive g w) valid of h = absurd h
closes_line m r best failed Restart valid of h = absurd h

pub closes_ends : (m : Data) (r : Region) (best : Option ℤ) (failed : Bool) (line : PlainLine) → Closes m r best failed line → EndsNode line
closes_ends m r best failed (Fail w) h = record { plain = refl; none = λ n. refl; counted = λ plan. refl }
closes_ends m r best failed (Split g) h = record { plain = refl; none = λ n. refl; counted = λ plan. refl }
closes_ends m r best failed (Sol a) h = record { plain = refl; none = λ n. refl; counted = λ plan. refl }
closes_ends m r best failed (Derive g w) h = absurd h
closes_ends m r best failed Restart h = absurd h

pub closes_well : (m : Data) (r : Region) (best : Option ℤ) (failed : Bool) (line : PlainLine) (n : ℕ) → Closes m r best failed line → (failed ≡ false → IsQuietRegion m r best ⊎ (n ≡ cap_at r)) → ((g : Guess) → line ≡ Split g → failed ≡ false → HasNoOverload m r ⊎ (n ≡ cap_at r))
    → IsWellPut m best n line (Some r)
closes_well m r best failed (Fail w) n h spent full = tt
closes_well m r best failed (Split g) n h spent full = record { cuts = h.0.cuts_it; spent = spent h.1; full = full g refl h.1 }
closes_well m r best failed (Sol a) n h spent full = tt
closes_well m r best failed (Derive g w) n h spent full = absurd h
closes_well m r best failed Restart n h spent full = absurd h

pub spent_well : (m : Data) (r : Region) (best : Option ℤ) (quiet : Type 0) (n : ℕ) (stop : Stop) → (quiet → IsQuietRegion m r best) → IsSpent quiet n r stop → is_failed stop ≡ false → IsQuietRegion m r best ⊎ (n ≡ cap_at r)
spent_well m r best quiet n Quiet covers spent h = inl (covers spent)
spent_well m r best quiet n Capped covers spent h = inr spent
spent_well m r best quiet n (Failed w) covers spent h = cc

-- where it is split, no capacity is overloaded, or its run was capped
pub full_well : (m : Data) (r : Region) (quiet : Type 0) (n : ℕ) (stop : Stop) (line : PlainLine) → IsSpent quiet n r stop → ((g : Guess) → line ≡ Split g → is_capped stop ≡ false → HasNoOverload m r)
    → (g : Guess) → line ≡ Split g → is_failed stop ≡ false → HasNoOverload m r ⊎ (n ≡ cap_at r)
full_well m r quiet n Quiet line spent none g is h = inl (none g is refl)
full_well m r quiet n Capped line spent none g is h = inr spent
full_well m r quiet n (Failed w) line spent none g is h = cc

-- where a region is split whose run wasn't capped, all were quiet
pub quiet_split : (quiet : Type 0) (m : Data) (r : Region) (best : Option ℤ) (stop : Stop) (line : PlainLine) (g : Guess) → Ends quiet m best r stop → Closes m r best (is_failed stop) line → line ≡ Split g → is_capped stop ≡ false → quiet
quiet_split quiet m r best Quiet line g ends h is not = ends
quiet_split quiet m r best Capped line g ends h is not = cc
quiet_split quiet m r best (Failed w) (Split k) g ends h is not = let no = h.1 in cc
quiet_split quiet m r best (Failed w) (Fail v) g ends h is not = cc
quiet_split quiet m r best (Failed w) (Sol a) g ends h is not = cc
quiet_split quiet m r best (Failed w) (Derive k v) g ends h is not = cc
quiet_split quiet m r best (Failed w) Restart g ends h is not = cc

-- a run of a settled region isn't capped
pub settled_quiet : (quiet : Type 0) (n : ℕ) (m : Data) (best : Option ℤ) (r : Region) (stop : Stop) → Ends quiet m best r stop → Counts n r stop → is_settled r ≡ true → QuietUnlessFailed quiet stop
settled_quiet quiet n m best r Quiet ends counts settled = ends
settled_quiet quiet n m best r (Failed w) ends counts settled = tt
settled_quiet quiet n m best r Capped ends counts settled = true≢false (sym settled ∙ counts.1)

-- what is left of it is a solution
pub settled_closes : (m : Data) (r : Region) (best : Option ℤ) (a : Assignment) → IsValid m → IsRegionOf m r → is_settled r ≡ true → IsQuietRegion m r best → a ≡ settled_assignment m r → Closes m r best false (Sol a)
settled_closes m r best a valid of settled quiet is = (settled, is, quiet_solves m r best valid of settled quiet)

-- the line steps
pub closes_step : (m : Data) (node : Node) (failed : Bool) (line : PlainLine) → IfSome node.found (HasValue m) → Closes m node.region (best_of node.found) failed line → (t : LogState) × (step_at refutes_logged m node line ≡ Ok t) × (t.nodes ≡ node.nodes)
closes_step m node failed (Fail w) valued h = (closed node node.waiting node.found, fail_steps m node w h, refl)
closes_step m node failed (Split g) valued h = (closed node (with_guess g node.region ∷ with_fact g node.region ∷ node.waiting) node.found, split_steps m node g h.0.splits_it, refl)
closes_step m node failed (Sol a) valued h = (closed node (left_after m node.waiting) (Some (found_in m a)), sol_steps m node a h.0 valued h.1 h.2, refl)
closes_step m node failed (Derive g w) valued h = absurd h
closes_step m node failed Restart valued h = absurd h

-- a witness of the engine refutes as one of the log
pub lifted_refutes : (m : Data) (l : Seen) (w : Witness NoWitness) → IsTrue (refutes_plain m l w) → IsTrue (refutes_logged m l (lifted_witness w))
lifted_refutes m l (Basic w) h = h
lifted_refutes m l (Hier w) h = h
lifted_refutes m l (Seq w) h = h
lifted_refutes m l (Cumul w) h = h
lifted_refutes m l (State w) h = h
lifted_refutes m l (Extra w) h = cc

-- nothing is left to find by energy of a settled region: it is a solution
no_assignment : (m : Data) (r : Region) (best : Option ℤ) → IsValid m → IsRegionOf m r → is_settled r ≡ true → IsQuietRegion m r best → HasNoOverload m r
no_assignment m r best valid of settled quiet other w h =
    let solves = quiet_solves m r best valid of settled quiet in
    let solution = solution_from_test m (settled_assignment m r) solves.solution in
    none_of_all m (named w) (seen_at r None None) (sound_law m (seen_at r None None) w valid of h) (settled_assignment m r) solution refl
    (allowed_from_test m r (settled_assignment m r) of solution.domain solves.allowed)

pub none_overloaded : (m : Data) (r : Region) (best : Option ℤ) → IsValid m → IsRegionOf m r → IsQuietRegion m r best → (is_settled r ≡ false → HasNoOverload m r) → HasNoOverload m r
none_overloaded m r best valid of quiet unless = by_settled (is_settled r) refl
  where
    by_settled : (b : Bool) → is_settled r ≡ b → HasNoOverload m r
    by_settled true is = no_assignment m r best valid of is quiet
    by_settled false is = unless is

-- what was asked of by energy, where nothing was found
pub none_asked : (m : Data) (r : Region) (best : Option ℤ) → IsValid m → IsRegionOf m r → IsQuietRegion m r best → AskedUnlessSettled m r None → HasNoOverload m r
none_asked m r best valid of quiet asked = none_overloaded m r best valid of quiet asked

-- so each line that is left leaves it
pub of_each : {T E : Type 0} (r : Result T E) (P : T → Type 0) → ((x : T) → P x) → IfOk r P
of_each (Ok x) P holds = holds x
of_each (Err e) P holds = tt

pub of_more : {T E : Type 0} (r : Result T E) (P Q : T → Type 0) → ((x : T) → P x → Q x) → IfOk r P → IfOk r Q
of_more (Ok x) P Q gives is = gives x is
of_more (Err e) P Q gives is = tt
