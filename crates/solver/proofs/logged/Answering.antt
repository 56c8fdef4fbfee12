-- The answer says what the log has shown.
use Rattle.std.proofs.Common.{◌≡◌, ℕ, ℤ, Bool, true, false, List, [], ◌∷◌, Option, Some, None, refl, sym, ap, subst, ◌∙◌}
use Rattle.std.specs.Prelude.{option_map, option_to_list, is_some, IfSome, ◌++◌, ◌<◌, not, if◌then◌else◌}
use Rattle.sched_base.specs.State.{State}
use Rattle.sched_base.specs.Calls.{appended}
use Rattle.sched_model.specs.declared.types.Assignment.{Assignment}
use Rattle.sched_model.specs.declared.types.Objective.{Objective}
use Rattle.sched_model.specs.declared.types.Solved.{Solved}
use Rattle.sched_model.specs.Data.{Data}
use Rattle.sched_model.specs.Words.{is_empty}
use Rattle.sched_model.specs.Valid.{IsValid}
use Rattle.sched_model.specs.laws.Better.{better_told}
use Rattle.region.specs.Cells.{Region}
use Rattle.kernel.specs.laws.Budget.{budget_with}
use Rattle.kernel.specs.declared.types.Found.{Found}
use Rattle.sched_model.specs.declared.types.Verdict.TheVariants.{Unclosed}
use Rattle.kernel.specs.Promises.{IsFound, Means, IfFound}
use Rattle.kernel.specs.Steps.{LogState, open_regions, best_of, closed_verdict, best_verdict, restarts_in, verdict_of}
use Rattle.logtext.specs.Logs.{PlainLine, plain_log}
use Rattle.sched_model.specs.Answers.{verdict_in}
use Rattle.solver.specs.Answers.{IsAnswer, shown_in, is_unfinished, IfFound as IfValued}
use Rattle.solver.specs.code.Solving.{Solves}
use Rattle.engine.specs.declared.propagator.Propagator.{Ghosts}
use Rattle.solver.specs.declared.state.Search.{Search}
use Rattle.restart_rules.specs.Restarts.{Limits}
use Rattle.restart_rules.specs.laws.Enough.{never_unfinished}
use Rattle.solver.specs.Versions.{version_of}
use Rattle.solver.specs.Written.{IsWritten}
use Rattle.solver.specs.code.Searching.{IsReady, HasValue, state_in, valued, best_answer, closed_answer, answer_from}

-- what has no value has no objective
no_objective : (o : Option Objective) (value : Objective → ℤ) → option_map value o ≡ None → o ≡ None
no_objective None value h = refl
no_objective (Some o) value h = cc

-- with a log that is closed
best_is : (m : Data) (f : Found) (v : Option ℤ) → IsValid m → f.value ≡ v → IsFound m f → Means m (best_verdict v) → IsAnswer m (best_answer v f.assignment)
best_is m f None valid is found means = record { solution = found.solution; plain = no_objective m.objective _ (sym found.value ∙ is) }
best_is m f (Some v) valid is found means = record {
  is_one = record { solution = found.solution; value = sym found.value ∙ is };
  none_better = λ b solution better. means.unbeaten b solution (better_told m f.assignment b v valid found.solution.domain solution.domain (sym found.value ∙ is) ∙ better);
}

closed_is : (m : Data) (found : Option Found) → IsValid m → IfFound m found → Means m (closed_verdict found) → IsAnswer m (closed_answer found)
closed_is m None valid is means = means
closed_is m (Some f) valid is means = best_is m f f.value valid refl is means

best_shows : (v : Option ℤ) (a : Assignment) → (best_verdict v ≡ verdict_in (best_answer v a)) × (Some a ≡ shown_in (best_answer v a)) × (is_unfinished (best_answer v a) ≡ false)
best_shows None a = (refl, refl, refl)
best_shows (Some v) a = (refl, refl, refl)

closed_shows : (found : Option Found) → (closed_verdict found ≡ verdict_in (closed_answer found)) × (option_map (λ f. f.assignment) found ≡ shown_in (closed_answer found)) × (is_unfinished (closed_answer found) ≡ false)
closed_shows None = (refl, refl, refl)
closed_shows (Some f) = best_shows f.value f.assignment

-- with one that isn't
value_is : (m : Data) (f : Found) (v : Option ℤ) → f.value ≡ v → IsFound m f → IfValued m (option_map (λ (v : ℤ). (v, f.assignment)) v)
value_is m f None is found = tt
value_is m f (Some v) is found = record { solution = found.solution; value = sym found.value ∙ is }

valued_is : (m : Data) (found : Option Found) → IfFound m found → IfValued m (valued found)
valued_is m None is = tt
valued_is m (Some f) is = value_is m f f.value refl is

value_best : (v : Option ℤ) (a : Assignment) → v ≡ option_map (λ (va : ℤ × Assignment). va.0) (option_map (λ (v : ℤ). (v, a)) v)
value_best None a = refl
value_best (Some v) a = refl

valued_best : (found : Option Found) → best_of found ≡ option_map (λ (va : ℤ × Assignment). va.0) (valued found)
valued_best None = refl
valued_best (Some f) = value_best f.value f.assignment

value_shows : (v : Option ℤ) (a : Assignment) → (v ≡ None → ⊥) → Some a ≡ option_map (λ (va : ℤ × Assignment). va.1) (option_map (λ (v : ℤ). (v, a)) v)
value_shows None a some = absurd (some refl)
value_shows (Some v) a some = refl

valued_shows : (found : Option Found) → ((f : Found) → found ≡ Some f → f.value ≡ None → ⊥) → option_map (λ f. f.assignment) found ≡ option_map (λ (va : ℤ × Assignment). va.1) (valued found)
valued_shows None some = refl
valued_shows (Some f) some = value_shows f.value f.assignment (some f refl)

-- the clauses of a solved model, by whether a region waits
pub record Shows (m : Data) (limit : ℕ) (s : LogState) (solved : Solved) : Type 0 where
  pub verdict : verdict_of s ≡ verdict_in solved.answer
  pub shown : option_map (λ f. f.assignment) s.found ≡ shown_in solved.answer
  pub limited : is_unfinished solved.answer ≡ true → s.nodes ≡ limit
  pub answer : IsAnswer m solved.answer

not_false : {P : Type 0} (b : Bool) → b ≡ false → b ≡ true → P
not_false b h k = cc

some_left : (rs : List Region) → is_empty rs ≡ false → rs ≡ [] → ⊥
some_left [] h k = cc
some_left (r ∷ rs) h k = cc

-- how the search ended: whether a region is left, and how many nodes were opened
pub record Ended (limit : ℕ) (more : Bool) (s : LogState) : Type 0 where
  pub closed : s.current ≡ None
  pub none : more ≡ false → s.waiting ≡ []
  pub some : more ≡ true → s.waiting ≡ [] → ⊥
  pub limited : more ≡ true → s.nodes ≡ limit
  pub valued : more ≡ true → (f : Found) → s.found ≡ Some f → f.value ≡ None → ⊥

by_more : (m : Data) (limit : ℕ) (s : LogState) (solved : Solved) (more : Bool) → IsValid m → Ended limit more s → IfFound m s.found → is_empty (open_regions s) ≡ not more
    → Means m (if not more then closed_verdict s.found else Unclosed (best_of s.found)) → solved.answer ≡ answer_from more s.found → Shows m limit s solved
by_more m limit s solved false valid ended found is means same =
    let shows = closed_shows s.found in
    record {
      verdict = ap (λ b. if b then closed_verdict s.found else Unclosed (best_of s.found)) is ∙ shows.0 ∙ ap verdict_in (sym same);
      shown = shows.1 ∙ ap shown_in (sym same);
      limited = λ h. not_false _ shows.2 (sym (ap is_unfinished same) ∙ h);
      answer = subst (IsAnswer m) (sym same) (closed_is m s.found valid found means);
    }
by_more m limit s solved true valid ended found is means same =
    record {
      verdict = ap (λ b. if b then closed_verdict s.found else Unclosed (best_of s.found)) is ∙ ap Unclosed (valued_best s.found) ∙ ap verdict_in (sym same);
      shown = valued_shows s.found (ended.valued refl) ∙ ap shown_in (sym same);
      limited = λ h. ended.limited refl;
      answer = subst (IsAnswer m) (sym same) (valued_is m s.found found);
    }

only_waiting : (s : LogState) → s.current ≡ None → open_regions s ≡ s.waiting
only_waiting s closed = ap (λ c. option_to_list c ++ s.waiting) closed

not_empty : (rs : List Region) → (rs ≡ [] → ⊥) → is_empty rs ≡ false
not_empty [] some = absurd (some refl)
not_empty (r ∷ rs) some = refl

empty_is : (limit : ℕ) (more : Bool) (s : LogState) → Ended limit more s → is_empty s.waiting ≡ not more
empty_is limit false s ended = ap is_empty (ended.none refl)
empty_is limit true s ended = not_empty s.waiting (ended.some refl)

pub shows : (m : Data) (limit : ℕ) (more : Bool) (s : LogState) (solved : Solved) → IsValid m → Ended limit more s → IfFound m s.found → Means m (verdict_of s) → solved.answer ≡ answer_from more s.found → Shows m limit s solved
shows m limit more s solved valid ended found means same =
    let is : is_empty (open_regions s) ≡ not more = ap is_empty (only_waiting s ended.closed) ∙ empty_is limit more s ended in
    by_more m limit s solved more valid ended found is (subst (λ b. Means m (if b then closed_verdict s.found else Unclosed (best_of s.found))) is means) same

has_value : (m : Data) (found : Option Found) (f : Found) → IfSome found (HasValue m) → found ≡ Some f → f.value ≡ None → ⊥
has_value m None f has is none = cc
has_value m (Some k) f has is none = let same : k ≡ f = cc in no_value (ap (λ (x : Found). x.value) same ∙ none) has.some
  where
    no_value : {v : Option ℤ} → v ≡ None → is_some v ≡ true → ⊥
    no_value h some = cc

-- of what a search holds
pub ended_is : {P : Type 0} (p : Ghosts P) (m : Data) (limit : ℕ) (more : Bool) (s : Search P) → (more ≡ true → s.nodes ≡ limit) → (more ≡ true → IsReady p m s) → Ended limit more (state_in more s)
ended_is p m limit false s limited ready = record { closed = refl; none = λ h. refl; some = λ h k. cc; limited = limited; valued = λ h f is none. cc }
ended_is p m limit true s limited ready = record {
  closed = refl;
  none = λ h. cc;
  some = λ h k. cc;
  limited = limited;
  valued = λ h f is none. has_value m s.found f (ready refl).holding.valued is none;
}

-- the whole log was written
pub solved_with : (m : Data) (limits : Limits) (more : Bool) (s : LogState) (lines : List PlainLine) (solved : Solved) (old new : State) → IsValid m → Ended limits.nodes more s → IfFound m s.found → Means m (verdict_of s)
    → s.nodes < budget_with m (restarts_in lines) → solved.nodes ≡ s.nodes → solved.answer ≡ answer_from more s.found → IsWritten m limits lines s → new ≡ record old { logged = appended (plain_log (version_of limits.restarts) lines) old.logged } → Solves m limits solved old new
solved_with m limits more s lines solved old new valid ended found means below nodes same written logged =
    let says = shows m limits.nodes more s solved valid ended found means same in
    record {
      lines = lines;
      state = s;
      is = record {
        written = written;
        nodes = nodes;
        closed = ended.closed;
        verdict = says.verdict;
        shown = says.shown;
        limited = says.limited;
        enough = never_unfinished m (is_unfinished solved.answer) s.nodes limits.nodes (restarts_in lines) limits.restarts below written.seldom says.limited;
        answer = says.answer;
      };
      logged = logged;
    }
