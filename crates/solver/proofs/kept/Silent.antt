-- What the search holds where it writes no log: at another best value, with an engine that was elsewhere, and back at the
-- first region that was saved.
use Rattle.std.proofs.Common.{◌≡◌, ℕ, ◌+◌, ◌<◌, ◌≤◌, ℤ, List, [], ◌∷◌, ◌++◌, length, Option, Some, None, Result, Ok, Err, refl, sym, ap, subst, ◌∙◌, arith}
use Rattle.std.specs.Prelude.{IfSome, IfNone, OnOk}
use Rattle.std.specs.List.{All}
use Rattle.std.proofs.lemmas.List.{same_from_push}
use Rattle.std.proofs.lemmas.List.Elements.{All-pop}
use Rattle.sched_model.specs.Data.{Data}
use Rattle.region.specs.declared.types.Guess.{Guess}
use Rattle.region.specs.Cells.{Region}
use Rattle.region.specs.code.Held.{Held, IsHeldOf, Regains}
use Rattle.region.specs.laws.Narrowing.{as_many_bounds}
use Rattle.kernel.specs.declared.types.Found.{Found}
use Rattle.kernel.specs.code.Pending.{ArePending, AreOpen, after_saved}
use Rattle.kernel.specs.laws.Pending.{pending_kept}
use Rattle.kernel.specs.Steps.{best_of}
use Rattle.engine.specs.declared.propagator.Propagator.{Ghosts}
use Rattle.engine.specs.code.Engines.{EngineValue, IsFor, IsCalm, AreQuiet}
use Rattle.prop_energy.specs.code.Bounds.{IsFor as AreBounds}
use Rattle.solver.specs.declared.mark.Mark.{Mark}
use Rattle.solver.specs.declared.state.Search.{Search}
use Rattle.solver.specs.code.OpenIntervals.{OpenList, HoldsOpen}
use Rattle.solver.specs.code.Marks.{AreMarked}
use Rattle.solver.specs.code.Searching.{IsHolding, IsReady, IsResting, IsUnmoved, HasValue}
use Rattle.solver.proofs.cutting.Marking.{marked_pop, none_saved, Popped}

-- another value is to be beaten
pub aimed_holding : {P : Type 0} (p : Ghosts P) (m : Data) (s : Search P) (f : Option Found) (e : EngineValue P) → IsHolding p m s → IfSome f (HasValue m) → IsFor p m e
    → (let t : Search P = record s { found = f; engine = e } in IsHolding p m t)
aimed_holding p m s f e holding valued for = record {
  of = holding.of;
  pending = holding.pending;
  engine = for;
  energy = holding.energy;
  below = holding.below;
  marks = holding.marks;
  fewer = holding.fewer;
  valued = valued;
}

pub aimed_ready : {P : Type 0} (p : Ghosts P) (m : Data) (s : Search P) (f : Option Found) (e : EngineValue P) → IsReady p m s → IfSome f (HasValue m) → IsFor p m e
    → IsCalm p m s.region.region (best_of f) e → (let t : Search P = record s { found = f; engine = e } in IsReady p m t)
aimed_ready p m s f e ready valued for calm = record {
  holding = aimed_holding p m s f e ready.holding valued for;
  calm = calm;
  within = ready.within;
  holds = ready.holds;
}

-- the region and its saves are as they were
abbrev pub rested_with : {P : Type 0} → Search P → EngineValue P → ℕ → Search P
rested_with s e k = record s { engine = e; region = record s.region { spare = k } }

pub rested_ready : {P : Type 0} (p : Ghosts P) (m : Data) (s : Search P) (e : EngineValue P) (k : ℕ) → IsReady p m s → IsFor p m e → IsCalm p m s.region.region (best_of s.found) e
    → IsReady p m (rested_with s e k)
rested_ready p m s e k ready for calm = record {
  holding = record {
    of = record { region = ready.holding.of.region; saved = ready.holding.of.saved };
    pending = pending_kept s.region (record s.region { spare = k }) s.pending refl refl ready.holding.pending;
    engine = for;
    energy = ready.holding.energy;
    below = ready.holding.below;
    marks = ready.holding.marks;
    fewer = ready.holding.fewer;
    valued = ready.holding.valued;
  };
  calm = calm;
  within = ready.within;
  holds = ready.holds;
}

-- the list was sifted before
abbrev pub chosen_from : {P : Type 0} → Search P → EngineValue P → OpenList → ℕ → Search P
chosen_from s e xs k = record s { engine = e; intervals = xs; region = record s.region { spare = k } }

pub chosen_at_once : {P : Type 0} (s t : Search P) → t ≡ record s { intervals = t.intervals } → t ≡ chosen_from s t.engine t.intervals t.region.spare
chosen_at_once s t same =
    same ∙ ap (λ e. chosen_from s e t.intervals s.region.spare) (sym (ap (λ v. v.engine) same)) ∙ ap (λ k. chosen_from s t.engine t.intervals k) (sym (ap (λ v. v.region.spare) same))

pub chosen_then : {P : Type 0} (s t u : Search P) → t ≡ record s { intervals = t.intervals } → u ≡ rested_with t u.engine u.region.spare → u ≡ chosen_from s u.engine u.intervals u.region.spare
chosen_then s t u first second =
    second ∙ ap (λ v. rested_with v u.engine u.region.spare) first ∙ ap (λ xs. chosen_from s u.engine xs u.region.spare) (sym (ap (λ v. v.intervals) second))

pub unmoved_by : {P : Type 0} (p : Ghosts P) (m : Data) (s : Search P) (e : EngineValue P) (k : ℕ) → IsResting p m s → IsFor p m e → IsCalm p m s.region.region (best_of s.found) e
    → IsUnmoved p m s (rested_with s e k)
unmoved_by p m s e k resting for calm = record {
  resting = record { ready = rested_ready p m s e k resting.ready for calm; quiet = resting.quiet };
  same = refl;
}

pub none_is : {X : Type 0} (o : Option X) (A : Type 0) → IfNone o A → o ≡ None → A
none_is None A h is = h
none_is (Some x) A h is = cc

pub on_ok : {T E : Type 0} (r : Result T E) (A : Type 0) → A → OnOk r A
on_ok (Ok x) A a = a
on_ok (Err e) A a = tt

-- the region was saved, and after a run that left its saves it was taken back
abbrev held_with : Region → List Region → List ℕ → ℕ → Held
held_with r rs ks k = record { region = r; saved = rs; promised = ks; spare = k }

pub back_from : (s saved ran undone : Held) → saved ≡ record s { saved = s.saved ++ s.region ∷ []; promised = s.promised ++ s.spare ∷ []; spare = saved.spare }
    → ran.saved ≡ saved.saved → ran.promised ≡ saved.promised → ran.saved ≡ undone.saved ++ undone.region ∷ [] → Regains ran undone → undone ≡ record s { spare = undone.spare }
back_from s saved ran undone first same_saved same_promised back regains =
    let two = same_from_push undone.saved s.saved undone.region s.region (sym back ∙ same_saved ∙ ap (λ h. h.saved) first) in
    let room = same_from_push undone.promised s.promised regains.0 s.spare (sym regains.1 ∙ same_promised ∙ ap (λ h. h.promised) first) in
    ap (λ r. held_with r undone.saved undone.promised undone.spare) two.1
    ∙ ap (λ rs. held_with s.region rs undone.promised undone.spare) two.0
    ∙ ap (λ ks. held_with s.region s.saved ks undone.spare) room.0

-- where nothing waits there is no mark
pub none_waits : {P : Type 0} (p : Ghosts P) (m : Data) (s : Search P) → IsHolding p m s → after_saved s.region.saved s.pending ≡ [] → s.marks.items ≡ []
none_waits p m s holding none = by_saved s.region.saved s.pending s.marks.items holding.pending.guesses holding.marks none
  where
    some_last : (rs : List Region) (r : Region) → rs ++ r ∷ [] ≡ [] → ⊥
    some_last [] r is = cc
    some_last (q ∷ rs) r is = cc

    by_saved : (rs : List Region) (gs : List Guess) (ks : List Mark) → AreOpen rs gs → AreMarked (AreQuiet p m) s.intervals.list rs ks → after_saved rs gs ≡ [] → ks ≡ []
    by_saved [] gs [] opens marked none = refl
    by_saved [] gs (k ∷ ks) opens marked none = absurd marked
    by_saved (r ∷ rs) [] ks opens marked none = absurd opens
    by_saved (r ∷ rs) (g ∷ gs) ks opens marked none = absurd (some_last _ _ none)

pub some_in : {X : Type 0} (xs : List X) (x : X) → xs ++ x ∷ [] ≡ [] → ⊥
some_in [] x is = cc
some_in (y ∷ ys) x is = cc

-- there is a save for each mark
pub saved_for : (quiet : Region → Option ℤ → Type 0) (list : List ℕ) (rs : List Region) (ks : List Mark) → AreMarked quiet list rs ks → length ks ≡ 1 → 0 < length rs
saved_for quiet list [] [] marked one = cc
saved_for quiet list [] (k ∷ ks) marked one = absurd marked
saved_for quiet list (r ∷ rs) ks marked one = omega arith

-- the only save was taken, and nothing waits
none_before : {X : Type 0} (xs : List X) (x : X) → length (xs ++ x ∷ []) ≡ 1 → xs ≡ []
none_before [] x one = refl
none_before (y ∷ []) x one = absurd (omega (arith, one))
none_before (y ∷ z ∷ ys) x one = absurd (omega (arith, one))

pub record Unwound {P : Type 0} (p : Ghosts P) (m : Data) (list : List ℕ) (new : Held) (ks : List Mark) (k : Mark) : Type 0 where
  pub of : IsHeldOf m new
  pub pending : ArePending new []
  pub popped : Popped (AreQuiet p m) list new.saved ks new.region k

pub unwound_to : {P : Type 0} (p : Ghosts P) (m : Data) (s : Search P) (new : Held) (ks : List Mark) (k : Mark) → IsHolding p m s → length s.marks.items ≡ 1 → s.marks.items ≡ ks ++ k ∷ []
    → s.region.saved ≡ new.saved ++ new.region ∷ [] → Regains s.region new → IsHeldOf m new → Unwound p m s.intervals.list new ks k
unwound_to p m s new ks k holding one marks saved regains of =
    let popped = marked_pop (AreQuiet p m) s.intervals.list new.saved ks new.region k (subst (AreMarked (AreQuiet p m) s.intervals.list (new.saved ++ new.region ∷ [])) marks (subst (λ rs. AreMarked (AreQuiet p m) s.intervals.list rs s.marks.items) saved holding.marks)) in
    let empty : ks ≡ [] = none_before ks k (ap length (sym marks) ∙ one) in
    let alone : new.saved ≡ [] = none_saved (AreQuiet p m) s.intervals.list new.saved ks popped.others empty in
    record {
      of = of;
      pending = record {
        guesses = subst (λ rs. AreOpen rs []) (sym alone) tt;
        room = (All-pop (λ j. 0 < j) s.region.promised new.promised (Some regains.0) regains.1 holding.pending.room).0;
      };
      popped = popped;
    }

pub unwound_ready : {P : Type 0} (p : Ghosts P) (m : Data) (s t : Search P) (ks : List Mark) (k : Mark) → IsHolding p m s → Unwound p m s.intervals.list t.region ks k → t.pending ≡ [] → t.marks.items ≡ ks
    → t.intervals ≡ (let xs : OpenList = record { list = s.intervals.list; count = k.count } in xs) → t.found ≡ s.found → t.energy ≡ s.energy → IsFor p m t.engine → IsCalm p m t.region.region (best_of t.found) t.engine → IsReady p m t
unwound_ready p m s t ks k holding unwound pending marks same found energy for calm =
    let size : length t.region.region.bounds ≡ length s.region.region.bounds = sym (as_many_bounds m t.region.region unwound.of.region) ∙ as_many_bounds m s.region.region holding.of.region in
    record {
      holding = record {
        of = unwound.of;
        pending = subst (ArePending t.region) (sym pending) unwound.pending;
        engine = for;
        energy = subst (λ bounds. AreBounds bounds m) (sym energy) holding.energy;
        below = subst (λ (xs : OpenList). All (λ x. x < length t.region.region.bounds) xs.list) (sym same) (subst (λ n. All (λ x. x < n) s.intervals.list) (sym size) holding.below);
        marks = subst (λ (xs : OpenList). AreMarked (AreQuiet p m) xs.list t.region.saved t.marks.items) (sym same) (subst (AreMarked (AreQuiet p m) s.intervals.list t.region.saved) (sym marks) unwound.popped.others);
        fewer = subst (λ (xs : OpenList). All (λ (j : Mark). xs.count ≤ j.count) t.marks.items) (sym same) (subst (All (λ (j : Mark). k.count ≤ j.count)) (sym marks) unwound.popped.fewer);
        valued = subst (λ f. IfSome f (HasValue m)) (sym found) holding.valued;
      };
      calm = calm;
      within = subst (λ (xs : OpenList). xs.count ≤ length xs.list) (sym same) unwound.popped.newest.within;
      holds = subst (λ (xs : OpenList). HoldsOpen t.region.region xs.list xs.count) (sym same) unwound.popped.newest.holds;
    }
