-- What the search holds after a run, in the first part of a split, and back at a region that was saved.
use Rattle.std.proofs.Common.{◌≡◌, ℕ, ◌<◌, ◌≤◌, true, false, List, [], ◌∷◌, ◌++◌, length, Some, refl, sym, subst, ◌∙◌, arith}
use Rattle.std.specs.Prelude.{IfSome}
use Rattle.std.specs.List.{All}
use Rattle.std.proofs.lemmas.List.Elements.{All-push, All-pop}
use Rattle.sched_model.specs.Data.{Data}
use Rattle.region.specs.declared.types.CellName.{CellName}
use Rattle.region.specs.declared.types.Guess.{Guess}
use Rattle.region.specs.Cells.{Region}
use Rattle.region.specs.Guesses.{admits, splits, with_guess}
use Rattle.region.specs.code.Held.{Held, IsHeldOf}
use Rattle.region.specs.Looks.{IsRegionOf}
use Rattle.region.specs.laws.Narrowing.{guess_stays, splitting, as_many_bounds}
use Rattle.kernel.specs.code.Pending.{ArePending, AreOpen, Takes, after_saved}
use Rattle.kernel.specs.laws.Pending.{pending_kept}
use Rattle.kernel.specs.Steps.{best_of}
use Rattle.engine.specs.declared.propagator.Propagator.{Ghosts}
use Rattle.engine.specs.code.Engines.{EngineValue, IsFor, IsCalm, AreQuiet}
use Rattle.prop_energy.specs.code.Bounds.{IsFor as AreBounds}
use Rattle.solver.specs.declared.mark.Mark.{Mark}
use Rattle.solver.specs.declared.state.Search.{Search}
use Rattle.solver.specs.code.OpenIntervals.{OpenList, HoldsOpen, IsOpenList, Sifts}
use Rattle.solver.specs.code.Marks.{IsMarked, AreMarked}
use Rattle.solver.specs.code.Searching.{IsHolding, IsReady, HasValue}
use Rattle.solver.proofs.cutting.Fixing.{KeepsFixed, holds_part, guess_keeps, fact_keeps}
use Rattle.solver.proofs.cutting.Marking.{marked_push, marked_pop, marked_sifted, Popped}

-- as many intervals
-- the region was narrowed, and its saves stayed
pub derived_ready : {P : Type 0} (p : Ghosts P) (m : Data) (s : Search P) (h : Held) (e : EngineValue P) → IsReady p m s → KeepsFixed s.region.region h.region → IsHeldOf m h → h.saved ≡ s.region.saved
    → h.promised ≡ s.region.promised → IsFor p m e → IsCalm p m h.region (best_of s.found) e → (let t : Search P = record s { region = h; engine = e } in IsReady p m t)
derived_ready p m s h e ready keeps of saved promised for calm = record {
  holding = record {
    of = of;
    pending = pending_kept s.region h s.pending saved promised ready.holding.pending;
    engine = for;
    energy = ready.holding.energy;
    below = subst (λ n. All (λ x. x < n) s.intervals.list) (sym keeps.size) ready.holding.below;
    marks = subst (λ rs. AreMarked (AreQuiet p m) s.intervals.list rs s.marks.items) (sym saved) ready.holding.marks;
    fewer = ready.holding.fewer;
    valued = ready.holding.valued;
  };
  calm = calm;
  within = ready.within;
  holds = holds_part s.intervals.list s.intervals.count keeps ready.holds;
}

-- the list was sifted
pub sifted_ready : {P : Type 0} (p : Ghosts P) (m : Data) (s : Search P) (xs : OpenList) → IsReady p m s → IsOpenList s.region.region xs → Sifts s.intervals xs → (let t : Search P = record s { intervals = xs } in IsReady p m t)
sifted_ready p m s xs ready is sifts = record {
  holding = record {
    of = ready.holding.of;
    pending = ready.holding.pending;
    engine = ready.holding.engine;
    energy = ready.holding.energy;
    below = is.below;
    marks = marked_sifted (AreQuiet p m) s.intervals xs s.region.saved s.marks.items sifts ready.holding.fewer ready.holding.marks;
    fewer = fewer_still s.marks.items ready.holding.fewer;
    valued = ready.holding.valued;
  };
  calm = ready.calm;
  within = is.within;
  holds = is.holds;
}
  where
    fewer_still : (ks : List Mark) → All (λ (k : Mark). s.intervals.count ≤ k.count) ks → All (λ (k : Mark). xs.count ≤ k.count) ks
    fewer_still ks all = λ n k within. omega (arith, all n k within, sifts.fewer)

-- there is other room for changes
pub roomy_ready : {P : Type 0} (p : Ghosts P) (m : Data) (s : Search P) (k : ℕ) → IsReady p m s → (let t : Search P = record s { region = record s.region { spare = k } } in IsReady p m t)
roomy_ready p m s k ready = record {
  holding = record {
    of = record { region = ready.holding.of.region; saved = ready.holding.of.saved };
    pending = pending_kept s.region (record s.region { spare = k }) s.pending refl refl ready.holding.pending;
    engine = ready.holding.engine;
    energy = ready.holding.energy;
    below = ready.holding.below;
    marks = ready.holding.marks;
    fewer = ready.holding.fewer;
    valued = ready.holding.valued;
  };
  calm = ready.calm;
  within = ready.within;
  holds = ready.holds;
}

-- the first part of a split, and a mark beside the save
pub split_of : (m : Data) (old new : Held) (g : Guess) → IsHeldOf m old → splits old.region g ≡ true → new.region ≡ with_guess g old.region → new.saved ≡ old.saved ++ old.region ∷ [] → IsHeldOf m new
split_of m old new g of splits region saved = record {
  region = subst (IsRegionOf m) (sym region) (guess_stays g m old.region (splitting old.region g splits).0 of.region);
  saved = subst (All (IsRegionOf m)) (sym saved) (All-push (IsRegionOf m) old.saved old.region of.saved of.region);
}

pub split_ready : {P : Type 0} (p : Ghosts P) (m : Data) (s t : Search P) (g : Guess) (k : Mark) → IsReady p m s → splits s.region.region g ≡ true → t.region.region ≡ with_guess g s.region.region
    → t.region.saved ≡ s.region.saved ++ s.region.region ∷ [] → ArePending t.region t.pending → t.marks.items ≡ s.marks.items ++ k ∷ [] → k.count ≡ s.intervals.count
    → (k.capped ≡ false → AreQuiet p m s.region.region k.best) → IsFor p m t.engine → IsCalm p m t.region.region (best_of t.found) t.engine → t.intervals ≡ s.intervals → t.found ≡ s.found → t.energy ≡ s.energy → IsReady p m t
split_ready p m s t g k ready splits region saved pending marks count quiet for calm same found energy =
    let keeps : KeepsFixed s.region.region t.region.region = subst (KeepsFixed s.region.region) (sym region) (guess_keeps s.region.region g splits) in
    let mark : IsMarked (AreQuiet p m) s.intervals.list s.region.region k = record {
      spent = quiet;
      within = subst (λ n. n ≤ length s.intervals.list) (sym count) ready.within;
      holds = subst (HoldsOpen s.region.region s.intervals.list) (sym count) ready.holds;
    } in
    record {
      holding = record {
        of = split_of m s.region t.region g ready.holding.of splits region saved;
        pending = pending;
        engine = for;
        energy = subst (λ bounds. AreBounds bounds m) (sym energy) ready.holding.energy;
        below = subst (λ (xs : OpenList). All (λ x. x < length t.region.region.bounds) xs.list) (sym same) (subst (λ n. All (λ x. x < n) s.intervals.list) (sym keeps.size) ready.holding.below);
        marks = subst (λ (xs : OpenList). AreMarked (AreQuiet p m) xs.list t.region.saved t.marks.items) (sym same)
            (subst (λ rs. AreMarked (AreQuiet p m) s.intervals.list rs t.marks.items) (sym saved) (subst (AreMarked (AreQuiet p m) s.intervals.list (s.region.saved ++ s.region.region ∷ [])) (sym marks)
            (marked_push (AreQuiet p m) s.intervals.list s.region.saved s.marks.items s.region.region k ready.holding.marks mark (subst (λ n. All (λ (j : Mark). n ≤ j.count) s.marks.items) (sym count) ready.holding.fewer))));
        fewer = subst (λ (xs : OpenList). All (λ (j : Mark). xs.count ≤ j.count) t.marks.items) (sym same)
            (subst (All (λ (j : Mark). s.intervals.count ≤ j.count)) (sym marks) (All-push (λ (j : Mark). s.intervals.count ≤ j.count) s.marks.items k ready.holding.fewer (omega (arith, count))));
        valued = subst (λ f. IfSome f (HasValue m)) (sym found) ready.holding.valued;
      };
      calm = calm;
      within = subst (λ (xs : OpenList). xs.count ≤ length xs.list) (sym same) ready.within;
      holds = subst (λ (xs : OpenList). HoldsOpen t.region.region xs.list xs.count) (sym same) (holds_part s.intervals.list s.intervals.count keeps ready.holds);
    }

-- the newest save, its guess and its mark were taken
open_last : (rs : List Region) (gs : List Guess) (r : Region) (g : Guess) → AreOpen (rs ++ r ∷ []) (gs ++ g ∷ []) → admits r g ≡ true
open_last [] [] r g is = is.0
open_last [] (h ∷ []) r g is = absurd is.1
open_last [] (h ∷ i ∷ gs) r g is = absurd is.1
open_last (q ∷ []) [] r g is = absurd is.1
open_last (q ∷ p ∷ rs) [] r g is = absurd is.1
open_last (q ∷ rs) (h ∷ gs) r g is = open_last rs gs r g is.1

pub record Back {P : Type 0} (p : Ghosts P) (m : Data) (list : List ℕ) (cell : CellName) (old new : Held) (gs hs : List Guess) (ks : List Mark) (k : Mark) (takes : Takes cell old new gs hs) : Type 0 where
  pub before : IsRegionOf m takes.region
  pub of : IsHeldOf m new
  pub size : length new.region.bounds ≡ length old.region.bounds
  pub keeps : KeepsFixed takes.region new.region
  pub popped : Popped (AreQuiet p m) list new.saved ks takes.region k

pub back_to : {P : Type 0} (p : Ghosts P) (m : Data) (s : Search P) (cell : CellName) (new : Held) (hs : List Guess) (ks : List Mark) (k : Mark) (takes : Takes cell s.region new s.pending hs)
    → IsHolding p m s → s.marks.items ≡ ks ++ k ∷ [] → Back p m s.intervals.list cell s.region new s.pending hs ks k takes
back_to p m s cell new hs ks k takes holding marks =
    let saved = All-pop (IsRegionOf m) s.region.saved new.saved (Some takes.region) takes.saved holding.of.saved in
    let region : IsRegionOf m new.region = takes.narrows.of m saved.1 in
    let admitted : admits takes.region takes.guess ≡ true = open_last new.saved hs takes.region takes.guess (subst (AreOpen (new.saved ++ takes.region ∷ [])) takes.guesses (subst (λ rs. AreOpen rs s.pending) takes.saved holding.pending.guesses)) in
    record {
      before = saved.1;
      of = record { region = region; saved = saved.0 };
      size = sym (as_many_bounds m new.region region) ∙ as_many_bounds m s.region.region holding.of.region;
      keeps = subst (KeepsFixed takes.region) (sym takes.fact) (fact_keeps takes.region takes.guess admitted);
      popped = marked_pop (AreQuiet p m) s.intervals.list new.saved ks takes.region k (subst (AreMarked (AreQuiet p m) s.intervals.list (new.saved ++ takes.region ∷ [])) marks (subst (λ rs. AreMarked (AreQuiet p m) s.intervals.list rs s.marks.items) takes.saved holding.marks));
    }

pub back_ready : {P : Type 0} (p : Ghosts P) (m : Data) (s t : Search P) (cell : CellName) (ks : List Mark) (k : Mark) (takes : Takes cell s.region t.region s.pending t.pending) → IsHolding p m s
    → Back p m s.intervals.list cell s.region t.region s.pending t.pending ks k takes → ArePending t.region t.pending → t.marks.items ≡ ks
    → t.intervals ≡ (let xs : OpenList = record { list = s.intervals.list; count = k.count } in xs) → t.found ≡ s.found → t.energy ≡ s.energy → IsFor p m t.engine → IsCalm p m t.region.region (best_of t.found) t.engine → IsReady p m t
back_ready p m s t cell ks k takes holding back pending marks same found energy for calm = record {
  holding = record {
    of = back.of;
    pending = pending;
    engine = for;
    energy = subst (λ bounds. AreBounds bounds m) (sym energy) holding.energy;
    below = subst (λ (xs : OpenList). All (λ x. x < length t.region.region.bounds) xs.list) (sym same) (subst (λ n. All (λ x. x < n) s.intervals.list) (sym back.size) holding.below);
    marks = subst (λ (xs : OpenList). AreMarked (AreQuiet p m) xs.list t.region.saved t.marks.items) (sym same) (subst (AreMarked (AreQuiet p m) s.intervals.list t.region.saved) (sym marks) back.popped.others);
    fewer = subst (λ (xs : OpenList). All (λ (j : Mark). xs.count ≤ j.count) t.marks.items) (sym same) (subst (All (λ (j : Mark). k.count ≤ j.count)) (sym marks) back.popped.fewer);
    valued = subst (λ f. IfSome f (HasValue m)) (sym found) holding.valued;
  };
  calm = calm;
  within = subst (λ (xs : OpenList). xs.count ≤ length xs.list) (sym same) back.popped.newest.within;
  holds = subst (λ (xs : OpenList). HoldsOpen t.region.region xs.list xs.count) (sym same) (holds_part s.intervals.list k.count back.keeps back.popped.newest.holds);
}

-- where there is no mark nothing waits
pub none_behind : {P : Type 0} (p : Ghosts P) (m : Data) (s : Search P) → IsHolding p m s → s.marks.items ≡ [] → [] ≡ after_saved s.region.saved s.pending
none_behind p m s holding none = by_saved s.region.saved s.pending s.marks.items holding.marks none
  where
    by_saved : (rs : List Region) (gs : List Guess) (ks : List Mark) → AreMarked (AreQuiet p m) s.intervals.list rs ks → ks ≡ [] → [] ≡ after_saved rs gs
    by_saved [] gs ks marked none = refl
    by_saved (r ∷ rs) gs [] marked none = absurd marked
    by_saved (r ∷ rs) gs (k ∷ ks) marked none = cc

pub none_in : {X : Type 0} (xs : List X) → (0 < length xs → ⊥) → xs ≡ []
none_in [] none = refl
none_in (x ∷ xs) none = absurd (none (omega arith))

-- one more node
pub counted_ready : {P : Type 0} (p : Ghosts P) (m : Data) (s : Search P) (n : ℕ) → IsReady p m s → (let t : Search P = record s { nodes = n } in IsReady p m t)
counted_ready p m s n ready = record {
  holding = record {
    of = ready.holding.of;
    pending = ready.holding.pending;
    engine = ready.holding.engine;
    energy = ready.holding.energy;
    below = ready.holding.below;
    marks = ready.holding.marks;
    fewer = ready.holding.fewer;
    valued = ready.holding.valued;
  };
  calm = ready.calm;
  within = ready.within;
  holds = ready.holds;
}
