-- Marks beside saves: one more, the newest taken, and after the list was sifted.
use Rattle.std.proofs.Common.{◌≡◌, ℕ, ◌≤◌, ℤ, List, [], ◌∷◌, ◌++◌, Option, Some, refl, sym, subst}
use Rattle.std.specs.List.{All}
use Rattle.std.proofs.lemmas.List.Elements.{All-nil, All-push, All-head, All-tail, All-pop, All-cons}
use Rattle.region.specs.Cells.{Region}
use Rattle.solver.specs.declared.mark.Mark.{Mark}
use Rattle.solver.specs.code.OpenIntervals.{OpenList, Sifts}
use Rattle.solver.specs.code.Marks.{IsMarked, AreMarked}

-- the newest is the last
pub marked_push : (quiet : Region → Option ℤ → Type 0) (list : List ℕ) (rs : List Region) (ks : List Mark) (r : Region) (k : Mark)
    → AreMarked quiet list rs ks → IsMarked quiet list r k → All (λ j. k.count ≤ j.count) ks → AreMarked quiet list (rs ++ r ∷ []) (ks ++ k ∷ [])
marked_push quiet list [] [] r k marked is fewer = (is, All-nil (λ j. j.count ≤ k.count), tt)
marked_push quiet list (q ∷ rs) (j ∷ ks) r k marked is fewer =
    (marked.0, All-push (λ i. i.count ≤ j.count) ks k marked.1 (All-head (λ i. k.count ≤ i.count) j ks fewer), marked_push quiet list rs ks r k marked.2 is (All-tail (λ i. k.count ≤ i.count) j ks fewer))
marked_push quiet list [] (j ∷ ks) r k marked is fewer = absurd marked
marked_push quiet list (q ∷ rs) [] r k marked is fewer = absurd marked

no_marks : (quiet : Region → Option ℤ → Type 0) (list : List ℕ) (ks : List Mark) (k : Mark) → AreMarked quiet list [] (ks ++ k ∷ []) → ⊥
no_marks quiet list [] k marked = marked
no_marks quiet list (j ∷ ks) k marked = marked

no_saves : (quiet : Region → Option ℤ → Type 0) (list : List ℕ) (rs : List Region) (r : Region) → AreMarked quiet list (rs ++ r ∷ []) [] → ⊥
no_saves quiet list [] r marked = marked
no_saves quiet list (q ∷ rs) r marked = marked

pub record Popped (quiet : Region → Option ℤ → Type 0) (list : List ℕ) (rs : List Region) (ks : List Mark) (r : Region) (k : Mark) : Type 0 where
  pub others : AreMarked quiet list rs ks
  pub newest : IsMarked quiet list r k
  pub fewer : All (λ j. k.count ≤ j.count) ks

pub marked_pop : (quiet : Region → Option ℤ → Type 0) (list : List ℕ) (rs : List Region) (ks : List Mark) (r : Region) (k : Mark)
    → AreMarked quiet list (rs ++ r ∷ []) (ks ++ k ∷ []) → Popped quiet list rs ks r k
marked_pop quiet list [] [] r k marked = record { others = tt; newest = marked.0; fewer = All-nil (λ j. k.count ≤ j.count) }
marked_pop quiet list [] (j ∷ ks) r k marked = absurd (no_marks quiet list ks k marked.2)
marked_pop quiet list (q ∷ rs) [] r k marked = absurd (no_saves quiet list rs r marked.2)
marked_pop quiet list (q ∷ rs) (j ∷ ks) r k marked =
    let rest = marked_pop quiet list rs ks r k marked.2 in
    let parts = All-pop (λ i. i.count ≤ j.count) (ks ++ k ∷ []) ks (Some k) refl marked.1 in
    record {
      others = (marked.0, parts.0, rest.others);
      newest = rest.newest;
      fewer = All-cons (λ i. k.count ≤ i.count) j ks parts.1 rest.fewer;
    }

-- where there are no marks nothing is saved
pub none_saved : (quiet : Region → Option ℤ → Type 0) (list : List ℕ) (rs : List Region) (ks : List Mark) → AreMarked quiet list rs ks → ks ≡ [] → rs ≡ []
none_saved quiet list [] ks marked none = refl
none_saved quiet list (r ∷ rs) [] marked none = absurd marked
none_saved quiet list (r ∷ rs) (k ∷ ks) marked none = cc

-- the list was sifted, and each mark has as many first ones as the count, or more
sifted_one : (quiet : Region → Option ℤ → Type 0) (old new : OpenList) (r : Region) (k : Mark) → Sifts old new → old.count ≤ k.count → IsMarked quiet old.list r k → IsMarked quiet new.list r k
sifted_one quiet old new r k sifts more is = record {
  spent = is.spent;
  within = subst (λ n. k.count ≤ n) (sym sifts.size) is.within;
  holds = λ x within unfixed. sifts.kept k.count x.0 more is.within (is.holds x within unfixed);
}

pub marked_sifted : (quiet : Region → Option ℤ → Type 0) (old new : OpenList) (rs : List Region) (ks : List Mark) → Sifts old new → All (λ k. old.count ≤ k.count) ks
    → AreMarked quiet old.list rs ks → AreMarked quiet new.list rs ks
marked_sifted quiet old new [] [] sifts more marked = tt
marked_sifted quiet old new [] (k ∷ ks) sifts more marked = absurd marked
marked_sifted quiet old new (r ∷ rs) [] sifts more marked = absurd marked
marked_sifted quiet old new (r ∷ rs) (k ∷ ks) sifts more marked =
    (sifted_one quiet old new r k sifts (All-head (λ j. old.count ≤ j.count) k ks more) marked.0, marked.1, marked_sifted quiet old new rs ks sifts (All-tail (λ j. old.count ≤ j.count) k ks more) marked.2)
