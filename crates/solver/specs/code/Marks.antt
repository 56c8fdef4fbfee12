-- What is kept beside each save of the search.
use Rattle.std.specs.Prelude.{◌≡◌, ℕ, ◌≤◌, ℤ, false, List, [], ◌∷◌, length, All, Option}
use Rattle.region.specs.Cells.{Region}
use Rattle.solver.specs.declared.mark.Mark.{Mark}
use Rattle.solver.specs.code.OpenIntervals.{HoldsOpen}

-- unless its run was capped, nothing was left to derive of the saved region at the best value of then; and each interval
-- that isn't fixed in it is among the first ones of the list
pub record IsMarked (quiet : Region → Option ℤ → Type 0) (list : List ℕ) (r : Region) (k : Mark) : Type 0 where
  pub spent : k.capped ≡ false → quiet r k.best
  pub within : k.count ≤ length list
  pub holds : HoldsOpen r list k.count

-- the newest stands last, and an older one has as many first ones or more
abbrev pub AreMarked : (Region → Option ℤ → Type 0) → List ℕ → List Region → List Mark → Type 0
AreMarked quiet list [] [] = Unit {0}
AreMarked quiet list (r ∷ rs) (k ∷ ks) = IsMarked quiet list r k × All (λ j. j.count ≤ k.count) ks × AreMarked quiet list rs ks
AreMarked quiet list [] (k ∷ ks) = ⊥
AreMarked quiet list (r ∷ rs) [] = ⊥
