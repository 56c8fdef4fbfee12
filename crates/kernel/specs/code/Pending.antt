-- The regions that wait behind a region with saves. Each save has a guess: the saved region waits for the fact of it.
use Rattle.std.specs.Prelude.{◌≡◌, ◌<◌, IsTrue, List, [], ◌∷◌, ◌++◌, All, not}
use Rattle.region.specs.declared.types.Guess.{Guess}
use Rattle.region.specs.declared.types.CellName.{CellName}
use Rattle.region.specs.Cells.{Region}
use Rattle.region.specs.Guesses.{admits, with_fact, fact_cell, guess_holds}
use Rattle.region.specs.Narrows.{Narrows}
use Rattle.region.specs.code.Held.{Held}

-- of each saved region the part with the fact of its guess, the newest first
abbrev pub after_saved : List Region → List Guess → List Region
after_saved (r ∷ rs) (g ∷ gs) = after_saved rs gs ++ with_fact g r ∷ []
after_saved _ _ = []

-- as many guesses as saves, and each saved region admits its guess
abbrev pub AreOpen : List Region → List Guess → Type 0
AreOpen [] [] = Unit {0}
AreOpen (r ∷ rs) (g ∷ gs) = IsTrue (admits r g) × AreOpen rs gs
AreOpen _ _ = ⊥

-- and after going back there is room for the fact; the region itself, and what room it has left, bind nothing
pub record ArePending (h : Held) (gs : List Guess) : Type 0 where
  pub guesses : AreOpen h.saved gs
  pub room : All (λ k. 0 < k) h.promised

-- The newest save was taken from the stack, and its region learnt the fact of the newest guess, in this cell.
pub record Takes (cell : CellName) (old new : Held) (old_gs new_gs : List Guess) : Type 0 where
  pub region : Region
  pub guess : Guess
  pub saved : old.saved ≡ new.saved ++ region ∷ []
  pub guesses : old_gs ≡ new_gs ++ guess ∷ []
  pub fact : new.region ≡ with_fact guess region
  pub cell_is : cell ≡ fact_cell guess
  pub narrows : Narrows (fact_cell guess) (λ a. not (guess_holds guess a)) region new.region
