-- What waits behind a region stays while the region is narrowed, and how much that is.
use Rattle.std.specs.Prelude.{◌≡◌, ◌+◌, ◌<◌, List, [], ◌∷◌, ◌++◌, length, All}
use Rattle.std.proofs.Common.{refl, sym, subst, arith}
use Rattle.region.specs.declared.types.Guess.{Guess}
use Rattle.region.specs.Cells.{Region}
use Rattle.region.specs.Guesses.{with_fact}
use Rattle.region.specs.code.Held.{Held}
use Rattle.kernel.specs.code.Pending.{ArePending, AreOpen, after_saved}

-- whoever narrows the region and spends its room, but keeps its saves, keeps what waits
pub pending_kept : (old new : Held) (gs : List Guess) → new.saved ≡ old.saved → new.promised ≡ old.promised → ArePending old gs → ArePending new gs
pending_kept old new gs saved promised pending = record {
  guesses = subst (λ xs. AreOpen xs gs) (sym saved) pending.guesses;
  room = subst (All (λ n. 0 < n)) (sym promised) pending.room;
}

-- one region waits for each guess, and for each save
length_put : {X : Type 0} (xs : List X) (y : X) → length (xs ++ y ∷ []) ≡ length xs + 1
length_put [] y = refl
length_put (x ∷ xs) y = omega (arith, length_put xs y)

pub as_many_wait : (saved : List Region) (gs : List Guess) → AreOpen saved gs → length (after_saved saved gs) ≡ length gs
as_many_wait [] [] h = refl
as_many_wait (r ∷ rs) (g ∷ gs) h = omega (arith, length_put (after_saved rs gs) (with_fact g r), as_many_wait rs gs h.1)
as_many_wait [] (g ∷ gs) h = absurd h
as_many_wait (r ∷ rs) [] h = absurd h

pub as_many_saves : (saved : List Region) (gs : List Guess) → AreOpen saved gs → length saved ≡ length gs
as_many_saves [] [] h = refl
as_many_saves (r ∷ rs) (g ∷ gs) h = omega (arith, as_many_saves rs gs h.1)
as_many_saves [] (g ∷ gs) h = absurd h
as_many_saves (r ∷ rs) [] h = absurd h
