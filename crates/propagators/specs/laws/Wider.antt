-- A witness that refutes nothing under the guesses of one list refutes nothing under those of another, if under a guess of this
-- one alone it refutes only where it does under one of the first, or under none.
use Rattle.std.specs.Prelude.{◌≡◌, ℤ, Bool, true, false, Option, Some, None}
use Rattle.std.proofs.Common.{refl, sym, ◌∙◌}
use Rattle.std.proofs.lemmas.Bool.{true≢false}
use Rattle.sched_model.specs.Data.{Data}
use Rattle.region.specs.declared.types.Guess.{Guess}
use Rattle.region.specs.Cells.{Region}
use Rattle.region.specs.Guesses.{admits, topic}
use Rattle.region.specs.Looks.{Refuting, seen_at}
use Rattle.region.specs.laws.Lists.{both_true, true_both}
use Rattle.findings.specs.Ends.{is_asked, is_open_end, is_end}

-- it refutes nothing that is asked
abbrev pub IsSilent : {W : Type 0} → Refuting W → Data → Region → Option ℤ → W → (Guess → Bool) → Type 0
IsSilent refutes m r best w lists = (guess : Option Guess) → is_asked lists r guess ≡ true → refutes m (seen_at r best guess) w ≡ false

-- it refutes something that is asked
abbrev pub IsShown : {W : Type 0} → Refuting W → Data → Region → Option ℤ → W → (Guess → Bool) → Type 0
IsShown refutes m r best w lists = (guess : Option Guess) × (is_asked lists r guess ≡ true) × (refutes m (seen_at r best guess) w ≡ true)

pub silent_wider : {W : Type 0} (refutes : Refuting W) (m : Data) (r : Region) (best : Option ℤ) (w : W) (lists every : Guess → Bool) → IsSilent refutes m r best w lists
    → ((g : Guess) → admits r g ≡ true → every g ≡ true → lists g ≡ false → refutes m (seen_at r best (Some g)) w ≡ true → IsShown refutes m r best w lists)
    → IsSilent refutes m r best w every
silent_wider refutes m r best w lists every silent shown None asked = silent None refl
silent_wider refutes m r best w lists every silent shown (Some g) asked = by_case (lists g) (refutes m (seen_at r best (Some g)) w) refl refl
  where
    two : (every g ≡ true) × (is_open_end r g ≡ true)
    two = both_true (every g) (is_open_end r g) asked

    never : IsShown refutes m r best w lists → ⊥
    never (guess, listed, h) = true≢false (sym h ∙ silent guess listed)

    by_case : (b c : Bool) → lists g ≡ b → refutes m (seen_at r best (Some g)) w ≡ c → refutes m (seen_at r best (Some g)) w ≡ false
    by_case true c listed h = silent (Some g) (true_both (lists g) (is_open_end r g) listed two.1)
    by_case false true other h = absurd (never (shown g (both_true (admits r g) (is_end r (topic g)) two.1).0 two.0 other h))
    by_case false false other h = h
