-- The number of the first test that passes.
use Rattle.std.proofs.Common.{◌≡◌, ℕ, Bool, true, false, List, [], ◌∷◌, None, refl}
use Rattle.cpo_elab.specs.Judged.{first_of}

-- each of some tests fails
abbrev pub AllFalse : List (Bool × ℕ) → Type 0
AllFalse [] = Unit {0}
AllFalse (t ∷ ts) = (t.0 ≡ false) × AllFalse ts

first_false : (b : Bool) (n : ℕ) (ts : List (Bool × ℕ)) → first_of ((b, n) ∷ ts) ≡ None → (b ≡ false) × (first_of ts ≡ None)
first_false true n ts h = cc
first_false false n ts h = (refl, h)

-- where no number is the first of a test that passes, each test fails
pub all_false : (ts : List (Bool × ℕ)) → first_of ts ≡ None → AllFalse ts
all_false [] h = tt
all_false (t ∷ ts) h = let parts = first_false t.0 t.1 ts h in (parts.0, all_false ts parts.1)
