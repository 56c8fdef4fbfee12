-- Rows of which nothing was found, and that they are the same.
use Rattle.std.specs.Prelude.{◌≡◌, ℕ, zero, suc, ◌∷◌, ◌+◌, ◌<◌, ◌≤◌, ℤ, List, [], length, Option, None, Result, Ok, Err, IfOk}
use Rattle.std.proofs.Common.{sym, subst, inl, inr, arith, get_or}
use Rattle.std.proofs.lemmas.Bool.{cases_eq}
use Rattle.std.proofs.lemmas.List.{same_lists}
use Rattle.energy_pass.specs.declared.rows.Row.{Row}
use Rattle.energy_pass.specs.declared.rows.Cut.{Cut}
use Rattle.energy_pass.specs.code.Rows.{GivesOver}
use Rattle.prop_energy.specs.code.Known.{IsQuiet}

-- the first k rows are the same
abbrev pub SameUntil : List Row → List Row → ℕ → Type 0
SameUntil xs ys k = (j : ℕ) (d : Row) → j < k → get_or xs j d ≡ get_or ys j d

pub none_same : (xs ys : List Row) → SameUntil xs ys 0
none_same xs ys j d within = absurd (omega (arith, within))

pub more_same : (xs ys : List Row) (k : ℕ) (x y : Row) → k < length xs → length xs ≡ length ys → x ≡ get_or xs k x → y ≡ get_or ys k y → x ≡ y → SameUntil xs ys k → SameUntil xs ys (k + 1)
more_same xs ys k x y within size is_x is_y same before j d low = elim (cases_eq j k) [
  | inl here ↦ subst (λ i. get_or xs i d ≡ get_or ys i d) (sym here) (joined (within_default xs k d x within is_x) (within_default ys k d y (omega (arith, within, size)) is_y) same)
  | inr other ↦ before j d (omega (arith, low, other))
]
  where
    within_default : (zs : List Row) (k : ℕ) (d z : Row) → k < length zs → z ≡ get_or zs k z → get_or zs k d ≡ z
    within_default [] k d z h is = absurd (omega (arith, h))
    within_default (z' ∷ zs) zero d z h is = sym is
    within_default (z' ∷ zs) (suc k) d z h is = within_default zs k d z (omega (arith, h)) is

    joined : {a b x y : Row} → a ≡ x → b ≡ y → x ≡ y → a ≡ b
    joined p q r = cc

pub all_same : (xs ys : List Row) (k : ℕ) → length xs ≡ length ys → length xs ≤ k → SameUntil xs ys k → xs ≡ ys
all_same xs ys k size whole same = same_lists xs ys size (λ j d within. same j d (omega (arith, within, whole)))

-- no rows need nothing
pub none_over : (c : ℤ) → IsQuiet [] c
none_over c = record { none = λ start end over. let within = over.there.1 in absurd (omega (arith, within)) }

pub still_as : (xs ys : List Row) (c d : ℤ) → IsQuiet xs c → c ≡ d → xs ≡ ys → IsQuiet ys d
still_as xs ys c d quiet same rows = subst (IsQuiet ys) same (subst (λ zs. IsQuiet zs c) rows quiet)

-- what was found of rows, and of the same ones
pub over_move : (xs ys : List Row) (c d : ℤ) (o : Option Cut) → GivesOver xs c o → xs ≡ ys → c ≡ d → GivesOver ys d o
over_move xs ys c d o gives rows same = subst (λ z. GivesOver ys z o) same (subst (λ zs. GivesOver zs c o) rows gives)

pub over_as : {E : Type 0} (r : Result (Option Cut) E) (xs ys : List Row) (c d : ℤ) → IfOk r (GivesOver xs c) → xs ≡ ys → c ≡ d → IfOk r (GivesOver ys d)
over_as (Ok o) xs ys c d gives rows same = over_move xs ys c d o gives rows same
over_as (Err e) xs ys c d gives rows same = gives

pub quiet_as : (xs : List Row) (c d : ℤ) → IsQuiet xs c → c ≡ d → GivesOver xs d None
quiet_as xs c d quiet same = subst (λ z. GivesOver xs z None) same quiet.none

pub still_of : (xs : List Row) (c d : ℤ) (o : Option Cut) → GivesOver xs c o → o ≡ None → c ≡ d → IsQuiet xs d
still_of xs c d o gives none same = record { none = subst (λ z. GivesOver xs z None) same (subst (GivesOver xs c) none gives) }
