-- Who may be moved, and who is there.
use Rattle.std.specs.Prelude.{List, [], length, nat_eq, not, refl, suc, true, zero, ℕ, ◌<◌, ◌∷◌, ◌≡◌}
use Rattle.std.proofs.Common.{arith, inl, inr, subst, sym}
use Rattle.std.proofs.lemmas.Bool.{or_cases}
use Rattle.task_sets.specs.laws.Cuts.{IsBelow}
use Rattle.task_sets.specs.laws.Sums.{same_number}
use Rattle.theta_passes.specs.code.Rows.{is_candidate, is_present, row_at, says_absent, says_present, with_candidate}
use Rattle.theta_passes.specs.declared.rows.Presence.{Presence}
use Rattle.theta_passes.specs.declared.rows.Row.{Row}
use Rattle.theta_passes.specs.declared.rows.Presence.TheVariants as is

pub is_below : (rows : List Row) (k : ℕ) → is_candidate rows k ≡ true → k < length rows
is_below [] k is = cc
is_below (r ∷ rs) zero is = omega arith
is_below (r ∷ rs) (suc k) is = omega (arith, is_below rs k is)

pub some_candidate : (p : Presence) → says_present p ≡ true → not (says_absent p) ≡ true
some_candidate is.Present on = refl
some_candidate is.Maybe on = cc
some_candidate is.Absent on = cc

pub candidate : (rows : List Row) (k : ℕ) → is_present rows k ≡ true → is_candidate rows k ≡ true
candidate rows k on = some_candidate (row_at rows k).presence on

pub present_below : (rows : List Row) → IsBelow (is_present rows) (length rows)
present_below rows k on = is_below rows k (candidate rows k on)

pub with_below : (rows : List Row) (i : ℕ) → is_candidate rows i ≡ true → IsBelow (with_candidate rows i) (length rows)
with_below rows i one y on = elim (or_cases (nat_eq y i) (is_present rows y) on) [
  | inl same ↦ subst (λ w. w < length rows) (sym (same_number y i same)) (is_below rows i one)
  | inr present ↦ is_below rows y (candidate rows y present)
]
