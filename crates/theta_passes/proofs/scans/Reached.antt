-- What the scan finds is the earliest completion of its part, and a set of the part reaches it.
use Rattle.std.specs.Prelude.{◌≡◌, ℕ, ◌+◌, ◌-◌, ◌≤◌, Bool, true, nat_eq, List, ◌∷◌, length}
use Rattle.std.proofs.Common.{arith, sym, subst, ap, ◌∙◌, inl, inr}
use Rattle.std.proofs.lemmas.Int.{ints}
use Rattle.task_sets.specs.Times.{has, IsSized, size_at, rises_from, sum_of, ends_at, IsWithin, IsEct}
use Rattle.task_sets.specs.laws.Sums.{load, has_cases, same_number, has_first, above_all, least_bound, load_mono, sum_in}
use Rattle.task_sets.specs.laws.Ects.{up_from, kept, keep, rises_all, up_has, keep_passes, keep_rises_all, keep_sum, least_reached}
use Rattle.task_sets.specs.laws.Cuts.{IsBelow}
use Rattle.theta_passes.specs.declared.rows.Row.{Row}
use Rattle.theta_passes.specs.declared.parts.Top.{Top}
use Rattle.theta_passes.specs.code.Rows.{row_at, times_at, IsByEst, IsNearRow}
use Rattle.theta_passes.specs.code.Parts.{IsTop}
use Rattle.theta_passes.proofs.scans.Scanning.{keep_step}

pub record IsReached (rows : List Row) (t : ℕ → Bool) (b : Top) : Type 0 where
  pub rest : List ℕ
  pub list : keep t (up_from b.place (length rows - b.place)) ≡ (b.place ∷ rest)
  pub set : IsWithin t b.place rest
  pub value : b.value ≡ ends_at (times_at rows) b.place rest

pub near_sized : (rows : List Row) → ((k : ℕ) → IsNearRow (row_at rows k)) → IsSized (times_at rows)
near_sized rows near = record { sizes = λ k. (near k).p_from }

no_earlier : (x : ℕ) (xs : List ℕ) (y : ℕ) → rises_from x xs ≡ true → has (x ∷ xs) y ≡ true → x ≤ y
no_earlier x xs y rises here = elim (has_cases (nat_eq x y) xs y here) [
  | inl same ↦ let eq = same_number x y same in omega (arith, eq)
  | inr later ↦ let less = above_all x xs y rises later in omega (arith, less)
]

pub top_reached : (rows : List Row) (t : ℕ → Bool) (k : ℕ) (b : Top) → IsByEst rows → IsBelow t (length rows) → IsTop rows t k b → IsReached rows t b
top_reached rows t k b sorted low top =
    let d = times_at rows in
    let x = b.place in
    let n = length rows in
    let rest = keep t (up_from (x + 1) (n - (x + 1))) in
    let list : keep t (up_from x (n - x)) ≡ (x ∷ rest) = keep_step t x n top.within ∙ ap (λ c. kept c x rest) top.on in
    let rises : rises_from x rest ≡ true = subst (λ v. rises_all v ≡ true) list (keep_rises_all t x (n - x)) in
    let inside : (y : ℕ) → has (x ∷ rest) y ≡ true → t y ≡ true = λ y here. keep_passes t (up_from x (n - x)) y (subst (λ v. has v y ≡ true) (sym list) here) in
    let first = least_reached d x rest in
    let least = least_bound d x rest x (has_first x rest) in
    let rise = sorted x first.0 (no_earlier x rest first.0 rises first.1) (low first.0 (inside first.0 first.1)) in
    let sum : sum_of d (x ∷ rest) ≡ load (size_at d) t (up_from x (n - x)) = subst (λ v. sum_of d v ≡ load (size_at d) t (up_from x (n - x))) list (keep_sum d t (up_from x (n - x))) in
    let value = top.value in
    let same = first.2 in
    record {
      rest = rest;
      list = list;
      set = record { rises = rises; inside = inside };
      value = omega (arith, ints, value, sum, least, rise, same);
    }

pub top_ect : (rows : List Row) (t : ℕ → Bool) (b : Top) → IsSized (times_at rows) → IsByEst rows → IsBelow t (length rows) → IsTop rows t 0 b → IsEct (times_at rows) t b.value
top_ect rows t b valid sorted low top =
    let d = times_at rows in
    let n = length rows in
    let r = top_reached rows t 0 b sorted low top in
    record {
      reached = (b.place, r.rest, r.set, r.value);
      greatest = λ y ys set.
          let on = set.inside y (has_first y ys) in
          let one = sum_in d (up_from y (n - y)) y ys valid set.rises (λ w here.
          let after = no_earlier y ys w set.rises here in
          let below = low w (set.inside w here) in
          up_has y (n - y) w after (omega (arith, after, below))) in
          let two = load_mono (size_at d) (has (y ∷ ys)) t (up_from y (n - y)) valid.sizes set.inside in
          let least = least_bound d y ys y (has_first y ys) in
          let most = top.most y (omega arith) (low y on) on in
          omega (arith, ints, one, two, least, most);
    }
