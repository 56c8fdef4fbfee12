-- The two least of the latest starts tell before whom nobody else must start.
use Rattle.std.specs.Prelude.{◌≡◌, ℕ, ◌+◌, ◌<◌, ◌≤◌, ℤ, ◌≤ℤ◌, Bool, true, false, not, nat_eq, int_le, int_lt, cond, List, length}
use Rattle.std.proofs.Common.{refl, sym, subst, arith, inl, inr}
use Rattle.std.proofs.lemmas.Int.{ints}
use Rattle.std.proofs.lemmas.Bool.{both_ways}
use Rattle.std.proofs.lemmas.Bool.Decides.{nat_tests}
use Rattle.base_laws.specs.laws.Numbers.{below_or_last}
use Rattle.base_laws.specs.laws.Truth.{three_true}
use Rattle.task_sets.specs.laws.Sums.{has_first, self_eq}
use Rattle.task_sets.specs.laws.Ects.{le_holds, lt_holds}
use Rattle.theta_passes.specs.declared.rows.Row.{Row}
use Rattle.theta_passes.specs.declared.scan.Lows.{Lows}
use Rattle.theta_passes.specs.code.Rows.{row_at, is_present, says_present}
use Rattle.theta_passes.specs.code.Late.{LateCandidate, before_key, with_row, is_free, AreLows}
use Rattle.theta_passes.proofs.shown.Showing.{key_below}

pub none_low : (rows : List Row) (l : Lows) → AreLows rows 0 l
none_low rows l = record { least = λ y low on. absurd (omega (arith, low)); next = λ y low on apart. absurd (omega (arith, low)) }

not_less : (a b : ℤ) → int_lt a b ≡ false → b ≤ℤ a
not_less a b h = grind (arith, ints)

itself : (a : ℤ) → a ≤ℤ a
itself a = omega (arith, ints)

less_le : (a b c : ℤ) → int_lt a b ≡ true → b ≤ℤ c → a ≤ℤ c
less_le a b c h up = let low = lt_holds a b h in omega (arith, ints, low, up)

pub with_it : (rows : List Row) (n : ℕ) (l : Lows) → AreLows rows n l → AreLows rows (n + 1) (with_row l (row_at rows n) n)
with_it rows n l h = present (says_present (row_at rows n).presence) refl
  where
    r : Row
    r = row_at rows n

    -- of the new row or of one before it
    each : (P : ℕ → Type 0) → ((y : ℕ) → y < n → P y) → P n → (y : ℕ) → y < n + 1 → P y
    each P old new' y low = elim (below_or_last y n low) [
      | inl less ↦ old y less
      | inr last ↦ subst P (sym last) new'
    ]

    second : (b : Bool) → int_lt r.lst l.first ≡ false → int_lt r.lst l.second ≡ b → AreLows rows (n + 1) (cond b (record { place = l.place; first = l.first; second = r.lst }) l)
    second true high less = record {
      least = each (λ y. is_present rows y ≡ true → l.first ≤ℤ (row_at rows y).lst) h.least (λ on. not_less r.lst l.first high);
      next = each (λ y. is_present rows y ≡ true → nat_eq y l.place ≡ false → r.lst ≤ℤ (row_at rows y).lst) (λ y low on apart. less_le r.lst l.second (row_at rows y).lst less (h.next y low on apart)) (λ on apart. itself r.lst);
    }
    second false high more = record {
      least = each (λ y. is_present rows y ≡ true → l.first ≤ℤ (row_at rows y).lst) h.least (λ on. not_less r.lst l.first high);
      next = each (λ y. is_present rows y ≡ true → nat_eq y l.place ≡ false → l.second ≤ℤ (row_at rows y).lst) h.next (λ on apart. not_less r.lst l.second more);
    }

    first : (b : Bool) → int_lt r.lst l.first ≡ b → AreLows rows (n + 1) (cond b (record { place = n; first = r.lst; second = l.first }) (cond (int_lt r.lst l.second) (record { place = l.place; first = l.first; second = r.lst }) l))
    first true less = record {
      least = each (λ y. is_present rows y ≡ true → r.lst ≤ℤ (row_at rows y).lst) (λ y low on. less_le r.lst l.first (row_at rows y).lst less (h.least y low on)) (λ on. itself r.lst);
      next = each (λ y. is_present rows y ≡ true → nat_eq y n ≡ false → l.first ≤ℤ (row_at rows y).lst) (λ y low on apart. h.least y low on) (λ on apart. absurd (both_ways (nat_eq n n) apart (self_eq n)));
    }
    first false high = second (int_lt r.lst l.second) high refl

    present : (b : Bool) → says_present r.presence ≡ b → AreLows rows (n + 1) (cond b (cond (int_lt r.lst l.first) (record { place = n; first = r.lst; second = l.first }) (cond (int_lt r.lst l.second) (record { place = l.place; first = l.first; second = r.lst }) l)) l)
    present true on = first (int_lt r.lst l.first) refl
    present false off = record {
      least = each (λ y. is_present rows y ≡ true → l.first ≤ℤ (row_at rows y).lst) h.least (λ on. absurd (both_ways (is_present rows n) off on));
      next = each (λ y. is_present rows y ≡ true → nat_eq y l.place ≡ false → l.second ≤ℤ (row_at rows y).lst) h.next (λ on apart. absurd (both_ways (is_present rows n) off on));
    }

pub more_low : (rows : List Row) (n : ℕ) (l m : Lows) → m ≡ with_row l (row_at rows n) n → AreLows rows n l → AreLows rows (n + 1) m
more_low rows n l m is h = subst (AreLows rows (n + 1)) (sym is) (with_it rows n l h)

-- so it is not late
pub free_early : (rows : List Row) (n i : ℕ) (l : Lows) → length rows ≤ n → is_free l (row_at rows i) i ≡ true → AreLows rows n l → LateCandidate rows i false
free_early rows n i l whole free h z on late = by_case (nat_eq i l.place) refl free
  where
    y : ℕ
    y = late.ect.reached.0

    here : before_key rows i y ≡ true
    here = late.ect.reached.2.inside y (has_first y late.ect.reached.1)

    facts : (is_present rows y ≡ true) × (not (nat_eq y i) ≡ true) × (int_lt (row_at rows y).lst (row_at rows i).reach ≡ true)
    facts = three_true (is_present rows y) (not (nat_eq y i)) (int_lt (row_at rows y).lst (row_at rows i).reach) here

    low : y < n
    low = let less = key_below rows i y here in omega (arith, less, whole)

    apart : (p : ℕ) → nat_eq i p ≡ true → not (nat_eq y i) ≡ true → nat_eq y p ≡ false
    apart p same other = grind (arith, nat_tests)

    over : (a b c : ℤ) → int_lt a b ≡ true → int_le b c ≡ true → c ≤ℤ a → ⊥
    over a b c less most up = let x = lt_holds a b less in let w = le_holds b c most in omega (arith, ints, x, w, up)

    by_case : (b : Bool) → nat_eq i l.place ≡ b → cond b (int_le (row_at rows i).reach l.second) (int_le (row_at rows i).reach l.first) ≡ true → ⊥
    by_case true same most = over (row_at rows y).lst (row_at rows i).reach l.second facts.2 most (h.next y low facts.0 (apart l.place same facts.1))
    by_case false other most = over (row_at rows y).lst (row_at rows i).reach l.first facts.2 most (h.least y low facts.0)
