-- The places of those of whom the numbers leave something to find, and the loop over them.
use Rattle.std.specs.Prelude.{◌≡◌, ℕ, ◌+◌, ◌<◌, Bool, true, false, not, ◌||◌, ◌&&◌, List, length, nat_eq}
use Rattle.std.proofs.Common.{refl, sym, ap, subst, ◌∙◌, arith, inl, inr}
use Rattle.std.proofs.lemmas.Bool.{and_parts, cases_eq, not-false, or_cases, or_parts, true≢false}
use Rattle.std.proofs.lemmas.Bool.Decides.{nat_tests}
use Rattle.std.proofs.lemmas.Nat.Bits.{bit_at-zero}
use Rattle.base_laws.specs.laws.Numbers.{below_or_last, differs}
use Rattle.sched_base.specs.declared.ids.Itv.{Itv}
use Rattle.sched_model.specs.Data.{Data}
use Rattle.region.specs.declared.types.OrderCell.TheVariants.{Unknown, Forward}
use Rattle.region.specs.Cells.{Region, bounds_of}
use Rattle.prop_unary.specs.declared.disjunctive.Disjunctive.{Disjunctive}
use Rattle.prop_unary.specs.code.Circles.{EachOf}
use Rattle.prop_unary.specs.code.Heard.{AreHeard, EachOutside}
use Rattle.prop_unary.specs.code.Rows.{has_word, member_at}
use Rattle.prop_unary.specs.code.Silence.{AreSilentOrders, AreSilentWhere, IsDisjunctive, reach}
use Rattle.prop_unary.specs.laws.Rows.{each_placed}
use Rattle.prop_unary.proofs.Noted.{silent_by_test}

nowhere : (k : ℕ) → has_word 0 k ≡ false
nowhere k = ap (λ n. nat_eq n 1) (bit_at-zero k)

same_number : (i j : ℕ) → nat_eq i j ≡ true → i ≡ j
same_number i j h = grind (arith, nat_tests)

number_itself : (n : ℕ) → nat_eq n n ≡ true
number_itself n = grind (arith, nat_tests)

-- one more place, which is in the set if its bit is set
more_within : (n set more : ℕ) (b : Bool) → ((k : ℕ) → has_word more k ≡ ((b && nat_eq k n) || has_word set k)) → ((k : ℕ) → has_word set k ≡ true → k < n) → (k : ℕ) → has_word more k ≡ true → k < n + 1
more_within n set more b is within k on = elim (or_cases (b && nat_eq k n) (has_word set k) (sym (is k) ∙ on)) [
  | inl here ↦ let same = same_number k n (and_parts b (nat_eq k n) here).1 in omega arith
  | inr before ↦ let low = within k before in omega arith
]

more_outside : (P : Itv → Type 0) (xs : List Itv) (n set more : ℕ) (b : Bool) → ((k : ℕ) → has_word more k ≡ ((b && nat_eq k n) || has_word set k)) → (b ≡ false → P (member_at xs n)) → EachOutside P xs n set → EachOutside P xs (n + 1) more
more_outside P xs n set more b is here before k low off =
    let parts = or_parts (b && nat_eq k n) (has_word set k) (sym (is k) ∙ off) in
    elim (below_or_last k n low) [
      | inl less ↦ before k less parts.1
      | inr same ↦ subst (λ (i : ℕ). P (member_at xs i)) (sym same) (here (unset b (nat_eq k n) parts.0 (ap (λ i. nat_eq i n) same ∙ number_itself n)))
    ]
  where
    unset : (b t : Bool) → (b && t) ≡ false → t ≡ true → b ≡ false
    unset true t off on = absurd (true≢false (sym on ∙ off))
    unset false t off on = refl

pub more_heard : (m : Data) (r : Region) (d : Disjunctive) (a : Itv) (xs : List Itv) (n set more : ℕ) (is_silent : Bool) → IsDisjunctive m d → AreHeard m r d a xs n set → ((k : ℕ) → has_word more k ≡ ((not is_silent && nat_eq k n) || has_word set k))
    → (is_silent ≡ true → AreSilentOrders (bounds_of r a) (bounds_of r (member_at xs n)) (reach m d.p d.matrix a (member_at xs n))) → AreHeard m r d a xs (n + 1) more
more_heard m r d a xs n set more is_silent of before is silent = record {
  within = more_within n set more (not is_silent) is before.within;
  told = λ best. more_outside (AreSilentWhere m r best d Forward a) xs n set more (not is_silent) is (λ off. silent_by_test m r best d Forward a (member_at xs n) of (silent (not-false is_silent off)).told) (before.told best);
  free = λ best. more_outside (AreSilentWhere m r best d Unknown a) xs n set more (not is_silent) is (λ off. silent_by_test m r best d Unknown a (member_at xs n) of (silent (not-false is_silent off)).free) (before.free best);
}

pub all_heard : (m : Data) (r : Region) (d : Disjunctive) (a : Itv) (xs : List Itv) (n l set : ℕ) → n ≡ l → AreHeard m r d a xs n set → AreHeard m r d a xs l set
all_heard m r d a xs n l set whole before = subst (λ k. AreHeard m r d a xs k set) whole before

-- one place less
pub less_within : (n set less i : ℕ) → ((k : ℕ) → has_word less k ≡ (not (nat_eq k i) && has_word set k)) → ((k : ℕ) → has_word set k ≡ true → k < n) → (k : ℕ) → has_word less k ≡ true → k < n
less_within n set less i is within k on = within k (and_parts (not (nat_eq k i)) (has_word set k) (sym (is k) ∙ on)).1

pub less_outside : (P : Itv → Type 0) (xs : List Itv) (n set less i : ℕ) → ((k : ℕ) → has_word less k ≡ (not (nat_eq k i) && has_word set k)) → P (member_at xs i) → EachOutside P xs n set → EachOutside P xs n less
less_outside P xs n set less i is here before k low off = elim (cases_eq k i) [
  | inl same ↦ subst (λ (j : ℕ). P (member_at xs j)) (sym same) here
  | inr other ↦ before k low (sym (ap (λ t. not t && has_word set k) (differs k i other)) ∙ sym (is k) ∙ off)
]

pub all_outside : (P : Itv → Type 0) (xs : List Itv) (set : ℕ) → set ≡ 0 → EachOutside P xs (length xs) set → EachOf P xs
all_outside P xs set none each = each_placed P xs (λ k low. each k low (ap (λ s. has_word s k) none ∙ nowhere k))
