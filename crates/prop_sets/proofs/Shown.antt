-- What the passes answer, with the sets that show it.
use Rattle.std.proofs.lemmas.Bool.{and_parts as both}
use Rattle.std.specs.Prelude.{◌≡◌, ◌≢◌, not, ◌⊎◌, ℕ, zero, suc, ◌+◌, ◌<◌, ◌≤◌, ℤ, neg_ℤ, ◌≤ℤ◌, Bool, true, false, ◌||◌, nat_eq, List, [], ◌∷◌, ◌++◌, length, Option, Some, None, IfSome}
use Rattle.std.proofs.Common.{refl, sym, ap, subst, ◌∙◌, inl, inr, arith, take, get_or}
use Rattle.std.proofs.lemmas.Int.{ints}
use Rattle.std.proofs.lemmas.Bool.{true≢false, false_from_ne_true, or_left, or_right}
use Rattle.base_laws.specs.laws.Numbers.{below_or_last}
use Rattle.task_sets.specs.Times.{Times, has, ends_at, greatest_lct, is_task_set, is_overload, overload_row}
use Rattle.task_sets.specs.laws.Sums.{has_first, same_number}
use Rattle.task_sets.specs.laws.Ects.{lt_holds}
use Rattle.task_sets.specs.laws.Cuts.{overload_is, task_set_of, no_task_set}
use Rattle.theta_passes.specs.declared.rows.Presence.{Presence}
use Rattle.theta_passes.specs.declared.rows.Presence.TheVariants as is
use Rattle.theta_passes.specs.declared.rows.Row.{Row}
use Rattle.theta_passes.specs.code.Rows.{is_present, is_candidate, row_at, says_absent, says_present, times_at, with_candidate, IsBounded}
use Rattle.theta_passes.specs.code.Over.{IsFalling, NoOverloads, Overfull}
use Rattle.theta_passes.specs.code.Edge.{IsOrder, IsFound, NoOverload}
use Rattle.theta_passes.specs.code.Late.{IsRising, LatePass}
use Rattle.theta_passes.specs.code.Witnesses.{members_of, IsEdgeSets, IsLateSet}
use Rattle.theta_passes.specs.laws.Members.{candidate, is_below as row_below}
use Rattle.prop_sets.specs.declared.orders.By.TheVariants as by
use Rattle.prop_sets.specs.code.Busy.{IsLateFound, IsOverFound, IsEdgeFound}
use Rattle.prop_sets.specs.code.Orders.{AreSpanned, IsOrderBy}
use Rattle.prop_sets.proofs.Marking.{take_more, take_all}

-- whether a list has a number
has_push : (xs : List ℕ) (y k : ℕ) → has (xs ++ y ∷ []) k ≡ (has xs k || nat_eq y k)
has_push [] y k = last (nat_eq y k)
  where
    last : (b : Bool) → (b || false) ≡ b
    last true = refl
    last false = refl
has_push (z ∷ zs) y k = step (nat_eq z k) (has_push zs y k)
  where
    step : (b : Bool) → has (zs ++ y ∷ []) k ≡ (has zs k || nat_eq y k) → (b || has (zs ++ y ∷ []) k) ≡ ((b || has zs k) || nat_eq y k)
    step true h = refl
    step false h = h

abbrev pub NotSeen : List ℕ → ℕ → ℕ → Type 0
NotSeen set k n = has (take n set) k ≡ false

pub none_seen : (set : List ℕ) (k : ℕ) → NotSeen set k 0
none_seen [] k = refl
none_seen (x ∷ xs) k = refl

pub more_seen : (set : List ℕ) (k n d : ℕ) → n < length set → nat_eq (get_or set n d) k ≡ false → NotSeen set k n → NotSeen set k (n + 1)
more_seen set k n d low off so_far = ap (λ l. has l k) (take_more set n d low) ∙ has_push (take n set) (get_or set n d) k ∙ ap (λ b. b || nat_eq (get_or set n d) k) so_far ∙ off

pub one_seen : (set : List ℕ) (k n d : ℕ) → n < length set → nat_eq (get_or set n d) k ≡ true → has set k ≡ true
one_seen [] k n d low on = absurd (omega (arith, low))
one_seen (x ∷ xs) k zero d low on = or_left (nat_eq x k) (has xs k) on
one_seen (x ∷ xs) k (suc n) d low on = or_right (nat_eq x k) (has xs k) (one_seen xs k n d (omega (arith, low)) on)

pub all_seen : (set : List ℕ) (k n : ℕ) → length set ≤ n → NotSeen set k n → has set k ≡ false
all_seen set k n whole none = sym (ap (λ l. has l k) (take_all set n whole)) ∙ none

pub first_there : (set : List ℕ) (d : ℕ) → (x : ℕ) × (xs : List ℕ) × (set ≡ x ∷ xs) → has set (get_or set 0 d) ≡ true
first_there set d some = subst (λ l. has l (get_or l 0 d) ≡ true) (sym some.2) (has_first some.0 some.1)

-- a set whose members pass another test
over_wider : (d : ℕ → Times) (t u : ℕ → Bool) (set : List ℕ) → ((y : ℕ) → has set y ≡ true → t y ≡ true → u y ≡ true) → overload_row d t set ≡ true → overload_row d u set ≡ true
over_wider d t u [] wider is = absurd (no_task_set t (both (is_task_set t []) (is_overload []) is).0)
over_wider d t u (x ∷ xs) wider is =
    let parts = both (is_task_set t (x ∷ xs)) _ is in
    let w = task_set_of t x xs parts.0 in
    overload_is d u x xs (record { rises = w.rises; inside = λ y here. wider y here (w.inside y here) }) (lt_holds (greatest_lct d x xs) (ends_at d x xs) parts.1)

passes_of : (d : ℕ → Times) (t : ℕ → Bool) (set : List ℕ) (y : ℕ) → overload_row d t set ≡ true → has set y ≡ true → t y ≡ true
passes_of d t [] y is here = cc
passes_of d t (x ∷ xs) y is here = (task_set_of t x xs (both (is_task_set t (x ∷ xs)) _ is).0).inside y here

present_of : (rows : List Row) (k : ℕ) (set : List ℕ) (y : ℕ) → has set k ≡ false → has set y ≡ true → with_candidate rows k y ≡ true → is_present rows y ≡ true
present_of rows k set y off here on = by_case (nat_eq y k) refl on
  where
    by_case : (b : Bool) → nat_eq y k ≡ b → (b || is_present rows y) ≡ true → is_present rows y ≡ true
    by_case true is on = absurd (true≢false (sym here ∙ ap (has set) (same_number y k is) ∙ off))
    by_case false is on = on

pub over_moved : (rows : List Row) (k p : ℕ) (set : List ℕ) → is_candidate rows k ≡ true → has set p ≡ true → (p ≡ k) ⊎ (has set k ≡ false) → overload_row (times_at rows) (with_candidate rows k) set ≡ true → IsOverFound rows p set
over_moved rows k p set one here (inl same) is = record {
  candidate = ap (is_candidate rows) same ∙ one;
  row = ap (λ i. overload_row (times_at rows) (with_candidate rows i) set) same ∙ is;
  there = here;
}
over_moved rows k p set one here (inr off) is = record {
  candidate = candidate rows p (present_of rows k set p off here (passes_of (times_at rows) (with_candidate rows k) set p is here));
  row = over_wider (times_at rows) (with_candidate rows k) (with_candidate rows p) set (λ y there on. or_right (nat_eq y p) (is_present rows y) (present_of rows k set y off there on)) is;
  there = here;
}

-- the set of an overload is that of one of its members
pub set_of_one : (rows : List Row) (with : Option ℕ) (set : List ℕ) → overload_row (times_at rows) (members_of rows with) set ≡ true → (x : ℕ) × (xs : List ℕ) × (set ≡ x ∷ xs)
set_of_one rows with [] is = absurd (no_task_set (members_of rows with) (both (is_task_set (members_of rows with) []) (is_overload []) is).0)
set_of_one rows with (x ∷ xs) is = (x, xs, refl)

pub over_shown : (rows : List Row) (with : Option ℕ) (set : List ℕ) (p : ℕ) → Overfull rows with → overload_row (times_at rows) (members_of rows with) set ≡ true → has set p ≡ true → IfSome with (λ k. (p ≡ k) ⊎ (has set k ≡ false)) → IsOverFound rows p set
over_shown rows None set p found is here which =
    let there = passes_of (times_at rows) (is_present rows) set p is here in
    record {
      candidate = candidate rows p there;
      row = over_wider (times_at rows) (is_present rows) (with_candidate rows p) set (λ y here on. or_right (nat_eq y p) (is_present rows y) on) is;
      there = here;
    }
over_shown rows (Some k) set p found is here which = over_moved rows k p set found.0 here which is

-- the orders of the passes
pub are_bounded : (rows : List Row) → AreSpanned rows → IsBounded rows
are_bounded rows spanned k = (spanned k).to

turn : (x y : ℤ) → neg_ℤ x ≤ℤ neg_ℤ y → y ≤ℤ x
turn x y h = omega (arith, ints, h)

pub is_falling : (rows : List Row) (order : List ℕ) → IsOrderBy by.Falling rows order → IsFalling rows order
is_falling rows order h = record { candidate = h.on; falls = λ m n less within. turn _ _ (h.rises m n less within); whole = h.whole }

pub is_cut_order : (rows : List Row) (order : List ℕ) → IsOrderBy by.FallingPresent rows order → IsOrder rows order
is_cut_order rows order h = record { present = h.on; falls = λ m n less within. turn _ _ (h.rises m n less within); whole = h.whole }

pub is_rising : (rows : List Row) (order : List ℕ) → IsOrderBy by.Rising rows order → IsRising rows order
is_rising rows order h = record { candidate = h.on; rises = h.rises; whole = h.whole }

pub none_alone : (rows : List Row) → NoOverloads rows → NoOverload rows
none_alone rows none = none.alone

pub found_within : (rows : List Row) (i : ℕ) → IsFound rows i → i < length rows
found_within rows i found = row_below rows i found.0

pub late_within : (rows : List Row) (i : ℕ) → LatePass rows (Some i) → i < length rows
late_within rows i found = row_below rows i found.0

pub edge_shown : (rows : List Row) (i : ℕ) (s u v : List ℕ) → IsFound rows i → IsEdgeSets rows i s u v → IsEdgeFound rows i s u v
edge_shown rows i s u v found sets = record {
  candidate = found.0;
  row = sets (times_at rows) (record { same = record { est = λ y. refl; lct = λ y. refl; size = λ y. refl }; start = refl });
}

pub late_shown : (rows : List Row) (i : ℕ) (s : List ℕ) → LatePass rows (Some i) → IsLateSet rows i s → IsLateFound rows i s
late_shown rows i s found set = record { candidate = found.0; behind = set }

-- who is there, or not, is a candidate where he is there

closed : (p : Presence) → (p ≡ is.Maybe → ⊥) → not (says_absent p) ≡ says_present p
closed is.Present other = refl
closed is.Maybe other = absurd (other refl)
closed is.Absent other = refl

pub none_open : (rows : List Row) (k : ℕ) → k < 0 → is_candidate rows k ≡ is_present rows k
none_open rows k low = absurd (omega (arith, low))

pub more_closed : (rows : List Row) (n k : ℕ) → (row_at rows n).presence ≢ is.Maybe → ((j : ℕ) → j < n → is_candidate rows j ≡ is_present rows j) → k < n + 1 → is_candidate rows k ≡ is_present rows k
more_closed rows n k other before low = elim (below_or_last k n low) [
  | inl less ↦ before k less
  | inr last ↦ subst (λ j. is_candidate rows j ≡ is_present rows j) (sym last) (closed (row_at rows n).presence other)
]

pub all_closed : (rows : List Row) (n : ℕ) → length rows ≤ n → ((j : ℕ) → j < n → is_candidate rows j ≡ is_present rows j) → (k : ℕ) → is_candidate rows k ≡ is_present rows k
all_closed rows n whole before k = decided (is_candidate rows k) refl
  where
    decided : (b : Bool) → is_candidate rows k ≡ b → b ≡ is_present rows k
    decided true on = let low = row_below rows k on in sym on ∙ before k (omega (arith, low, whole))
    decided false off = sym (false_from_ne_true (is_present rows k) (λ on. true≢false (sym (candidate rows k on) ∙ off)))
