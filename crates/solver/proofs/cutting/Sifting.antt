-- Exchanging two of the first places of a list, and leaving the last of them out.
use Rattle.std.proofs.Common.{◌≡◌, ℕ, zero, suc, ◌+◌, ◌-◌, ◌<◌, ◌≤◌, Bool, true, false, List, [], ◌∷◌, length, All, get_or, set, refl, sym, ap, subst, ◌∙◌, arith}
use Rattle.std.specs.Prelude.{nat_eq, ◌++◌, Option, Some, None, IfNone}
use Rattle.std.specs.List.{swap, list_all, range_with_len}
use Rattle.std.proofs.lemmas.Bool.Decides.{nat_tests}
use Rattle.std.proofs.lemmas.List.Edits.{length-swap, swap_is, Swapped, swapped_from_swap}
use Rattle.std.proofs.lemmas.List.Elements.{All-get_or, All-set, All-from_get_or}
use Rattle.std.proofs.lemmas.List.{length-map}
use Rattle.std.proofs.lemmas.List.FromFn.{get_or-range_with_len, length-range_with_len}
use Rattle.sched_model.specs.Data.{Data}
use Rattle.region.specs.declared.types.Bounds.{Bounds}
use Rattle.region.specs.Cells.{Region, unknown, is_fixed, root, root_bounds}
use Rattle.region.specs.laws.Lists.{true_both}
use Rattle.solver.specs.code.OpenIntervals.{OpenList, IsAmong, IsOpenList, Leaves}

-- a test passes at each place
all_at : (bs : List Bounds) → ((n : ℕ) → n < length bs → is_fixed (get_or bs n unknown) ≡ true) → list_all is_fixed bs ≡ true
all_at [] each = refl
all_at (b ∷ bs) each = true_both (is_fixed b) (list_all is_fixed bs) (each 0 (omega arith)) (all_at bs (λ n within. each (suc n) (omega (arith, within))))

-- where the element of a place stands after two places were exchanged
moved_to : (list : List ℕ) (i j p count : ℕ) → i < count → j < count → p < count → count ≤ length list → IsAmong count (swap list i j) (get_or list p 0)
moved_to list i j p count first second within long = by_first (nat_eq p i) refl
  where
    swapped : Swapped (λ k. get_or list k 0) (λ k. get_or (swap list i j) k 0) i j
    swapped = swapped_from_swap list (swap list i j) i j 0 (omega (arith, first, long)) (omega (arith, second, long)) refl

    by_second : (p ≡ i → ⊥) → (b : Bool) → nat_eq p j ≡ b → IsAmong count (swap list i j) (get_or list p 0)
    by_second other true is = let same : p ≡ j = grind (arith, nat_tests) in (i, first, swapped.0 ∙ ap (λ k. get_or list k 0) (sym same))
    by_second other false is = let apart : p ≡ j → ⊥ = λ same. grind (arith, nat_tests) in (p, within, swapped.2 p other apart)

    by_first : (b : Bool) → nat_eq p i ≡ b → IsAmong count (swap list i j) (get_or list p 0)
    by_first true is = let same : p ≡ i = grind (arith, nat_tests) in (j, second, swapped.1 ∙ ap (λ k. get_or list k 0) (sym same))
    by_first false is = by_second (λ same. grind (arith, nat_tests)) (nat_eq p j) refl

pub among_swapped : (list : List ℕ) (i j count x : ℕ) → i < count → j < count → count ≤ length list → IsAmong count list x → IsAmong count (swap list i j) x
among_swapped list i j count x first second long among = subst (IsAmong count (swap list i j)) among.2 (moved_to list i j among.0 count first second among.1 long)

-- what isn't at the place that is left out stays among the first ones
others_stay : (list : List ℕ) (i n x : ℕ) → i < n + 1 → n + 1 ≤ length list → IsAmong (n + 1) list x → (x ≡ get_or list i 0 → ⊥) → IsAmong n (swap list i n) x
others_stay list i n x place long among other = by_last (nat_eq among.0 n) refl
  where
    swapped : Swapped (λ k. get_or list k 0) (λ k. get_or (swap list i n) k 0) i n
    swapped = swapped_from_swap list (swap list i n) i n 0 (omega (arith, place, long)) (omega (arith, long)) refl

    not_i : among.0 ≡ i → ⊥
    not_i same = other (sym among.2 ∙ ap (λ k. get_or list k 0) same)

    by_last : (b : Bool) → nat_eq among.0 n ≡ b → IsAmong n (swap list i n) x
    by_last true at =
        let last : among.0 ≡ n = grind (arith, nat_tests) in
        let apart : n ≡ i → ⊥ = λ same. not_i (last ∙ same) in
        (i, omega (arith, place, apart), swapped.0 ∙ ap (λ k. get_or list k 0) (sym last) ∙ among.2)
    by_last false at =
        let apart : among.0 ≡ n → ⊥ = λ same. grind (arith, nat_tests) in
        (among.0, omega (arith, among.1, apart), swapped.2 among.0 not_i apart ∙ among.2)

swap_all : (P : ℕ → Type 0) (list : List ℕ) (i j : ℕ) → i < length list → j < length list → All P list → All P (swap list i j)
swap_all P list i j first second all =
    let at = All-get_or P list in
    subst (All P) (swap_is list i j 0 first second) (All-set P (set list i (get_or list j 0)) j (get_or list i 0) (at i 0 first all) (All-set P list i (get_or list j 0) (at j 0 second all) all))

pub leaves_place : (list : List ℕ) (i n : ℕ) → i < n + 1 → n + 1 ≤ length list
    → let old : OpenList = record { list = list; count = n + 1 } in let new : OpenList = record { list = swap list i n; count = n } in Leaves i old new
leaves_place list i n place long = record {
  sifts = record {
    fewer = omega arith;
    size = length-swap list i n;
    kept = λ count x more within among. among_swapped list i n count x (omega (arith, place, more)) (omega (arith, more)) within among;
  };
  one = refl;
  others = λ x among other. others_stay list i n x place long among other;
  below = λ k all. swap_all (λ x. x < k) list i n (omega (arith, place, long)) (omega (arith, long)) all;
}

-- where none is among the first ones all are fixed
pub none_open : (r : Region) (unfixed : OpenList) → IsOpenList r unfixed → unfixed.count ≡ 0 → list_all is_fixed r.bounds ≡ true
none_open r unfixed is none = all_at r.bounds (λ n within. fixed_or n within (is_fixed (get_or r.bounds n unknown)) refl)
  where
    fixed_or : (n : ℕ) → n < length r.bounds → (b : Bool) → is_fixed (get_or r.bounds n unknown) ≡ b → is_fixed (get_or r.bounds n unknown) ≡ true
    fixed_or n within true at = at
    fixed_or n within false at = let among = is.holds (record { 0 = n }) within at in absurd (omega (arith, among.1, none))

pub leaves_by : (old : OpenList) (list : List ℕ) (count i : ℕ) (items : List ℕ) → (let inside : OpenList = record { list = list; count = count } in inside) ≡ old → items ≡ swap list i (count - 1) → i < old.count → old.count ≤ length old.list
    → (let new : OpenList = record { list = items; count = count - 1 } in Leaves i old new)
leaves_by old list count i items view is place long =
    let counts : count ≡ old.count = ap (λ (o : OpenList). o.count) view in
    let lists : list ≡ old.list = ap (λ (o : OpenList). o.list) view in
    let whole : count ≡ (count - 1) + 1 = omega (arith, counts, place) in
    subst (λ ys. let new : OpenList = record { list = ys; count = count - 1 } in Leaves i old new) (sym is)
    (subst (λ o. let new : OpenList = record { list = swap list i (count - 1); count = count - 1 } in Leaves i o new) (ap (λ k. let o : OpenList = record { list = list; count = k } in o) (sym whole) ∙ view)
    (leaves_place list i (count - 1) (omega (arith, counts, place, whole)) (subst (λ xs. count - 1 + 1 ≤ length xs) (sym lists) (omega (arith, counts, long, whole)))))

-- the numbers of all intervals of the model
pub all_intervals : (m : Data) (list : List ℕ) (n : ℕ) → list ≡ range_with_len 0 (length m.intervals) → n ≡ length list → (let xs : OpenList = record { list = list; count = n } in IsOpenList (root m) xs)
all_intervals m list n is count =
    let size : length list ≡ length m.intervals = ap (λ (ys : List ℕ). length ys) is ∙ length-range_with_len 0 (length m.intervals) in
    let bounds : length (root m).bounds ≡ length m.intervals = length-map m.intervals root_bounds in
    record {
      within = omega (arith, count);
      below = All-from_get_or (λ x. x < length (root m).bounds) list 0 (λ i less. omega (arith, at i (omega (arith, less, size)), less, size, bounds));
      holds = λ x within unfixed. (x.0, omega (arith, within, bounds, size, count), at x.0 (omega (arith, within, bounds)));
    }
  where
    zero_on : (i : ℕ) → 0 + i ≡ i
    zero_on i = omega arith

    at : (i : ℕ) → i < length m.intervals → get_or list i 0 ≡ i
    at i less = ap (λ (ys : List ℕ). get_or ys i 0) is ∙ get_or-range_with_len 0 (length m.intervals) i 0 less ∙ zero_on i

-- what the loop over the first ones needs
pub index_below : (r : Region) (xs : OpenList) (list : List ℕ) (count i x : ℕ) → (let inside : OpenList = record { list = list; count = count } in inside) ≡ xs → IsOpenList r xs → i < count → x ≡ get_or list i x → x < length r.bounds
index_below r xs list count i x view is within at =
    let lists : list ≡ xs.list = ap (λ (o : OpenList). o.list) view in
    let counts : count ≡ xs.count = ap (λ (o : OpenList). o.count) view in
    subst (λ y. y < length r.bounds) (sym (at ∙ ap (λ (ys : List ℕ). get_or ys i x) lists)) (is.below i x (omega (arith, within, counts, is.within)))

pub counts_in : (xs : OpenList) (list : List ℕ) (count i : ℕ) → (let inside : OpenList = record { list = list; count = count } in inside) ≡ xs → i < count → i < xs.count
counts_in xs list count i view within = let counts : count ≡ xs.count = ap (λ (o : OpenList). o.count) view in omega (arith, counts, within)

pub counts_out : (xs : OpenList) (list : List ℕ) (count i : ℕ) → (let inside : OpenList = record { list = list; count = count } in inside) ≡ xs → count ≤ i → i ≡ 0 → xs.count ≡ 0
counts_out xs list count i view past none = let counts : count ≡ xs.count = ap (λ (o : OpenList). o.count) view in omega (arith, counts, past, none)

pub fewer_left : (old new i : ℕ) → old ≡ new + 1 → i < old → new - i < old - i
fewer_left old new i one within = omega (arith, one, within)

pub nearer : (count i : ℕ) → i < count → count - (i + 1) < count - i
nearer count i within = omega (arith, within)

pub none_then : {T : Type 0} (o : Option T) (X : Type 0) → (o ≡ None → X) → IfNone o X
none_then None X h = h refl
none_then (Some t) X h = tt

range_more : (a n : ℕ) → range_with_len a n ++ (a + n) ∷ [] ≡ range_with_len a (suc n)
range_more a zero = ap (λ k. k ∷ []) (at a)
  where
    at : (a : ℕ) → a + 0 ≡ a
    at a = omega arith
range_more a (suc n) = ap (λ ks. a ∷ ks) (ap (λ k. range_with_len (a + 1) n ++ k ∷ []) (at a n) ∙ range_more (a + 1) n)
  where
    at : (a n : ℕ) → a + suc n ≡ a + 1 + n
    at a n = omega arith

from_zero : (n : ℕ) → n ≡ 0 + n
from_zero n = omega arith

next_of : (n : ℕ) → suc n ≡ n + 1
next_of n = omega arith

pub range_push : (n : ℕ) → range_with_len 0 n ++ n ∷ [] ≡ range_with_len 0 (n + 1)
range_push n = ap (λ k. range_with_len 0 n ++ k ∷ []) (from_zero n) ∙ range_more 0 n ∙ ap (range_with_len 0) (next_of n)
