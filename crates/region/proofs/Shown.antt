-- What a look shows of the numbers that it borrows.
use Rattle.std.specs.Prelude.{◌≡◌, ◌⊎◌, ℕ, zero, suc, ◌+◌, ◌*◌, ◌<◌, ◌≤◌, ℤ, Bool, true, false, List, [], ◌∷◌, Option, Some, None, is_some, length, take, drop, sum_by, nat_lt, ltb, slice_index_or, if◌then◌else◌}
use Rattle.std.specs.List.{position}
use Rattle.std.proofs.Common.{refl, sym, ap, subst, ◌∙◌, inl, inr, arith, get_or}
use Rattle.std.proofs.lemmas.List.{length-drop, length-map}
use Rattle.std.proofs.lemmas.List.Sums.{sum_by-cons}
use Rattle.std.proofs.lemmas.Bool.Decides.{nat_tests}
use Rattle.sched_base.specs.declared.ids.Itv.{Itv}
use Rattle.sched_base.specs.declared.ids.Seq.{Seq}
use Rattle.sched_model.specs.Data.{same, has}
use Rattle.sched_model.specs.Valid.{pair_count}
use Rattle.region.specs.declared.types.Guess.{Guess}
use Rattle.region.specs.declared.types.Topic.{Topic}
use Rattle.region.specs.declared.types.Bounds.{Bounds}
use Rattle.region.specs.declared.types.OrderCell.TheVariants.{Unknown}
use Rattle.region.specs.Orders.{SequenceCells, place_of, pair_place, order_place, order_in, reversed}
use Rattle.region.specs.Cells.{unknown, cell_count, cells_of}
use Rattle.sched_model.specs.Words.{passes_if_any}
use Rattle.region.specs.Guesses.{topic, admits, looked_at}
use Rattle.region.specs.Looks.{HasMoments}
use Rattle.region.specs.code.Flat.{Form, AreCells, IsLook, bounds_from, orders_from, order_from, pairs_from, pairs_in, pairs_before, members_at, number_at, region_from, bounds_under, order_under}
use Rattle.region.specs.laws.OneSequence.{lower, higher, row_above, place_within, within_has}
use Rattle.region.proofs.Places.{length-bounds_from, looked_some, pairs_more, pairs_room, members_of, length-pairs, pair_read, number_from, order_below, order_above, order_itself, order_beyond, look_members, order_is}
use Rattle.region.proofs.Moments.{bounds_moments, shown_moments}
use Rattle.region.proofs.Kept.{all_taken, kept_pairs}

-- a field of the bounds of an interval
pub shown_field : {A : Type 0} (field : Bounds → A) (f : Form) (cells : List ℤ) (guess : Option Guess) (g : Guess) (t : Topic) (n : ℕ) (z : A) → guess ≡ Some g → t ≡ topic g → n < length f.sizes
    → z ≡ field (bounds_under t n (get_or (bounds_from f.sizes cells) n unknown)) → z ≡ field (get_or (looked_at guess (region_from f cells)).bounds n unknown)
shown_field field f cells guess g t n z is told within at =
    at ∙ ap (λ s. field (bounds_under s n (get_or (bounds_from f.sizes cells) n unknown))) told ∙ ap field (looked_some guess g (region_from f cells) n is (omega (arith, within, length-bounds_from f.sizes cells)))

pub shown_bounds_moments : (f : Form) (cells : List ℤ) (guess : Option Guess) (g : Guess) (t : Topic) (n : ℕ) → IsLook f cells guess → guess ≡ Some g → t ≡ topic g → n < length f.sizes → HasMoments (bounds_under t n (get_or (bounds_from f.sizes cells) n unknown))
shown_bounds_moments f cells guess g t n look is told within =
    subst (λ s. HasMoments (bounds_under s n (get_or (bounds_from f.sizes cells) n unknown))) (sym told) (shown_moments f cells guess g n (get_or (bounds_from f.sizes cells) n unknown) look is (bounds_moments f cells n look.are within))

-- how many cells there are
sum_cells : (mss : List (List Itv)) (ns : List ℤ) → pairs_in mss ≤ length ns → sum_by (λ (s : SequenceCells). length s.cells) (orders_from mss ns) ≡ pairs_in mss
sum_cells [] ns room = refl
sum_cells (ms ∷ mss) ns room =
    sum_by-cons (λ (s : SequenceCells). length s.cells) (record { members = ms; cells = pairs_from (pair_count (length ms)) ns }) (orders_from mss (drop (pair_count (length ms)) ns))
    ∙ ap (λ n. n + sum_by (λ (s : SequenceCells). length s.cells) (orders_from mss (drop (pair_count (length ms)) ns))) (length-map (take (pair_count (length ms)) ns) order_from ∙ all_taken (pair_count (length ms)) ns (omega (arith, room, pairs_more ms mss)))
    ∙ ap (λ n. pair_count (length ms) + n) (sum_cells mss (drop (pair_count (length ms)) ns) (omega (arith, room, pairs_more ms mss, length-drop (pair_count (length ms)) ns)))
    ∙ sym (pairs_more ms mss)

pub cells_counted : (f : Form) (cells : List ℤ) → AreCells f cells → length cells ≡ cell_count (region_from f cells)
cells_counted f cells are =
    are.count ∙ ap (λ n. 5 * n + pairs_in f.members) (sym (length-bounds_from f.sizes cells))
    ∙ ap (λ n. 5 * length (bounds_from f.sizes cells) + n) (sym (sum_cells f.members (drop (5 * length f.sizes) cells) (omega (arith, are.count, length-drop (5 * length f.sizes) cells))))

-- the order of two members
seen_members : (f : Form) (cells : List ℤ) (p : Seq) → (cells_of (region_from f cells) p).members ≡ members_at f p
seen_members f cells p = members_of f.members (drop (5 * length f.sizes) cells) p.0

seen_few : (f : Form) (cells : List ℤ) (p : Seq) → length (cells_of (region_from f cells) p).cells ≤ pair_count (length (cells_of (region_from f cells) p).members)
seen_few f cells p = subst (λ ms. length (cells_of (region_from f cells) p).cells ≤ pair_count (length ms)) (sym (seen_members f cells p)) (length-pairs f.members (drop (5 * length f.sizes) cells) p.0)

-- nothing is known beyond the sequences, of others than members, and of one alone
pub order_nowhere : (f : Form) (cells : List ℤ) (p : Seq) (x y : Itv) → length f.members ≤ p.0 → Unknown ≡ order_in (cells_of (region_from f cells) p) x y
order_nowhere f cells p x y past = sym (order_beyond (cells_of (region_from f cells) p) x y (seen_few f cells p) (inl (subst (λ ms. length ms ≤ place_of ms x) (sym (seen_members f cells p ∙ none f.members p.0 past)) (omega arith))))
  where
    none : (mss : List (List Itv)) (n : ℕ) → length mss ≤ n → get_or mss n [] ≡ []
    none [] n h = refl
    none (ms ∷ mss) zero h = absurd (omega (arith, h))
    none (ms ∷ mss) (suc n) h = none mss n (omega (arith, h))

pub order_none : (f : Form) (cells : List ℤ) (p : Seq) (x y : Itv) (ms : List Itv) (i j : ℕ) → ms ≡ members_at f p → i ≡ place_of ms x → j ≡ place_of ms y → (i ≡ length ms) ⊎ ((j ≡ length ms) ⊎ (i ≡ j)) → Unknown ≡ order_in (cells_of (region_from f cells) p) x y
order_none f cells p x y ms i j is one other h = sym (by_case h)
  where
    s : SequenceCells
    s = cells_of (region_from f cells) p

    same_ms : s.members ≡ ms
    same_ms = seen_members f cells p ∙ sym is

    by_case : (i ≡ length ms) ⊎ ((j ≡ length ms) ⊎ (i ≡ j)) → order_in s x y ≡ Unknown
    by_case (inl e) = order_beyond s x y (seen_few f cells p) (inl (subst (λ ns. length ns ≤ place_of ns x) (sym same_ms) (omega (arith, e, one))))
    by_case (inr (inl e)) = order_beyond s x y (seen_few f cells p) (inr (subst (λ ns. length ns ≤ place_of ns y) (sym same_ms) (omega (arith, e, other))))
    by_case (inr (inr e)) = order_itself s x y (subst (λ ns. place_of ns x ≡ place_of ns y) (sym same_ms) (sym one ∙ e ∙ other))

pub two_ways : (i j : ℕ) → (i ≡ j → ⊥) → (i < j) ⊎ (j < i)
two_ways i j none = decided (nat_lt i j) (nat_lt j i) refl refl
  where
    decided : (b c : Bool) → nat_lt i j ≡ b → nat_lt j i ≡ c → (i < j) ⊎ (j < i)
    decided true c h k = inl (grind (arith, nat_tests, h))
    decided false true h k = inr (grind (arith, nat_tests, k))
    decided false false h k = absurd (none (grind (arith, nat_tests, h, k)))

pub below_last : (i n len : ℕ) → i ≤ n → len ≡ n → (i ≡ len → ⊥) → i < n
below_last i n len h e none = decided (nat_lt i n) refl
  where
    decided : (b : Bool) → nat_lt i n ≡ b → i < n
    decided true k = grind (arith, nat_tests, k)
    decided false k = absurd (none (grind (arith, nat_tests, k, h, e)))

place_room : (n i j : ℕ) → i < n → j < n → (i < j) ⊎ (j < i) → order_place i j < pair_count n
place_room n i j one other (inl below) = subst (λ b. (if b then pair_place i j else pair_place j i) < pair_count n) (sym (lower i j below)) (omega (arith, row_above j n other, below))
place_room n i j one other (inr above) = subst (λ b. (if b then pair_place i j else pair_place j i) < pair_count n) (sym (higher i j above)) (omega (arith, row_above i n one, above))

-- where its number stands
pub order_inside : (f : Form) (cells : List ℤ) (p : Seq) (ms : List Itv) (start i j k : ℕ) → AreCells f cells → p.0 < length f.members → ms ≡ members_at f p → start ≡ 5 * length f.sizes + pairs_before f.members p.0 → i < length ms → j < length ms → (i < j) ⊎ (j < i)
    → k ≡ order_place i j → start + k < length cells
order_inside f cells p ms start i j k are within is first one other apart at =
    let room : order_place i j < pair_count (length (members_at f p)) = subst (λ ns. order_place i j < pair_count (length ns)) is (place_room (length ms) i j one other apart) in
    omega (arith, are.count, pairs_room f.members p.0 within, room, at, first)

pub order_read : (f : Form) (cells : List ℤ) (p : Seq) (x y : Itv) (ms : List Itv) (start i j k : ℕ) (v : ℤ) → p.0 < length f.members → ms ≡ members_at f p → start ≡ 5 * length f.sizes + pairs_before f.members p.0 → i ≡ place_of ms x → j ≡ place_of ms y → i < length ms → j < length ms
    → k ≡ order_place i j → v ≡ number_at cells (start + k) → ((i < j) → order_from v ≡ order_in (cells_of (region_from f cells) p) x y) × ((j < i) → reversed (order_from v) ≡ order_in (cells_of (region_from f cells) p) x y)
order_read f cells p x y ms start i j k v within is first one other less more at number = (
  λ below. cell (inl below) ∙ sym (order_below s x y (subst (λ ns. place_of ns x < place_of ns y) (sym same_ms) (omega (arith, one, other, below)))),
  λ above. ap reversed (cell (inr above)) ∙ sym (order_above s x y (subst (λ ns. place_of ns y < place_of ns x) (sym same_ms) (omega (arith, one, other, above)))),
)
  where
    s : SequenceCells
    s = cells_of (region_from f cells) p

    same_ms : s.members ≡ ms
    same_ms = seen_members f cells p ∙ sym is

    sum3 : (a b c : ℕ) → a + b + c ≡ a + (b + c)
    sum3 a b c = omega arith

    cell : (i < j) ⊎ (j < i) → order_from v ≡ slice_index_or s.cells (order_place (place_of s.members x) (place_of s.members y)) Unknown
    cell apart =
        let room : order_place i j < pair_count (length (members_at f p)) = subst (λ ns. order_place i j < pair_count (length ns)) is (place_room (length ms) i j less more apart) in
        ap order_from number
        ∙ ap (λ n. order_from (number_at cells (n + k))) first
        ∙ ap (λ n. order_from (number_at cells n)) (sum3 (5 * length f.sizes) (pairs_before f.members p.0) k)
        ∙ ap (λ n. order_from (number_at cells (5 * length f.sizes + (pairs_before f.members p.0 + n)))) at
        ∙ ap order_from (sym (number_from cells (5 * length f.sizes) (pairs_before f.members p.0 + order_place i j)))
        ∙ sym (pair_read f.members (drop (5 * length f.sizes) cells) p.0 (order_place i j) within room)
        ∙ ap (λ n. slice_index_or s.cells (order_place n j) Unknown) one
        ∙ ap (λ n. slice_index_or s.cells (order_place (place_of ms x) n) Unknown) other
        ∙ ap (λ ns. slice_index_or s.cells (order_place (place_of ns x) (place_of ns y)) Unknown) (sym same_ms)

-- the place of a member, and that others have none
pub position_is : (ms ns : List Itv) (x : Itv) (k : ℕ) → ms ≡ ns → k ≡ place_of ms x → k < length ms → Some k ≡ position (same x) ns
position_is ms ns x k is at within = ap Some at ∙ found ms (omega (arith, at, within)) ∙ ap (position (same x)) is
  where
    found : (ms : List Itv) → place_of ms x < length ms → Some (place_of ms x) ≡ position (same x) ms
    found ms h = let e : ltb (place_of ms x) (length ms) ≡ true = grind (arith, nat_tests, h) in rw e refl

pub position_none : (ms ns : List Itv) (x : Itv) (k : ℕ) → ms ≡ ns → k ≡ place_of ms x → length ms ≤ k → None ≡ position (same x) ns
position_none ms ns x k is at past = none ms (omega (arith, at, past)) ∙ ap (position (same x)) is
  where
    none : (ms : List Itv) → length ms ≤ place_of ms x → None ≡ position (same x) ms
    none ms h = let e : ltb (place_of ms x) (length ms) ≡ false = grind (arith, nat_tests, h) in rw e refl

pub nowhere : (f : Form) (cells : List ℤ) (guess : Option Guess) (p : Seq) → length f.members ≤ p.0 → [] ≡ (cells_of (looked_at guess (region_from f cells)) p).members
nowhere f cells guess p past = sym (none f.members p.0 past) ∙ look_members f cells guess p
  where
    none : (mss : List (List Itv)) (n : ℕ) → length mss ≤ n → get_or mss n [] ≡ []
    none [] n h = refl
    none (ms ∷ mss) zero h = absurd (omega (arith, h))
    none (ms ∷ mss) (suc n) h = none mss n (omega (arith, h))

pub shown_order : (f : Form) (cells : List ℤ) (guess : Option Guess) (g : Guess) (t : Topic) (p : Seq) (a b : Itv) → IsLook f cells guess → guess ≡ Some g → t ≡ topic g
    → order_under t p a b (order_in (cells_of (region_from f cells) p) a b) ≡ order_in (cells_of (looked_at guess (region_from f cells)) p) a b
shown_order f cells guess g t p a b look is told =
    let admitted : admits (region_from f cells) g ≡ true = subst (λ o. passes_if_any (admits (region_from f cells)) o ≡ true) is look.admitted in
    ap (λ s. order_under s p a b (order_in (cells_of (region_from f cells) p) a b)) told
    ∙ order_is (topic g) (region_from f cells) p a b (kept_pairs f cells (topic g) look.are admitted) admitted
    ∙ sym (ap (λ o. order_in (cells_of (looked_at o (region_from f cells)) p) a b) is)

pub member_is : (ms : List Itv) (x : Itv) → is_some (position (same x) ms) ≡ has ms x
member_is ms x = decided (has ms x) refl (ltb (place_of ms x) (length ms)) refl
  where
    decided : (b : Bool) → has ms x ≡ b → (c : Bool) → ltb (place_of ms x) (length ms) ≡ c → is_some (position (same x) ms) ≡ b
    decided true h true k = rw k refl
    decided true h false k = absurd (omega (arith, place_within ms x h, at_most (place_of ms x) (length ms) k))
      where
        at_most : (i n : ℕ) → ltb i n ≡ false → n ≤ i
        at_most i n k = grind (arith, nat_tests, k)
    decided false h false k = rw k refl
    decided false h true k = absurd (clash (within_has ms x (grind (arith, nat_tests, k))) h)
      where
        clash : {b : Bool} → b ≡ true → b ≡ false → ⊥
        clash {b} h i = no (sym i ∙ h)
          where
            no : false ≡ true → ⊥
            no h = cc
