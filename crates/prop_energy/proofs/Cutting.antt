-- A cut of the rows that is over, and a set of parts that is.
use Rattle.std.specs.Prelude.{◌≡◌, ℕ, ◌+◌, ◌≤◌, ℤ, pos, ◌+ℤ◌, ◌-ℤ◌, ◌*ℤ◌, ◌≤ℤ◌, ◌<ℤ◌, Bool, true, false, if◌then◌else◌, List, [], ◌∷◌, length, map, Option, Some, None, slice_get, int_le, int_lt}
use Rattle.std.specs.List.{list_all}
use Rattle.std.proofs.Common.{refl, sym, ap, ◌∙◌, subst, arith, get_or}
use Rattle.std.proofs.lemmas.Int.{ints}
use Rattle.std.proofs.Math.IntN.{*ℤ_comm, zero-*ℤ}
use Rattle.std.proofs.lemmas.Bool.{true≢false, and_parts, and_from}
use Rattle.sched_model.specs.declared.types.Shape.{Shape}
use Rattle.sched_model.specs.declared.types.Shape.TheVariants.{Pulse, Step, PulseOf, StepAtStart, StepAtEnd}
use Rattle.sched_model.specs.declared.types.Part.{Part}
use Rattle.sched_model.specs.Bounds.{is_amount}
use Rattle.sched_model.specs.Data.{Data}
use Rattle.sched_model.specs.Valid.{IsValid, is_shape, is_itv}
use Rattle.region.specs.Cells.{Region, bounds_of}
use Rattle.region.specs.Looks.{IsRegionOf}
use Rattle.region.specs.laws.Present.{there_within}
use Rattle.task_sets.specs.Times.{Times, has, set_p, is_task_set, IsSized, size_at, sum_of, least_est, greatest_lct, rises_from}
use Rattle.task_sets.specs.laws.Sums.{load as load_by, pick, sum_in, load_mono, has_first, has_later, least_bound, greatest_bound}
use Rattle.task_sets.specs.laws.Ects.{up_from, up_has, keep, keep_has, keep_passes, keep_sum, keep_rises_all, rises_all, some_list, least_reached, greatest_reached}
use Rattle.task_sets.specs.laws.Cuts.{task_set_of, task_set_is, no_task_set}
use Rattle.refute_energy.specs.Energy.{is_bar, bar_of, is_bar_in, bar_in, is_bar_at, bar_at, is_above, overflows}
use Rattle.refute_energy.specs.laws.Bars.{window_of, bar_interval, bars_below, shape_there, fits_shape}
use Rattle.refute_energy.specs.laws.Products.{rises}
use Rattle.energy_pass.specs.declared.rows.Row.{Row}
use Rattle.energy_pass.specs.code.Rows.{IsNearRow, AreRows, counts, load, IsOver}
use Rattle.prop_energy.specs.code.Rows.{row_by, rows_of, counts_row, is_in, is_in_at}
use Rattle.prop_energy.proofs.Gathering.{IsRowOf, row_from, bar_row, fewer, load_places}

abbrev no_row : Row
no_row = record { est = pos 0; lct = pos 0; energy = pos 0 }

-- energies are neither negative nor large
pub record IsEnergy (z : ℤ) : Type 0 where
  pub from : pos 0 ≤ℤ z
  pub to : z ≤ℤ pos 1000000000000000

product_range : (h p : ℤ) → is_amount h ≡ true → pos 0 ≤ℤ p → p ≤ℤ pos 1000000000 → IsEnergy (h *ℤ p)
product_range h p amount from to =
    let low : pos 0 ≤ℤ h = grind (arith, ints, amount) in
    let high : h ≤ℤ pos 1000000 = grind (arith, ints, amount) in
    let one = rises h (pos 0) p low from in
    let two = rises h p (pos 1000000000) low to in
    let three = rises (pos 1000000000) h (pos 1000000) (omega (arith, ints)) high in
    record {
      from = above (h *ℤ pos 0) (h *ℤ p) (zero_right h) one;
      to = below (h *ℤ p) (h *ℤ pos 1000000000) (pos 1000000000 *ℤ h) (pos 1000000000 *ℤ pos 1000000) two (*ℤ_comm h (pos 1000000000)) three refl;
    }
  where
    zero_right : (h : ℤ) → (h *ℤ pos 0) ≡ pos 0
    zero_right h = *ℤ_comm h (pos 0) ∙ zero-*ℤ h

    above : (a b : ℤ) → a ≡ pos 0 → a ≤ℤ b → pos 0 ≤ℤ b
    above a b h k = omega (arith, ints, h, k)

    below : (a b c d : ℤ) → a ≤ℤ b → b ≡ c → c ≤ℤ d → d ≡ pos 1000000000000000 → a ≤ℤ pos 1000000000000000
    below a b c d h i j k = omega (arith, ints, h, i, j, k)

shape_energy : (m : Data) (r : Region) (s : Shape) → IsValid m → IsRegionOf m r → is_shape m s ≡ true → is_bar r s ≡ true → IsEnergy (bar_of r s).p
shape_energy m r (Pulse u v h) valid of shape bar = absurd (true≢false (sym bar))
shape_energy m r (Step u h) valid of shape bar = absurd (true≢false (sym bar))
shape_energy m r (StepAtStart x h) valid of shape bar = absurd (true≢false (sym bar))
shape_energy m r (StepAtEnd x h) valid of shape bar = absurd (true≢false (sym bar))
shape_energy m r (PulseOf x h) valid of shape bar =
    let window = window_of m r x valid of (there_within r x bar) in
    product_range h (bounds_of r x).pmin (and_parts (is_itv m x) (is_amount h) shape).1 window.size window.size_to

part_energy : (m : Data) (r : Region) (o : Option Part) → IsValid m → IsRegionOf m r → fits_shape m o ≡ true → is_bar_in r o ≡ true → IsEnergy (bar_in r o).p
part_energy m r None valid of shape bar = absurd (true≢false (sym bar))
part_energy m r (Some i) valid of shape bar = shape_energy m r i.shape valid of shape bar

bar_energy : (m : Data) (r : Region) (is : List Part) (k : ℕ) → IsValid m → IsRegionOf m r → list_all (λ i. is_shape m i.shape) is ≡ true → is_bar_at r is k ≡ true → IsEnergy (bar_at r is k).p
bar_energy m r is k valid of shapes bar = part_energy m r (slice_get is k) valid of (shape_there m is k shapes) bar

-- the rows of the parts of a function
pub are_rows : (m : Data) (r : Region) (is : List Part) → IsValid m → IsRegionOf m r → list_all (λ i. is_shape m i.shape) is ≡ true → length is ≤ 100000 → AreRows (rows_of r is)
are_rows m r is valid of shapes few = record {
  few = let less = fewer r is in omega (arith, less, few);
  near = λ j d within. near _ (row_from r is j d within);
}
  where
    near : (row : Row) → IsRowOf r is row → IsNearRow row
    near row h =
        let of_interval = bar_interval r is h.place h.bar in
        let window = window_of m r of_interval.x valid of (there_within r of_interval.x of_interval.there) in
        let energy = bar_energy m r is h.place valid of shapes h.bar in
        let est = of_interval.est in
        let lct = of_interval.lct in
        subst IsNearRow (sym h.same) (record {
          est = (omega (arith, ints, est, window.from), omega (arith, ints, est, window.start));
          lct = (omega (arith, ints, lct, window.end), omega (arith, ints, lct, window.to));
          energy_from = energy.from;
          energy_to = energy.to;
        })

-- a set of parts that is over makes a cut that is
energies_sized : (m : Data) (r : Region) (is : List Part) → IsValid m → IsRegionOf m r → list_all (λ i. is_shape m i.shape) is ≡ true → (k : ℕ) → pos 0 ≤ℤ (if is_bar_at r is k then (bar_at r is k).p else pos 0)
energies_sized m r is valid of shapes k = by_test (is_bar_at r is k) refl
  where
    by_test : (b : Bool) → is_bar_at r is k ≡ b → pos 0 ≤ℤ (if b then (bar_at r is k).p else pos 0)
    by_test true bar = (bar_energy m r is k valid of shapes bar).from
    by_test false none = omega (arith, ints)

-- a part that isn't such a pulse has no energy in the sums
abbrev sizes : Region → List Part → ℕ → Times
sizes r is k = record { est = pos 0; lct = pos 0; lst = pos 0; ect = pos 0; p = if is_bar_at r is k then (bar_at r is k).p else pos 0 }

counted : (r : Region) (is : List Part) (ks : List ℕ) → ((k : ℕ) → has ks k ≡ true → is_bar_at r is k ≡ true) → set_p (map (bar_at r is) ks) ≡ sum_of (sizes r is) ks
counted r is [] each = refl
counted r is (k ∷ ks) each = both _ _ _ _ (sym (ap (λ b. if b then (bar_at r is k).p else pos 0) (each k (has_first k ks)))) (counted r is ks (λ j here. each j (has_later k j ks here)))
  where
    both : (x y z w : ℤ) → x ≡ y → z ≡ w → (x +ℤ z) ≡ (y +ℤ w)
    both x y z w h k = omega (arith, ints, h, k)

-- which parts are in a cut
in_cut_bar : (r : Region) (is : List Part) (start end : ℤ) (k : ℕ) → is_in_at r is start end k ≡ true → (is_bar_at r is k ≡ true) × (counts start end (row_by (bar_at r is k)) ≡ true)
in_cut_bar r is start end k h = of_part (slice_get is k) h
  where
    of_row : (b : Bool) (row : Row) → counts_row start end (if b then Some row else None) ≡ true → (b ≡ true) × (counts start end row ≡ true)
    of_row true row h = (refl, h)
    of_row false row h = absurd (true≢false (sym h))

    of_part : (o : Option Part) → is_in r start end o ≡ true → (is_bar_in r o ≡ true) × (counts start end (row_by (bar_in r o)) ≡ true)
    of_part None h = absurd (true≢false (sym h))
    of_part (Some i) h = of_row (is_bar r i.shape) (row_by (bar_of r i.shape)) h

bar_in_cut : (r : Region) (is : List Part) (start end : ℤ) (k : ℕ) → is_bar_at r is k ≡ true → counts start end (row_by (bar_at r is k)) ≡ true → is_in_at r is start end k ≡ true
bar_in_cut r is start end k bar count = of_part (slice_get is k) bar count
  where
    of_part : (o : Option Part) → is_bar_in r o ≡ true → counts start end (row_by (bar_in r o)) ≡ true → is_in r start end o ≡ true
    of_part None bar count = absurd (true≢false (sym bar))
    of_part (Some i) bar count = ap (λ b. counts_row start end (if b then Some (row_by (bar_of r i.shape)) else None)) bar ∙ count

le_true : (a b : ℤ) → a ≤ℤ b → int_le a b ≡ true
le_true a b h = grind (arith, ints, h)

le_holds : (a b : ℤ) → int_le a b ≡ true → a ≤ℤ b
le_holds a b h = grind (arith, ints, h)

-- the load of the rows, by the parts of the cut
cut_load : (r : Region) (is : List Part) (start end : ℤ) → load_by (size_at (sizes r is)) (is_in_at r is start end) (up_from 0 (length is)) ≡ load (rows_of r is) start end
cut_load r is start end = masked (up_from 0 (length is)) ∙ load_places r is start end 0 (λ k. (bar_at r is k).p) (is_in_at r is start end) (λ i. ap (λ k. (bar_at r is k).p) (same i)) (λ i. ap (is_in_at r is start end) (same i))
  where
    same : (i : ℕ) → 0 + i ≡ i
    same i = omega arith

    one : (k : ℕ) (b : Bool) → is_in_at r is start end k ≡ b → pick b (if is_bar_at r is k then (bar_at r is k).p else pos 0) ≡ pick b (bar_at r is k).p
    one k true h = ap (λ b. if b then (bar_at r is k).p else pos 0) (in_cut_bar r is start end k h).0
    one k false h = refl

    both : (x y z w : ℤ) → x ≡ y → z ≡ w → (x +ℤ z) ≡ (y +ℤ w)
    both x y z w h k = omega (arith, ints, h, k)

    masked : (xs : List ℕ) → load_by (size_at (sizes r is)) (is_in_at r is start end) xs ≡ load_by (λ k. (bar_at r is k).p) (is_in_at r is start end) xs
    masked [] = refl
    masked (x ∷ xs) = both _ _ _ _ (one x (is_in_at r is start end x) refl) (masked xs)

pub set_cuts : (m : Data) (r : Region) (is : List Part) (hi : ℤ) (s : List ℕ) → IsValid m → IsRegionOf m r → list_all (λ i. is_shape m i.shape) is ≡ true → overflows r is hi s ≡ true → (start : ℤ) × (end : ℤ) × IsOver (rows_of r is) hi start end
set_cuts m r is hi [] valid of shapes over = absurd (no_task_set (is_bar_at r is) (and_parts (is_task_set (is_bar_at r is) []) (is_above hi []) over).0)
set_cuts m r is hi (x ∷ xs) valid of shapes over =
    let d = bar_at r is in
    let two = and_parts (is_task_set (is_bar_at r is) (x ∷ xs)) (is_above hi (map d (x ∷ xs))) over in
    let set = task_set_of (is_bar_at r is) x xs two.0 in
    let start = least_est d x xs in
    let end = greatest_lct d x xs in
    let first = least_reached d x xs in
    let sized : IsSized (sizes r is) = record { sizes = energies_sized m r is valid of shapes } in
    let inside : (k : ℕ) → has (x ∷ xs) k ≡ true → is_in_at r is start end k ≡ true = λ k here. bar_in_cut r is start end k (set.inside k here) (and_from _ _ (le_true _ _ (least_bound d x xs k here)) (le_true _ _ (greatest_bound d x xs k here))) in
    let one = sum_in (sizes r is) (up_from 0 (length is)) x xs sized set.rises (λ k here. up_has 0 (length is) k (omega arith) (let low = bars_below r is k (set.inside k here) in omega (arith, low))) in
    let more = load_mono (size_at (sizes r is)) (has (x ∷ xs)) (is_in_at r is start end) (up_from 0 (length is)) sized.sizes inside in
    let whole = cut_load r is start end in
    let energy = counted r is (x ∷ xs) set.inside in (
      start,
      end,
      record {
        row = row_by (d first.0);
        there = bar_row r is first.0 (set.inside first.0 first.1);
        starts = first.2;
        ends = greatest_bound d x xs first.0 first.1;
        over = chain (hi *ℤ (end -ℤ start)) (set_p (map d (x ∷ xs))) _ _ _ _ two.1 energy one more whole;
      },
    )
  where
    chain : (a b c e f g : ℤ) → int_lt a b ≡ true → b ≡ c → c ≤ℤ e → e ≤ℤ f → f ≡ g → a <ℤ g
    chain a b c e f g h i j k l = let less : a <ℤ b = grind (arith, ints, h) in omega (arith, ints, less, i, j, k, l)

-- a cut that is over makes a set of parts that is
pub cut_overflows : (m : Data) (r : Region) (is : List Part) (hi start end : ℤ) → pos 0 ≤ℤ hi → IsOver (rows_of r is) hi start end → overflows r is hi (keep (is_in_at r is start end) (up_from 0 (length is))) ≡ true
cut_overflows m r is hi start end from over =
    let d = bar_at r is in
    let t = is_in_at r is start end in
    let n = length is in
    let j = over.there.0 in
    let read : get_or (rows_of r is) j over.row ≡ over.row = over.there.2 in
    let one = row_from r is j over.row over.there.1 in
    let row : over.row ≡ row_by (d one.place) = sym read ∙ one.same in
    let starts : start ≤ℤ (d one.place).est = equal _ _ (sym over.starts ∙ ap (λ (w : Row). w.est) row) in
    let ends : (d one.place).lct ≤ℤ end = subst (λ z. z ≤ℤ end) (ap (λ (w : Row). w.lct) row) over.ends in
    let in_it : t one.place ≡ true = bar_in_cut r is start end one.place one.bar (and_from _ _ (le_true _ _ starts) (le_true _ _ ends)) in
    let some = some_list (keep t (up_from 0 n)) one.place (keep_has t (up_from 0 n) one.place (up_has 0 n one.place (omega arith) (let low = bars_below r is one.place one.bar in omega (arith, low))) in_it) in
    let k = some.0 in
    let ks = some.1 in
    let made : keep t (up_from 0 n) ≡ k ∷ ks = some.2 in
    let passes : (y : ℕ) → has (k ∷ ks) y ≡ true → t y ≡ true = λ y here. keep_passes t (up_from 0 n) y (subst (λ xs. has xs y ≡ true) (sym made) here) in
    let bars : (y : ℕ) → has (k ∷ ks) y ≡ true → is_bar_at r is y ≡ true = λ y here. (in_cut_bar r is start end y (passes y here)).0 in
    let rise : rises_from k ks ≡ true = subst (λ xs. rises_all xs ≡ true) made (keep_rises_all t 0 n) in
    let first = least_reached d k ks in
    let last = greatest_reached d k ks in
    let low : start ≤ℤ least_est d k ks = subst (λ z. start ≤ℤ z) first.2 (le_holds _ _ (and_parts (int_le start (d first.0).est) (int_le (d first.0).lct end) (in_cut_bar r is start end first.0 (passes first.0 first.1)).1).0) in
    let high : greatest_lct d k ks ≤ℤ end = subst (λ z. z ≤ℤ end) last.2 (le_holds _ _ (and_parts (int_le start (d last.0).est) (int_le (d last.0).lct end) (in_cut_bar r is start end last.0 (passes last.0 last.1)).1).1) in
    let energy : set_p (map d (k ∷ ks)) ≡ load (rows_of r is) start end = counted r is (k ∷ ks) bars ∙ (subst (λ xs. sum_of (sizes r is) xs ≡ load_by (size_at (sizes r is)) t (up_from 0 n)) made (keep_sum (sizes r is) t (up_from 0 n)) ∙ cut_load r is start end) in
    let offer : (hi *ℤ (greatest_lct d k ks -ℤ least_est d k ks)) ≤ℤ (hi *ℤ (end -ℤ start)) = rises hi (greatest_lct d k ks -ℤ least_est d k ks) (end -ℤ start) from (narrower _ _ _ _ low high) in
    subst (λ xs. overflows r is hi xs ≡ true) (sym made) (and_from (is_task_set (is_bar_at r is) (k ∷ ks)) (is_above hi (map d (k ∷ ks))) (task_set_is (is_bar_at r is) k ks (record { rises = rise; inside = bars }))
    (less_true _ _ (chain _ _ _ _ offer over.over energy)))
  where
    equal : (a b : ℤ) → a ≡ b → a ≤ℤ b
    equal a b h = omega (arith, ints, h)

    narrower : (a b s e : ℤ) → s ≤ℤ a → b ≤ℤ e → (b -ℤ a) ≤ℤ (e -ℤ s)
    narrower a b s e h k = omega (arith, ints, h, k)

    chain : (a b c e : ℤ) → a ≤ℤ b → b <ℤ c → e ≡ c → a <ℤ e
    chain a b c e h i j = omega (arith, ints, h, i, j)

    less_true : (a b : ℤ) → a <ℤ b → int_lt a b ≡ true
    less_true a b h = grind (arith, ints, h)
