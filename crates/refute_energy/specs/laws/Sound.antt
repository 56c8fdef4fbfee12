-- Where a set of energies is above what its window offers, its constraint leaves nothing better: the heights of the set, summed up
-- over the moments of the window, are at least its energy, and the levels of the function are at least those heights.
use Rattle.std.specs.Prelude.{◌≡◌, ℕ, ℤ, pos, neg_ℤ, ◌+ℤ◌, ◌-ℤ◌, ◌*ℤ◌, ◌≤ℤ◌, ◌<ℤ◌, true, not, ◌&&◌, IsTrue, List, [], ◌∷◌, map, int_le, int_lt}
use Rattle.std.specs.List.{list_all}
use Rattle.std.proofs.Common.{sym, ap, ◌∙◌, subst, arith}
use Rattle.std.proofs.lemmas.Int.{ints}
use Rattle.std.proofs.Math.IntN.{*ℤ_comm}
use Rattle.sched_base.specs.declared.ids.Cum.{Cum}
use Rattle.sched_model.specs.declared.types.Window.{Window}
use Rattle.sched_model.specs.declared.types.Window.TheVariants as window
use Rattle.sched_model.specs.declared.types.Assignment.{Assignment}
use Rattle.sched_model.specs.declared.types.Constraint.{Constraint}
use Rattle.sched_model.specs.declared.types.Constraint.TheVariants as constraint
use Rattle.sched_model.specs.Words.{is_between, total}
use Rattle.sched_model.specs.Data.{Data, horizon, parts_of}
use Rattle.sched_model.specs.Valid.{IsValid}
use Rattle.sched_model.specs.Cumulative.{is_in_window, level_at, is_level_at, shape_at}
use Rattle.sched_model.specs.laws.Words.{implied}
use Rattle.region.specs.Cells.{Region}
use Rattle.region.specs.Looks.{Seen, IsRegionOf, HasNoneOf}
use Rattle.region.specs.laws.Found.{Never, never, by_constraint}
use Rattle.region.specs.laws.Lists.{both_true}
use Rattle.region.specs.laws.Present.{IsAllowed}
use Rattle.refute_cumul.specs.laws.Levels.{valid_parts}
use Rattle.task_sets.specs.Times.{set_p, is_task_set, least_est, greatest_lct}
use Rattle.task_sets.specs.laws.Sums.{has_first, least_bound, greatest_bound}
use Rattle.task_sets.specs.laws.Ects.{least_reached, greatest_reached}
use Rattle.task_sets.specs.laws.Cuts.{task_set_of, no_task_set}
use Rattle.refute_energy.specs.declared.witness.EnergyWitness.{EnergyWitness}
use Rattle.refute_energy.specs.Witness.{is_valid}
use Rattle.refute_energy.specs.Named.{named}
use Rattle.refute_energy.specs.Energy.{is_bar_at, bar_at, is_above, overflows, is_capacity, energy_of, energy_row}
use Rattle.refute_energy.specs.OnEnergy.{refutes}
use Rattle.refute_energy.specs.laws.Area.{area, area_under, area_same, area_total, count_of}
use Rattle.refute_energy.specs.laws.Bars.{height_at, bar_fits, bar_window, bar_order, bars_below, energies, heights_below, level_is}

-- at a moment of the window of all moments the level is at most the bound
level_high : (m : Data) (a : Assignment) (f : Cum) (lo hi t : ℤ) → IsTrue (is_level_at m a f window.Always lo hi t) → neg_ℤ horizon ≤ℤ t → t <ℤ horizon → level_at m a f t ≤ℤ hi
level_high m a f lo hi t h from to = high lo hi (level_at m a f t) (implied (is_in_window a window.Always t) (is_between lo hi (level_at m a f t)) h (inside t from to))
  where
    inside : (t : ℤ) → neg_ℤ horizon ≤ℤ t → t <ℤ horizon → (int_le (neg_ℤ horizon) t && int_lt t horizon) ≡ true
    inside t h k = grind (arith, ints, h, k)

    high : (lo hi z : ℤ) → is_between lo hi z ≡ true → z ≤ℤ hi
    high lo hi z h = grind (arith, ints, h)

set_never : (m : Data) (r : Region) (a : Assignment) (f : Cum) (lo hi : ℤ) (x : ℕ) (xs : List ℕ) → IsValid m → IsAllowed m r a → is_capacity hi (parts_of m f) ≡ true → overflows r (parts_of m f) hi (x ∷ xs) ≡ true
    → ((t : ℤ) → IsTrue (is_level_at m a f window.Always lo hi t)) → ⊥
set_never m r a f lo hi x xs valid ok capacity over holds =
    let is = parts_of m f in
    let d = bar_at r is in
    let plus = (both_true (int_le (pos 0) hi) (list_all (λ i. not i.minus) is) capacity).1 in
    let two = both_true (is_task_set (is_bar_at r is) (x ∷ xs)) (is_above hi (map d (x ∷ xs))) over in
    let set = task_set_of (is_bar_at r is) x xs two.0 in
    let est = least_est d x xs in
    let lct = greatest_lct d x xs in
    let first = least_reached d x xs in
    let last = greatest_reached d x xs in
    let from : neg_ℤ horizon ≤ℤ est = subst (λ z. neg_ℤ horizon ≤ℤ z) first.2 (bar_window m r is first.0 valid ok.of (set.inside first.0 first.1)).0 in
    let to : lct ≤ℤ horizon = subst (λ z. z ≤ℤ horizon) last.2 (bar_window m r is last.0 valid ok.of (set.inside last.0 last.1)).1 in
    let here = has_first x xs in
    let wide = bar_order m r a is x valid ok (set.inside x here) in
    let n = count_of (lct -ℤ est) (wide_window est lct (d x).est (d x).lct (least_bound d x xs x here) (greatest_bound d x xs x here) wide) in
    let shapes = valid_parts m f valid in
    let energy : set_p (map d (x ∷ xs)) ≤ℤ area (λ t. total (map (λ k. height_at a is k t) (x ∷ xs))) est n.0 =
    subst (λ z. z ≤ℤ area (λ t. total (map (λ k. height_at a is k t) (x ∷ xs))) est n.0) (sym (energies r is (x ∷ xs)))
    (area_total (height_at a is) (λ k. (d k).p) est n.0 (x ∷ xs) (λ k there. bar_fits m r a is k est n.0 valid ok shapes (set.inside k there)
    (record { from = least_bound d x xs k there; to = up_to est lct (d k).lct (pos n.0) n.1 (greatest_bound d x xs k there) }))) in
    let levels : area (λ t. total (map (λ k. height_at a is k t) (x ∷ xs))) est n.0 ≤ℤ area (λ t. hi) est n.0 =
    area_under (λ t. total (map (λ k. height_at a is k t) (x ∷ xs))) (λ t. hi) est n.0 (λ t low high.
    below_all (total (map (λ k. height_at a is k t) (x ∷ xs))) (total (map (λ i. shape_at a i.shape t) is)) (level_at m a f t) hi
    (heights_below m a is t x xs shapes set.rises (λ k there. bars_below r is k (set.inside k there))) (level_is a is t plus)
    (level_high m a f lo hi t (holds t) (after est t from low) (before est lct t (pos n.0) n.1 to high))) in
    let offer : area (λ t. hi) est n.0 ≡ hi *ℤ (lct -ℤ est) = area_same hi est n.0 ∙ (ap (λ z. z *ℤ hi) (sym n.1) ∙ *ℤ_comm (lct -ℤ est) hi) in
    clash (hi *ℤ (lct -ℤ est)) (set_p (map d (x ∷ xs))) _ _ two.1 energy levels offer
  where
    wide_window : (est lct e l : ℤ) → est ≤ℤ e → l ≤ℤ lct → e ≤ℤ l → pos 0 ≤ℤ (lct -ℤ est)
    wide_window est lct e l h i j = omega (arith, ints, h, i, j)

    up_to : (est lct l n : ℤ) → lct -ℤ est ≡ n → l ≤ℤ lct → l ≤ℤ (est +ℤ n)
    up_to est lct l n h i = omega (arith, ints, h, i)

    after : (est t : ℤ) → neg_ℤ horizon ≤ℤ est → est ≤ℤ t → neg_ℤ horizon ≤ℤ t
    after est t h i = omega (arith, ints, h, i)

    before : (est lct t n : ℤ) → lct -ℤ est ≡ n → lct ≤ℤ horizon → t <ℤ (est +ℤ n) → t <ℤ horizon
    before est lct t n h i j = omega (arith, ints, h, i, j)

    below_all : (a b c d : ℤ) → a ≤ℤ b → c ≡ b → c ≤ℤ d → a ≤ℤ d
    below_all a b c d h i j = omega (arith, ints, h, i, j)

    clash : (a b c d : ℤ) → int_lt a b ≡ true → b ≤ℤ c → c ≤ℤ d → d ≡ a → ⊥
    clash a b c d h i j k = let less : a <ℤ b = grind (arith, ints, h) in omega (arith, ints, less, i, j, k)

energy_never : (m : Data) (r : Region) (a : Assignment) (f : Cum) (lo hi : ℤ) (s : List ℕ) → IsValid m → IsAllowed m r a → is_capacity hi (parts_of m f) ≡ true → overflows r (parts_of m f) hi s ≡ true
    → ((t : ℤ) → IsTrue (is_level_at m a f window.Always lo hi t)) → ⊥
energy_never m r a f lo hi [] valid ok capacity over holds = no_task_set (is_bar_at r (parts_of m f)) (both_true (is_task_set (is_bar_at r (parts_of m f)) []) (is_above hi []) over).0
energy_never m r a f lo hi (x ∷ xs) valid ok capacity over holds = set_never m r a f lo hi x xs valid ok capacity over holds

in_window : (m : Data) (r : Region) (s : List ℕ) (f : Cum) (w : Window) (lo hi : ℤ) → IsValid m → energy_of m r s (constraint.CumulIn f w lo hi) ≡ true → Never m r (constraint.CumulIn f w lo hi)
in_window m r s f window.Always lo hi valid h a ok holds =
    let two = both_true (is_capacity hi (parts_of m f)) (overflows r (parts_of m f) hi s) h in energy_never m r a f lo hi s valid ok two.0 two.1 holds
in_window m r s f (window.Moments u v) lo hi valid h a ok holds = never h
in_window m r s f (window.During x) lo hi valid h a ok holds = never h

energy_one : (m : Data) (r : Region) (s : List ℕ) (d : Constraint) → IsValid m → energy_of m r s d ≡ true → Never m r d
energy_one m r s (constraint.CumulIn f w lo hi) valid h a ok holds = in_window m r s f w lo hi valid h a ok holds
energy_one m r s other valid h a ok holds = never h

pub sound_law : (m : Data) (l : Seen) (w : EnergyWitness) → IsValid m → IsRegionOf m l.region → IsTrue (refutes m l w) → HasNoneOf m (named w) l
sound_law m l w valid of h =
    by_constraint m l w.c.0 (energy_of m l.region w.parts) of (λ d is. energy_one m l.region w.parts d valid is) (both_true (is_valid w) (energy_row m l w.c.0 w.parts) h).1
