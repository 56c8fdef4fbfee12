-- On a settled region where no witness of this crate refutes, cumulative functions keep their bounds.
use Rattle.std.specs.Prelude.{◌≡◌, ℕ, ◌<◌, ℤ, pos, neg_ℤ, ◌-ℤ◌, ◌≤ℤ◌, Bool, true, false, ◌&&◌, [], length, Some, slice_get, nat_lt, int_le, int_lt}
use Rattle.std.specs.List.{list_all}
use Rattle.std.proofs.Common.{refl, sym, ap, subst, ◌∙◌, arith, get_or}
use Rattle.std.proofs.lemmas.Int.{ints}
use Rattle.std.proofs.lemmas.Bool.{true≢false, or_parts}
use Rattle.std.proofs.lemmas.Option.{slice_get_within}
use Rattle.base_laws.specs.laws.Items.{all_listed}
use Rattle.base_laws.specs.laws.Truth.{three_true, all_three, other_fails}
use Rattle.sched_base.specs.declared.ids.Cum.{Cum}
use Rattle.sched_model.specs.declared.types.IntervalDef.{IntervalDef}
use Rattle.sched_model.specs.declared.types.Slot.{Slot}
use Rattle.sched_model.specs.declared.types.Slot.TheVariants as slot
use Rattle.sched_model.specs.declared.types.Window.{Window}
use Rattle.sched_model.specs.declared.types.Window.TheVariants.{Always, Moments, During}
use Rattle.sched_model.specs.declared.types.Assignment.{Assignment}
use Rattle.sched_model.specs.declared.types.Constraint.{Constraint}
use Rattle.sched_model.specs.declared.types.Constraint.TheVariants.{CumulIn}
use Rattle.sched_model.specs.Words.{passes, is_between, placewise}
use Rattle.sched_model.specs.Bounds.{is_small, is_number}
use Rattle.sched_model.specs.Data.{Data, horizon, parts_of}
use Rattle.sched_model.specs.Valid.{IsValid, is_window, is_constraint, is_interval_def, is_span_of_moments}
use Rattle.sched_model.specs.Domain.{fits_def}
use Rattle.sched_model.specs.Value.{is_here, is_present, start_or, end_or, slot_of, start_of, end_of}
use Rattle.sched_model.specs.Cumulative.{corners, is_in_window, level_at, is_level_at}
use Rattle.sched_model.specs.Sentences.{holds}
use Rattle.sched_model.specs.laws.Words.{if_implied}
use Rattle.sched_model.specs.laws.Limits.{limits_of}
use Rattle.sched_model.specs.laws.Listed.{valid_at}
use Rattle.sched_model.specs.laws.Small.{number_fits}
use Rattle.sched_model.specs.laws.Corners.{at_corners}
use Rattle.region.specs.Cells.{Region}
use Rattle.region.specs.Looks.{Seen}
use Rattle.region.specs.laws.Lists.{both_true, true_both, placewise-at, all-at}
use Rattle.region.specs.laws.OneSequence.{below_is}
use Rattle.region.specs.laws.Pinned.{IsSettledTo}
use Rattle.refute_cumul.specs.declared.witness.CumulWitness.{CumulWitness}
use Rattle.refute_cumul.specs.declared.witness.CumulWitness.TheVariants.{Point}
use Rattle.refute_cumul.specs.Levels.{level_min, level_max, is_surely_in}
use Rattle.refute_cumul.specs.Point.{leaves, point_of, point_row}
use Rattle.refute_cumul.specs.OnCumul.{refutes}
use Rattle.refute_cumul.specs.laws.Levels.{level_pinned, window_pinned, valid_parts}

-- a moment of a window is small
amid_small : (s e t : ℤ) → neg_ℤ horizon ≤ℤ s → e ≤ℤ horizon → (int_le s t && int_lt t e) ≡ true → is_small t ≡ true
amid_small s e t i j h = grind (arith, ints, i, j, h)

window_small : (u v t : ℤ) → is_span_of_moments u v ≡ true → (int_le u t && int_lt t v) ≡ true → is_small t ≡ true
window_small u v t is h = grind (arith, ints, is, h)

first_from : (lo hi z : ℤ) → is_span_of_moments lo hi ≡ true → is_between lo hi z ≡ true → neg_ℤ horizon ≤ℤ z
first_from lo hi z h i = grind (arith, ints, h, i)

last_to : (lo hi z : ℤ) → is_span_of_moments lo hi ≡ true → is_between lo hi z ≡ true → z ≤ℤ horizon
last_to lo hi z h i = grind (arith, ints, h, i)

slot_small : (d : IntervalDef) (s : Slot) (t : ℤ) → is_interval_def d ≡ true → fits_def d s ≡ true → is_here s ≡ true → (int_le (start_or (pos 0) s) t && int_lt t (end_or (pos 0) s)) ≡ true → is_small t ≡ true
slot_small d slot.Absent t valid fits here h = absurd (true≢false (sym here))
slot_small d (slot.Present s e) t valid fits here h =
    let spans = both_true (is_span_of_moments d.start_lo d.start_hi && is_span_of_moments d.end_lo d.end_hi && is_span_of_moments d.size_lo d.size_hi) (int_le (pos 0) d.size_lo) valid in
    let three = three_true (is_span_of_moments d.start_lo d.start_hi) (is_span_of_moments d.end_lo d.end_hi) (is_span_of_moments d.size_lo d.size_hi) spans.0 in
    let within = three_true (is_between d.start_lo d.start_hi s) (is_between d.end_lo d.end_hi e) (is_between d.size_lo d.size_hi (e -ℤ s)) fits in
    amid_small s e t (first_from d.start_lo d.start_hi s three.0 within.0) (last_to d.end_lo d.end_hi e three.1 within.1) h

moment_small : (m : Data) (r : Region) (a : Assignment) (w : Window) (t : ℤ) → IsValid m → IsSettledTo m r a → is_window m w ≡ true → is_in_window a w t ≡ true → is_small t ≡ true
moment_small m r a Always t valid to is h = grind (arith, ints, h)
moment_small m r a (Moments u v) t valid to is h = window_small u v t is h
moment_small m r a (During x) t valid to is h =
    let inside : x.0 < length m.intervals = below_is x.0 (length m.intervals) is in
    let three = three_true (is_present a x) (int_le (start_of a x) t) (int_lt t (end_of a x)) h in
    slot_small (get_or m.intervals x.0 no_def) (slot_of a x) t (all-at is_interval_def m.intervals x.0 no_def valid.intervals inside)
    (placewise-at fits_def m.intervals a.slots x.0 no_def slot.Absent (subst (λ ss. placewise fits_def m.intervals ss ≡ true) (sym to.slots) to.fits) inside)
    three.0 (true_both (int_le (start_of a x) t) (int_lt t (end_of a x)) three.1 three.2)
  where
    no_def : IntervalDef
    no_def = record { name = []; optional = false; start_lo = pos 0; start_hi = pos 0; end_lo = pos 0; end_hi = pos 0; size_lo = pos 0; size_hi = pos 0 }

-- a level that is neither too high nor too low is right
kept : (lo hi least z greatest : ℤ) → least ≡ z → greatest ≡ z → int_lt hi least ≡ false → int_lt greatest lo ≡ false → is_between lo hi z ≡ true
kept lo hi least z greatest h i j k = grind (arith, ints, h, i, j, k)

-- at a small moment of the window neither case of POINT refutes
silent : (m : Data) (l : Seen) (c : ℕ) (t : ℤ) (u : ℕ) (f : Cum) (w : Window) (lo hi : ℤ) → ((v : CumulWitness) → refutes m l v ≡ false) → slice_get m.constraints c ≡ Some (CumulIn f w lo hi) → is_number c ≡ true → is_small t ≡ true → is_number u ≡ true
    → is_surely_in l.region w t ≡ true → leaves l.region (parts_of m f) lo hi u t ≡ false
silent m l c t u f w lo hi none is one two three inside =
    let row : point_row m l c t u ≡ false = other_fails (is_number c && is_small t && is_number u) (point_row m l c t u) (none (Point c t u)) (all_three (is_number c) (is_small t) (is_number u) one two three) in
    other_fails (is_surely_in l.region w t) (leaves l.region (parts_of m f) lo hi u t) (sym (ap (passes (point_of m l.region t u)) is) ∙ row) inside

pub unrefuted_level : (m : Data) (l : Seen) (a : Assignment) (c : ℕ) (f : Cum) (w : Window) (lo hi : ℤ) → IsValid m → IsSettledTo m l.region a → ((v : CumulWitness) → refutes m l v ≡ false) → slice_get m.constraints c ≡ Some (CumulIn f w lo hi)
    → (t : ℤ) → is_level_at m a f w lo hi t ≡ true
unrefuted_level m l a c f w lo hi valid to none is t = if_implied (is_in_window a w t) (is_between lo hi (level_at m a f t)) (λ inside.
    let of = valid_at m m.constraints c (CumulIn f w lo hi) valid refl is in
    let window = window_of of in
    let within = slice_get_within m.constraints c (CumulIn f w lo hi) is in
    let few = (limits_of m valid.limits).constraints in
    let number = number_fits c (omega (arith, within, few)) in
    let small = moment_small m l.region a w t valid to window inside in
    let surely = window_pinned m l.region a w t to window ∙ inside in
    let one = level_pinned m l.region a (parts_of m f) t to (valid_parts m f valid) in
    kept lo hi (level_min l.region (parts_of m f) t) (level_at m a f t) (level_max l.region (parts_of m f) t) one.least one.greatest
    (or_parts (int_lt hi (level_min l.region (parts_of m f) t)) false (silent m l c t 0 f w lo hi none is number small refl surely)).0
    (silent m l c t 1 f w lo hi none is number small refl surely))
  where
    window_of : is_constraint m (CumulIn f w lo hi) ≡ true → is_window m w ≡ true
    window_of h = (both_true (nat_lt f.0 (length m.cumuls)) (is_window m w) (both_true (nat_lt f.0 (length m.cumuls) && is_window m w) (is_small lo) (both_true (nat_lt f.0 (length m.cumuls) && is_window m w && is_small lo) (is_small hi) (both_true (nat_lt f.0 (length m.cumuls) && is_window m w && is_small lo && is_small hi) (int_le lo hi) h).0).0).0).1

-- so where no witness refutes the constraint holds
pub unrefuted_bounded : (m : Data) (l : Seen) (a : Assignment) (c : ℕ) (f : Cum) (w : Window) (lo hi : ℤ) → IsValid m → IsSettledTo m l.region a → ((v : CumulWitness) → refutes m l v ≡ false) → slice_get m.constraints c ≡ Some (CumulIn f w lo hi)
    → holds m a (CumulIn f w lo hi) ≡ true
unrefuted_bounded m l a c f w lo hi valid to none is = at_corners m a f w lo hi (corners m a f w) (unrefuted_level m l a c f w lo hi valid to none is)

-- the same of all constraints: of other kinds this says nothing
abbrev pub keeps_bounds : Data → Assignment → Constraint → Bool
keeps_bounds m a (CumulIn f w lo hi) = holds m a (CumulIn f w lo hi)
keeps_bounds m a _ = true

pub all_unrefuted_hold : (m : Data) (l : Seen) (a : Assignment) → IsValid m → IsSettledTo m l.region a → ((w : CumulWitness) → refutes m l w ≡ false) → list_all (keeps_bounds m a) m.constraints ≡ true
all_unrefuted_hold m l a valid to none = all_listed (keeps_bounds m a) m.constraints kept_at
  where
    kept_at : (c : ℕ) (d : Constraint) → slice_get m.constraints c ≡ Some d → keeps_bounds m a d ≡ true
    kept_at c (CumulIn f w lo hi) here = unrefuted_bounded m l a c f w lo hi valid to none here
    kept_at c other here = refl
