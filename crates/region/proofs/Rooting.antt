-- The numbers of a model as declared.
use Rattle.std.specs.Prelude.{◌≡◌, ℕ, zero, suc, ◌+◌, ◌*◌, ◌≤◌, ℤ, pos, Bool, true, false, ◌&&◌, List, [], ◌∷◌, ◌++◌, map, drop, length, nat_le, nat_lt, if◌then◌else◌}
use Rattle.std.specs.List.{list_all, flat_map}
use Rattle.std.proofs.Common.{refl, sym, ap, subst, ◌∙◌, arith}
use Rattle.std.proofs.Math.ListN.{replicate}
use Rattle.std.proofs.lemmas.List.{length-map, length-append, length-replicate}
use Rattle.std.proofs.lemmas.List.Folds.{list_all-append}
use Rattle.sched_model.specs.declared.types.IntervalDef.{IntervalDef}
use Rattle.sched_model.specs.declared.types.SequenceDef.{SequenceDef}
use Rattle.sched_model.specs.Data.{Data}
use Rattle.sched_model.specs.Valid.{IsValid, is_moment, is_itv, are_parts, is_interval_def, is_sequence_def, is_span_of_moments, pair_count}
use Rattle.region.specs.declared.types.Presence.TheVariants.{Present, Maybe}
use Rattle.region.specs.declared.types.OrderCell.TheVariants.{Unknown}
use Rattle.region.specs.declared.types.SizeRange.{SizeRange}
use Rattle.trail.specs.code.Trail.{Trail}
use Rattle.region.specs.code.Held.{Held}
use Rattle.region.specs.Cells.{root_bounds, root_cells, root}
use Rattle.region.specs.code.Flat.{Form, presence_from, pairs_from, orders_from, pairs_in, bounds_from, region_from, size_range, first_numbers, form_of, root_numbers, fits_frame, is_range_of_moments, AreCells, IsKept}
use Rattle.region.specs.laws.Lists.{both_true, true_both}
use Rattle.region.proofs.Places.{pairs_more, region_is}
use Rattle.region.proofs.Kept.{held_from}

first_presence : (o : Bool) → presence_from (if o then pos 2 else pos 1) ≡ (if o then Maybe else Present)
first_presence true = refl
first_presence false = refl

first_bounds_are : (ds : List IntervalDef) (rest : List ℤ) → bounds_from (map size_range ds) (flat_map first_numbers ds ++ rest) ≡ map root_bounds ds
first_bounds_are [] rest = refl
first_bounds_are (d ∷ ds) rest =
    ap (λ p. record (root_bounds d) { presence = p } ∷ bounds_from (map size_range ds) (flat_map first_numbers ds ++ rest)) (first_presence d.optional)
    ∙ ap (λ bs. root_bounds d ∷ bs) (first_bounds_are ds rest)

first_count : (ds : List IntervalDef) → length (flat_map first_numbers ds) ≡ 5 * length (map size_range ds)
first_count [] = refl
first_count (d ∷ ds) = omega (arith, first_count ds)

first_moment : (o : Bool) → is_moment (if o then pos 2 else pos 1) ≡ true
first_moment true = refl
first_moment false = refl

-- the six ends of a declared interval
record HasEnds (d : IntervalDef) : Type 0 where
  start_lo : is_moment d.start_lo ≡ true
  start_hi : is_moment d.start_hi ≡ true
  end_lo : is_moment d.end_lo ≡ true
  end_hi : is_moment d.end_hi ≡ true
  size_lo : is_moment d.size_lo ≡ true
  size_hi : is_moment d.size_hi ≡ true

ends_of : (d : IntervalDef) → is_interval_def d ≡ true → HasEnds d
ends_of d h =
    let all = (both_true _ _ h).0 in
    let first = both_true _ (is_span_of_moments d.size_lo d.size_hi) all in
    let spans = both_true (is_span_of_moments d.start_lo d.start_hi) (is_span_of_moments d.end_lo d.end_hi) first.0 in
    let start = both_true (is_moment d.start_lo) (is_moment d.start_hi) (both_true _ _ spans.0).0 in
    let end = both_true (is_moment d.end_lo) (is_moment d.end_hi) (both_true _ _ spans.1).0 in
    let size = both_true (is_moment d.size_lo) (is_moment d.size_hi) (both_true _ _ first.1).0 in
    record { start_lo = start.0; start_hi = start.1; end_lo = end.0; end_hi = end.1; size_lo = size.0; size_hi = size.1 }

first_moments : (ds : List IntervalDef) → list_all is_interval_def ds ≡ true → list_all is_moment (flat_map first_numbers ds) ≡ true
first_moments [] h = refl
first_moments (d ∷ ds) h =
    let two = both_true (is_interval_def d) (list_all is_interval_def ds) h in
    let ends = ends_of d two.0 in
    rw (first_moment d.optional, ends.start_lo, ends.start_hi, ends.end_lo, ends.end_hi) (first_moments ds two.1)

first_ranges : (ds : List IntervalDef) → list_all is_interval_def ds ≡ true → list_all is_range_of_moments (map size_range ds) ≡ true
first_ranges [] h = refl
first_ranges (d ∷ ds) h =
    let two = both_true (is_interval_def d) (list_all is_interval_def ds) h in
    let ends = ends_of d two.0 in
    rw (ends.size_lo, ends.size_hi) (first_ranges ds two.1)

-- the orders of which nothing is known
unknown_pairs : (n k : ℕ) → n ≤ k → pairs_from n (replicate k (pos 0)) ≡ replicate n Unknown
unknown_pairs zero k room = refl
unknown_pairs (suc n) zero room = absurd (omega (arith, room))
unknown_pairs (suc n) (suc k) room = ap (λ cs. Unknown ∷ cs) (unknown_pairs n k (omega (arith, room)))

drop_zeros : (n k : ℕ) → drop n (replicate (n + k) (pos 0)) ≡ replicate k (pos 0)
drop_zeros zero k = ap (λ m. replicate m (pos 0)) (none k)
  where
    none : (k : ℕ) → 0 + k ≡ k
    none k = omega arith
drop_zeros (suc n) k = ap (λ m. drop (suc n) (replicate m (pos 0))) (more n k) ∙ drop_zeros n k
  where
    more : (n k : ℕ) → suc n + k ≡ suc (n + k)
    more n k = omega arith

first_orders : (ds : List SequenceDef) → orders_from (map (λ d. d.members) ds) (replicate (pairs_in (map (λ d. d.members) ds)) (pos 0)) ≡ map root_cells ds
first_orders [] = refl
first_orders (d ∷ ds) =
    ap (λ k. orders_from (map (λ d. d.members) (d ∷ ds)) (replicate k (pos 0))) (pairs_more d.members (map (λ d. d.members) ds))
    ∙ ap (λ cs. record { members = d.members; cells = cs } ∷ orders_from (map (λ d. d.members) ds) (drop n (replicate (n + rest) (pos 0)))) (unknown_pairs n (n + rest) (omega arith))
    ∙ ap (λ ns. root_cells d ∷ orders_from (map (λ d. d.members) ds) ns) (drop_zeros n rest)
    ∙ ap (λ ss. root_cells d ∷ ss) (first_orders ds)
  where
    n : ℕ
    n = pair_count (length d.members)

    rest : ℕ
    rest = pairs_in (map (λ d. d.members) ds)

drop_first : (xs ys : List ℤ) (n : ℕ) → n ≡ length xs → drop n (xs ++ ys) ≡ ys
drop_first [] ys n e = ap (λ k. drop k ys) e
drop_first (x ∷ xs) ys zero e = absurd (omega (arith, e))
drop_first (x ∷ xs) ys (suc n) e = drop_first xs ys n (omega (arith, e))

pub first_region : (m : Data) → region_from (form_of m) (root_numbers m) ≡ root m
first_region m =
    region_is (bounds_from (map size_range m.intervals) (root_numbers m)) (map root_bounds m.intervals) (orders_from (map (λ d. d.members) m.sequences) (drop (5 * length (map size_range m.intervals)) (root_numbers m))) (map root_cells m.sequences)
    (first_bounds_are m.intervals (replicate (pairs_in (map (λ d. d.members) m.sequences)) (pos 0)))
    (ap (orders_from (map (λ d. d.members) m.sequences)) (drop_first (flat_map first_numbers m.intervals) (replicate (pairs_in (map (λ d. d.members) m.sequences)) (pos 0)) (5 * length (map size_range m.intervals)) (sym (first_count m.intervals)))
    ∙ first_orders m.sequences)

zeros_are_moments : (n : ℕ) → list_all is_moment (replicate n (pos 0)) ≡ true
zeros_are_moments zero = refl
zeros_are_moments (suc n) = zeros_are_moments n

pub first_cells : (m : Data) → IsValid m → AreCells (form_of m) (root_numbers m)
first_cells m valid = record {
  count = length-append (flat_map first_numbers m.intervals) (replicate orders (pos 0)) ∙ ap (λ n. n + length (replicate orders (pos 0))) (first_count m.intervals) ∙ ap (λ n. 5 * length (map size_range m.intervals) + n) (length-replicate orders (pos 0));
  moments = list_all-append is_moment (flat_map first_numbers m.intervals) (replicate orders (pos 0)) ∙ true_both (list_all is_moment (flat_map first_numbers m.intervals)) (list_all is_moment (replicate orders (pos 0))) (first_moments m.intervals valid.intervals) (zeros_are_moments orders);
  ranges = first_ranges m.intervals valid.intervals;
}
  where
    orders : ℕ
    orders = pairs_in (map (λ d. d.members) m.sequences)

-- the region that they make
pub first_kept : (m : Data) (f : Form) (numbers : List ℤ) (t : Trail) (n : ℕ) → IsValid m → f ≡ form_of m → numbers ≡ root_numbers m
    → t ≡ record { list = numbers; saved = []; promised = []; spare = n } → IsKept f t
first_kept m f numbers t n valid form cells kept = rw (kept, form, cells) (record { list = first_cells m valid; saved = λ k d none. absurd (omega (arith, none)) })

pub first_view : (m : Data) (f : Form) (numbers : List ℤ) (t : Trail) (n : ℕ) → f ≡ form_of m → numbers ≡ root_numbers m
    → t ≡ record { list = numbers; saved = []; promised = []; spare = n } → held_from f t ≡ record { region = root m; saved = []; promised = []; spare = t.spare }
first_view m f numbers t n form cells kept = rw (kept, form, cells) (ap (λ r. let h : Held = record { region = r; saved = []; promised = []; spare = n } in h) (first_region m))

-- the sequences of a valid model fit the frame
all_fit : (n : ℕ) (m : Data) (ds : List SequenceDef) → n ≡ length m.intervals → list_all (is_sequence_def m) ds ≡ true → list_all (fits_frame n) ds ≡ true
all_fit n m [] e h = refl
all_fit n m (d ∷ ds) e h =
    let two = both_true (is_sequence_def m d) (list_all (is_sequence_def m) ds) h in
    let parts = both_true (are_parts m d.members && nat_le (length d.members) 500) _ two.0 in
    let first = both_true (are_parts m d.members) (nat_le (length d.members) 500) parts.0 in
    true_both (fits_frame n d) _ (true_both (nat_le (length d.members) 500) _ first.1 (subst (λ k. list_all (λ x. nat_lt x.0 k) d.members ≡ true) (sym e) (both_true (list_all (is_itv m) d.members) _ first.0).0)) (all_fit n m ds e two.1)

pub frame_fits : (m : Data) (sizes : List SizeRange) → IsValid m → sizes ≡ map size_range m.intervals → list_all (fits_frame (length sizes)) m.sequences ≡ true
frame_fits m sizes valid is = all_fit (length sizes) m m.sequences (ap length is ∙ length-map m.intervals size_range) valid.sequences

pub few_sequences : (m : Data) (sizes : List SizeRange) → IsValid m → sizes ≡ map size_range m.intervals → (nat_le (length m.sequences) 200 && list_all (fits_frame (length sizes)) m.sequences) ≡ true
few_sequences m sizes valid is =
    let h7 = both_true _ _ valid.limits in
    let h6 = both_true _ _ h7.0 in
    let h5 = both_true _ _ h6.0 in
    let h4 = both_true _ _ h5.0 in
    let h3 = both_true _ _ h4.0 in
    let h2 = both_true _ _ h3.0 in
    let h1 = both_true (nat_le (length m.intervals) 2000) (nat_le (length m.sequences) 200) h2.0 in
    true_both (nat_le (length m.sequences) 200) _ h1.1 (frame_fits m sizes valid is)

pub first_room : (ds : List IntervalDef) (sizes : List SizeRange) (numbers : List ℤ) → sizes ≡ map size_range ds → numbers ≡ flat_map first_numbers ds → length numbers ≡ 5 * length sizes
first_room ds sizes numbers ranges cells = ap length cells ∙ first_count ds ∙ ap (λ s. 5 * length s) (sym ranges)
