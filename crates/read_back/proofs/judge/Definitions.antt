-- The statement of an interval or of a matrix passes each test, and adds it.
use Rattle.std.proofs.Common.{◌≡◌, ◌*◌, ℤ, pos, Bool, true, false, List, [], ◌∷◌, ◌++◌, map, filter_map, length, nat_eq, nat_le, nat_lt, int_le, refl, sym, ap, ◌∙◌, arith}
use Rattle.std.specs.List.{list_all, list_any}
use Rattle.std.proofs.lemmas.List.{map-append}
use Rattle.std.proofs.lemmas.Int.{ints}
use Rattle.std.proofs.lemmas.Bool.{and_from, or_from, not_from_true}
use Rattle.base_laws.specs.laws.Truth.{four_true}
use Rattle.base_laws.specs.laws.Numbers.{at_most}
use Rattle.sched_model.specs.declared.types.IntervalDef.{IntervalDef}
use Rattle.sched_model.specs.declared.types.MatrixDef.{MatrixDef}
use Rattle.sched_model.specs.Data.{Data}
use Rattle.sched_model.specs.Valid.{IsValid, is_within_limits, is_interval_def, is_matrix_def, is_span_of_moments, is_amount}
use Rattle.cpo_text.specs.declared.tree.Ivarg.{Ivarg}
use Rattle.cpo_text.specs.declared.tree.Ivarg.TheVariants as ivarg
use Rattle.cpo_elab.specs.Literals.{range_of}
use Rattle.cpo_elab.specs.Held.{some_range, some_in_rows}
use Rattle.cpo_elab.specs.Elaborated.{plain_interval, with_ivargs, interval_of, matrix_named, after}
use Rattle.cpo_elab.specs.Judged.{is_negative, is_reversed, is_outside, is_large}
use Rattle.read_back.specs.Trees.{optional_args, range_tree, interval_tree, matrix_tree}
use Rattle.read_back.proofs.Truth.{not_below, same_number}
use Rattle.read_back.proofs.judge.Numbers.{span_back, span_inside, span_ordered, amount_sign, amount_size, row_trees, rows_back, row_number, rows_square, rows_pass}
use Rattle.read_back.proofs.judge.Frame.{Clean}
use Rattle.read_back.proofs.judge.Limits.{made, Fronts, front_none, front_all, front_to, made_within}
use Rattle.read_back.proofs.judge.Fresh.{Next, next_fresh, next_short, in_first, in_second}
use Rattle.read_back.proofs.Items.{item}

-- intervals

abbrev ranges : IntervalDef → List Ivarg
ranges d = ivarg.Start (range_tree d.start_lo d.start_hi) ∷ ivarg.End (range_tree d.end_lo d.end_hi) ∷ ivarg.Size (range_tree d.size_lo d.size_hi) ∷ []

past_optional : (p : Ivarg → Bool) (b : Bool) (args : List Ivarg) → p ivarg.Optional ≡ false → list_any p args ≡ false → list_any p (optional_args b ++ args) ≡ false
past_optional p true args first rest = or_from (p ivarg.Optional) _ first rest
past_optional p false args first rest = rest

record Spans (d : IntervalDef) : Type 0 where
  starts : is_span_of_moments d.start_lo d.start_hi ≡ true
  ends : is_span_of_moments d.end_lo d.end_hi ≡ true
  sizes : is_span_of_moments d.size_lo d.size_hi ≡ true
  sign : int_le (pos 0) d.size_lo ≡ true

spans : (d : IntervalDef) → is_interval_def d ≡ true → Spans d
spans d h =
    let parts = four_true (is_span_of_moments d.start_lo d.start_hi) (is_span_of_moments d.end_lo d.end_hi) (is_span_of_moments d.size_lo d.size_hi) (int_le (pos 0) d.size_lo) h in
    record { starts = parts.0; ends = parts.1; sizes = parts.2; sign = parts.3 }

ranges_pass : (test : ℤ × ℤ → Bool) → ((lo hi : ℤ) → is_span_of_moments lo hi ≡ true → test (lo, hi) ≡ false) → (d : IntervalDef) → Spans d → some_range test (optional_args d.optional ++ ranges d) ≡ false
ranges_pass test weak d s = past_optional _ d.optional (ranges d) refl
    (or_from (test (range_of (range_tree d.start_lo d.start_hi))) _ (ap test (span_back d.start_lo d.start_hi s.starts) ∙ weak d.start_lo d.start_hi s.starts)
    (or_from (test (range_of (range_tree d.end_lo d.end_hi))) _ (ap test (span_back d.end_lo d.end_hi s.ends) ∙ weak d.end_lo d.end_hi s.ends)
    (or_from (test (range_of (range_tree d.size_lo d.size_hi))) false (ap test (span_back d.size_lo d.size_hi s.sizes) ∙ weak d.size_lo d.size_hi s.sizes) refl)))

not_negative : (z : ℤ) → int_le (pos 0) z ≡ true → is_negative z ≡ false
not_negative z h = grind (arith, ints)

with_back : (d : IntervalDef) (b : Bool) → Spans d → with_ivargs (plain_interval d.name) (optional_args b ++ ranges d) ≡ record d { optional = b }
with_back d true s =
    let first = span_back d.start_lo d.start_hi s.starts in
    let second = span_back d.end_lo d.end_hi s.ends in
    let third = span_back d.size_lo d.size_hi s.sizes in
    λ i. record { name = d.name; optional = true; start_lo = (first i).0; start_hi = (first i).1; end_lo = (second i).0; end_hi = (second i).1; size_lo = (third i).0; size_hi = (third i).1 }
with_back d false s =
    let first = span_back d.start_lo d.start_hi s.starts in
    let second = span_back d.end_lo d.end_hi s.ends in
    let third = span_back d.size_lo d.size_hi s.sizes in
    λ i. record { name = d.name; optional = false; start_lo = (first i).0; start_hi = (first i).1; end_lo = (second i).0; end_hi = (second i).1; size_lo = (third i).0; size_hi = (third i).1 }

interval_back : (d : IntervalDef) → is_interval_def d ≡ true → interval_of d.name (optional_args d.optional ++ ranges d) ≡ d
interval_back d h = with_back d d.optional (spans d h)

abbrev pub at_intervals : List IntervalDef → Data
at_intervals front = made front [] [] [] [] []

next_interval : (m : Data) (front back : List IntervalDef) (d : IntervalDef) → front ++ d ∷ back ≡ m.intervals → Next (at_intervals front) m d.name
next_interval m front back d is =
    let b = map (λ d. d.name) m.matrices in
    let c = filter_map (λ d. d.name) m.sequences in
    let f = filter_map (λ d. d.name) m.cumuls in
    let e = map (λ d. d.name) m.states in
    let split = sym (ap (map (λ (d : IntervalDef). d.name)) is) ∙ map-append (λ (d : IntervalDef). d.name) front (d ∷ back) in
    record {
      later = map (λ d. d.name) back ++ b ++ c ++ f ++ e;
      are = ap (λ a. a ++ b ++ c ++ f ++ e) split ∙ in_first d.name (map (λ d. d.name) front) (map (λ d. d.name) back) b c f e;
    }

pub interval_step : (m : Data) → IsValid m → (front back : List IntervalDef) (d : IntervalDef) → front ++ d ∷ back ≡ m.intervals
    → Clean (at_intervals front) (interval_tree d) × (after (at_intervals front) (interval_tree d) ≡ at_intervals (front ++ d ∷ []))
interval_step m v front back d is =
    let here = item is_interval_def front back m.intervals d is v.intervals in
    let s = spans d here in
    let next = next_interval m front back d is in
    let made_it : after (at_intervals front) (interval_tree d) ≡ at_intervals (front ++ d ∷ []) = ap (λ d. at_intervals (front ++ d ∷ [])) (interval_back d here) in
    let fronts : Fronts (at_intervals (front ++ d ∷ [])) m = (front_to front back m.intervals d is, front_none m.matrices, front_none m.sequences, front_none m.cumuls, front_none m.states, front_none m.constraints) in (
      record {
        fresh = next_fresh m (at_intervals front) d.name v next;
        names = λ test blind. refl;
        joins = refl;
        ordered = or_from (some_range is_reversed (optional_args d.optional ++ ranges d)) false (ranges_pass is_reversed span_ordered d s) refl;
        signs = or_from (list_any _ (optional_args d.optional ++ ranges d)) false (past_optional _ d.optional (ranges d) refl
            (or_from (is_negative (range_of (range_tree d.size_lo d.size_hi)).0) false (ap (λ r. is_negative r.0) (span_back d.size_lo d.size_hi s.sizes) ∙ not_negative d.size_lo s.sign) refl)) refl;
        fitting = refl;
        once = refl;
        narrow = or_from (nat_lt 64 (length d.name)) _ (next_short m (at_intervals front) d.name v next) (or_from (some_range is_outside (optional_args d.optional ++ ranges d)) false (ranges_pass is_outside span_inside d s) refl);
        room = ap is_within_limits made_it ∙ made_within m (front ++ d ∷ []) [] [] [] [] [] v.limits fronts;
        single = refl;
        hull = refl;
        sparse = refl;
        own = refl;
      },
      made_it,
    )

-- matrices

abbrev pub at_matrices : Data → List MatrixDef → Data
at_matrices m front = made m.intervals front [] [] [] []

next_matrix : (m : Data) (front back : List MatrixDef) (d : MatrixDef) → front ++ d ∷ back ≡ m.matrices → Next (at_matrices m front) m d.name
next_matrix m front back d is =
    let a = map (λ d. d.name) m.intervals in
    let c = filter_map (λ d. d.name) m.sequences in
    let f = filter_map (λ d. d.name) m.cumuls in
    let e = map (λ d. d.name) m.states in
    let split = sym (ap (map (λ (d : MatrixDef). d.name)) is) ∙ map-append (λ (d : MatrixDef). d.name) front (d ∷ back) in
    record {
      later = map (λ d. d.name) back ++ c ++ f ++ e;
      are = ap (λ b. a ++ b ++ c ++ f ++ e) split ∙ in_second d.name a (map (λ d. d.name) front) (map (λ d. d.name) back) c f e;
    }

record Square (d : MatrixDef) : Type 0 where
  some : nat_le 1 d.size ≡ true
  few : nat_le d.size 200 ≡ true
  number : length d.cells ≡ d.size * d.size
  amounts : list_all is_amount d.cells ≡ true

square : (d : MatrixDef) → is_matrix_def d ≡ true → Square d
square d h =
    let parts = four_true (nat_le 1 d.size) (nat_le d.size 200) (nat_eq (length d.cells) (d.size * d.size)) (list_all is_amount d.cells) h in
    record { some = parts.0; few = parts.1; number = same_number (length d.cells) (d.size * d.size) parts.2; amounts = parts.3 }

matrix_back : (d : MatrixDef) → Square d → matrix_named d.name (row_trees d.size d.size d.cells) ≡ d
matrix_back d s =
    let number = row_number d.size d.size d.cells in
    let cells = rows_back d.size d.size d.cells s.number s.amounts in
    λ i. record { name = d.name; size = number i; cells = cells i }

pub matrix_step : (m : Data) → IsValid m → (front back : List MatrixDef) (d : MatrixDef) → front ++ d ∷ back ≡ m.matrices
    → Clean (at_matrices m front) (matrix_tree d) × (after (at_matrices m front) (matrix_tree d) ≡ at_matrices m (front ++ d ∷ []))
matrix_step m v front back d is =
    let s = square d (item is_matrix_def front back m.matrices d is v.matrices) in
    let next = next_matrix m front back d is in
    let rows = row_trees d.size d.size d.cells in
    let number = row_number d.size d.size d.cells in
    let made_it : after (at_matrices m front) (matrix_tree d) ≡ at_matrices m (front ++ d ∷ []) = ap (λ d. at_matrices m (front ++ d ∷ [])) (matrix_back d s) in
    let fronts : Fronts (at_matrices m (front ++ d ∷ [])) m = (front_all m.intervals, front_to front back m.matrices d is, front_none m.sequences, front_none m.cumuls, front_none m.states, front_none m.constraints) in (
      record {
        fresh = next_fresh m (at_matrices m front) d.name v next;
        names = λ test blind. refl;
        joins = refl;
        ordered = refl;
        signs = rows_pass is_negative amount_sign d.size d.size d.cells s.amounts;
        fitting = not_from_true _ (and_from (nat_le 1 (length rows)) (list_all (λ row. nat_eq (length row) (length rows)) rows) (ap (nat_le 1) number ∙ s.some)
            (ap (λ n. list_all (λ row. nat_eq (length row) n) rows) number ∙ rows_square d.size d.size d.cells s.number));
        once = refl;
        narrow = or_from (nat_lt 64 (length d.name)) _ (next_short m (at_matrices m front) d.name v next)
            (or_from (some_in_rows is_large rows) (nat_lt 200 (length rows)) (rows_pass is_large amount_size d.size d.size d.cells s.amounts) (ap (nat_lt 200) number ∙ not_below d.size 200 (at_most d.size 200 s.few)));
        room = ap is_within_limits made_it ∙ made_within m m.intervals (front ++ d ∷ []) [] [] [] [] v.limits fronts;
        single = refl;
        hull = refl;
        sparse = refl;
        own = refl;
      },
      made_it,
    )
