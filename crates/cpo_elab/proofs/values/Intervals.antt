-- An interval whose arguments pass the tests has its three ranges in order.
use Rattle.std.proofs.Common.{◌≡◌, ℕ, pos, true, false, ◌&&◌, List, [], ◌∷◌, int_le, refl}
use Rattle.std.specs.List.{list_any}
use Rattle.std.proofs.lemmas.Bool.{and_parts, and_from, or_parts}
use Rattle.base_laws.specs.laws.Truth.{three_true, all_three}
use Rattle.sched_model.specs.declared.types.IntervalDef.{IntervalDef}
use Rattle.sched_model.specs.Words.{passes}
use Rattle.sched_model.specs.Valid.{is_span_of_moments, is_interval_def}
use Rattle.cpo_text.specs.declared.tree.Ivarg.{Ivarg}
use Rattle.cpo_text.specs.declared.tree.Ivarg.TheVariants.{Optional, Start, End, Size}
use Rattle.cpo_elab.specs.Literals.{range_of}
use Rattle.cpo_elab.specs.Elaborated.{with_ivarg, with_ivargs, plain_interval}
use Rattle.cpo_elab.specs.Held.{ivarg_range, least_size, some_range}
use Rattle.cpo_elab.specs.Judged.{is_outside, is_reversed, is_negative}
use Rattle.cpo_elab.proofs.values.Amounts.{ordered, spans}

-- the three ranges of an interval, and its least size
parts_of : (d : IntervalDef) → is_interval_def d ≡ true → (is_span_of_moments d.start_lo d.start_hi ≡ true) × (is_span_of_moments d.end_lo d.end_hi ≡ true) × (is_span_of_moments d.size_lo d.size_hi ≡ true) × (int_le (pos 0) d.size_lo ≡ true)
parts_of d h =
    let last = and_parts (is_span_of_moments d.start_lo d.start_hi && is_span_of_moments d.end_lo d.end_hi && is_span_of_moments d.size_lo d.size_hi) (int_le (pos 0) d.size_lo) h in
    let three = three_true (is_span_of_moments d.start_lo d.start_hi) (is_span_of_moments d.end_lo d.end_hi) (is_span_of_moments d.size_lo d.size_hi) last.0 in
    (three.0, three.1, three.2, last.1)

with_parts : (d : IntervalDef) → is_span_of_moments d.start_lo d.start_hi ≡ true → is_span_of_moments d.end_lo d.end_hi ≡ true → is_span_of_moments d.size_lo d.size_hi ≡ true → int_le (pos 0) d.size_lo ≡ true → is_interval_def d ≡ true
with_parts d start end size least =
    and_from (is_span_of_moments d.start_lo d.start_hi && is_span_of_moments d.end_lo d.end_hi && is_span_of_moments d.size_lo d.size_hi) (int_le (pos 0) d.size_lo)
    (all_three (is_span_of_moments d.start_lo d.start_hi) (is_span_of_moments d.end_lo d.end_hi) (is_span_of_moments d.size_lo d.size_hi) start end size) least

with_one : (d : IntervalDef) (a : Ivarg) → passes is_outside (ivarg_range a) ≡ false → passes is_reversed (ivarg_range a) ≡ false → passes is_negative (least_size a) ≡ false → is_interval_def d ≡ true → is_interval_def (with_ivarg d a) ≡ true
with_one d Optional inside turned sized before = before
with_one d (Start r) inside turned sized before = let p = parts_of d before in with_parts (with_ivarg d (Start r)) (spans (range_of r).0 (range_of r).1 inside turned) p.1 p.2 p.3
with_one d (End r) inside turned sized before = let p = parts_of d before in with_parts (with_ivarg d (End r)) p.0 (spans (range_of r).0 (range_of r).1 inside turned) p.2 p.3
with_one d (Size r) inside turned sized before = let p = parts_of d before in with_parts (with_ivarg d (Size r)) p.0 p.1 (spans (range_of r).0 (range_of r).1 inside turned) (ordered (pos 0) (range_of r).0 sized)

pub with_all : (d : IntervalDef) (args : List Ivarg) → some_range is_outside args ≡ false → some_range is_reversed args ≡ false → list_any (λ a. passes is_negative (least_size a)) args ≡ false
    → is_interval_def d ≡ true → is_interval_def (with_ivargs d args) ≡ true
with_all d [] inside turned sized before = before
with_all d (a ∷ rest) inside turned sized before =
    let i = or_parts (passes is_outside (ivarg_range a)) _ inside in
    let t = or_parts (passes is_reversed (ivarg_range a)) _ turned in
    let s = or_parts (passes is_negative (least_size a)) _ sized in
    with_all (with_ivarg d a) rest i.1 t.1 s.1 (with_one d a i.0 t.0 s.0 before)

pub plain_fits : (n : List ℕ) → is_interval_def (plain_interval n) ≡ true
plain_fits n = refl
