-- A constraint that deserves no number leaves the model valid, and so does what it writes without a name.
use Rattle.std.proofs.Common.{◌≡◌, ◌^◌, ℕ, ◌+◌, ℤ, pos, neg_ℤ, true, false, not, ◌&&◌, List, [], ◌∷◌, ◌++◌, length, Option, Some, None, nat_lt, int_le, refl, ap, ◌∙◌, arith}
use Rattle.std.specs.List.{list_all, list_any}
use Rattle.std.proofs.lemmas.Bool.Decides.{nat_tests}
use Rattle.std.proofs.lemmas.List.{length_push}
use Rattle.std.proofs.lemmas.Bool.{and_parts, and_from, or_parts}
use Rattle.sched_base.specs.declared.ids.Itv.{Itv}
use Rattle.sched_base.specs.declared.ids.Cum.{Cum}
use Rattle.sched_model.specs.Words.{passes_if_any}
use Rattle.sched_model.specs.Data.{Data, same, has, members_of, matrix_of, state_matrix, with_constraint}
use Rattle.sched_model.specs.Domain.{is_row}
use Rattle.sched_model.specs.Valid.{IsValid, is_within_limits, is_constraint, is_itv, is_seq, is_member, is_window, is_small, is_amount, are_parts, are_distinct, fits_types}
use Rattle.cpo_text.specs.declared.tree.Int.{Int}
use Rattle.cpo_text.specs.declared.cumul.Cumul.{Cumul}
use Rattle.cpo_text.specs.declared.tree.Hierarchy.{Hierarchy}
use Rattle.cpo_text.specs.declared.tree.Hierarchy.TheVariants.{Span, Synchronize}
use Rattle.cpo_text.specs.declared.tree.Over.{Over}
use Rattle.cpo_text.specs.declared.tree.Over.TheVariants as over
use Rattle.cpo_text.specs.declared.tree.Spaced.{Spaced}
use Rattle.cpo_text.specs.declared.tree.Extreme.{Extreme as Place}
use Rattle.cpo_text.specs.declared.tree.Extreme.TheVariants.{First, Last}
use Rattle.cpo_text.specs.declared.tree.Order.{Order}
use Rattle.cpo_text.specs.declared.tree.Order.TheVariants.{Before, Prev}
use Rattle.cpo_text.specs.declared.tree.Bound.{Bound}
use Rattle.cpo_text.specs.declared.tree.Bound.TheVariants.{AtMost, AtLeast}
use Rattle.cpo_text.specs.declared.tree.Moments.{Moments}
use Rattle.cpo_text.specs.declared.tree.Moments.TheVariants as moments
use Rattle.cpo_text.specs.declared.tree.Constrained.{Constrained}
use Rattle.cpo_text.specs.declared.tree.Constrained.TheVariants.{Between, Parts, Alternative, NoOverlap, Extreme, Ordered, Bounded, AlwaysIn, AlwaysEqual, AlwaysNoState, Holds}
use Rattle.cpo_text.specs.declared.tree.Statement.TheVariants.{Constrain}
use Rattle.cpo_elab.specs.declared.names.Sort.TheVariants.{Interval, Sequence, State}
use Rattle.cpo_elab.specs.Named.{itv_of, itvs_of, mat_of, seq_of, stf_of, some_in_cumul}
use Rattle.cpo_elab.specs.Literals.{int_of, int_or_zero, count_or_one}
use Rattle.cpo_elab.specs.Held.{some_moments, some_height, some_size, logic_held}
use Rattle.cpo_elab.specs.Elaborated.{sequence_named, cumul_named, hierarchy_of, extreme_of, order_of, bound_of, window_of, named_itself, cumul_id, constraint_of, with_unnamed, with_listed, with_written}
use Rattle.cpo_elab.specs.Judged.{is_of_other_sort, is_no_member, is_reversed, is_outside, is_negative, is_large}
use Rattle.cpo_elab.specs.Shaped.{has_operands}
use Rattle.cpo_elab.proofs.judging.Truth.{not_true}
use Rattle.cpo_elab.proofs.named.Ids.{right_itv, right_itvs, right_seq, right_stf}
use Rattle.cpo_elab.proofs.values.Amounts.{int_small, delay_small, ordered, spans, amount}
use Rattle.cpo_elab.proofs.values.Functions.{parts_well_made}
use Rattle.cpo_elab.proofs.values.Expressions.{expr_made}
use Rattle.cpo_elab.proofs.adding.Extends.{Extends, extends_itself, extends_cumul, window_grows}
use Rattle.cpo_elab.proofs.adding.Kept.{limits_without, with_constraint_valid}
use Rattle.cpo_elab.proofs.judging.Defined.{list_valid, unnamed_valid}
use Rattle.cpo_elab.proofs.judging.Facts.{Facts}
use Rattle.cpo_elab.specs.lemmas.Names.{right_cum, lone_right}
use Rattle.base_laws.specs.laws.Truth.{all_three, all_four, all_five}

-- what a constraint writes without a name

abbrev RightCumul : Data → Cumul → Type 0
RightCumul m f = (some_in_cumul (is_of_other_sort m) f ≡ false) × (some_moments is_reversed f ≡ false) × (some_moments is_outside f ≡ false) × (some_height is_negative f ≡ false) × (some_height is_large f ≡ false)

cumul_written : (m : Data) (f : Cumul) (o : Option (List ℕ)) → IsValid m → RightCumul m f → is_within_limits (with_unnamed m f o) ≡ true → IsValid (with_unnamed m f o)
cumul_written m f (Some n) before right limits = before
cumul_written m f None before right limits = unnamed_valid m f before (parts_well_made m f before.cumuls right.0 right.1 right.2 right.3 right.4) limits

list_written : (m : Data) (p : Over) (s : Option Spaced) → IsValid m → Facts m (Constrain (NoOverlap p s)) → is_within_limits (with_listed m p) ≡ true → IsValid (with_listed m p)
list_written m (over.Named p) s before facts limits = before
list_written m (over.Listed ns) s before facts limits = list_valid m ns before (or_parts (list_any (is_of_other_sort m Interval) ns) _ facts.uses).0 facts.once facts.members limits

bounded_right : (m : Data) (f : Cumul) (b : Bound) (c : Int) → Facts m (Constrain (Bounded f b c)) → RightCumul m f
bounded_right m f b c facts = (facts.uses, facts.ordered, facts.inside, facts.signs, facts.small)

always_right : (m : Data) (f : Cumul) (w : Moments) (lo hi : Int) → Facts m (Constrain (AlwaysIn f w lo hi)) → RightCumul m f
always_right m f w lo hi facts =
    ((or_parts (some_in_cumul (is_of_other_sort m) f) _ facts.uses).0, (or_parts _ (some_moments is_reversed f) facts.ordered).1, (or_parts _ (some_moments is_outside f) facts.inside).1, facts.signs, facts.small)

pub written_valid : (m : Data) (c : Constrained) → IsValid m → Facts m (Constrain c) → IsValid (with_written m c)
written_valid m (NoOverlap p s) before facts = list_written m p s before facts (limits_without (with_written m (NoOverlap p s)) (constraint_of m (NoOverlap p s)) facts.room)
written_valid m (Bounded f b c) before facts =
    cumul_written m f (named_itself f) before (bounded_right m f b c facts) (limits_without (with_written m (Bounded f b c)) (constraint_of m (Bounded f b c)) facts.room)
written_valid m (AlwaysIn f w lo hi) before facts =
    cumul_written m f (named_itself f) before (always_right m f w lo hi facts) (limits_without (with_written m (AlwaysIn f w lo hi)) (constraint_of m (AlwaysIn f w lo hi)) facts.room)
written_valid m (Between t a b z) before facts = before
written_valid m (Parts h a ns) before facts = before
written_valid m (Alternative a ns n) before facts = before
written_valid m (Extreme e p a) before facts = before
written_valid m (Ordered o p a b) before facts = before
written_valid m (AlwaysEqual g a v aligned) before facts = before
written_valid m (AlwaysNoState g a) before facts = before
written_valid m (Holds e) before facts = before

-- the constraint itself

parts_made : (m : Data) (h : Hierarchy) (a : List ℕ) (ns : List (List ℕ)) → (is_itv m (itv_of m a) && are_parts m (itvs_of m ns)) ≡ true → is_constraint m (hierarchy_of h (itv_of m a) (itvs_of m ns)) ≡ true
parts_made m Span a ns h = h
parts_made m Synchronize a ns h = h

-- a count that isn't negative
count_small : (n : Option Int) → is_small (count_or_one n) ≡ true
count_small None = refl
count_small (Some i) = int_small i

count_there : (a : List ℕ) (ns : List (List ℕ)) (n : Option Int) → some_size is_negative (Constrain (Alternative a ns n)) ≡ false → int_le (pos 0) (count_or_one n) ≡ true
count_there a ns None h = refl
count_there a ns (Some i) h = ordered (pos 0) (int_of i) h

next_there : (n : ℕ) → nat_lt n (n + 1) ≡ true
next_there n = grind (arith, nat_tests)

pushed_there : {X : Type 0} (xs : List X) (x : X) → nat_lt (length xs) (length (xs ++ x ∷ [])) ≡ true
pushed_there xs x = ap (nat_lt (length xs)) (length_push xs x) ∙ next_there (length xs)

overlap_made : (m : Data) (p : Over) (s : Option Spaced) → Facts m (Constrain (NoOverlap p s)) → is_constraint (with_listed m p) (constraint_of m (NoOverlap p s)) ≡ true
overlap_made m (over.Named p) None facts = and_from (is_seq m (seq_of m p)) true (right_seq m p (or_parts (is_of_other_sort m Sequence p) _ facts.uses).0) refl
overlap_made m (over.Named p) (Some s) facts =
    and_from (is_seq m (seq_of m p)) (fits_types m (seq_of m p) (mat_of m s.matrix)) (right_seq m p (or_parts (is_of_other_sort m Sequence p) _ facts.uses).0) (not_true _ facts.fitting)
overlap_made m (over.Listed ns) None facts = and_from (nat_lt (length m.sequences) (length (m.sequences ++ sequence_named m None ns None ∷ []))) true (pushed_there m.sequences (sequence_named m None ns None)) refl
overlap_made m (over.Listed ns) (Some s) facts = cc facts.fitting

member_made : (m : Data) (p a : List ℕ) → is_of_other_sort m Sequence p ≡ false → is_no_member m p a ≡ false → is_member m (seq_of m p) (itv_of m a) ≡ true
member_made m p a right joins = and_from (is_seq m (seq_of m p)) (has (members_of m (seq_of m p)) (itv_of m a)) (right_seq m p right) (not_true _ joins)

extreme_made : (m : Data) (e : Place) (p a : List ℕ) → is_member m (seq_of m p) (itv_of m a) ≡ true → is_constraint m (extreme_of e (seq_of m p) (itv_of m a)) ≡ true
extreme_made m First p a h = h
extreme_made m Last p a h = h

apart : (x y : Itv) → are_distinct (x ∷ y ∷ []) ≡ true → not (same x y) ≡ true
apart x y h = (and_parts (not (same x y)) true (and_parts (not (same x y) && true) _ h).0).0

ordered_made : (m : Data) (o : Order) (p a b : List ℕ) → Facts m (Constrain (Ordered o p a b)) → is_constraint m (order_of o (seq_of m p) (itv_of m a) (itv_of m b)) ≡ true
ordered_made m o p a b facts =
    let right = (or_parts (is_of_other_sort m Sequence p) _ facts.uses).0 in
    let joins = or_parts (is_no_member m p a) (is_no_member m p b) facts.joins in
    by o (all_three (is_member m (seq_of m p) (itv_of m a)) (is_member m (seq_of m p) (itv_of m b)) (not (same (itv_of m a) (itv_of m b)))
    (member_made m p a right joins.0) (member_made m p b right joins.1) (apart (itv_of m a) (itv_of m b) facts.once)) where
      by : (o : Order) → (is_member m (seq_of m p) (itv_of m a) && is_member m (seq_of m p) (itv_of m b) && not (same (itv_of m a) (itv_of m b))) ≡ true → is_constraint m (order_of o (seq_of m p) (itv_of m a) (itv_of m b)) ≡ true
      by Before h = h
      by Prev h = h

-- the function that a cumulative expression is, or becomes

function_there : (m : Data) (f : Cumul) (o : Option (List ℕ)) → named_itself f ≡ o → some_in_cumul (is_of_other_sort m) f ≡ false → nat_lt (cumul_id m o).0 (length (with_unnamed m f o).cumuls) ≡ true
function_there m f (Some n) is right = right_cum m n (lone_right (is_of_other_sort m) f.more f.first n is right)
function_there m f None is right = pushed_there m.cumuls (cumul_named m None f)

above_least : (z : ℤ) → is_small z ≡ true → int_le (neg_ℤ (pos (2 ^ 62))) z ≡ true
above_least z h = (and_parts (int_le (neg_ℤ (pos (2 ^ 62))) z) _ h).0

below_greatest : (z : ℤ) → is_small z ≡ true → int_le z (pos (2 ^ 62)) ≡ true
below_greatest z h = (and_parts _ (int_le z (pos (2 ^ 62))) h).1

bounded_made : (m n : Data) (f : Cum) (b : Bound) (c : Int) → nat_lt f.0 (length n.cumuls) ≡ true → is_constraint n (bound_of b f (int_of c)) ≡ true
bounded_made m n f AtMost c there = all_five (nat_lt f.0 (length n.cumuls)) true true (is_small (int_of c)) _ there refl refl (int_small c) (above_least (int_of c) (int_small c))
bounded_made m n f AtLeast c there = all_five (nat_lt f.0 (length n.cumuls)) true (is_small (int_of c)) true _ there refl (int_small c) refl (below_greatest (int_of c) (int_small c))

extends_written : (m : Data) (f : Cumul) (o : Option (List ℕ)) → Extends m (with_unnamed m f o)
extends_written m f (Some n) = extends_itself m
extends_written m f None = extends_cumul (cumul_named m None f) m

window_made : (m : Data) (w : Moments) (f : Cumul) (lo hi : Int) → Facts m (Constrain (AlwaysIn f w lo hi)) → is_window m (window_of m w) ≡ true
window_made m (moments.From u v) f lo hi facts =
    spans (int_of u) (int_of v) (or_parts (is_outside (int_of u, int_of v)) _ facts.inside).0 (or_parts (is_reversed (int_of u, int_of v)) _ facts.ordered).0
window_made m (moments.During a) f lo hi facts = right_itv m a (or_parts (some_in_cumul (is_of_other_sort m) f) (is_of_other_sort m Interval a) facts.uses).1

always_made : (m : Data) (f : Cumul) (w : Moments) (lo hi : Int) → Facts m (Constrain (AlwaysIn f w lo hi)) → is_constraint (with_unnamed m f (named_itself f)) (constraint_of m (AlwaysIn f w lo hi)) ≡ true
always_made m f w lo hi facts =
    let n = with_unnamed m f (named_itself f) in
    all_five (nat_lt (cumul_id m (named_itself f)).0 (length n.cumuls)) (is_window n (window_of m w)) (is_small (int_of lo)) (is_small (int_of hi)) (int_le (int_of lo) (int_of hi))
    (function_there m f (named_itself f) refl (always_right m f w lo hi facts).0)
    (window_grows m n (extends_written m f (named_itself f)) (window_of m w) (window_made m w f lo hi facts))
    (int_small lo) (int_small hi) (ordered (int_of lo) (int_of hi) facts.levels)

constraint_made : (m : Data) (c : Constrained) → IsValid m → passes_if_any has_operands (logic_held c) ≡ true → Facts m (Constrain c) → is_constraint (with_written m c) (constraint_of m c) ≡ true
constraint_made m (Between t a b z) before shaped facts =
    let uses = or_parts (is_of_other_sort m Interval a) (is_of_other_sort m Interval b) facts.uses in
    all_three (is_itv m (itv_of m a)) (is_itv m (itv_of m b)) (is_small (int_or_zero z)) (right_itv m a uses.0) (right_itv m b uses.1) (delay_small z)
constraint_made m (Parts h a ns) before shaped facts =
    let uses = or_parts (is_of_other_sort m Interval a) (list_any (is_of_other_sort m Interval) ns) facts.uses in
    parts_made m h a ns (and_from (is_itv m (itv_of m a)) (are_parts m (itvs_of m ns)) (right_itv m a uses.0) (and_from (list_all (is_itv m) (itvs_of m ns)) (are_distinct (itvs_of m ns)) (right_itvs m ns uses.1) facts.once))
constraint_made m (Alternative a ns n) before shaped facts =
    let uses = or_parts (is_of_other_sort m Interval a) (list_any (is_of_other_sort m Interval) ns) facts.uses in
    all_four (is_itv m (itv_of m a)) (are_parts m (itvs_of m ns)) (is_small (count_or_one n)) (int_le (pos 0) (count_or_one n))
    (right_itv m a uses.0) (and_from (list_all (is_itv m) (itvs_of m ns)) (are_distinct (itvs_of m ns)) (right_itvs m ns uses.1) facts.once) (count_small n) (count_there a ns n facts.sizes)
constraint_made m (NoOverlap p s) before shaped facts = overlap_made m p s facts
constraint_made m (Extreme e p a) before shaped facts = extreme_made m e p a (member_made m p a (or_parts (is_of_other_sort m Sequence p) (is_of_other_sort m Interval a) facts.uses).0 facts.joins)
constraint_made m (Ordered o p a b) before shaped facts = ordered_made m o p a b facts
constraint_made m (Bounded f b c) before shaped facts = bounded_made m (with_unnamed m f (named_itself f)) (cumul_id m (named_itself f)) b c (function_there m f (named_itself f) refl facts.uses)
constraint_made m (AlwaysIn f w lo hi) before shaped facts = always_made m f w lo hi facts
constraint_made m (AlwaysEqual g a v aligned) before shaped facts =
    let uses = or_parts (is_of_other_sort m State g) (is_of_other_sort m Interval a) facts.uses in
    all_four (nat_lt (stf_of m g).0 (length m.states)) (is_itv m (itv_of m a)) (is_amount (int_of v)) (is_row (matrix_of m (state_matrix m (stf_of m g))) (int_of v))
    (right_stf m g uses.0) (right_itv m a uses.1) (amount (int_of v) facts.signs facts.small) (not_true _ facts.fitting)
constraint_made m (AlwaysNoState g a) before shaped facts =
    let uses = or_parts (is_of_other_sort m State g) (is_of_other_sort m Interval a) facts.uses in
    and_from (nat_lt (stf_of m g).0 (length m.states)) (is_itv m (itv_of m a)) (right_stf m g uses.0) (right_itv m a uses.1)
constraint_made m (Holds e) before shaped facts = expr_made m e facts.uses shaped facts.hull

pub constrain_valid : (m : Data) (c : Constrained) → IsValid m → passes_if_any has_operands (logic_held c) ≡ true → Facts m (Constrain c) → IsValid (with_constraint (constraint_of m c) (with_written m c))
constrain_valid m c before shaped facts = with_constraint_valid (with_written m c) (constraint_of m c) (written_valid m c before facts) (constraint_made m c before shaped facts) facts.room
