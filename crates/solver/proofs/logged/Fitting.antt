-- The lines of the search are lines that a log may hold.
use Rattle.std.proofs.Common.{◌≡◌, ℕ, suc, ◌+◌, ◌*◌, ◌<◌, ◌≤◌, ◌^◌, ℤ, pos, negsuc, true, List, [], ◌∷◌, ◌++◌, length, Option, Some, refl, sym, ap, subst, ◌∙◌, arith, length-append}
use Rattle.std.specs.Prelude.{◌&&◌, flat_map, map, nat_le, nat_lt, int_lt}
use Rattle.std.specs.Fmt.{decimal, signed_decimal}
use Rattle.std.specs.Int.Signed.{mag}
use Rattle.std.specs.List.{list_all, filter_map, range_with_len}
use Rattle.std.proofs.lemmas.Int.{ints}
use Rattle.std.proofs.lemmas.Bool.{ltb-true, leb-true}
use Rattle.std.proofs.lemmas.Bool.Decides.{nat_tests}
use Rattle.std.proofs.lemmas.Fmt.{length-decimal-le, length_signed_le}
use Rattle.std.proofs.lemmas.List.{length-map}
use Rattle.std.proofs.lemmas.List.Concat.{flat_map-cons}
use Rattle.sched_model.specs.declared.types.IntervalDef.{IntervalDef}
use Rattle.sched_model.specs.declared.types.Segment.{Segment}
use Rattle.sched_model.specs.declared.types.StateDef.{StateDef}
use Rattle.sched_model.specs.declared.types.Slot.{Slot}
use Rattle.sched_model.specs.declared.types.Slot.TheVariants as slot
use Rattle.sched_model.specs.Words.{placewise, pairwise, is_between}
use Rattle.sched_model.specs.Data.{Data, has, matrix_of}
use Rattle.sched_model.specs.Domain.{fits_def, is_row, is_segment, keeps_distance, are_segments, is_in_domain}
use Rattle.sched_model.specs.Sentences.{holds}
use Rattle.sched_model.specs.Solution.{is_solution}
use Rattle.sched_model.specs.laws.Small.{moments_small, moment_small, amount_small}
use Rattle.sched_model.specs.laws.Limits.{limits_of}
use Rattle.sched_model.specs.declared.types.SequenceDef.{SequenceDef}
use Rattle.sched_base.specs.declared.ids.Itv.{Itv}
use Rattle.sched_model.specs.Valid.{IsValid, is_small, is_moment, is_amount, is_itv, are_parts, are_distinct, is_interval_def, is_sequence_def, is_span_of_moments}
use Rattle.region.specs.declared.types.Guess.{Guess}
use Rattle.region.specs.declared.types.Guess.TheVariants.{Present, Absent, StartLe, StartGe, EndLe, EndGe, Before}
use Rattle.region.specs.Orders.{SequenceCells, is_before}
use Rattle.region.specs.Cells.{Region, is_there, settled_slots}
use Rattle.region.specs.Guesses.{splits}
use Rattle.region.specs.Looks.{Seen, IsRegionOf, seen_at}
use Rattle.region.specs.code.Spelled.{AreSmall}
use Rattle.region.specs.laws.Lists.{both_true, true_both, placewise-length}
use Rattle.refute_basic.specs.declared.witness.BasicWitness.{BasicWitness}
use Rattle.refute_basic.specs.declared.witness.BasicWitness.TheVariants.{Size, Arc, Cycle, Expr, Obj, Leaf}
use Rattle.refute_basic.specs.laws.Spelling.{refuting_valid}
use Rattle.refute_basic.specs.declared.arc_name.ArcName.{ArcName}
use Rattle.refute_basic.specs.Witness.{name_numbers, is_valid as is_valid_basic, is_name}
use Rattle.refute_basic.specs.Basic.{refutes, row_of}
use Rattle.refute_basic.specs.Cycle.{closes}
use Rattle.refute_hier.specs.declared.witness.HierWitness.{HierWitness}
use Rattle.refute_hier.specs.declared.witness.HierWitness.TheVariants.{Span, Alt, Sync, SeqRel}
use Rattle.refute_hier.specs.Witness.{is_valid as is_valid_hier}
use Rattle.refute_hier.specs.laws.Spelling.{refuting_valid as hier_valid}
use Rattle.refute_seq.specs.declared.witness.SeqWitness.{SeqWitness}
use Rattle.refute_seq.specs.declared.witness.SeqWitness.TheVariants.{Pair, Triple, Overload, Edge, NotEnd, Detect}
use Rattle.refute_seq.specs.Witness.{set_numbers, numbers_of as seq_numbers, is_valid as is_valid_seq}
use Rattle.refute_seq.specs.OnSequence.{refutes as seq_refutes}
use Rattle.refute_seq.specs.laws.Spelling.{refuting_valid as seq_valid, small_numbers as seq_small}
use Rattle.refute_seq.specs.laws.Few.{refuting_few}
use Rattle.refute_cumul.specs.declared.witness.CumulWitness.{CumulWitness}
use Rattle.refute_cumul.specs.declared.witness.CumulWitness.TheVariants.{Point}
use Rattle.refute_cumul.specs.Witness.{is_valid as is_valid_cumul}
use Rattle.refute_cumul.specs.laws.Spelling.{refuting_valid as cumul_valid}
use Rattle.refute_state.specs.declared.witness.StateWitness.{StateWitness}
use Rattle.refute_state.specs.declared.witness.StateWitness.TheVariants as of_states
use Rattle.refute_state.specs.Witness.{is_valid as is_valid_state}
use Rattle.refute_state.specs.laws.Spelling.{refuting_valid as state_valid}
use Rattle.refute_state.specs.code.Canonical.{stretch_of, empty_of, canonical_for, settled_segments}
use Rattle.refute_seq.specs.code.Order.{settled_order, settled_orders}
use Rattle.refute_seq.specs.laws.Placed.{ordered_few}
use Rattle.refute_seq.specs.laws.Ordered.{has_settled_in}
use Rattle.region.specs.laws.Orderly.{all_has, each_all}
use Rattle.solver.specs.code.Leaves.{settled_assignment}
use Rattle.solver.proofs.kept.Segments.{canonical_few, demands_from, demands_few}
use Rattle.kernel.specs.declared.types.Line.TheVariants.{Derive, Fail, Split, Sol, Restart}
use Rattle.kernel.specs.declared.types.Witness.{Witness}
use Rattle.kernel.specs.declared.types.Witness.TheVariants.{Basic, Hier, Seq, Cumul, State, Extra}
use Rattle.kernel.specs.Derives.{IsDerived}
use Rattle.refute_energy.specs.declared.witness.EnergyWitness.{EnergyWitness}
use Rattle.refute_energy.specs.Witness.{numbers_of as energy_numbers, is_valid as is_valid_energy}
use Rattle.refute_energy.specs.OnEnergy.{refutes as energy_refutes}
use Rattle.refute_energy.specs.laws.Spelling.{refuting_valid as energy_valid, few_numbers, small_numbers}
use Rattle.refute_energy.specs.laws.Few.{refuting_few as energy_few_places}
use Rattle.refute_seq.specs.laws.SetNumbers.{set_count}
use Rattle.logtext.specs.Extra.{LogWitness, log_numbers, log_valid}
use Rattle.logtext.specs.Lifted.{refutes_logged}
use Rattle.kernel.specs.laws.Fits.{few_intervals, few_lists, fit_admitted, fit_splitting}
use Rattle.kernel.specs.Fit.{is_count, is_id, is_fit, is_fit_guess, is_fit_slot, is_fit_order, is_fit_segment, are_fit_segments}
use Rattle.textline.specs.Lines.{Bytes, line}
use Rattle.logtext.specs.Spelling.{line_words, guess_words, witness_words, slot_words, order_words, member_word, segment_words, segments_words}
use Rattle.logtext.specs.Logs.{PlainLine, IsLine}
use Rattle.sched_model.specs.Bounds.{is_number}

-- words of at most 20 bytes
abbrev AreShort : List Bytes → Type 0
AreShort [] = Unit {0}
AreShort (w ∷ ws) = (length w ≤ 20) × AreShort ws

short_append : (vs ws : List Bytes) → AreShort vs → AreShort ws → AreShort (vs ++ ws)
short_append [] ws h k = k
short_append (v ∷ vs) ws h k = (h.0, short_append vs ws h.1 k)

line_length : (ws : List Bytes) → AreShort ws → length (line ws) ≤ 1 + 21 * length ws
line_length [] h = omega arith
line_length (w ∷ []) h = omega (arith, length-append w (10 ∷ []), h.0)
line_length (w ∷ v ∷ ws) h = omega (arith, length-append w (32 ∷ line (v ∷ ws)), h.0, line_length (v ∷ ws) h.1)

-- numbers are short words
small_mag : (z : ℤ) → is_small z ≡ true → mag z ≤ 2 ^ 62
small_mag (pos n) h = grind (arith, ints)
small_mag (negsuc n) h = grind (arith, ints)

signed_short : (z : ℤ) → is_small z ≡ true → length (signed_decimal z) ≤ 20
signed_short z h = let small = small_mag z h in length_signed_le 19 z (omega arith) (omega arith)

count_short : (n : ℕ) → is_count n ≡ true → length (decimal n) ≤ 20
count_short n h = let below : n < 2 ^ 32 = ltb-true n (2 ^ 32) h in length-decimal-le 20 n (omega arith) (omega arith) (omega arith)

-- a fit guess in words
guess_short : (g : Guess) → is_fit_guess g ≡ true → AreShort (guess_words g) × (length (guess_words g) ≤ 4)
guess_short (Present x) h = ((omega arith, (count_short x.0 h, tt)), omega arith)
guess_short (Absent x) h = ((omega arith, (count_short x.0 h, tt)), omega arith)
guess_short (StartLe x t) h = let two = both_true (is_id x) (is_small t) h in ((omega arith, (count_short x.0 two.0, (signed_short t two.1, tt))), omega arith)
guess_short (StartGe x t) h = let two = both_true (is_id x) (is_small t) h in ((omega arith, (count_short x.0 two.0, (signed_short t two.1, tt))), omega arith)
guess_short (EndLe x t) h = let two = both_true (is_id x) (is_small t) h in ((omega arith, (count_short x.0 two.0, (signed_short t two.1, tt))), omega arith)
guess_short (EndGe x t) h = let two = both_true (is_id x) (is_small t) h in ((omega arith, (count_short x.0 two.0, (signed_short t two.1, tt))), omega arith)
guess_short (Before p x y) h =
    let three = both_true _ (is_id y) h in
    let two = both_true (is_count p.0) (is_id x) three.0 in
    ((omega arith, (count_short p.0 two.0, (count_short x.0 two.1, (count_short y.0 three.1, tt)))), omega arith)

-- the names of arcs in words
names_short : (is : List ArcName) → list_all is_name is ≡ true → AreShort (map signed_decimal (flat_map name_numbers is)) × (length (map signed_decimal (flat_map name_numbers is)) ≤ 4 * length is)
names_short [] h = (tt, omega arith)
names_short (i ∷ is) h =
    let two = both_true (is_name i) (list_all is_name is) h in
    let four = both_true _ (is_number i.z) two.0 in
    let three = both_true _ (is_number i.y) four.0 in
    let pair = both_true (is_number i.kind) (is_number i.x) three.0 in
    let rest = names_short is two.1 in
    ((count_short i.kind pair.0, (count_short i.x pair.1, (count_short i.y three.1, (count_short i.z four.1, rest.0)))), omega (arith, rest.1))

-- a witness that refutes in words: a walk has 4,000 arcs at most
witness_short : (m : Data) (l : Seen) (w : BasicWitness) → refutes m l w ≡ true → AreShort (witness_words log_numbers (Basic w)) × (length (witness_words log_numbers (Basic w)) ≤ 16002)
witness_short m l (Size x) refuted = ((omega arith, (count_short x (refuting_valid m l (Size x) refuted), tt)), omega arith)
witness_short m l (Arc c d) refuted = let two = both_true (is_number c) (is_number d) (refuting_valid m l (Arc c d) refuted) in ((omega arith, (count_short c two.0, (count_short d two.1, tt))), omega arith)
witness_short m l (Cycle arcs) refuted =
    let row = (both_true (is_valid_basic (Cycle arcs)) (row_of m l (Cycle arcs)) refuted).1 in
    let few : length arcs ≤ 4000 = leb-true (length arcs) 4000 (both_true (nat_le (length arcs) 4000) (closes m l.region arcs) row).0 in
    let names = names_short arcs (both_true (is_number (2 + 4 * length arcs)) (list_all is_name arcs) (refuting_valid m l (Cycle arcs) refuted)).1 in
    ((omega arith, (count_short (length arcs) (is_count_of (length arcs) few), names.0)), omega (arith, names.1, few))
  where
    is_count_of : (n : ℕ) → n ≤ 4000 → is_count n ≡ true
    is_count_of n h = grind (arith, nat_tests)
witness_short m l (Expr c) refuted = ((omega arith, (count_short c (refuting_valid m l (Expr c) refuted), tt)), omega arith)
witness_short m l Obj refuted = ((omega arith, tt), omega arith)
witness_short m l (Leaf k u) refuted =
    let h = refuting_valid m l (Leaf k u) refuted in
    let two = both_true (is_number k) (is_number u) h in ((omega arith, (count_short k two.0, (count_short u two.1, tt))), omega arith)

hier_short : (w : HierWitness) → is_valid_hier w ≡ true → AreShort (witness_words log_numbers (Hier w)) × (length (witness_words log_numbers (Hier w)) ≤ 5)
hier_short (Span c r i) h =
    let three = both_true (is_number c && is_number r) (is_number i) h in
    let two = both_true (is_number c) (is_number r) three.0 in
    ((omega arith, (count_short c two.0, (count_short r two.1, (count_short i three.1, tt)))), omega arith)
hier_short (Alt c r i j) h =
    let four = both_true (is_number c && is_number r && is_number i) (is_number j) h in
    let three = both_true (is_number c && is_number r) (is_number i) four.0 in
    let two = both_true (is_number c) (is_number r) three.0 in
    ((omega arith, (count_short c two.0, (count_short r two.1, (count_short i three.1, (count_short j four.1, tt))))), omega arith)
hier_short (Sync c i) h =
    let two = both_true (is_number c) (is_number i) h in
    ((omega arith, (count_short c two.0, (count_short i two.1, tt))), omega arith)
hier_short (SeqRel c x) h =
    let two = both_true (is_number c) (is_number x) h in
    ((omega arith, (count_short c two.0, (count_short x two.1, tt))), omega arith)

four_short : (a b c d : ℕ) → (is_number a && is_number b && is_number c && is_number d) ≡ true → AreShort (decimal a ∷ decimal b ∷ decimal c ∷ decimal d ∷ [])
four_short a b c d h =
    let four = both_true (is_number a && is_number b && is_number c) (is_number d) h in
    let three = both_true (is_number a && is_number b) (is_number c) four.0 in
    let two = both_true (is_number a) (is_number b) three.0 in (count_short a two.0, (count_short b two.1, (count_short c three.1, (count_short d four.1, tt))))

behind_first : (z : ℤ) (zs : List ℤ) → AreSmall (z ∷ zs) → AreSmall zs
behind_first z zs small i d within = small (suc i) d (omega (arith, within))

-- small numbers are short words
numbers_short : (zs : List ℤ) → AreSmall zs → AreShort (map signed_decimal zs)
numbers_short [] small = tt
numbers_short (z ∷ zs) small = (signed_short z (small 0 z (omega arith)), numbers_short zs (λ i d within. small (suc i) d (omega (arith, within))))

seq_short : (w : SeqWitness) → is_valid_seq w ≡ true → AreShort (witness_words log_numbers (Seq w))
seq_short (Pair c a b k) h = (omega arith, four_short c a b k h)
seq_short (Triple p x y z) h = (omega arith, four_short p x y z h)
seq_short (Overload c s) h = (omega arith, numbers_short (pos c ∷ set_numbers s) (behind_first (pos 2) (pos c ∷ set_numbers s) (seq_small (Overload c s) h)))
seq_short (Edge c side i s u v) h = (omega arith, numbers_short (pos c ∷ pos side ∷ pos i ∷ (set_numbers s ++ (set_numbers u ++ set_numbers v))) (behind_first (pos 3) (pos c ∷ pos side ∷ pos i ∷ (set_numbers s ++ (set_numbers u ++ set_numbers v))) (seq_small (Edge c side i s u v) h)))
seq_short (NotEnd c side i s) h = (omega arith, numbers_short (pos c ∷ pos side ∷ pos i ∷ set_numbers s) (behind_first (pos 4) (pos c ∷ pos side ∷ pos i ∷ set_numbers s) (seq_small (NotEnd c side i s) h)))
seq_short (Detect c side i s) h = (omega arith, numbers_short (pos c ∷ pos side ∷ pos i ∷ set_numbers s) (behind_first (pos 5) (pos c ∷ pos side ∷ pos i ∷ set_numbers s) (seq_small (Detect c side i s) h)))

-- as many words as numbers
seq_words : (w : SeqWitness) → length (witness_words log_numbers (Seq w)) ≡ length (seq_numbers w)
seq_words (Pair c a b k) = refl
seq_words (Triple p x y z) = refl
seq_words (Overload c s) = ap suc (length-map (pos c ∷ set_numbers s) signed_decimal)
seq_words (Edge c side i s u v) = ap suc (length-map (pos c ∷ pos side ∷ pos i ∷ (set_numbers s ++ (set_numbers u ++ set_numbers v))) signed_decimal)
seq_words (NotEnd c side i s) = ap suc (length-map (pos c ∷ pos side ∷ pos i ∷ set_numbers s) signed_decimal)
seq_words (Detect c side i s) = ap suc (length-map (pos c ∷ pos side ∷ pos i ∷ set_numbers s) signed_decimal)

-- a witness of a sequence that refutes: each of three sets has 2,000 members at most
seq_few : (m : Data) (l : Seen) (w : SeqWitness) → IsValid m → seq_refutes m l w ≡ true → length (witness_words log_numbers (Seq w)) ≤ 6007
seq_few m l w valid h = let few = refuting_few m l w valid h in let words = seq_words w in omega (arith, few, words)

cumul_short : (w : CumulWitness) → is_valid_cumul w ≡ true → AreShort (witness_words log_numbers (Cumul w)) × (length (witness_words log_numbers (Cumul w)) ≤ 4)
cumul_short (Point c t u) h =
    let three = both_true (is_number c && is_small t) (is_number u) h in
    let two = both_true (is_number c) (is_small t) three.0 in ((omega arith, (count_short c two.0, (signed_short t two.1, (count_short u three.1, tt)))), omega arith)

state_short : (w : StateWitness) → is_valid_state w ≡ true → AreShort (witness_words log_numbers (State w)) × (length (witness_words log_numbers (State w)) ≤ 4)
state_short (of_states.State c d) h = let two = both_true (is_number c) (is_number d) h in ((omega arith, (count_short c two.0, (count_short d two.1, tt))), omega arith)
state_short (of_states.State3 c d e) h =
    let three = both_true (is_number c && is_number d) (is_number e) h in
    let two = both_true (is_number c) (is_number d) three.0 in ((omega arith, (count_short c two.0, (count_short d two.1, (count_short e three.1, tt)))), omega arith)

energy_short : (w : EnergyWitness) → is_valid_energy w ≡ true → AreShort (witness_words log_numbers (Extra w))
energy_short w h = let few = few_numbers w h in (omega arith, (count_short (length (energy_numbers w)) (grind (arith, nat_tests, few)), numbers_short (energy_numbers w) (small_numbers w h)))

-- a witness of energy that refutes names 100,000 places at most
energy_few : (m : Data) (l : Seen) (w : EnergyWitness) → IsValid m → energy_refutes m l w ≡ true → length (witness_words log_numbers (Extra w)) ≤ 100004
energy_few m l w valid h = omega (arith, energy_few_places m l w valid h, set_count w.parts, length-map (energy_numbers w) signed_decimal)

-- a line of few short words
line_is : (l : PlainLine) → is_fit log_valid l ≡ true → AreShort (line_words log_numbers l) → length (line_words log_numbers l) ≤ 200000 → IsLine log_numbers log_valid l
line_is l fit short few = record { fit = fit; text_is = refl; short = omega (arith, line_length (line_words log_numbers l) short, few) }

-- the line that begins anew
pub restart_line : IsLine log_numbers log_valid Restart
restart_line = line_is Restart refl (omega arith, tt) (omega arith)

-- a guess that splits a region is fit
pub split_line : (m : Data) (r : Region) (g : Guess) → IsValid m → IsRegionOf m r → splits r g ≡ true → IsLine log_numbers log_valid (Split g)
split_line m r g valid of h =
    let fit = fit_splitting m r g valid of h in
    let words = guess_short g fit in
    line_is (Split g) fit (omega arith, words.0) (omega (arith, words.1))

-- a witness that refutes is fit
pub fail_line : (m : Data) (l : Seen) (w : Witness LogWitness) → IsValid m → refutes_logged m l w ≡ true → IsLine log_numbers log_valid (Fail w)
fail_line m l (Basic w) valid h =
    let fit = refuting_valid m l w h in
    let words = witness_short m l w h in
    line_is (Fail (Basic w)) fit (omega arith, words.0) (omega (arith, words.1))
fail_line m l (Hier w) valid h =
    let fit = hier_valid m l w h in
    let words = hier_short w fit in
    line_is (Fail (Hier w)) fit (omega arith, words.0) (omega (arith, words.1))
fail_line m l (Seq w) valid h =
    let fit = seq_valid m l w h in
    let few = seq_few m l w valid h in
    line_is (Fail (Seq w)) fit (omega arith, seq_short w fit) (omega (arith, few))
fail_line m l (Cumul w) valid h =
    let fit = cumul_valid m l w h in
    let words = cumul_short w fit in
    line_is (Fail (Cumul w)) fit (omega arith, words.0) (omega (arith, words.1))
fail_line m l (State w) valid h =
    let fit = state_valid m l w h in
    let words = state_short w fit in
    line_is (Fail (State w)) fit (omega arith, words.0) (omega (arith, words.1))
fail_line m l (Extra w) valid h =
    let fit = energy_valid m l w h in
    let words = energy_short w fit in
    line_is (Fail (Extra w)) fit (omega arith, words) (omega (arith, energy_few m l w valid h))

-- and a line that derives
pub derive_line : (m : Data) (r : Region) (best : Option ℤ) (g : Guess) (w : Witness LogWitness) → IsValid m → IsRegionOf m r → IsDerived refutes_logged m best r g w → IsLine log_numbers log_valid (Derive g w)
derive_line m r best g (Basic w) valid of is =
    let fit = refuting_valid m (seen_at r best (Some g)) w is.refuted in
    let admitted = fit_admitted m r g valid of is.admitted in
    let first = guess_short g admitted in
    let second = witness_short m (seen_at r best (Some g)) w is.refuted in
    line_is (Derive g (Basic w)) (true_both (is_fit_guess g) (is_valid_basic w) admitted fit)
    (omega arith, short_append (guess_words g) (witness_words log_numbers (Basic w)) first.0 second.0)
    (omega (arith, first.1, second.1, length-append (guess_words g) (witness_words log_numbers (Basic w))))
derive_line m r best g (Hier w) valid of is =
    let fit = hier_valid m (seen_at r best (Some g)) w is.refuted in
    let admitted = fit_admitted m r g valid of is.admitted in
    let first = guess_short g admitted in
    let second = hier_short w fit in
    line_is (Derive g (Hier w)) (true_both (is_fit_guess g) (is_valid_hier w) admitted fit)
    (omega arith, short_append (guess_words g) (witness_words log_numbers (Hier w)) first.0 second.0)
    (omega (arith, first.1, second.1, length-append (guess_words g) (witness_words log_numbers (Hier w))))
derive_line m r best g (Seq w) valid of is =
    let fit = seq_valid m (seen_at r best (Some g)) w is.refuted in
    let admitted = fit_admitted m r g valid of is.admitted in
    let first = guess_short g admitted in
    let few = seq_few m (seen_at r best (Some g)) w valid is.refuted in
    line_is (Derive g (Seq w)) (true_both (is_fit_guess g) (is_valid_seq w) admitted fit)
    (omega arith, short_append (guess_words g) (witness_words log_numbers (Seq w)) first.0 (seq_short w fit))
    (omega (arith, first.1, few, length-append (guess_words g) (witness_words log_numbers (Seq w))))
derive_line m r best g (Cumul w) valid of is =
    let fit = cumul_valid m (seen_at r best (Some g)) w is.refuted in
    let admitted = fit_admitted m r g valid of is.admitted in
    let first = guess_short g admitted in
    let second = cumul_short w fit in
    line_is (Derive g (Cumul w)) (true_both (is_fit_guess g) (is_valid_cumul w) admitted fit)
    (omega arith, short_append (guess_words g) (witness_words log_numbers (Cumul w)) first.0 second.0)
    (omega (arith, first.1, second.1, length-append (guess_words g) (witness_words log_numbers (Cumul w))))
derive_line m r best g (State w) valid of is =
    let fit = state_valid m (seen_at r best (Some g)) w is.refuted in
    let admitted = fit_admitted m r g valid of is.admitted in
    let first = guess_short g admitted in
    let second = state_short w fit in
    line_is (Derive g (State w)) (true_both (is_fit_guess g) (is_valid_state w) admitted fit)
    (omega arith, short_append (guess_words g) (witness_words log_numbers (State w)) first.0 second.0)
    (omega (arith, first.1, second.1, length-append (guess_words g) (witness_words log_numbers (State w))))
derive_line m r best g (Extra w) valid of is =
    let fit = energy_valid m (seen_at r best (Some g)) w is.refuted in
    let admitted = fit_admitted m r g valid of is.admitted in
    let first = guess_short g admitted in
    let few = energy_few m (seen_at r best (Some g)) w valid is.refuted in
    line_is (Derive g (Extra w)) (true_both (is_fit_guess g) (is_valid_energy w) admitted fit)
    (omega arith, short_append (guess_words g) (witness_words log_numbers (Extra w)) first.0 (energy_short w fit))
    (omega (arith, first.1, few, length-append (guess_words g) (witness_words log_numbers (Extra w))))

-- the slots of a solution are fit, and spelled by few short words
fit_slot : (d : IntervalDef) (s : Slot) → is_interval_def d ≡ true → fits_def d s ≡ true → is_fit_slot s ≡ true
fit_slot d slot.Absent def h = refl
fit_slot d (slot.Present s e) def h =
    let spans = (both_true _ _ (both_true _ _ def).0).0 in
    let two = both_true (is_span_of_moments d.start_lo d.start_hi) (is_span_of_moments d.end_lo d.end_hi) spans in
    let places = both_true (is_between d.start_lo d.start_hi s) (is_between d.end_lo d.end_hi e) (both_true _ _ h).0 in
    true_both (is_small s) (is_small e) (moments_small d.start_lo d.start_hi s two.0 places.0) (moments_small d.end_lo d.end_hi e two.1 places.1)

fit_slots : (ds : List IntervalDef) (ss : List Slot) → list_all is_interval_def ds ≡ true → placewise fits_def ds ss ≡ true → list_all is_fit_slot ss ≡ true
fit_slots [] [] defs h = refl
fit_slots (d ∷ ds) [] defs h = cc
fit_slots [] (s ∷ ss) defs h = cc
fit_slots (d ∷ ds) (s ∷ ss) defs h =
    let first = both_true (is_interval_def d) (list_all is_interval_def ds) defs in
    let second = both_true (fits_def d s) (placewise fits_def ds ss) h in
    true_both (is_fit_slot s) _ (fit_slot d s first.0 second.0) (fit_slots ds ss first.1 second.1)

slot_short : (s : Slot) → is_fit_slot s ≡ true → AreShort (slot_words s) × (length (slot_words s) ≤ 3)
slot_short slot.Absent h = ((omega arith, tt), omega arith)
slot_short (slot.Present s e) h = let two = both_true (is_small s) (is_small e) h in ((omega arith, (signed_short s two.0, (signed_short e two.1, tt))), omega arith)

slots_short : (ss : List Slot) → list_all is_fit_slot ss ≡ true → AreShort (flat_map slot_words ss) × (length (flat_map slot_words ss) ≤ 3 * length ss)
slots_short [] h = (tt, omega arith)
slots_short (s ∷ ss) h =
    let two = both_true (is_fit_slot s) (list_all is_fit_slot ss) h in
    let first = slot_short s two.0 in
    let rest = slots_short ss two.1 in (
      subst AreShort (sym (flat_map-cons slot_words s ss)) (short_append (slot_words s) (flat_map slot_words ss) first.0 rest.0),
      omega (arith, ap (λ (ws : List Bytes). length ws) (flat_map-cons slot_words s ss), length-append (slot_words s) (flat_map slot_words ss), first.1, rest.1),
    )

-- the orders of a solution are fit, and spelled by few short words
id_fits : (m : Data) (x : Itv) → length m.intervals ≤ 2000 → is_itv m x ≡ true → is_id x ≡ true
id_fits m x few is = number_fits x.0 (length m.intervals) few is
  where
    number_fits : (n k : ℕ) → k ≤ 2000 → nat_lt n k ≡ true → is_count n ≡ true
    number_fits n k few below = grind (arith, nat_tests)

count_fits : (n : ℕ) → n ≤ 500 → is_count n ≡ true
count_fits n few = grind (arith, nat_tests)

members_short : (xs : List Itv) → list_all is_id xs ≡ true → AreShort (map member_word xs)
members_short [] h = tt
members_short (x ∷ xs) h = let two = both_true (is_id x) (list_all is_id xs) h in (count_short x.0 two.0, members_short xs two.1)

record IsFitOrder (xs : List Itv) : Type 0 where
  fit : is_fit_order xs ≡ true
  short : AreShort (order_words xs)
  few : length (order_words xs) ≤ 502

fit_order : (m : Data) (r : Region) (d : SequenceDef) (s : SequenceCells) → length m.intervals ≤ 2000 → s.members ≡ d.members → is_sequence_def m d ≡ true → IsFitOrder (settled_order r s)
fit_order m r d s few same def =
    let two = both_true (are_parts m d.members) (nat_le (length d.members) 500) (both_true _ _ def).0 in
    let most : length (settled_order r s) ≤ 500 = omega (arith, ordered_few (is_before s) (is_there r) s.members, ap length same, leb-true (length d.members) 500 two.1) in
    let ids = each_all is_id (settled_order r s) (λ x here. id_fits m x few (all_has (is_itv m) d.members x (both_true (list_all (is_itv m) d.members) (are_distinct d.members) two.0).0 (subst (λ ms. has ms x ≡ true) same (is_one x here)))) in
    record {
      fit = true_both (is_count (length (settled_order r s))) (list_all is_id (settled_order r s)) (count_fits _ most) ids;
      short = (omega arith, (count_short (length (settled_order r s)) (count_fits _ most), members_short (settled_order r s) ids));
      few = omega (arith, most, length-map (settled_order r s) member_word);
    }
  where
    is_one : (x : Itv) → has (settled_order r s) x ≡ true → has s.members x ≡ true
    is_one x here = (both_true (has s.members x) (is_there r x) (sym (has_settled_in r s x) ∙ here)).0

record AreFitOrders (n : ℕ) (xss : List (List Itv)) : Type 0 where
  fit : list_all is_fit_order xss ≡ true
  short : AreShort (flat_map order_words xss)
  few : length (flat_map order_words xss) ≤ 502 * n

fit_orders : (m : Data) (r : Region) (ds : List SequenceDef) (ss : List SequenceCells) → length m.intervals ≤ 2000 → map (λ s. s.members) ss ≡ map (λ d. d.members) ds → list_all (is_sequence_def m) ds ≡ true → AreFitOrders (length ds) (map (settled_order r) ss)
fit_orders m r [] [] few same defs = record { fit = refl; short = tt; few = omega arith }
fit_orders m r (d ∷ ds) [] few same defs = cc
fit_orders m r [] (s ∷ ss) few same defs = cc
fit_orders m r (d ∷ ds) (s ∷ ss) few same defs =
    let two = both_true (is_sequence_def m d) (list_all (is_sequence_def m) ds) defs in
    let here : s.members ≡ d.members = cc same in
    let later : map (λ s. s.members) ss ≡ map (λ d. d.members) ds = cc same in
    let first = fit_order m r d s few here two.0 in
    let rest = fit_orders m r ds ss few later two.1 in
    let xs = settled_order r s in
    let xss = map (settled_order r) ss in
    record {
      fit = true_both (is_fit_order xs) (list_all is_fit_order xss) first.fit rest.fit;
      short = subst AreShort (sym (flat_map-cons order_words xs xss)) (short_append (order_words xs) (flat_map order_words xss) first.short rest.short);
      few = omega (arith, ap (λ (ws : List Bytes). length ws) (flat_map-cons order_words xs xss), length-append (order_words xs) (flat_map order_words xss), first.few, rest.few);
    }

-- the segments of a solution are fit, and spelled by few short words
fit_segment : (m : Data) (d : StateDef) (i : Segment) → is_segment m d i ≡ true → is_fit_segment i ≡ true
fit_segment m d i h =
    let five = both_true (int_lt i.p i.q && is_moment i.p && is_moment i.q && is_amount i.v) (is_row (matrix_of m d.matrix) i.v) h in
    let four = both_true (int_lt i.p i.q && is_moment i.p && is_moment i.q) (is_amount i.v) five.0 in
    let three = both_true (int_lt i.p i.q && is_moment i.p) (is_moment i.q) four.0 in
    let two = both_true (int_lt i.p i.q) (is_moment i.p) three.0 in
    true_both (is_small i.p && is_small i.q) (is_small i.v) (true_both (is_small i.p) (is_small i.q) (moment_small i.p two.1) (moment_small i.q three.1)) (amount_small i.v four.1)

each_segment_fits : (m : Data) (d : StateDef) (is : List Segment) → list_all (is_segment m d) is ≡ true → list_all is_fit_segment is ≡ true
each_segment_fits m d [] h = refl
each_segment_fits m d (i ∷ is) h =
    let two = both_true (is_segment m d i) (list_all (is_segment m d) is) h in true_both (is_fit_segment i) (list_all is_fit_segment is) (fit_segment m d i two.0) (each_segment_fits m d is two.1)

segments_short : (is : List Segment) → list_all is_fit_segment is ≡ true → AreShort (flat_map segment_words is) × (length (flat_map segment_words is) ≤ 3 * length is)
segments_short [] h = (tt, omega arith)
segments_short (i ∷ is) h =
    let two = both_true (is_fit_segment i) (list_all is_fit_segment is) h in
    let three = both_true (is_small i.p && is_small i.q) (is_small i.v) two.0 in
    let ends = both_true (is_small i.p) (is_small i.q) three.0 in
    let rest = segments_short is two.1 in ((signed_short i.p ends.0, (signed_short i.q ends.1, (signed_short i.v three.1, rest.0))), omega (arith, rest.1))

function_count : (n : ℕ) → n ≤ 20000 → is_count n ≡ true
function_count n few = grind (arith, nat_tests)

record AreFitFunctions (n d : ℕ) (sss : List (List Segment)) : Type 0 where
  fit : list_all are_fit_segments sss ≡ true
  short : AreShort (flat_map segments_words sss)
  few : length (flat_map segments_words sss) ≤ 2 * n + 3 * d

fit_functions : (m : Data) (ss : List Slot) (a : ℕ) (ds : List StateDef) → length m.constraints ≤ 20000 → placewise (are_segments m) ds (map (canonical_for m ss) (range_with_len a (length ds))) ≡ true
    → AreFitFunctions (length ds) (demands_from ss m.constraints a (length ds)) (map (canonical_for m ss) (range_with_len a (length ds)))
fit_functions m ss a [] few h = record { fit = refl; short = tt; few = omega arith }
fit_functions m ss a (d ∷ ds) few h =
    let is = canonical_for m ss a in
    let iss = map (canonical_for m ss) (range_with_len (a + 1) (length ds)) in
    let two = both_true (are_segments m d is) (placewise (are_segments m) ds iss) h in
    let demanded : ℕ = length (filter_map (stretch_of ss (record { 0 = a })) m.constraints) in
    let most : length is ≤ demanded = canonical_few (filter_map (stretch_of ss (record { 0 = a })) m.constraints) (filter_map (empty_of ss (record { 0 = a })) m.constraints) in
    let all : demanded ≤ length m.constraints = omega (arith, demands_few ss m.constraints a 1) in
    let each = each_segment_fits m d is (both_true (list_all (is_segment m d) is) (pairwise (keeps_distance m d) is) two.0).0 in
    let count = function_count (length is) (omega (arith, most, all, few)) in
    let words = segments_short is each in
    let rest = fit_functions m ss (a + 1) ds few two.1 in
    record {
      fit = true_both (are_fit_segments is) (list_all are_fit_segments iss) (true_both (is_count (length is)) (list_all is_fit_segment is) count each) rest.fit;
      short = subst AreShort (sym (flat_map-cons segments_words is iss)) (short_append (segments_words is) (flat_map segments_words iss) (omega arith, (count_short (length is) count, words.0)) rest.short);
      few = omega (arith, ap (λ (ws : List Bytes). length ws) (flat_map-cons segments_words is iss), length-append (segments_words is) (flat_map segments_words iss), words.1, most, rest.few);
    }

pub sol_line : (m : Data) (r : Region) → IsValid m → IsRegionOf m r → is_solution m (settled_assignment m r) ≡ true → IsLine log_numbers log_valid (Sol (settled_assignment m r))
sol_line m r valid of h =
    let domain = (both_true (is_in_domain m (settled_assignment m r)) (list_all (holds m (settled_assignment m r)) m.constraints) h).0 in
    let each : placewise fits_def m.intervals (settled_slots r) ≡ true = (both_true _ _ (both_true _ _ domain).0).0 in
    let fit = fit_slots m.intervals (settled_slots r) valid.intervals each in
    let words = slots_short (settled_slots r) fit in
    let orders = fit_orders m r m.sequences r.orders (few_intervals m valid) of.members valid.sequences in
    let constraints = (limits_of m valid.limits).constraints in
    let segments = fit_functions m (settled_slots r) 0 m.states constraints (both_true _ _ domain).1 in
    let few = few_lists m valid in
    line_is (Sol (settled_assignment m r)) (true_both _ _ (true_both _ _ fit orders.fit) segments.fit)
    (omega arith, short_append (flat_map slot_words (settled_slots r)) _ words.0 (short_append (flat_map order_words (settled_orders r)) _ orders.short segments.short))
    (omega (
      arith,
      length-append (flat_map slot_words (settled_slots r)) (flat_map order_words (settled_orders r) ++ flat_map segments_words (settled_segments m r)),
      length-append (flat_map order_words (settled_orders r)) (flat_map segments_words (settled_segments m r)),
      words.1,
      orders.few,
      segments.few,
      demands_few (settled_slots r) m.constraints 0 (length m.states),
      constraints,
      few_intervals m valid,
      few.0,
      few.1,
      placewise-length fits_def m.intervals (settled_slots r) each,
    ))
