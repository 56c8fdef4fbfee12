-- The text of an answer tells the answer.
use Rattle.std.specs.Prelude.{◌≡◌, ◌^◌, ◌<◌, ℕ, ℤ, true, ◌&&◌, List, [], ◌∷◌, ◌++◌, codes, Some, None}
use Rattle.std.proofs.Common.{refl, sym, ap, ◌∙◌, arith, append_assoc}
use Rattle.std.proofs.lemmas.Fmt.{decimal_injective}
use Rattle.std.specs.Fmt.{decimal}
use Rattle.sched_model.specs.declared.types.Assignment.{Assignment}
use Rattle.sched_model.specs.declared.types.Answer.{Answer}
use Rattle.sched_model.specs.declared.types.Answer.TheVariants.{Optimal, Feasible, Infeasible, Unfinished}
use Rattle.sched_model.specs.declared.types.Solved.{Solved}
use Rattle.sched_model.specs.Data.{Data}
use Rattle.sched_model.specs.Answers.{verdict_in}
use Rattle.sched_model.specs.Words.{placewise}
use Rattle.sched_model.specs.Domain.{is_in_domain, fits_def, lists_present, are_segments}
use Rattle.sched_model.specs.Valid.{IsValid, is_interval_def, is_sequence_def, is_state_def}
use Rattle.std.proofs.lemmas.Bool.{and_parts}
use Rattle.sched_model.specs.laws.Same.{same_assignment}
use Rattle.textline.specs.Lines.{Bytes, line}
use Rattle.textline.specs.Words.{is_word, are_words}
use Rattle.textline.specs.laws.Lines.{line_told, one_word}
use Rattle.textline.specs.laws.Numbers.{decimal_is_word}
use Rattle.sched_text.specs.Pieces.{at_places}
use Rattle.sched_text.specs.Answers.{slot_line, order_line, segments_line, schedule_lines, values_word, verdict_words, nodes_line, end_line, shown_schedule}
use Rattle.sched_text.specs.Values.{IsValue}
use Rattle.sched_text.specs.code.Told.{IsPrintable, AnswersAreTold}
use Rattle.sched_text.specs.laws.Values.{values_are_word, values_told, values_first}
use Rattle.sched_text.specs.laws.Places.{places_told, placewise_more}
use Rattle.sched_text.specs.laws.Names.{names_of}
use Rattle.sched_text.specs.laws.Lines.{slots_tell, orders_tell, segments_tell, spelled_slot, spelled_order, spelled_segments, is_spelled_slot, are_itvs, are_spelled_segments}

-- schedules

three_parts : (x y z w : Bytes) → (x ++ y ++ z) ++ w ≡ x ++ (y ++ (z ++ w))
three_parts x y z w = append_assoc (x ++ y) z w ∙ append_assoc x y (z ++ w)

schedules_told : (m : Data) → IsValid m → (a b : Assignment) (p q : Bytes) → is_in_domain m a ≡ true → is_in_domain m b ≡ true → schedule_lines m a ++ p ≡ schedule_lines m b ++ q → (a ≡ b) × (p ≡ q)
schedules_told m valid a b p q ha hb e =
    let h2 = and_parts (placewise fits_def m.intervals a.slots && placewise (lists_present a) m.sequences a.orders) (placewise (are_segments m) m.states a.segs) ha in
    let h1 = and_parts (placewise fits_def m.intervals a.slots) (placewise (lists_present a) m.sequences a.orders) h2.0 in
    let k2 = and_parts (placewise fits_def m.intervals b.slots && placewise (lists_present b) m.sequences b.orders) (placewise (are_segments m) m.states b.segs) hb in
    let k1 = and_parts (placewise fits_def m.intervals b.slots) (placewise (lists_present b) m.sequences b.orders) k2.0 in
    let whole = sym (three_parts (at_places slot_line 0 m.intervals a.slots) (at_places (order_line m) 0 m.sequences a.orders) (at_places segments_line 0 m.states a.segs) p)
    ∙ e ∙ three_parts (at_places slot_line 0 m.intervals b.slots) (at_places (order_line m) 0 m.sequences b.orders) (at_places segments_line 0 m.states b.segs) q in
    let slots = places_told slot_line is_spelled_slot slots_tell 0 m.intervals a.slots b.slots _ _
    (placewise_more is_interval_def fits_def is_spelled_slot spelled_slot m.intervals a.slots valid.intervals h1.0)
    (placewise_more is_interval_def fits_def is_spelled_slot spelled_slot m.intervals b.slots valid.intervals k1.0) whole in
    let orders = places_told (order_line m) (are_itvs m) (orders_tell m (names_of m valid)) 0 m.sequences a.orders b.orders _ _
    (placewise_more (is_sequence_def m) (lists_present a) (are_itvs m) (spelled_order m a) m.sequences a.orders valid.sequences h1.1)
    (placewise_more (is_sequence_def m) (lists_present b) (are_itvs m) (spelled_order m b) m.sequences b.orders valid.sequences k1.1) slots.1 in
    let segs = places_told segments_line are_spelled_segments segments_tell 0 m.states a.segs b.segs _ _
    (placewise_more (is_state_def m) (are_segments m) are_spelled_segments (spelled_segments m) m.states a.segs valid.states h2.1)
    (placewise_more (is_state_def m) (are_segments m) are_spelled_segments (spelled_segments m) m.states b.segs valid.states k2.1) orders.1 in
    (same_assignment a b slots.0 orders.0 segs.0, segs.1)

-- verdicts

value_words : (m : Data) (w : Bytes) (v : ℤ) → IsValid m → is_word w ≡ true → IsValue m v → are_words (w ∷ values_word m v ∷ []) ≡ true
value_words m w v valid h value = one_word w (values_word m v ∷ []) h (one_word (values_word m v) [] (values_are_word m v valid value) refl)

abbrev told_words : Data → Answer → List Bytes
told_words m x = verdict_words m (verdict_in x)

verdict_is_words : (m : Data) (x : Answer) → IsValid m → IsPrintable m x → are_words (told_words m x) ≡ true
verdict_is_words m (Optimal v a) valid h = value_words m (codes "optimal") v valid refl h.0
verdict_is_words m (Feasible a) valid h = refl
verdict_is_words m Infeasible valid h = refl
verdict_is_words m (Unfinished None) valid h = refl
verdict_is_words m (Unfinished (Some va)) valid h = value_words m (codes "unfinished") va.0 valid refl h.0

verdict_first : (m : Data) (x : Answer) → (w : Bytes) × (ws : List Bytes) × (told_words m x ≡ w ∷ ws)
verdict_first m (Optimal v a) = (codes "optimal", values_word m v ∷ [], refl)
verdict_first m (Feasible a) = (codes "feasible", [], refl)
verdict_first m Infeasible = (codes "infeasible", [], refl)
verdict_first m (Unfinished None) = (codes "unfinished", codes "none" ∷ [], refl)
verdict_first m (Unfinished (Some va)) = (codes "unfinished", values_word m va.0 ∷ [], refl)

verdict_told : (m : Data) (x y : Answer) (p q : Bytes) → IsValid m → IsPrintable m x → IsPrintable m y → line (told_words m x) ++ p ≡ line (told_words m y) ++ q → (told_words m x ≡ told_words m y) × (p ≡ q)
verdict_told m x y p q valid hx hy e =
    let a = verdict_first m x in
    let b = verdict_first m y in
    let told = line_told a.0 a.1 b.0 b.1 p q (ap are_words (sym a.2) ∙ verdict_is_words m x valid hx) (ap are_words (sym b.2) ∙ verdict_is_words m y valid hy) (ap (λ ws. line ws ++ p) (sym a.2) ∙ e ∙ ap (λ ws. line ws ++ q) b.2) in
    (a.2 ∙ told.0 ∙ sym b.2, told.1)

no_value : (m : Data) (v : ℤ) → IsValid m → IsValue m v → values_word m v ≡ codes "none" → ⊥
no_value m v valid value e = absurd (omega (arith, values_first m v valid value 110 (codes "one") e))

-- two words tell the second
pub second : (a b c d : Bytes) → a ∷ b ∷ [] ≡ c ∷ d ∷ [] → b ≡ d
second a b c d e = cc

-- the first byte of the first word
abbrev tag : List Bytes → ℕ
tag ((b ∷ w) ∷ ws) = b
tag _ = 0

abbrev kind : Answer → ℕ
kind (Optimal v a) = 111
kind (Feasible a) = 102
kind Infeasible = 105
kind (Unfinished found) = 117

first_byte : (m : Data) (x : Answer) → tag (told_words m x) ≡ kind x
first_byte m (Optimal v a) = refl
first_byte m (Feasible a) = refl
first_byte m Infeasible = refl
first_byte m (Unfinished None) = refl
first_byte m (Unfinished (Some va)) = refl

abbrev found_of : ℤ → Assignment → Answer
found_of v a = Unfinished (Some (v, a))

same_answer : (m : Data) → IsValid m → (x y : Answer) (p : Bytes) → IsPrintable m x → IsPrintable m y → told_words m x ≡ told_words m y → shown_schedule m x ++ p ≡ shown_schedule m y ++ p → x ≡ y
same_answer m valid (Optimal v a) (Optimal w b) p hx hy words e =
    let number = values_told m v w valid hx.0 hy.0 (second _ _ _ _ words) in
    ap (λ z. Optimal z a) number ∙ ap (Optimal w) (schedules_told m valid a b p p hx.1 hy.1 e).0
same_answer m valid (Feasible a) (Feasible b) p hx hy words e = ap Feasible (schedules_told m valid a b p p hx hy e).0
same_answer m valid Infeasible Infeasible p hx hy words e = refl
same_answer m valid (Unfinished None) (Unfinished None) p hx hy words e = refl
same_answer m valid (Unfinished None) (Unfinished (Some vb)) p hx hy words e = absurd (no_value m vb.0 valid hy.0 (sym (second _ _ _ _ words)))
same_answer m valid (Unfinished (Some va)) (Unfinished None) p hx hy words e = absurd (no_value m va.0 valid hx.0 (second _ _ _ _ words))
same_answer m valid (Unfinished (Some va)) (Unfinished (Some vb)) p hx hy words e =
    let number = values_told m va.0 vb.0 valid hx.0 hy.0 (second _ _ _ _ words) in
    ap (λ z. found_of z va.1) number ∙ ap (found_of vb.0) (schedules_told m valid va.1 vb.1 p p hx.1 hy.1 e).0
same_answer m valid x y p _ _ words e = absurd (omega (arith, sym (first_byte m x) ∙ ap tag words ∙ first_byte m y))

nodes_told : (n k : ℕ) (p q : Bytes) → n < 2 ^ 64 → k < 2 ^ 64 → nodes_line n ++ p ≡ nodes_line k ++ q → (n ≡ k) × (p ≡ q)
nodes_told n k p q hn hk e =
    let told = line_told (codes "nodes") (decimal n ∷ []) (codes "nodes") (decimal k ∷ []) p q (one_word (codes "nodes") (decimal n ∷ []) refl (one_word (decimal n) [] (decimal_is_word n hn) refl)) (one_word (codes "nodes") (decimal k ∷ []) refl (one_word (decimal k) [] (decimal_is_word k hk) refl)) e in
    (decimal_injective n k hn hk (second _ _ _ _ told.0), told.1)

four_parts : (x y z w : Bytes) → x ++ y ++ z ++ w ≡ x ++ (y ++ (z ++ w))
four_parts x y z w = append_assoc (x ++ y) z w ∙ append_assoc x y (z ++ w)

abbrev made_solved : ℕ → Answer → Solved
made_solved n x = record { nodes = n; answer = x }

pub answers_told : AnswersAreTold
answers_told m s t valid ns nt hs ht e =
    let whole = sym (four_parts (line (told_words m s.answer)) (nodes_line s.nodes) (shown_schedule m s.answer) end_line)
    ∙ e ∙ four_parts (line (told_words m t.answer)) (nodes_line t.nodes) (shown_schedule m t.answer) end_line in
    let words = verdict_told m s.answer t.answer _ _ valid hs ht whole in
    let nodes = nodes_told s.nodes t.nodes _ _ ns nt words.1 in
    let answer = same_answer m valid s.answer t.answer end_line hs ht words.0 nodes.1 in
    ap (λ n. made_solved n s.answer) nodes.0 ∙ ap (made_solved t.nodes) answer
