-- Words tell the value that they spell.
use Rattle.std.specs.Prelude.{◌≡◌, ℕ, ◌&&◌, ℤ, true, List, [], ◌∷◌, ◌++◌, length, map, codes}
use Rattle.std.proofs.Common.{inl, inr, refl, ap, sym, ◌∙◌, arith}
use Rattle.std.proofs.lemmas.List.{append-nil}
use Rattle.std.proofs.lemmas.Bool.Decides.{nat_tests}
use Rattle.std.proofs.lemmas.Fmt.{decimal_injective}
use Rattle.std.proofs.lemmas.List.Concat.{flat_map_single}
use Rattle.std.specs.List.{list_all, flat_map}
use Rattle.std.specs.Fmt.{decimal, signed_decimal}
use Rattle.sched_base.specs.declared.ids.Itv.{Itv}
use Rattle.sched_base.specs.declared.ids.Seq.{Seq}
use Rattle.sched_model.specs.Valid.{is_small}
use Rattle.sched_model.specs.declared.types.Assignment.{Assignment}
use Rattle.sched_model.specs.declared.types.Segment.{Segment}
use Rattle.sched_model.specs.declared.types.Slot.{Slot}
use Rattle.sched_model.specs.declared.types.Slot.TheVariants as slot
use Rattle.sched_model.specs.laws.Small.{small_told}
use Rattle.sched_model.specs.laws.Same.{same_segment, same_assignment}
use Rattle.region.specs.declared.types.Guess.TheVariants.{Present, Absent, StartLe, StartGe, EndLe, EndGe, Before}
use Rattle.kernel.specs.Fit.{is_count, is_id, is_fit_guess, is_fit_slot, is_fit_order, is_fit_segment, are_fit_segments, is_fit_assignment}
use Rattle.textline.specs.Lines.{Bytes}
use Rattle.textline.specs.laws.Lines.{both_true}
use Rattle.logtext.specs.Spelling.{guess_words, slot_words, member_word, order_words, segment_words, segments_words, assignment_words}
use Rattle.logtext.specs.code.Reads.{BeginsWith, BeginsSlot, counted_ids, counted_segments}
use Rattle.logtext.specs.laws.Leads.{Tells, tag, behind, head_is, counted_told, open_told}
use Rattle.base_laws.specs.laws.Truth.{three_true}

pub count_told : (m n : ℕ) → is_count m ≡ true → is_count n ≡ true → decimal m ≡ decimal n → m ≡ n
count_told m n hm hn e = decimal_injective m n (grind (arith, nat_tests)) (grind (arith, nat_tests)) e

pub id_told : (x y : Itv) → is_id x ≡ true → is_id y ≡ true → decimal x.0 ≡ decimal y.0 → x ≡ y
id_told x y hx hy e = ap (λ n. let it : Itv = record { 0 = n } in it) (count_told x.0 y.0 hx hy e)

bound_told : (v : Bytes) (x y : Itv) (s t : ℤ) (ws vs : List Bytes) → (is_id x && is_small s) ≡ true → (is_id y && is_small t) ≡ true
    → v ∷ decimal x.0 ∷ signed_decimal s ∷ ws ≡ v ∷ decimal y.0 ∷ signed_decimal t ∷ vs → (x ≡ y) × (s ≡ t) × (ws ≡ vs)
bound_told v x y s t ws vs hx hy e =
    let h = both_true (is_id x) (is_small s) hx in
    let k = both_true (is_id y) (is_small t) hy in
    (id_told x y h.0 k.0 (cc), small_told s t h.1 k.1 (cc), cc)

sequence_told : (p q : Seq) → is_count p.0 ≡ true → is_count q.0 ≡ true → decimal p.0 ≡ decimal q.0 → p ≡ q
sequence_told p q hp hq e = ap (λ n. let it : Seq = record { 0 = n } in it) (count_told p.0 q.0 hp hq e)

pair_told : (w : Bytes) (p q : Seq) (x y u v : Itv) (ws vs : List Bytes) → (is_count p.0 && is_id x && is_id y) ≡ true → (is_count q.0 && is_id u && is_id v) ≡ true
    → w ∷ decimal p.0 ∷ decimal x.0 ∷ decimal y.0 ∷ ws ≡ w ∷ decimal q.0 ∷ decimal u.0 ∷ decimal v.0 ∷ vs → (p ≡ q) × (x ≡ u) × (y ≡ v) × (ws ≡ vs)
pair_told w p q x y u v ws vs hx hu e =
    let h = three_true (is_count p.0) (is_id x) (is_id y) hx in
    let k = three_true (is_count q.0) (is_id u) (is_id v) hu in
    (sequence_told p q h.0 k.0 (cc), id_told x u h.1 k.1 (cc), id_told y v h.2 k.2 (cc), cc)

pub guess_told : Tells guess_words is_fit_guess
guess_told (Present x) (Present y) ws vs hx hy e = let same = id_told x y hx hy (cc) in (ap Present same, cc)
guess_told (Absent x) (Absent y) ws vs hx hy e = let same = id_told x y hx hy (cc) in (ap Absent same, cc)
guess_told (StartLe x s) (StartLe y t) ws vs hx hy e = let same = bound_told (codes "SL") x y s t ws vs hx hy e in (cc, same.2)
guess_told (StartGe x s) (StartGe y t) ws vs hx hy e = let same = bound_told (codes "SG") x y s t ws vs hx hy e in (cc, same.2)
guess_told (EndLe x s) (EndLe y t) ws vs hx hy e = let same = bound_told (codes "EL") x y s t ws vs hx hy e in (cc, same.2)
guess_told (EndGe x s) (EndGe y t) ws vs hx hy e = let same = bound_told (codes "EG") x y s t ws vs hx hy e in (cc, same.2)
guess_told (Before p x y) (Before q u v) ws vs hx hy e = let same = pair_told (codes "B") p q x y u v ws vs hx hy e in (cc, same.3)
guess_told _ _ ws vs hx hy e = absurd (omega (arith, ap tag e))

pub slot_told : Tells slot_words is_fit_slot
slot_told slot.Absent slot.Absent ws vs hx hy e = (refl, cc)
slot_told (slot.Present s f) (slot.Present t g) ws vs hx hy e =
    let h = both_true (is_small s) (is_small f) hx in
    let k = both_true (is_small t) (is_small g) hy in
    let begin = small_told s t h.0 k.0 (cc) in
    let finish = small_told f g h.1 k.1 (cc) in (cc, cc)
slot_told _ _ ws vs hx hy e = absurd (omega (arith, ap tag e))

pub member_told : Tells (λ x. member_word x ∷ []) is_id
member_told x y ws vs hx hy e = (id_told x y hx hy (cc), cc)

-- numbers are told by their spellings
pub moments_told : (xs ys : List ℤ) → list_all is_small xs ≡ true → list_all is_small ys ≡ true → map signed_decimal xs ≡ map signed_decimal ys → xs ≡ ys
moments_told [] [] hx hy e = refl
moments_told [] (y ∷ ys) hx hy e = cc
moments_told (x ∷ xs) [] hx hy e = cc
moments_told (x ∷ xs) (y ∷ ys) hx hy e =
    let h = both_true (is_small x) (list_all is_small xs) hx in
    let k = both_true (is_small y) (list_all is_small ys) hy in
    let first = small_told x y h.0 k.0 (head_is _ _ _ _ e) in
    let rest = moments_told xs ys h.1 k.1 (behind _ _ _ _ e) in cc

abbrev made_segment : ℤ → ℤ → ℤ → Segment
made_segment p q v = record { p = p; q = q; v = v }

pub segment_told : Tells segment_words is_fit_segment
segment_told a b ws vs hx hy e =
    let h = three_true (is_small a.p) (is_small a.q) (is_small a.v) hx in
    let k = three_true (is_small b.p) (is_small b.q) (is_small b.v) hy in
    let p = small_told a.p b.p h.0 k.0 (cc) in
    let q = small_told a.q b.q h.1 k.1 (cc) in
    let v = small_told a.v b.v h.2 k.2 (cc) in
    (same_segment a b p q v, cc)

pub ids_told : (xs ys : List Itv) (x y : List Bytes) → list_all is_id xs ≡ true → list_all is_id ys ≡ true → length xs ≡ length ys → map member_word xs ++ x ≡ map member_word ys ++ y → (xs ≡ ys) × (x ≡ y)
ids_told xs ys x y hx hy same e =
    counted_told (λ z. member_word z ∷ []) is_id member_told xs ys x y hx hy same (ap (λ l. l ++ x) (flat_map_single member_word xs) ∙ e ∙ ap (λ l. l ++ y) (sym (flat_map_single member_word ys)))

pub order_told : Tells order_words is_fit_order
order_told xs ys ws vs hx hy e =
    let h = both_true (is_count (length xs)) (list_all is_id xs) hx in
    let k = both_true (is_count (length ys)) (list_all is_id ys) hy in
    let same = count_told (length xs) (length ys) h.0 k.0 (cc) in ids_told xs ys ws vs h.1 k.1 same (cc)

pub segments_told : Tells segments_words are_fit_segments
segments_told xs ys ws vs hx hy e =
    let h = both_true (is_count (length xs)) (list_all is_fit_segment xs) hx in
    let k = both_true (is_count (length ys)) (list_all is_fit_segment ys) hy in
    let same = count_told (length xs) (length ys) h.0 k.0 (cc) in counted_told segment_words is_fit_segment segment_told xs ys ws vs h.1 k.1 same (cc)

-- what may stand behind slots and behind orders

pub slot_starts : (s : Slot) (x : List Bytes) → BeginsSlot (slot_words s ++ x)
slot_starts slot.Absent x = inl (x, refl)
slot_starts (slot.Present s e) x = inr (signed_decimal s ∷ signed_decimal e ∷ x, refl)

begins : (w : Bytes) (words : List Bytes) → BeginsWith w words → tag words ≡ tag (w ∷ [])
begins w words on = ap tag on.1 ∙ same_tag w on.0
  where
    same_tag : (w : Bytes) (rest : List Bytes) → tag (w ∷ rest) ≡ tag (w ∷ [])
    same_tag [] rest = refl
    same_tag (a ∷ []) rest = refl
    same_tag (a ∷ b ∷ w) rest = refl

pub behind_slots : (xss : List (List Itv)) (sss : List (List Segment)) → BeginsSlot (flat_map order_words xss ++ flat_map segments_words sss) → ⊥
behind_slots [] [] (inl on) = absurd (omega (arith, begins _ _ on))
behind_slots [] [] (inr on) = absurd (omega (arith, begins _ _ on))
behind_slots [] (ss ∷ sss) (inl on) = absurd (omega (arith, begins _ _ on))
behind_slots [] (ss ∷ sss) (inr on) = absurd (omega (arith, begins _ _ on))
behind_slots (xs ∷ xss) sss (inl on) = absurd (omega (arith, begins _ _ on))
behind_slots (xs ∷ xss) sss (inr on) = absurd (omega (arith, begins _ _ on))

pub behind_orders : (sss : List (List Segment)) → BeginsWith (codes "o") (flat_map segments_words sss) → ⊥
behind_orders [] on = absurd (omega (arith, begins _ _ on))
behind_orders (ss ∷ sss) on = absurd (omega (arith, begins _ _ on))

pub order_starts : (xs : List Itv) (x : List Bytes) → BeginsWith (codes "o") (order_words xs ++ x)
order_starts xs x = (counted_ids xs ++ x, refl)

pub function_starts : (ss : List Segment) (x : List Bytes) → BeginsWith (codes "g") (segments_words ss ++ x)
function_starts ss x = (counted_segments ss ++ x, refl)

pub behind_functions : BeginsWith (codes "g") [] → ⊥
behind_functions on = absurd (omega (arith, begins _ _ on))

abbrev made_assignment : List Slot → List (List Itv) → List (List Segment) → Assignment
made_assignment s o g = record { slots = s; orders = o; segs = g }

-- an assignment's words have no end of their own
pub assignment_told : (a b : Assignment) → is_fit_assignment a ≡ true → is_fit_assignment b ≡ true → assignment_words a ≡ assignment_words b → a ≡ b
assignment_told a b ha hb e =
    let fa = three_true (list_all is_fit_slot a.slots) (list_all is_fit_order a.orders) (list_all are_fit_segments a.segs) ha in
    let fb = three_true (list_all is_fit_slot b.slots) (list_all is_fit_order b.orders) (list_all are_fit_segments b.segs) hb in
    let s = open_told slot_words is_fit_slot BeginsSlot slot_told slot_starts a.slots b.slots _ _ fa.0 fb.0 (behind_slots a.orders a.segs) (behind_slots b.orders b.segs) e in
    let o = open_told order_words is_fit_order (BeginsWith (codes "o")) order_told order_starts a.orders b.orders _ _ fa.1 fb.1 (behind_orders a.segs) (behind_orders b.segs) s.1 in
    let g = open_told segments_words are_fit_segments (BeginsWith (codes "g")) segments_told function_starts a.segs b.segs [] [] fa.2 fb.2 behind_functions behind_functions (append-nil (flat_map segments_words a.segs) ∙ o.1 ∙ sym (append-nil (flat_map segments_words b.segs))) in
    same_assignment a b s.0 o.0 g.0
