-- The lines of a schedule tell the slots, the orders and the segments.
use Rattle.std.specs.Prelude.{◌≡◌, ℤ, Bool, true, not, ◌&&◌, List, [], ◌∷◌, codes, flat_map}
use Rattle.std.proofs.Common.{refl}
use Rattle.std.specs.Fmt.{signed_decimal}
use Rattle.std.specs.List.{list_all}
use Rattle.std.proofs.lemmas.Bool.{and_parts, and_from}
use Rattle.base_laws.specs.laws.Lists.{same_lists}
use Rattle.sched_base.specs.declared.ids.Itv.{Itv}
use Rattle.sched_model.specs.declared.types.IntervalDef.{IntervalDef}
use Rattle.sched_model.specs.declared.types.SequenceDef.{SequenceDef}
use Rattle.sched_model.specs.declared.types.StateDef.{StateDef}
use Rattle.sched_model.specs.declared.types.Slot.{Slot}
use Rattle.sched_model.specs.declared.types.Slot.TheVariants.{Absent, Present}
use Rattle.sched_model.specs.declared.types.Segment.{Segment}
use Rattle.sched_model.specs.declared.types.Assignment.{Assignment}
use Rattle.sched_model.specs.Data.{Data, same, has}
use Rattle.sched_model.specs.Words.{is_between, pairwise}
use Rattle.sched_model.specs.Bounds.{is_small, is_span_of_moments}
use Rattle.sched_model.specs.Value.{is_present}
use Rattle.sched_model.specs.Domain.{fits_def, lists_present, is_segment, are_segments, keeps_distance}
use Rattle.sched_model.specs.Valid.{is_interval_def, is_sequence_def, is_itv, are_parts, is_state_def}
use Rattle.sched_model.specs.laws.Small.{moments_small, moment_small, amount_small, small_told, small_mag}
use Rattle.sched_model.specs.laws.Same.{same_segment}
use Rattle.sched_model.specs.laws.Members.{one_of}
use Rattle.textline.specs.Lines.{Bytes}
use Rattle.textline.specs.Words.{are_words}
use Rattle.textline.specs.laws.Lines.{one_word}
use Rattle.textline.specs.laws.Numbers.{signed_is_word}
use Rattle.sched_text.specs.Pieces.{interval_names}
use Rattle.sched_text.specs.Answers.{slot_line, label, order_line, segment_words, segments_line}
use Rattle.sched_text.specs.laws.Places.{TellsSecond}
use Rattle.sched_text.specs.laws.Words.{words_told, next_line}
use Rattle.sched_text.specs.laws.Names.{AreNames, names_told, names_are_words}

-- slots

abbrev pub is_spelled_slot : IntervalDef → Slot → Bool
is_spelled_slot d Absent = true
is_spelled_slot d (Present s e) = is_small s && is_small e

pub spelled_slot : (d : IntervalDef) (slot : Slot) → is_interval_def d ≡ true → fits_def d slot ≡ true → is_spelled_slot d slot ≡ true
spelled_slot d Absent h k = refl
spelled_slot d (Present s e) h k =
    let h3 = and_parts (is_span_of_moments d.start_lo d.start_hi && is_span_of_moments d.end_lo d.end_hi && is_span_of_moments d.size_lo d.size_hi) _ h in
    let h2 = and_parts (is_span_of_moments d.start_lo d.start_hi && is_span_of_moments d.end_lo d.end_hi) _ h3.0 in
    let h1 = and_parts (is_span_of_moments d.start_lo d.start_hi) (is_span_of_moments d.end_lo d.end_hi) h2.0 in
    let k2 = and_parts (is_between d.start_lo d.start_hi s && is_between d.end_lo d.end_hi e) _ k in
    let k1 = and_parts (is_between d.start_lo d.start_hi s) (is_between d.end_lo d.end_hi e) k2.0 in
    and_from (is_small s) (is_small e) (moments_small d.start_lo d.start_hi s h1.0 k1.0) (moments_small d.end_lo d.end_hi e h1.1 k1.1)

moments_are_words : (s e : ℤ) → (is_small s && is_small e) ≡ true → are_words (signed_decimal s ∷ signed_decimal e ∷ []) ≡ true
moments_are_words s e h = let two = and_parts (is_small s) (is_small e) h in one_word (signed_decimal s) (signed_decimal e ∷ []) (signed_is_word s (small_mag s two.0)) (one_word (signed_decimal e) [] (signed_is_word e (small_mag e two.1)) refl)

two_slots : (s e t f : ℤ) → s ≡ t → e ≡ f → Present s e ≡ Present t f
two_slots s e t f a b = cc

pub slots_tell : TellsSecond slot_line is_spelled_slot
slots_tell i d Absent Absent p q hy hz e = (refl, (words_told d.name (codes "absent" ∷ []) (codes "absent" ∷ []) p q refl refl e).1)
slots_tell i d Absent (Present t f) p q hy hz e = let told = (words_told d.name (codes "absent" ∷ []) (signed_decimal t ∷ signed_decimal f ∷ []) p q refl (moments_are_words t f hz) e).0 in cc
slots_tell i d (Present t f) Absent p q hy hz e = let told = (words_told d.name (signed_decimal t ∷ signed_decimal f ∷ []) (codes "absent" ∷ []) p q (moments_are_words t f hy) refl e).0 in cc
slots_tell i d (Present s e) (Present t f) p q hy hz is =
    let told = words_told d.name (signed_decimal s ∷ signed_decimal e ∷ []) (signed_decimal t ∷ signed_decimal f ∷ []) p q (moments_are_words s e hy) (moments_are_words t f hz) is in
    let h = and_parts (is_small s) (is_small e) hy in
    let k = and_parts (is_small t) (is_small f) hz in
    (two_slots s e t f (small_told s t h.0 k.0 (first_of_two _ _ _ _ told.0)) (small_told e f h.1 k.1 (second_of_two _ _ _ _ told.0)), told.1)
  where
    first_of_two : (a b c d : Bytes) → a ∷ b ∷ [] ≡ c ∷ d ∷ [] → a ≡ c
    first_of_two a b c d e = cc

    second_of_two : (a b c d : Bytes) → a ∷ b ∷ [] ≡ c ∷ d ∷ [] → b ≡ d
    second_of_two a b c d e = cc

-- orders

abbrev pub are_itvs : Data → SequenceDef → List Itv → Bool
are_itvs m d xs = list_all (is_itv m) xs

members_are : (m : Data) (a : Assignment) (ys xs : List Itv) → list_all (is_itv m) ys ≡ true → list_all (λ x. has ys x && is_present a x) xs ≡ true → list_all (is_itv m) xs ≡ true
members_are m a ys [] h k = refl
members_are m a ys (x ∷ xs) h k =
    let two = and_parts (has ys x && is_present a x) (list_all (λ y. has ys y && is_present a y) xs) k in
    let one = and_parts (has ys x) (is_present a x) two.0 in and_from (is_itv m x) (list_all (is_itv m) xs) (one_of m x ys h one.0) (members_are m a ys xs h two.1)

pub spelled_order : (m : Data) (a : Assignment) (d : SequenceDef) (xs : List Itv) → is_sequence_def m d ≡ true → lists_present a d xs ≡ true → are_itvs m d xs ≡ true
spelled_order m a d xs h k =
    let h2 = and_parts (are_parts m d.members && _) _ h in
    let h1 = and_parts (are_parts m d.members) _ h2.0 in
    let h0 = and_parts (list_all (is_itv m) d.members) _ h1.0 in
    let k2 = and_parts (pairwise (λ x y. not (same x y)) xs && list_all (λ x. has d.members x && is_present a x) xs) _ k in
    let k1 = and_parts (pairwise (λ x y. not (same x y)) xs) (list_all (λ x. has d.members x && is_present a x) xs) k2.0 in
    members_are m a d.members xs h0.0 k1.1

pub orders_tell : (m : Data) → AreNames m.intervals → TellsSecond (order_line m) (are_itvs m)
orders_tell m are i d xs ys p q hy hz e =
    let told = words_told (label i d.name) (interval_names m xs) (interval_names m ys) p q (names_are_words m are xs hy) (names_are_words m are ys hz)
    (next_line (codes "order") (label i d.name) (interval_names m xs) (label i d.name) (interval_names m ys) p q e) in
    (names_told m are xs ys hy hz told.0, told.1)

-- segments

abbrev pub is_spelled_segment : Segment → Bool
is_spelled_segment s = is_small s.p && is_small s.q && is_small s.v

abbrev pub are_spelled_segments : StateDef → List Segment → Bool
are_spelled_segments d ss = list_all is_spelled_segment ss

spelled_segment : (m : Data) (g : StateDef) (s : Segment) → is_segment m g s ≡ true → is_spelled_segment s ≡ true
spelled_segment m g s h =
    let h4 = and_parts _ _ h in
    let h3 = and_parts _ _ h4.0 in
    let h2 = and_parts _ _ h3.0 in
    let h1 = and_parts _ _ h2.0 in
    and_from (is_small s.p && is_small s.q) (is_small s.v) (and_from (is_small s.p) (is_small s.q) (moment_small s.p h1.1) (moment_small s.q h2.1)) (amount_small s.v h3.1)

all_spelled : (m : Data) (g : StateDef) (ss : List Segment) → list_all (is_segment m g) ss ≡ true → list_all is_spelled_segment ss ≡ true
all_spelled m g [] h = refl
all_spelled m g (s ∷ ss) h =
    let two = and_parts (is_segment m g s) (list_all (is_segment m g) ss) h in and_from (is_spelled_segment s) (list_all is_spelled_segment ss) (spelled_segment m g s two.0) (all_spelled m g ss two.1)

pub spelled_segments : (m : Data) (g : StateDef) (ss : List Segment) → is_state_def m g ≡ true → are_segments m g ss ≡ true → are_spelled_segments g ss ≡ true
spelled_segments m g ss any h = all_spelled m g ss (and_parts (list_all (is_segment m g) ss) (pairwise (keeps_distance m g) ss) h).0

word_1 : (a b c d e f : Bytes) (x y : List Bytes) → a ∷ b ∷ c ∷ x ≡ d ∷ e ∷ f ∷ y → a ≡ d
word_1 a b c d e f x y h = cc

word_2 : (a b c d e f : Bytes) (x y : List Bytes) → a ∷ b ∷ c ∷ x ≡ d ∷ e ∷ f ∷ y → b ≡ e
word_2 a b c d e f x y h = cc

word_3 : (a b c d e f : Bytes) (x y : List Bytes) → a ∷ b ∷ c ∷ x ≡ d ∷ e ∷ f ∷ y → c ≡ f
word_3 a b c d e f x y h = cc

-- what stands behind three words
pub behind_three : (a b c d e f : Bytes) (x y : List Bytes) → a ∷ b ∷ c ∷ x ≡ d ∷ e ∷ f ∷ y → x ≡ y
behind_three a b c d e f x y h = cc

segments_told : (ss ts : List Segment) → list_all is_spelled_segment ss ≡ true → list_all is_spelled_segment ts ≡ true → flat_map segment_words ss ≡ flat_map segment_words ts → ss ≡ ts
segments_told [] [] hs ht e = refl
segments_told [] (t ∷ ts) hs ht e = cc
segments_told (s ∷ ss) [] hs ht e = cc
segments_told (s ∷ ss) (t ∷ ts) hs ht e =
    let h = and_parts (is_spelled_segment s) (list_all is_spelled_segment ss) hs in
    let k = and_parts (is_spelled_segment t) (list_all is_spelled_segment ts) ht in
    let h2 = and_parts (is_small s.p && is_small s.q) (is_small s.v) h.0 in
    let k2 = and_parts (is_small t.p && is_small t.q) (is_small t.v) k.0 in
    let h1 = and_parts (is_small s.p) (is_small s.q) h2.0 in
    let k1 = and_parts (is_small t.p) (is_small t.q) k2.0 in
    same_lists s t ss ts (same_segment s t (small_told s.p t.p h1.0 k1.0 (word_1 _ _ _ _ _ _ _ _ e)) (small_told s.q t.q h1.1 k1.1 (word_2 _ _ _ _ _ _ _ _ e)) (small_told s.v t.v h2.1 k2.1 (word_3 _ _ _ _ _ _ _ _ e)))
    (segments_told ss ts h.1 k.1 (behind_three _ _ _ _ _ _ _ _ e))

-- whatever spells segments are words
pub segments_are_words : (ss : List Segment) → list_all is_spelled_segment ss ≡ true → are_words (flat_map segment_words ss) ≡ true
segments_are_words [] h = refl
segments_are_words (s ∷ ss) h =
    let two = and_parts (is_spelled_segment s) (list_all is_spelled_segment ss) h in
    let h2 = and_parts (is_small s.p && is_small s.q) (is_small s.v) two.0 in
    let h1 = and_parts (is_small s.p) (is_small s.q) h2.0 in
    one_word (signed_decimal s.p) (signed_decimal s.q ∷ signed_decimal s.v ∷ flat_map segment_words ss) (signed_is_word s.p (small_mag s.p h1.0))
    (one_word (signed_decimal s.q) (signed_decimal s.v ∷ flat_map segment_words ss) (signed_is_word s.q (small_mag s.q h1.1))
    (one_word (signed_decimal s.v) (flat_map segment_words ss) (signed_is_word s.v (small_mag s.v h2.1)) (segments_are_words ss two.1)))

pub segments_tell : TellsSecond segments_line are_spelled_segments
segments_tell i d ss ts p q hy hz e =
    let told = words_told d.name (flat_map segment_words ss) (flat_map segment_words ts) p q (segments_are_words ss hy) (segments_are_words ts hz)
    (next_line (codes "state") d.name (flat_map segment_words ss) d.name (flat_map segment_words ts) p q e) in
    (segments_told ss ts hy hz told.0, told.1)
