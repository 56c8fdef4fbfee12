-- The lines of slots, orders and segments: each tells its value, and is a line.
use Rattle.std.proofs.Common.{◌≡◌, ◌^◌, ◌<◌, ℕ, true, List, [], ◌∷◌, ◌++◌, codes, flat_map, map, Option, Some, None, refl, ap, ◌∙◌}
use Rattle.std.specs.Fmt.{decimal, signed_decimal}
use Rattle.std.specs.List.{list_all}
use Rattle.std.proofs.lemmas.Bool.{and_parts, and_from}
use Rattle.sched_model.specs.declared.types.IntervalDef.{IntervalDef}
use Rattle.sched_model.specs.declared.types.SequenceDef.{SequenceDef}
use Rattle.sched_model.specs.declared.types.StateDef.{StateDef}
use Rattle.sched_model.specs.declared.types.Slot.{Slot}
use Rattle.sched_model.specs.declared.types.Slot.TheVariants.{Absent, Present}
use Rattle.sched_model.specs.declared.types.Assignment.{Assignment}
use Rattle.sched_model.specs.Data.{Data}
use Rattle.sched_model.specs.Bounds.{is_small}
use Rattle.sched_model.specs.Domain.{fits_def, lists_present, are_segments}
use Rattle.sched_model.specs.Valid.{IsValid, is_interval_def, is_sequence_def, is_state_def, is_name}
use Rattle.sched_model.specs.laws.Small.{small_mag}
use Rattle.textline.specs.Lines.{Bytes, line}
use Rattle.textline.specs.Words.{is_word, are_words}
use Rattle.textline.specs.laws.Lines.{one_word}
use Rattle.textline.specs.laws.Numbers.{decimal_is_word, signed_is_word}
use Rattle.sched_text.specs.Pieces.{interval_names}
use Rattle.sched_text.specs.Answers.{label, segment_words, slot_words}
use Rattle.sched_text.specs.laws.Names.{name_is_word, names_of, names_are_words}
use Rattle.sched_text.specs.laws.Lines.{spelled_slot, slots_tell, orders_tell, spelled_order, segments_tell, spelled_segments, segments_are_words}
use Rattle.read_schedule.specs.code.Rows.{slot_row, order_row, state_row}
use Rattle.read_schedule.specs.code.Reads.{is_spelled, are_spelled, are_all_itvs}
use Rattle.read_schedule.proofs.spelling.Taken.{Told}

-- names

names_pass : (ds : List IntervalDef) → list_all is_name (map (λ d. d.name) ds) ≡ true → list_all (λ d. is_word d.name) ds ≡ true
names_pass [] h = refl
names_pass (d ∷ ds) h =
    let two = and_parts (is_name d.name) (list_all is_name (map (λ d. d.name) ds)) h in and_from (is_word d.name) (list_all (λ d. is_word d.name) ds) (name_is_word d.name two.0) (names_pass ds two.1)

pub interval_words : (m : Data) (ds : List IntervalDef) → IsValid m → ds ≡ m.intervals → list_all (λ d. is_word d.name) ds ≡ true
interval_words m ds valid same = ap (list_all (λ d. is_word d.name)) same ∙ names_pass m.intervals (names_of m valid).proper

-- slots

slot_is_words : (slot : Slot) → is_spelled slot ≡ true → are_words (slot_words slot) ≡ true
slot_is_words Absent h = refl
slot_is_words (Present s e) h =
    let two = and_parts (is_small s) (is_small e) h in one_word (signed_decimal s) (signed_decimal e ∷ []) (signed_is_word s (small_mag s two.0)) (one_word (signed_decimal e) [] (signed_is_word e (small_mag e two.1)) refl)

able_slot : (d : IntervalDef) (slot : Slot) → is_interval_def d ≡ true → fits_def d slot ≡ true → is_spelled slot ≡ true
able_slot d Absent valid fits = refl
able_slot d (Present s e) valid fits = spelled_slot d (Present s e) valid fits

slot_told : (d : IntervalDef) (a b : Slot) → is_spelled a ≡ true → is_spelled b ≡ true → slot_row 0 d a ≡ slot_row 0 d b → a ≡ b
slot_told d Absent Absent ha hb e = refl
slot_told d Absent (Present s f) ha hb e = (slots_tell 0 d Absent (Present s f) [] [] refl hb (ap (λ ws. line ws ++ []) e)).0
slot_told d (Present s f) Absent ha hb e = (slots_tell 0 d (Present s f) Absent [] [] ha refl (ap (λ ws. line ws ++ []) e)).0
slot_told d (Present s f) (Present t g) ha hb e = (slots_tell 0 d (Present s f) (Present t g) [] [] ha hb (ap (λ ws. line ws ++ []) e)).0

pub slots_told : (d : IntervalDef) → is_interval_def d ≡ true → is_word d.name ≡ true → Told (slot_row 0 d) is_spelled (fits_def d)
slots_told d valid name = record {
  tells = λ a b ha hb e. slot_told d a b ha hb e;
  lines = λ a h. one_word d.name (slot_words a) name (slot_is_words a h);
  more = λ a fits. able_slot d a valid fits;
}

-- orders

pub label_is_word : (i : ℕ) (o : Option Bytes) → i < 2 ^ 64 → ((n : Bytes) → o ≡ Some n → is_word n ≡ true) → is_word (label i o) ≡ true
label_is_word i None small named = and_from true (is_word (decimal i)) refl (decimal_is_word i small)
label_is_word i (Some n) small named = named n refl

pub orders_told : (m : Data) → IsValid m → (a : Assignment) (i : ℕ) (d : SequenceDef) → is_sequence_def m d ≡ true → is_word (label i d.name) ≡ true → Told (order_row m i d) (are_all_itvs m) (lists_present a d)
orders_told m valid a i d def name = record {
  tells = λ x y hx hy e. (orders_tell m (names_of m valid) i d x y [] [] hx hy (ap (λ ws. line ws ++ []) e)).0;
  lines = λ x h. one_word (codes "order") (label i d.name ∷ interval_names m x) refl (one_word (label i d.name) (interval_names m x) name (names_are_words m (names_of m valid) x h));
  more = λ x fits. spelled_order m a d x def fits;
}

-- segments

pub segments_told : (m : Data) (i : ℕ) (d : StateDef) → is_state_def m d ≡ true → is_word d.name ≡ true → Told (state_row i d) are_spelled (are_segments m d)
segments_told m i d def name = record {
  tells = λ x y hx hy e. (segments_tell i d x y [] [] hx hy (ap (λ ws. line ws ++ []) e)).0;
  lines = λ x h. one_word (codes "state") (d.name ∷ flat_map segment_words x) refl (one_word d.name (flat_map segment_words x) name (segments_are_words x h));
  more = λ x fits. spelled_segments m d x def fits;
}
