-- Whatever a log spells are words.
use Rattle.std.specs.Prelude.{◌≡◌, ℕ, ◌&&◌, ℤ, Bool, true, List, [], ◌∷◌, ◌++◌, length, map, codes}
use Rattle.std.proofs.Common.{refl, ◌∙◌, arith}
use Rattle.std.proofs.lemmas.Bool.Decides.{nat_tests}
use Rattle.std.proofs.lemmas.List.Folds.{list_all-append}
use Rattle.std.specs.List.{list_all, flat_map}
use Rattle.std.specs.Fmt.{decimal, signed_decimal}
use Rattle.sched_base.specs.declared.ids.Itv.{Itv}
use Rattle.sched_model.specs.Valid.{is_small}
use Rattle.sched_model.specs.declared.types.Assignment.{Assignment}
use Rattle.sched_model.specs.declared.types.Segment.{Segment}
use Rattle.sched_model.specs.declared.types.Slot.{Slot}
use Rattle.sched_model.specs.declared.types.Slot.TheVariants as slot
use Rattle.sched_model.specs.laws.Small.{small_mag}
use Rattle.region.specs.declared.types.Guess.{Guess}
use Rattle.region.specs.declared.types.Guess.TheVariants.{Present, Absent, StartLe, StartGe, EndLe, EndGe, Before}
use Rattle.kernel.specs.Fit.{is_count, is_id, is_fit_guess, is_fit_slot, is_fit_order, is_fit_segment, are_fit_segments, is_fit_assignment}
use Rattle.textline.specs.Lines.{Bytes}
use Rattle.textline.specs.Words.{is_word, are_words}
use Rattle.textline.specs.laws.Lines.{both_true, true_both, one_word}
use Rattle.textline.specs.laws.Numbers.{decimal_is_word, signed_is_word}
use Rattle.logtext.specs.Spelling.{guess_words, slot_words, member_word, order_words, segment_words, segments_words, assignment_words}
use Rattle.base_laws.specs.laws.Truth.{three_true}

pub count_word : (n : ℕ) → is_count n ≡ true → is_word (decimal n) ≡ true
count_word n h = decimal_is_word n (grind (arith, nat_tests))

pub moment_word : (z : ℤ) → is_small z ≡ true → is_word (signed_decimal z) ≡ true
moment_word z h = signed_is_word z (small_mag z h)

pub front_and : (ws vs : List Bytes) → are_words ws ≡ true → are_words vs ≡ true → are_words (ws ++ vs) ≡ true
front_and ws vs h k = list_all-append is_word ws vs ∙ true_both (are_words ws) (are_words vs) h k

bound_words : (w : Bytes) (x : Itv) (t : ℤ) → is_word w ≡ true → (is_id x && is_small t) ≡ true → are_words (w ∷ decimal x.0 ∷ signed_decimal t ∷ []) ≡ true
bound_words w x t hw h =
    let two = both_true (is_id x) (is_small t) h in
    one_word w (decimal x.0 ∷ signed_decimal t ∷ []) hw (one_word (decimal x.0) (signed_decimal t ∷ []) (count_word x.0 two.0) (one_word (signed_decimal t) [] (moment_word t two.1) refl))

pub guess_plain : (g : Guess) → is_fit_guess g ≡ true → are_words (guess_words g) ≡ true
guess_plain (Present x) h = one_word (decimal x.0) [] (count_word x.0 h) refl
guess_plain (Absent x) h = one_word (decimal x.0) [] (count_word x.0 h) refl
guess_plain (StartLe x t) h = bound_words (codes "SL") x t refl h
guess_plain (StartGe x t) h = bound_words (codes "SG") x t refl h
guess_plain (EndLe x t) h = bound_words (codes "EL") x t refl h
guess_plain (EndGe x t) h = bound_words (codes "EG") x t refl h
guess_plain (Before p x y) h =
    let three = three_true (is_count p.0) (is_id x) (is_id y) h in
    one_word (decimal p.0) (decimal x.0 ∷ decimal y.0 ∷ []) (count_word p.0 three.0) (one_word (decimal x.0) (decimal y.0 ∷ []) (count_word x.0 three.1) (one_word (decimal y.0) [] (count_word y.0 three.2) refl))

slot_plain : (s : Slot) → is_fit_slot s ≡ true → are_words (slot_words s) ≡ true
slot_plain slot.Absent h = refl
slot_plain (slot.Present s e) h =
    let two = both_true (is_small s) (is_small e) h in
    one_word (signed_decimal s) (signed_decimal e ∷ []) (moment_word s two.0) (one_word (signed_decimal e) [] (moment_word e two.1) refl)

segment_plain : (s : Segment) → is_fit_segment s ≡ true → are_words (segment_words s) ≡ true
segment_plain s h =
    let three = three_true (is_small s.p) (is_small s.q) (is_small s.v) h in
    one_word (signed_decimal s.p) (signed_decimal s.q ∷ signed_decimal s.v ∷ []) (moment_word s.p three.0) (one_word (signed_decimal s.q) (signed_decimal s.v ∷ []) (moment_word s.q three.1) (one_word (signed_decimal s.v) [] (moment_word s.v three.2) refl))

pub all_plain : {A : Type 0} → (f : A → List Bytes) (fit : A → Bool) → ((a : A) → fit a ≡ true → are_words (f a) ≡ true) → (us : List A) → list_all fit us ≡ true → are_words (flat_map f us) ≡ true
all_plain f fit plain [] h = refl
all_plain f fit plain (a ∷ us) h = let two = both_true (fit a) (list_all fit us) h in front_and (f a) (flat_map f us) (plain a two.0) (all_plain f fit plain us two.1)

pub each_plain : {A : Type 0} → (f : A → Bytes) (fit : A → Bool) → ((a : A) → fit a ≡ true → is_word (f a) ≡ true) → (us : List A) → list_all fit us ≡ true → are_words (map f us) ≡ true
each_plain f fit plain [] h = refl
each_plain f fit plain (a ∷ us) h = let two = both_true (fit a) (list_all fit us) h in one_word (f a) (map f us) (plain a two.0) (each_plain f fit plain us two.1)

order_plain : (xs : List Itv) → is_fit_order xs ≡ true → are_words (order_words xs) ≡ true
order_plain xs h =
    let two = both_true (is_count (length xs)) (list_all is_id xs) h in
    one_word (decimal (length xs)) (map member_word xs) (count_word (length xs) two.0) (each_plain member_word is_id (λ x k. count_word x.0 k) xs two.1)

segments_plain : (ss : List Segment) → are_fit_segments ss ≡ true → are_words (segments_words ss) ≡ true
segments_plain ss h =
    let two = both_true (is_count (length ss)) (list_all is_fit_segment ss) h in
    one_word (decimal (length ss)) (flat_map segment_words ss) (count_word (length ss) two.0) (all_plain segment_words is_fit_segment segment_plain ss two.1)

pub assignment_plain : (a : Assignment) → is_fit_assignment a ≡ true → are_words (assignment_words a) ≡ true
assignment_plain a h =
    let three = three_true (list_all is_fit_slot a.slots) (list_all is_fit_order a.orders) (list_all are_fit_segments a.segs) h in
    front_and (flat_map slot_words a.slots) (flat_map order_words a.orders ++ flat_map segments_words a.segs) (all_plain slot_words is_fit_slot slot_plain a.slots three.0)
    (front_and (flat_map order_words a.orders) (flat_map segments_words a.segs) (all_plain order_words is_fit_order order_plain a.orders three.1) (all_plain segments_words are_fit_segments segments_plain a.segs three.2))
