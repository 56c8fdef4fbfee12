-- All lines behind a header: where they stop, and that they are all there.
use Rattle.std.proofs.Common.{◌≡◌, inl, inr, ℕ, zero, suc, ◌+◌, ◌<◌, Bool, true, List, [], ◌∷◌, ◌++◌, map, replicate, length, sym, ◌∙◌, ap, subst, refl, arith, append_assoc, append-nil, Option, Some, None, Err, slice_get}
use Rattle.std.specs.List.{list_all}
use Rattle.std.proofs.lemmas.Bool.{and_parts, and_from}
use Rattle.base_laws.specs.laws.Items.{all_at, all_append}
use Rattle.sched_base.specs.declared.ids.Itv.{Itv}
use Rattle.sched_model.specs.declared.types.SequenceDef.{SequenceDef}
use Rattle.sched_model.specs.declared.types.StateDef.{StateDef}
use Rattle.sched_model.specs.declared.types.Segment.{Segment}
use Rattle.sched_model.specs.declared.types.Slot.{Slot}
use Rattle.sched_model.specs.declared.types.Assignment.{Assignment}
use Rattle.sched_model.specs.Data.{Data}
use Rattle.sched_model.specs.Words.{placewise}
use Rattle.sched_model.specs.Value.{present_of}
use Rattle.sched_model.specs.Domain.{fits_def, lists_present, are_segments, is_in_domain}
use Rattle.sched_model.specs.Valid.{IsValid, is_interval_def}
use Rattle.sched_model.specs.laws.Limits.{limits_of}
use Rattle.textline.specs.Lines.{Bytes, line}
use Rattle.textline.specs.Words.{is_word}
use Rattle.sched_text.specs.Pieces.{at_places}
use Rattle.sched_text.specs.Answers.{slot_line, order_line, segments_line, schedule_lines}
use Rattle.sched_text.specs.laws.Places.{places_told, placewise_more}
use Rattle.sched_text.specs.laws.Lines.{slots_tell, is_spelled_slot, spelled_slot}
use Rattle.read_schedule.specs.Schedules.{is_line, text}
use Rattle.read_schedule.specs.code.Rows.{rows, begins, slot_row, order_row, state_row, body, end_row}
use Rattle.read_schedule.specs.code.Reads.{EachCanStand, HasSlots, ReadsRows, StopsRows, StopsBody, Starts, TakesEnd, Unlike, ReadsBody, sequence_at, state_at}
use Rattle.read_schedule.specs.declared.stop.PartStop.{PartStop}
use Rattle.read_schedule.specs.declared.stop.PartStop.TheVariants.{Line, NoMemory}
use Rattle.read_schedule.proofs.spelling.Rows.{text_append, places_are, rows_each, rows_length, begun_length, placewise_begins, completed, next_row, fronts_same}
use Rattle.read_schedule.proofs.given.Assignments.{domain_parts, domain_from, some_domain}
use Rattle.read_schedule.proofs.given.Defs.{order_at, segments_at, got_at}
use Rattle.read_schedule.proofs.spelling.Spelled.{slots_told, interval_words}

-- the text of the lines

pub body_text : (m : Data) (a : Assignment) → text (body m a) ≡ schedule_lines m a ++ line end_row
body_text m a =
    let ra = rows slot_row 0 m.intervals a.slots in
    let rb = rows (order_row m) 0 m.sequences a.orders in
    let rc = rows state_row 0 m.states a.segs in
    let ta = at_places slot_line 0 m.intervals a.slots in
    let tb = at_places (order_line m) 0 m.sequences a.orders in
    let tc = at_places segments_line 0 m.states a.segs in
    text_append ra (rb ++ (rc ++ end_row ∷ []))
    ∙ ap (λ t. text ra ++ t) (text_append rb (rc ++ end_row ∷ []) ∙ ap (λ t. text rb ++ t) (text_append rc (end_row ∷ [])))
    ∙ ap (λ t. t ++ (text rb ++ (text rc ++ line end_row))) (sym (places_are slot_row 0 m.intervals a.slots))
    ∙ ap (λ t. ta ++ (t ++ (text rc ++ line end_row))) (sym (places_are (order_row m) 0 m.sequences a.orders))
    ∙ ap (λ t. ta ++ (tb ++ (t ++ line end_row))) (sym (places_are state_row 0 m.states a.segs))
    ∙ sym (append_assoc (ta ++ tb) tc (line end_row) ∙ append_assoc ta tb (tc ++ line end_row))

-- each is a line

slot_lines : (m : Data) → IsValid m → (slots : List Slot) → begins fits_def m.intervals slots ≡ true → list_all is_line (rows slot_row 0 m.intervals slots) ≡ true
slot_lines m valid slots h = rows_each slot_row fits_def 0 m.intervals slots
    (λ i d slot within at fits. let told = slots_told d (all_at is_interval_def m.intervals i d valid.intervals at) (all_at (λ d. is_word d.name) m.intervals i d (interval_words m m.intervals valid refl) at) in told.lines slot (told.more slot fits)) h

one_of_two : {X : Type 0} (x y : X) (o : Option X) → o ≡ Some x → o ≡ Some y → x ≡ y
one_of_two x y o a b = let same : Some x ≡ Some y = sym a ∙ b in cc

order_lines : (m : Data) → IsValid m → (a : Assignment) (orders : List (List Itv)) → begins (lists_present a) m.sequences orders ≡ true → list_all is_line (rows (order_row m) 0 m.sequences orders) ≡ true
order_lines m valid a orders h = rows_each (order_row m) (lists_present a) 0 m.sequences orders each h
  where
    each : (i : ℕ) (d : SequenceDef) (xs : List Itv) → i < length m.sequences → slice_get m.sequences i ≡ Some d → lists_present a d xs ≡ true → is_line (order_row m (0 + i) d xs) ≡ true
    each i d xs within at fits =
        let same : sequence_at m i ≡ d = one_of_two (sequence_at m i) d (slice_get m.sequences i) (got_at m.sequences i (record { name = None; members = []; types = None }) within) at in
        let here : i ≡ 0 + i = omega arith in
        let told = order_at m valid a i within in
        ap (λ j. is_line (order_row m j d xs)) (sym here) ∙ ap (λ e. is_line (order_row m i e xs)) (sym same) ∙ told.lines xs (told.more xs (ap (λ e. lists_present a e xs) same ∙ fits))

state_lines : (m : Data) → IsValid m → (segs : List (List Segment)) → begins (are_segments m) m.states segs ≡ true → list_all is_line (rows state_row 0 m.states segs) ≡ true
state_lines m valid segs h = rows_each state_row (are_segments m) 0 m.states segs each h
  where
    each : (i : ℕ) (d : StateDef) (ss : List Segment) → i < length m.states → slice_get m.states i ≡ Some d → are_segments m d ss ≡ true → is_line (state_row (0 + i) d ss) ≡ true
    each i d ss within at fits =
        let same : state_at m i ≡ d = one_of_two (state_at m i) d (slice_get m.states i) (got_at m.states i (record { name = []; matrix = None }) within) at in
        let told = segments_at m valid i within in
        ap (λ e. is_line (state_row i e ss)) (sym same) ∙ told.lines ss (told.more ss (ap (λ e. are_segments m e ss) same ∙ fits))

pub body_lines : (m : Data) (a : Assignment) → IsValid m → is_in_domain m a ≡ true → list_all is_line (body m a) ≡ true
body_lines m a valid h =
    let parts = domain_parts m a h in
    all_append is_line (rows slot_row 0 m.intervals a.slots) _ (slot_lines m valid a.slots (placewise_begins fits_def m.intervals a.slots parts.0))
    (all_append is_line (rows (order_row m) 0 m.sequences a.orders) _ (order_lines m valid a a.orders (placewise_begins (lists_present a) m.sequences a.orders parts.1))
    (all_append is_line (rows state_row 0 m.states a.segs) (end_row ∷ []) (state_lines m valid a.segs (placewise_begins (are_segments m) m.states a.segs parts.2)) refl))

-- where the lines of the intervals stop

place_within : {X : Type 0} (xs : List X) (i : ℕ) (x : X) → slice_get xs i ≡ Some x → i < length xs
place_within [] i x at = cc
place_within (y ∷ xs) zero x at = omega arith
place_within (y ∷ xs) (suc i) x at = omega (arith, place_within xs i x at)

abbrev pub made : List Slot → List (List Itv) → List (List Segment) → Assignment
made s o g = record { slots = s; orders = o; segs = g }

-- what comes next in every schedule is unlike the bytes
unlike_next : {X Y : Type 0} (g : ℕ → X → Y → List Bytes) (r : X → Y → Bool) (n : ℕ) (x : X) (k : ℕ) (rest : Bytes) (us : List (List Bytes)) → k ≡ n → ((y : Y) → r x y ≡ true → Starts (g n x y) rest → ⊥) → (y : Y) × (vs : List (List Bytes)) × (r x y ≡ true) × (us ≡ g (0 + k) x y ∷ vs) → Unlike us rest
unlike_next g r n x k rest us many stuck next =
    let here : 0 + k ≡ n = omega (arith, many) in
    subst (λ vs. Unlike vs rest) (sym (next.3 ∙ ap (λ i. g i x next.0 ∷ next.1) here)) (stuck next.0 next.2)

pub slots_stop : (m : Data) → IsValid m → (bytes : Bytes) (n : ℕ) → (zs : List Slot) × (placewise fits_def m.intervals zs ≡ true) → StopsRows slot_row fits_def m.intervals bytes n → StopsBody m bytes n
slots_stop m valid bytes n some s =
    let full = completed slot_row fits_def 0 m.intervals s.ys some.0 s.fits some.1 in
    let bare : Assignment = record { slots = full.0; orders = []; segs = [] } in
    let orders = map (λ d. present_of bare d.members) m.sequences in
    let segs : List (List Segment) = replicate (length m.states) [] in
    let whole = some_domain m full.0 bare orders segs (length m.states) valid full.2 refl refl refl refl in
    let more = rows (order_row m) 0 m.sequences orders ++ (rows state_row 0 m.states segs ++ end_row ∷ []) in
    record {
      front = rows slot_row 0 m.intervals s.ys;
      count = begun_length slot_row fits_def 0 m.intervals s.ys s.fits ∙ s.count;
      few = omega (arith, place_within m.intervals n s.def s.at, (limits_of m valid.limits).intervals);
      each = slot_lines m valid s.ys s.fits;
      rest = s.rest;
      same = s.same;
      schedule = record { slots = full.0; orders = orders; segs = segs };
      domain = whole.domain;
      after = full.1 ++ more;
      goes = ap (λ rs. rs ++ more) full.3 ∙ append_assoc (rows slot_row 0 m.intervals s.ys) full.1 more;
      unlike = λ a us h e. unlike_next slot_row fits_def n s.def (length s.ys) s.rest us s.count s.stuck
          (next_row slot_row fits_def 0 m.intervals s.ys a.slots (rows (order_row m) 0 m.sequences a.orders ++ (rows state_row 0 m.states a.segs ++ end_row ∷ [])) us s.def s.fits (domain_parts m a h).0 (ap (slice_get m.intervals) s.count ∙ s.at) e);
    }

-- behind the lines of the intervals

-- schedules with the same first lines have the same slots
same_slots : (m : Data) → IsValid m → (slots slots' : List Slot) (xs ys : List (List Bytes)) → placewise fits_def m.intervals slots ≡ true → placewise fits_def m.intervals slots' ≡ true → rows slot_row 0 m.intervals slots' ++ xs ≡ rows slot_row 0 m.intervals slots ++ ys → (slots' ≡ slots) × (xs ≡ ys)
same_slots m valid slots slots' xs ys h k e =
    let cut = fronts_same (rows slot_row 0 m.intervals slots') (rows slot_row 0 m.intervals slots) xs ys (rows_length slot_row fits_def 0 m.intervals slots' k ∙ sym (rows_length slot_row fits_def 0 m.intervals slots h)) e in
    let texts : at_places slot_line 0 m.intervals slots' ++ [] ≡ at_places slot_line 0 m.intervals slots ++ [] =
    ap (λ t. t ++ []) (places_are slot_row 0 m.intervals slots' ∙ ap text cut.0 ∙ sym (places_are slot_row 0 m.intervals slots)) in
    ((places_told slot_line is_spelled_slot slots_tell 0 m.intervals slots' slots [] [] (placewise_more is_interval_def fits_def is_spelled_slot spelled_slot m.intervals slots' valid.intervals k) (placewise_more is_interval_def fits_def is_spelled_slot spelled_slot m.intervals slots valid.intervals h) texts).0, cut.1)

-- who is present is told by the slots
same_presence : (a b : Assignment) (ds : List SequenceDef) (os : List (List Itv)) → a.slots ≡ b.slots → placewise (lists_present a) ds os ≡ placewise (lists_present b) ds os
same_presence a b ds os same = ap (λ s. placewise (lists_present (made s [] [])) ds os) same

two_texts : (ra rb : List (List Bytes)) (bytes mid rest : Bytes) → bytes ≡ text ra ++ mid → mid ≡ text rb ++ rest → bytes ≡ text (ra ++ rb) ++ rest
two_texts ra rb bytes mid rest first second = first ∙ ap (λ t. text ra ++ t) second ∙ sym (append_assoc (text ra) (text rb) rest) ∙ ap (λ t. t ++ rest) (sym (text_append ra rb))

length_both : (xs ys : List (List Bytes)) (p q : ℕ) → length xs ≡ p → length ys ≡ q → length (xs ++ ys) ≡ p + q
length_both [] ys p q h k = omega (arith, h, k)
length_both (x ∷ xs) ys zero q h k = absurd (omega (arith, h))
length_both (x ∷ xs) ys (suc p) q h k = omega (arith, length_both xs ys p q (omega (arith, h)) k)

pub orders_stop : (m : Data) → IsValid m → (slots : List Slot) (a : Assignment) (bytes mid : Bytes) (n k : ℕ) → placewise fits_def m.intervals slots ≡ true → HasSlots m slots a → bytes ≡ text (rows slot_row 0 m.intervals slots) ++ mid → StopsRows (order_row m) (lists_present a) m.sequences mid n → k ≡ length m.intervals + n → StopsBody m bytes k
orders_stop m valid slots a bytes mid n k fits has first s many =
    let parts = domain_parts m a has.domain in
    let ra = rows slot_row 0 m.intervals slots in
    let rb = rows (order_row m) 0 m.sequences s.ys in
    let full = completed (order_row m) (lists_present a) 0 m.sequences s.ys a.orders s.fits parts.1 in
    let more = rows state_row 0 m.states a.segs ++ end_row ∷ [] in
    record {
      front = ra ++ rb;
      count = length_both ra rb (length m.intervals) n (rows_length slot_row fits_def 0 m.intervals slots fits) (begun_length (order_row m) (lists_present a) 0 m.sequences s.ys s.fits ∙ s.count) ∙ sym many;
      few = omega (arith, many, place_within m.sequences n s.def s.at, (limits_of m valid.limits).intervals, (limits_of m valid.limits).sequences);
      each = all_append is_line ra rb (slot_lines m valid slots (placewise_begins fits_def m.intervals slots fits)) (order_lines m valid a s.ys s.fits);
      rest = s.rest;
      same = two_texts ra rb bytes mid s.rest first s.same;
      schedule = made slots full.0 a.segs;
      domain = domain_from m (made slots full.0 a.segs) fits (same_presence (made slots full.0 a.segs) a m.sequences full.0 (sym has.same) ∙ full.2) parts.2;
      after = full.1 ++ more;
      goes = ap (λ rs. ra ++ (rs ++ more)) full.3 ∙ ap (λ rs. ra ++ rs) (append_assoc rb full.1 more) ∙ sym (append_assoc ra rb (full.1 ++ more));
      unlike = λ b us h e.
          let theirs = domain_parts m b h in
          let cut = same_slots m valid slots b.slots _ (rb ++ us) fits theirs.0 (e ∙ append_assoc ra rb us) in
          unlike_next (order_row m) (lists_present a) n s.def (length s.ys) s.rest us s.count s.stuck
          (next_row (order_row m) (lists_present a) 0 m.sequences s.ys b.orders (rows state_row 0 m.states b.segs ++ end_row ∷ []) us s.def s.fits (same_presence a b m.sequences b.orders (has.same ∙ sym cut.0) ∙ theirs.1) (ap (slice_get m.sequences) s.count ∙ s.at) cut.1);
    }

-- behind the lines of the sequences

same_first : (m : Data) → IsValid m → (a b : Assignment) (us ws : List (List Bytes)) (orders : List (List Itv)) → is_in_domain m b ≡ true → placewise fits_def m.intervals a.slots ≡ true → placewise (lists_present a) m.sequences orders ≡ true
    → body m b ≡ (rows slot_row 0 m.intervals a.slots ++ (rows (order_row m) 0 m.sequences orders ++ us)) → rows state_row 0 m.states b.segs ++ end_row ∷ [] ≡ us
same_first m valid a b us ws orders h fits lists e =
    let theirs = domain_parts m b h in
    let cut = same_slots m valid a.slots b.slots _ (rows (order_row m) 0 m.sequences orders ++ us) fits theirs.0 e in
    let both = rows_length (order_row m) (lists_present b) 0 m.sequences b.orders theirs.1 ∙ sym (rows_length (order_row m) (lists_present a) 0 m.sequences orders lists) in
    (fronts_same (rows (order_row m) 0 m.sequences b.orders) (rows (order_row m) 0 m.sequences orders) (rows state_row 0 m.states b.segs ++ end_row ∷ []) us both cut.1).1

three_texts : (ra rb rc : List (List Bytes)) (bytes mid late rest : Bytes) → bytes ≡ text ra ++ mid → mid ≡ text rb ++ late → late ≡ text rc ++ rest → bytes ≡ text (ra ++ (rb ++ rc)) ++ rest
three_texts ra rb rc bytes mid late rest first second third = two_texts ra (rb ++ rc) bytes mid rest first (two_texts rb rc mid late rest second third)

pub states_stop : (m : Data) → IsValid m → (slots : List Slot) (a : Assignment) (orders : List (List Itv)) (bytes mid late : Bytes) (n k : ℕ) → HasSlots m slots a → bytes ≡ text (rows slot_row 0 m.intervals slots) ++ mid → placewise (lists_present a) m.sequences orders ≡ true → mid ≡ text (rows (order_row m) 0 m.sequences orders) ++ late
    → StopsRows state_row (are_segments m) m.states late n → k ≡ length m.intervals + length m.sequences + n → StopsBody m bytes k
states_stop m valid slots a orders bytes mid late n k has first lists second s many =
    let parts = domain_parts m a has.domain in
    let fits : placewise fits_def m.intervals slots ≡ true = ap (placewise fits_def m.intervals) (sym has.same) ∙ parts.0 in
    let ra = rows slot_row 0 m.intervals slots in
    let rb = rows (order_row m) 0 m.sequences orders in
    let rc = rows state_row 0 m.states s.ys in
    let full = completed state_row (are_segments m) 0 m.states s.ys a.segs s.fits parts.2 in
    record {
      front = ra ++ (rb ++ rc);
      count = length_both ra (rb ++ rc) (length m.intervals) (length m.sequences + n) (rows_length slot_row fits_def 0 m.intervals slots fits)
          (length_both rb rc (length m.sequences) n (rows_length (order_row m) (lists_present a) 0 m.sequences orders lists) (begun_length state_row (are_segments m) 0 m.states s.ys s.fits ∙ s.count)) ∙ omega (arith, many);
      few = omega (arith, many, place_within m.states n s.def s.at, (limits_of m valid.limits).intervals, (limits_of m valid.limits).sequences, (limits_of m valid.limits).states);
      each = all_append is_line ra (rb ++ rc) (slot_lines m valid slots (placewise_begins fits_def m.intervals slots fits))
          (all_append is_line rb rc (order_lines m valid a orders (placewise_begins (lists_present a) m.sequences orders lists)) (state_lines m valid s.ys s.fits));
      rest = s.rest;
      same = three_texts ra rb rc bytes mid late s.rest first second s.same;
      schedule = made slots orders full.0;
      domain = domain_from m (made slots orders full.0) fits (same_presence (made slots orders full.0) a m.sequences orders (sym has.same) ∙ lists) full.2;
      after = full.1 ++ end_row ∷ [];
      goes = ap (λ rs. ra ++ (rb ++ (rs ++ end_row ∷ []))) full.3 ∙ ap (λ rs. ra ++ (rb ++ rs)) (append_assoc rc full.1 (end_row ∷ [])) ∙ ap (λ rs. ra ++ rs) (sym (append_assoc rb rc (full.1 ++ end_row ∷ []))) ∙ sym (append_assoc ra (rb ++ rc) (full.1 ++ end_row ∷ []));
      unlike = λ b us h e.
          let theirs = domain_parts m b h in
          let mine : Assignment = made slots orders a.segs in
          let behind = same_first m valid mine b (rc ++ us) [] orders h fits (same_presence mine a m.sequences orders (sym has.same) ∙ lists) (e ∙ append_assoc ra (rb ++ rc) us ∙ ap (λ rs. ra ++ rs) (append_assoc rb rc us)) in
          unlike_next state_row (are_segments m) n s.def (length s.ys) s.rest us s.count s.stuck
          (next_row state_row (are_segments m) 0 m.states s.ys b.segs (end_row ∷ []) us s.def s.fits theirs.2 (ap (slice_get m.states) s.count ∙ s.at) behind);
    }

-- the end

abbrev pub all_read : Assignment → List (List Itv) → List (List Segment) → Assignment
all_read a orders segs = made a.slots orders segs

pub read_domain : (m : Data) (a : Assignment) (orders : List (List Itv)) (segs : List (List Segment)) → is_in_domain m a ≡ true → placewise (lists_present a) m.sequences orders ≡ true → placewise (are_segments m) m.states segs ≡ true → is_in_domain m (all_read a orders segs) ≡ true
read_domain m a orders segs h lists segments = domain_from m (all_read a orders segs) (domain_parts m a h).0 (same_presence (all_read a orders segs) a m.sequences orders refl ∙ lists) segments

body_before : (m : Data) (a : Assignment) → body m a ≡ (rows slot_row 0 m.intervals a.slots ++ (rows (order_row m) 0 m.sequences a.orders ++ rows state_row 0 m.states a.segs)) ++ end_row ∷ []
body_before m a =
    let ra = rows slot_row 0 m.intervals a.slots in
    let rb = rows (order_row m) 0 m.sequences a.orders in
    let rc = rows state_row 0 m.states a.segs in
    ap (λ rs. ra ++ rs) (sym (append_assoc rb rc (end_row ∷ []))) ∙ sym (append_assoc ra (rb ++ rc) (end_row ∷ []))

before_length : (m : Data) (a : Assignment) → is_in_domain m a ≡ true → length (rows slot_row 0 m.intervals a.slots ++ (rows (order_row m) 0 m.sequences a.orders ++ rows state_row 0 m.states a.segs)) ≡ length m.intervals + (length m.sequences + length m.states)
before_length m a h =
    let parts = domain_parts m a h in
    let ra = rows slot_row 0 m.intervals a.slots in
    let rb = rows (order_row m) 0 m.sequences a.orders in
    let rc = rows state_row 0 m.states a.segs in
    length_both ra (rb ++ rc) _ _ (rows_length slot_row fits_def 0 m.intervals a.slots parts.0) (length_both rb rc _ _ (rows_length (order_row m) (lists_present a) 0 m.sequences a.orders parts.1) (rows_length state_row (are_segments m) 0 m.states a.segs parts.2))

-- all bodies are as long
same_before : (m : Data) (a b : Assignment) (us : List (List Bytes)) → is_in_domain m a ≡ true → is_in_domain m b ≡ true → body m b ≡ (rows slot_row 0 m.intervals a.slots ++ (rows (order_row m) 0 m.sequences a.orders ++ rows state_row 0 m.states a.segs)) ++ us → end_row ∷ [] ≡ us
same_before m a b us ha hb e = (fronts_same _ _ (end_row ∷ []) us (before_length m b hb ∙ sym (before_length m a ha)) (sym (body_before m b) ∙ e)).1

front_each : (rs : List (List Bytes)) (r : List Bytes) → list_all is_line (rs ++ r ∷ []) ≡ true → list_all is_line rs ≡ true
front_each [] r h = refl
front_each (x ∷ rs) r h = let two = and_parts (is_line x) (list_all is_line (rs ++ r ∷ [])) h in and_from (is_line x) (list_all is_line rs) two.0 (front_each rs r two.1)

none_left : (m : Data) (a b : Assignment) (us : List (List Bytes)) → is_in_domain m a ≡ true → is_in_domain m b ≡ true → body m b ≡ body m a ++ us → us ≡ []
none_left m a b us ha hb e =
    let before = rows slot_row 0 m.intervals a.slots ++ (rows (order_row m) 0 m.sequences a.orders ++ rows state_row 0 m.states a.segs) in
    let more = same_before m a b (end_row ∷ us) ha hb (e ∙ ap (λ rs. rs ++ us) (body_before m a) ∙ append_assoc before (end_row ∷ []) us) in
    sym (behind _ _ _ _ more)
  where
    behind : (v w : List Bytes) (x y : List (List Bytes)) → v ∷ x ≡ w ∷ y → x ≡ y
    behind v w x y e = cc

pub end_stops : (m : Data) → IsValid m → (a : Assignment) (bytes rest : Bytes) (n k : ℕ) → is_in_domain m a ≡ true → bytes ≡ text (rows slot_row 0 m.intervals a.slots ++ (rows (order_row m) 0 m.sequences a.orders ++ rows state_row 0 m.states a.segs)) ++ rest → TakesEnd rest (Some n) → k ≡ length m.intervals + length m.sequences + length m.states + n → StopsBody m bytes k
end_stops m valid a bytes rest n k h same (inl missing) many =
    let before = rows slot_row 0 m.intervals a.slots ++ (rows (order_row m) 0 m.sequences a.orders ++ rows state_row 0 m.states a.segs) in
    record {
      front = before;
      count = before_length m a h ∙ omega (arith, many, missing.0);
      few = omega (arith, many, missing.0, (limits_of m valid.limits).intervals, (limits_of m valid.limits).sequences, (limits_of m valid.limits).states);
      each = front_each before end_row (ap (list_all is_line) (sym (body_before m a)) ∙ body_lines m a valid h);
      rest = rest;
      same = same;
      schedule = a;
      domain = h;
      after = end_row ∷ [];
      goes = body_before m a;
      unlike = λ b us hb e. subst (λ vs. Unlike vs rest) (same_before m a b us h hb e) missing.1;
    }
end_stops m valid a bytes rest n k h same (inr more) many =
    let before = rows slot_row 0 m.intervals a.slots ++ (rows (order_row m) 0 m.sequences a.orders ++ rows state_row 0 m.states a.segs) in
    record {
      front = body m a;
      count = ap length (body_before m a) ∙ length_both before (end_row ∷ []) _ 1 (before_length m a h) refl ∙ omega (arith, many, more.0);
      few = omega (arith, many, more.0, (limits_of m valid.limits).intervals, (limits_of m valid.limits).sequences, (limits_of m valid.limits).states);
      each = body_lines m a valid h;
      rest = more.1.0;
      same = same ∙ ap (λ t. text before ++ t) more.1.1 ∙ two_texts before (end_row ∷ []) (text before ++ (line end_row ++ more.1.0)) (line end_row ++ more.1.0) more.1.0 refl refl ∙ ap (λ rs. text rs ++ more.1.0) (sym (body_before m a));
      schedule = a;
      domain = h;
      after = [];
      goes = sym (append-nil (body m a));
      unlike = λ b us hb e. subst (λ vs. Unlike vs more.1.0) (sym (none_left m a b us h hb e)) more.1.2;
    }

pub all_there : (m : Data) (a : Assignment) (bytes rest : Bytes) → bytes ≡ text (rows slot_row 0 m.intervals a.slots ++ (rows (order_row m) 0 m.sequences a.orders ++ rows state_row 0 m.states a.segs)) ++ rest → TakesEnd rest None → bytes ≡ text (body m a)
all_there m a bytes rest same end =
    let before = rows slot_row 0 m.intervals a.slots ++ (rows (order_row m) 0 m.sequences a.orders ++ rows state_row 0 m.states a.segs) in
    same ∙ ap (λ t. text before ++ t) end ∙ sym (text_append before (end_row ∷ [])) ∙ ap text (sym (body_before m a))

pub read_front : (m : Data) (slots : List Slot) (a : Assignment) (orders : List (List Itv)) (segs : List (List Segment)) (bytes mid late rest : Bytes) → HasSlots m slots a → bytes ≡ text (rows slot_row 0 m.intervals slots) ++ mid → mid ≡ text (rows (order_row m) 0 m.sequences orders) ++ late → late ≡ text (rows state_row 0 m.states segs) ++ rest
    → bytes ≡ text (rows slot_row 0 m.intervals a.slots ++ (rows (order_row m) 0 m.sequences orders ++ rows state_row 0 m.states segs)) ++ rest
read_front m slots a orders segs bytes mid late rest has first second third =
    three_texts (rows slot_row 0 m.intervals a.slots) (rows (order_row m) 0 m.sequences orders) (rows state_row 0 m.states segs) bytes mid late rest (first ∙ ap (λ s. text (rows slot_row 0 m.intervals s) ++ mid) (sym has.same)) second third

-- what reading the lines of the intervals came to
pub slots_failed : (m : Data) → IsValid m → (bytes new : Bytes) (e : PartStop) → EachCanStand m.intervals true → ReadsRows slot_row fits_def m.intervals bytes new (Err e) → ReadsBody m bytes (Err e)
slots_failed m valid bytes new (Line n) some s = slots_stop m valid bytes n some s
slots_failed m valid bytes new NoMemory some s = tt

pub few_segments : (m : Data) (late : Bytes) (n : ℕ) → StopsRows state_row (are_segments m) m.states late n → n < length m.states
few_segments m late n s = place_within m.states n s.def s.at
