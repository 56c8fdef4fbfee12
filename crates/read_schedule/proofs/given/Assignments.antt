-- Assignments in the domain, and one of their lists put in for another.
use Rattle.std.proofs.Common.{◌≡◌, ℕ, zero, suc, ◌<◌, Bool, true, false, not, ◌&&◌, ◌||◌, cond, List, [], ◌∷◌, map, length, set, get_or, replicate, slice_index_or, filter, None, refl, sym, ap, ◌∙◌, arith}
use Rattle.std.specs.List.{list_all}
use Rattle.std.proofs.lemmas.Bool.{and_parts, and_from}
use Rattle.std.proofs.lemmas.Bool.Decides.{nat_tests}
use Rattle.std.proofs.lemmas.List.{set-set, set-get_or, get_or-set_same}
use Rattle.sched_base.specs.declared.ids.Itv.{Itv}
use Rattle.sched_model.specs.declared.types.SequenceDef.{SequenceDef}
use Rattle.sched_model.specs.declared.types.StateDef.{StateDef}
use Rattle.sched_model.specs.declared.types.Segment.{Segment}
use Rattle.sched_model.specs.declared.types.Slot.{Slot}
use Rattle.sched_model.specs.declared.types.Assignment.{Assignment}
use Rattle.sched_model.specs.Data.{Data, same, has}
use Rattle.sched_model.specs.Words.{◌implies◌, pairwise, placewise}
use Rattle.sched_model.specs.Value.{is_present, present_of}
use Rattle.sched_model.specs.Domain.{fits_def, lists_present, are_segments, is_in_domain}
use Rattle.sched_model.specs.Valid.{IsValid, is_sequence_def, are_parts, is_itv}
use Rattle.sched_model.specs.laws.Same.{same_assignment}
use Rattle.read_schedule.specs.code.Reads.{Exchanged, HasSlots, Tested, sequence_at, state_at}
use Rattle.read_schedule.proofs.spelling.Rows.{placewise_length}

-- a value put in for that at a place

pub set_passes : {X Y : Type 0} (r : X → Y → Bool) (xs : List X) (ys : List Y) (i : ℕ) (d : X) (y : Y) → placewise r xs ys ≡ true → i < length xs → placewise r xs (set ys i y) ≡ r (slice_index_or xs i d) y
set_passes r [] ys i d y h within = absurd (omega (arith, within))
set_passes r (x ∷ xs) [] i d y h within = cc
set_passes r (x ∷ xs) (z ∷ ys) zero d y h within = and_true (r x y) (placewise r xs ys) (and_parts (r x z) (placewise r xs ys) h).1
  where
    and_true : (a b : Bool) → b ≡ true → (a && b) ≡ a
    and_true true b h = h
    and_true false b h = refl
set_passes r (x ∷ xs) (z ∷ ys) (suc i) d y h within =
    let two = and_parts (r x z) (placewise r xs ys) h in ap (λ b. b && placewise r xs (set ys i y)) two.0 ∙ set_passes r xs ys i d y two.1 (omega (arith, within))

-- lists put in and taken out again

pub put_back : {T : Type 0} (lists after last : List (List T)) (i : ℕ) (list taken out : List T) → i < length lists → Exchanged lists i list after taken → Exchanged after i taken last out → (last ≡ lists) × (out ≡ list)
put_back lists after last i list taken out within first second = (
  second.put ∙ ap (λ ls. set ls i taken) first.put ∙ set-set lists i list taken ∙ ap (set lists i) first.out ∙ set-get_or lists i [],
  second.out ∙ ap (λ ls. get_or ls i []) first.put ∙ get_or-set_same lists i list [] within,
)

three : (m : Data) (a : Assignment) → is_in_domain m a ≡ true → (placewise fits_def m.intervals a.slots ≡ true) × (placewise (lists_present a) m.sequences a.orders ≡ true) × (placewise (are_segments m) m.states a.segs ≡ true)
three m a h =
    let h2 = and_parts (placewise fits_def m.intervals a.slots && placewise (lists_present a) m.sequences a.orders) (placewise (are_segments m) m.states a.segs) h in
    let h1 = and_parts (placewise fits_def m.intervals a.slots) (placewise (lists_present a) m.sequences a.orders) h2.0 in
    (h1.0, h1.1, h2.1)

pub domain_parts : (m : Data) (a : Assignment) → is_in_domain m a ≡ true → (placewise fits_def m.intervals a.slots ≡ true) × (placewise (lists_present a) m.sequences a.orders ≡ true) × (placewise (are_segments m) m.states a.segs ≡ true)
domain_parts m a h = three m a h

pub domain_from : (m : Data) (a : Assignment) → placewise fits_def m.intervals a.slots ≡ true → placewise (lists_present a) m.sequences a.orders ≡ true → placewise (are_segments m) m.states a.segs ≡ true → is_in_domain m a ≡ true
domain_from m a s o g = and_from (placewise fits_def m.intervals a.slots && placewise (lists_present a) m.sequences a.orders) (placewise (are_segments m) m.states a.segs) (and_from (placewise fits_def m.intervals a.slots) (placewise (lists_present a) m.sequences a.orders) s o) g

by_second : (a b c : Bool) → a ≡ true → c ≡ true → ((a && b) && c) ≡ b
by_second true true c ha hc = hc
by_second true false c ha hc = refl
by_second false b c ha hc = cc

by_third : (a b c : Bool) → a ≡ true → b ≡ true → ((a && b) && c) ≡ c
by_third true true c ha hb = refl
by_third true false c ha hb = cc
by_third false b c ha hb = cc

abbrev with_orders : List (List Itv) → Assignment → Assignment
with_orders os a = record a { orders = os }

abbrev with_segs : List (List Segment) → Assignment → Assignment
with_segs gs a = record a { segs = gs }

-- whether the assignment stays in the domain is whether the order fits
pub order_decides : (m : Data) (a : Assignment) (i : ℕ) (order : List Itv) (os : List (List Itv)) → is_in_domain m a ≡ true → i < length m.sequences → os ≡ set a.orders i order → is_in_domain m (with_orders os a) ≡ lists_present a (sequence_at m i) order
order_decides m a i order os h within is =
    let parts = three m a h in
    by_second (placewise fits_def m.intervals a.slots) (placewise (lists_present a) m.sequences os) (placewise (are_segments m) m.states a.segs) parts.0 parts.2
    ∙ ap (placewise (lists_present a) m.sequences) is
    ∙ set_passes (lists_present a) m.sequences a.orders i (record { name = None; members = []; types = None }) order parts.1 within

pub segments_decide : (m : Data) (a : Assignment) (i : ℕ) (ss : List Segment) (gs : List (List Segment)) → is_in_domain m a ≡ true → i < length m.states → gs ≡ set a.segs i ss → is_in_domain m (with_segs gs a) ≡ are_segments m (state_at m i) ss
segments_decide m a i ss gs h within is =
    let parts = three m a h in
    by_third (placewise fits_def m.intervals a.slots) (placewise (lists_present a) m.sequences a.orders) (placewise (are_segments m) m.states gs) parts.0 parts.1
    ∙ ap (placewise (are_segments m) m.states) is
    ∙ set_passes (are_segments m) m.states a.segs i (record { name = []; matrix = None }) ss parts.2 within

pub order_tested : (m : Data) (a : Assignment) (i : ℕ) (order : List Itv) (after last : List (List Itv)) (taken out : List Itv) (fits : Bool) → is_in_domain m a ≡ true → i < length m.sequences → Exchanged a.orders i order after taken → Exchanged after i taken last out → fits ≡ is_in_domain m (with_orders after a)
    → Tested (lists_present a) (sequence_at m i) a order (with_orders last a) out fits
order_tested m a i order after last taken out fits h within first second test =
    let many : i < length a.orders = omega (arith, within, placewise_length (lists_present a) m.sequences a.orders (three m a h).1) in
    let back = put_back a.orders after last i order taken out many first second in record {
      same = same_assignment (with_orders last a) a refl back.0 refl;
      value = back.1;
      test = test ∙ order_decides m a i order after h within first.put;
    }

pub segments_tested : (m : Data) (a : Assignment) (i : ℕ) (ss : List Segment) (after last : List (List Segment)) (taken out : List Segment) (fits : Bool) → is_in_domain m a ≡ true → i < length m.states → Exchanged a.segs i ss after taken → Exchanged after i taken last out → fits ≡ is_in_domain m (with_segs after a)
    → Tested (are_segments m) (state_at m i) a ss (with_segs last a) out fits
segments_tested m a i ss after last taken out fits h within first second test =
    let many : i < length a.segs = omega (arith, within, placewise_length (are_segments m) m.states a.segs (three m a h).2) in
    let back = put_back a.segs after last i ss taken out many first second in record {
      same = same_assignment (with_segs last a) a refl refl back.0;
      value = back.1;
      test = test ∙ segments_decide m a i ss after h within first.put;
    }

-- the present members, in the order in which they are listed, are an order

kept_all : (p q : Itv → Bool) (xs : List Itv) → list_all q xs ≡ true → list_all q (filter p xs) ≡ true
kept_all p q [] h = refl
kept_all p q (x ∷ xs) h = let two = and_parts (q x) (list_all q xs) h in put (p x) (kept_all p q xs two.1) two.0
  where
    put : (b : Bool) → list_all q (filter p xs) ≡ true → q x ≡ true → list_all q (cond b (x ∷ filter p xs) (filter p xs)) ≡ true
    put true rest here = and_from (q x) (list_all q (filter p xs)) here rest
    put false rest here = rest

kept_pairs : (r : Itv → Itv → Bool) (p : Itv → Bool) (xs : List Itv) → pairwise r xs ≡ true → pairwise r (filter p xs) ≡ true
kept_pairs r p [] h = refl
kept_pairs r p (x ∷ xs) h = let two = and_parts (list_all (r x) xs) (pairwise r xs) h in put (p x) (kept_pairs r p xs two.1) (kept_all p (r x) xs two.0)
  where
    put : (b : Bool) → pairwise r (filter p xs) ≡ true → list_all (r x) (filter p xs) ≡ true → pairwise r (cond b (x ∷ filter p xs) (filter p xs)) ≡ true
    put true rest here = and_from (list_all (r x) (filter p xs)) (pairwise r (filter p xs)) here rest
    put false rest here = rest

itself : (x : Itv) → same x x ≡ true
itself x = grind (arith, nat_tests)

-- what is kept is a member that passes
kept_pass : (p : Itv → Bool) (ms xs : List Itv) → ((x : Itv) → has xs x ≡ true → has ms x ≡ true) → list_all (λ x. has ms x && p x) (filter p xs) ≡ true
kept_pass p ms [] within = refl
kept_pass p ms (x ∷ xs) within = put (p x) refl (kept_pass p ms xs (λ y here. within y (or_later (same y x) (has xs y) here))) (within x (ap (λ b. b || has xs x) (itself x)))
  where
    or_later : (a b : Bool) → b ≡ true → (a || b) ≡ true
    or_later true b h = refl
    or_later false b h = h

    put : (b : Bool) → p x ≡ b → list_all (λ y. has ms y && p y) (filter p xs) ≡ true → has ms x ≡ true → list_all (λ y. has ms y && p y) (cond b (x ∷ filter p xs) (filter p xs)) ≡ true
    put true is rest here = and_from (has ms x && p x) (list_all (λ y. has ms y && p y) (filter p xs)) (and_from (has ms x) (p x) here is) rest
    put false is rest here = rest

-- a member that passes is kept

one_itv : (x y : Itv) → same x y ≡ true → x ≡ y
one_itv x y h = let number : x.0 ≡ y.0 = grind (arith, nat_tests) in ap (λ n. let it : Itv = record { 0 = n } in it) number

filter_has : (p : Itv → Bool) (xs : List Itv) (x : Itv) → has xs x ≡ true → p x ≡ true → has (filter p xs) x ≡ true
filter_has p [] x h px = cc
filter_has p (y ∷ ys) x h px = by (same x y) (p y) refl refl h (λ later. filter_has p ys x later px)
  where
    by : (b c : Bool) → same x y ≡ b → p y ≡ c → (b || has ys x) ≡ true → (has ys x ≡ true → has (filter p ys) x ≡ true) → has (cond c (y ∷ filter p ys) (filter p ys)) x ≡ true
    by true true is py h rest = ap (λ b. b || has (filter p ys) x) is
    by true false is py h rest = let both : true ≡ false = sym px ∙ ap p (one_itv x y is) ∙ py in cc
    by false true is py h rest = ap (λ b. b || has (filter p ys) x) is ∙ rest h
    by false false is py h rest = rest h

kept_has : (p : Itv → Bool) (ms xs : List Itv) → ((x : Itv) → has xs x ≡ true → has ms x ≡ true) → list_all (λ x. p x implies has (filter p ms) x) xs ≡ true
kept_has p ms [] within = refl
kept_has p ms (x ∷ xs) within =
    and_from (p x implies has (filter p ms) x) (list_all (λ y. p y implies has (filter p ms) y) xs) (by (p x) refl (within x (ap (λ b. b || has xs x) (itself x)))) (kept_has p ms xs (λ y here. within y (or_later (same y x) (has xs y) here)))
  where
    or_later : (a b : Bool) → b ≡ true → (a || b) ≡ true
    or_later true b h = refl
    or_later false b h = h

    by : (b : Bool) → p x ≡ b → has ms x ≡ true → (b implies has (filter p ms) x) ≡ true
    by true is here = filter_has p ms x here is
    by false is here = refl

pub present_lists : (m : Data) (a : Assignment) (d : SequenceDef) → is_sequence_def m d ≡ true → lists_present a d (present_of a d.members) ≡ true
present_lists m a d def =
    let h2 = and_parts (are_parts m d.members && _) _ def in
    let h1 = and_parts (are_parts m d.members) _ h2.0 in
    let h0 = and_parts (list_all (is_itv m) d.members) (pairwise (λ x y. not (same x y)) d.members) h1.0 in
    and_from _ _ (and_from _ _ (kept_pairs (λ x y. not (same x y)) (is_present a) d.members h0.1) (kept_pass (is_present a) d.members d.members (λ x h. h))) (kept_has (is_present a) d.members d.members (λ x h. h))

all_present : (m : Data) (a : Assignment) (ds : List SequenceDef) → list_all (is_sequence_def m) ds ≡ true → placewise (lists_present a) ds (map (λ d. present_of a d.members) ds) ≡ true
all_present m a [] h = refl
all_present m a (d ∷ ds) h =
    let two = and_parts (is_sequence_def m d) (list_all (is_sequence_def m) ds) h in
    and_from (lists_present a d (present_of a d.members)) (placewise (lists_present a) ds (map (λ d. present_of a d.members) ds)) (present_lists m a d two.0) (all_present m a ds two.1)

none_segments : (m : Data) (gs : List StateDef) → placewise (are_segments m) gs (replicate (length gs) []) ≡ true
none_segments m [] = refl
none_segments m (g ∷ gs) = none_segments m gs

-- the assignment with these slots
pub some_domain : (m : Data) (slots : List Slot) (a : Assignment) (orders : List (List Itv)) (segs : List (List Segment)) (n : ℕ) → IsValid m → placewise fits_def m.intervals slots ≡ true → a.slots ≡ slots → orders ≡ map (λ d. present_of a d.members) m.sequences → n ≡ length m.states → segs ≡ replicate n []
    → HasSlots m slots (record { slots = a.slots; orders = orders; segs = segs })
some_domain m slots a orders segs n valid fits same os many gs = record {
  domain = domain_from m (record { slots = a.slots; orders = orders; segs = segs }) (ap (placewise fits_def m.intervals) same ∙ fits)
      (ap (placewise (lists_present a) m.sequences) os ∙ all_present m a m.sequences valid.sequences)
      (ap (placewise (are_segments m) m.states) (gs ∙ ap (λ k. replicate k []) many) ∙ none_segments m m.states);
  same = same;
}
