-- A look at a region over the places of members.
use Rattle.std.specs.Prelude.{◌≡◌, ℕ, zero, suc, ◌+◌, ◌<◌, ◌≤◌, pos, ◌≤ℤ◌, Bool, true, false, not, ◌&&◌, nat_eq, nat_lt, List, [], ◌∷◌, length, if◌then◌else◌}
use Rattle.std.proofs.Common.{refl, sym, ap, subst, ◌∙◌, arith}
use Rattle.std.proofs.lemmas.Int.{ints}
use Rattle.std.proofs.lemmas.Bool.{or_left, or_right}
use Rattle.std.proofs.lemmas.Bool.Decides.{nat_tests}
use Rattle.base_laws.specs.laws.Numbers.{other_number}
use Rattle.std.proofs.lemmas.List.{get_or_past}
use Rattle.sched_base.specs.declared.ids.Itv.{Itv}
use Rattle.sched_model.specs.Data.{same, has}
use Rattle.region.specs.declared.types.Presence.{Presence}
use Rattle.region.specs.declared.types.Presence.TheVariants as presence
use Rattle.region.specs.declared.types.Bounds.{Bounds}
use Rattle.region.specs.Orders.{place_of}
use Rattle.region.specs.Cells.{Region, bounds_of, is_there, says_present, says_absent}
use Rattle.region.specs.laws.Lists.{both_true}
use Rattle.region.specs.laws.OneSequence.{place_within, member_at as at_place_of, by_place}
use Rattle.task_sets.specs.Times.{Times, IsSized, lst_at, turned}
use Rattle.task_sets.specs.laws.Moved.{IsGuessed}
use Rattle.refute_seq.specs.Sets.{times_in, times_of}
use Rattle.theta_passes.specs.declared.rows.Row.{Row}
use Rattle.theta_passes.specs.code.Rows.{row_at, is_present, is_candidate, times_at, times_of as times_of_row, says_present as row_says_present, says_absent as row_says_absent}
use Rattle.theta_passes.specs.code.Rows.{with_candidate}
use Rattle.prop_sets.specs.code.Rows.{seen, asked_bounds, row_presence, chosen_row, member_at, AreRows}
use Rattle.prop_sets.specs.laws.Under.{IsNarrow, IsTighter, IsSeen, asked_tighter, tighter_seen, seen_tighter}
use Rattle.prop_sets.specs.laws.Named.{IsNaming}

-- the rows of members that stand at one place each
pub record IsNoted (side : ℕ) (chosen early : Bool) (r : Region) (xs : List Itv) (rows : List Row) : Type 0 where
  pub are : AreRows (chosen_row chosen side early) r xs rows
  pub narrow : (x : Itv) → IsNarrow (bounds_of r x)
  pub apart : (j k : ℕ) → j < length xs → k < length xs → member_at xs j ≡ member_at xs k → j ≡ k

abbrev pub place : List Itv → ℕ → ℕ
place xs n = place_of xs (record { 0 = n })

-- the members that are there
abbrev pub has_task : List Itv → Region → ℕ → Bool
has_task xs q n = has xs (record { 0 = n }) && is_there q (record { 0 = n })

-- the numbers of another region at the places
abbrev pub placed : ℕ → Region → List Itv → List Row → ℕ → Times
placed side q xs rows y = if nat_lt y (length xs) then seen side (bounds_of q (member_at xs y)) else times_at rows y

is_below : (i n : ℕ) → i < n → nat_lt i n ≡ true
is_below i n h = grind (arith, nat_tests)

below : (i n : ℕ) → nat_lt i n ≡ true → i < n
below i n h = grind (arith, nat_tests)

past : (i n : ℕ) → nat_lt i n ≡ false → n ≤ i
past i n h = grind (arith, nat_tests)

itself : (n : ℕ) → nat_eq n n ≡ true
itself n = grind (arith, nat_tests)

same_number : (i j : ℕ) → nat_eq i j ≡ true → i ≡ j
same_number i j h = grind (arith, nat_tests)

pub placed_in : (side : ℕ) (q : Region) (xs : List Itv) (rows : List Row) (y : ℕ) → y < length xs → placed side q xs rows y ≡ seen side (bounds_of q (member_at xs y))
placed_in side q xs rows y within = ap (λ b. if b then seen side (bounds_of q (member_at xs y)) else times_at rows y) (is_below y (length xs) within)

placed_past : (side : ℕ) (q : Region) (xs : List Itv) (rows : List Row) (y : ℕ) → nat_lt y (length xs) ≡ false → placed side q xs rows y ≡ times_at rows y
placed_past side q xs rows y off = ap (λ b. if b then seen side (bounds_of q (member_at xs y)) else times_at rows y) off

-- a member stands at its place
pub stands_at : (xs : List Itv) (x : Itv) → has xs x ≡ true → member_at xs (place xs x.0) ≡ x
stands_at xs x here = at_place_of xs x (record { 0 = 0 }) here

pub at_place : (side : ℕ) (q : Region) (xs : List Itv) (rows : List Row) (x : Itv) → has xs x ≡ true → placed side q xs rows (place xs x.0) ≡ seen side (bounds_of q x)
at_place side q xs rows x here = placed_in side q xs rows (place xs x.0) (place_within xs x here) ∙ ap (λ z. seen side (bounds_of q z)) (stands_at xs x here)

pub place_most : (xs : List Itv) (x : Itv) → place_of xs x < suc (length xs)
place_most [] x = omega arith
place_most (y ∷ ys) x = decided (same x y) (place_most ys x)
  where
    decided : (b : Bool) → place_of ys x < suc (length ys) → (if not b then 1 + place_of ys x else 0) < suc (length (y ∷ ys))
    decided true rest = omega arith
    decided false rest = omega (arith, rest)

-- the rows and the numbers of the region
pub row_base : (chosen : Bool) (side : ℕ) (early : Bool) (c : Bounds) → IsNarrow c → IsTighter (seen side c) (times_of_row (chosen_row chosen side early c))
row_base true side early c low = let h = tighter_seen side (times_in c) (times_in (asked_bounds early c)) (asked_tighter early c low) in record { est = h.est; lct = h.lct; size = h.size; lst = h.lst; ect = h.ect }
row_base false side early c low = record { est = refl; lct = refl; size = refl; lst = omega (arith, ints); ect = omega (arith, ints) }

pub row_is : (side : ℕ) (chosen early : Bool) (r : Region) (xs : List Itv) (rows : List Row) (x : Itv) → IsNoted side chosen early r xs rows → has xs x ≡ true → row_at rows (place xs x.0) ≡ chosen_row chosen side early (bounds_of r x)
row_is side chosen early r xs rows x noted here = noted.are.each (place xs x.0) (place_within xs x here) ∙ ap (λ z. chosen_row chosen side early (bounds_of r z)) (stands_at xs x here)

chosen_presence : (chosen : Bool) (side : ℕ) (early : Bool) (c : Bounds) → (chosen_row chosen side early c).presence ≡ row_presence c.presence
chosen_presence true side early c = refl
chosen_presence false side early c = refl

chosen_bar : (chosen : Bool) (side : ℕ) (early : Bool) (c : Bounds) → (chosen_row chosen side early c).bar ≡ (seen side (asked_bounds early c)).lst
chosen_bar true side early c = refl
chosen_bar false side early c = refl

chosen_reach : (chosen : Bool) (side : ℕ) (early : Bool) (c : Bounds) → (chosen_row chosen side early c).reach ≡ (seen side (asked_bounds early c)).ect
chosen_reach true side early c = refl
chosen_reach false side early c = refl

present_row : (h : Presence) → row_says_present (row_presence h) ≡ says_present h
present_row presence.Absent = refl
present_row presence.Present = refl
present_row presence.Maybe = refl

absent_row : (h : Presence) → row_says_absent (row_presence h) ≡ says_absent h
absent_row presence.Absent = refl
absent_row presence.Present = refl
absent_row presence.Maybe = refl

pub present_at : (side : ℕ) (chosen early : Bool) (r : Region) (xs : List Itv) (rows : List Row) (x : Itv) → IsNoted side chosen early r xs rows → has xs x ≡ true → is_present rows (place xs x.0) ≡ is_there r x
present_at side chosen early r xs rows x noted here =
    ap (λ (w : Row). row_says_present w.presence) (row_is side chosen early r xs rows x noted here) ∙ ap row_says_present (chosen_presence chosen side early (bounds_of r x)) ∙ present_row (bounds_of r x).presence

pub candidate_at : (side : ℕ) (chosen early : Bool) (r : Region) (xs : List Itv) (rows : List Row) (x : Itv) → IsNoted side chosen early r xs rows → has xs x ≡ true → is_candidate rows (place xs x.0) ≡ not (says_absent (bounds_of r x).presence)
candidate_at side chosen early r xs rows x noted here =
    ap (λ (w : Row). not (row_says_absent w.presence)) (row_is side chosen early r xs rows x noted here) ∙ ap (λ h. not (row_says_absent h)) (chosen_presence chosen side early (bounds_of r x)) ∙ ap not (absent_row (bounds_of r x).presence)

pub bar_at : (side : ℕ) (chosen early : Bool) (r : Region) (xs : List Itv) (rows : List Row) (x : Itv) → IsNoted side chosen early r xs rows → has xs x ≡ true → (row_at rows (place xs x.0)).bar ≡ (seen side (asked_bounds early (bounds_of r x))).lst
bar_at side chosen early r xs rows x noted here = ap (λ (w : Row). w.bar) (row_is side chosen early r xs rows x noted here) ∙ chosen_bar chosen side early (bounds_of r x)

pub reach_at : (side : ℕ) (chosen early : Bool) (r : Region) (xs : List Itv) (rows : List Row) (x : Itv) → IsNoted side chosen early r xs rows → has xs x ≡ true → (row_at rows (place xs x.0)).reach ≡ (seen side (asked_bounds early (bounds_of r x))).ect
reach_at side chosen early r xs rows x noted here = ap (λ (w : Row). w.reach) (row_is side chosen early r xs rows x noted here) ∙ chosen_reach chosen side early (bounds_of r x)

-- sizes aren't below 0
pub seen_size : (side : ℕ) (c : Bounds) → (seen side c).p ≡ c.pmin
seen_size zero c = refl
seen_size (suc n) c = refl

pub rows_sized : (side : ℕ) (chosen early : Bool) (r : Region) (xs : List Itv) (rows : List Row) → IsNoted side chosen early r xs rows → IsSized (times_at rows)
rows_sized side chosen early r xs rows noted = record { sizes = λ y. by_case y (nat_lt y (length xs)) refl }
  where
    by_case : (y : ℕ) (b : Bool) → nat_lt y (length xs) ≡ b → pos 0 ≤ℤ (row_at rows y).p
    by_case y true is =
        let c = bounds_of r (member_at xs y) in
        let low = noted.narrow (member_at xs y) in
        let size = (row_base chosen side early c low).size ∙ seen_size side c in
        subst (λ (w : Row). pos 0 ≤ℤ w.p) (sym (noted.are.each y (below y (length xs) is))) (subst (λ z. pos 0 ≤ℤ z) (sym size) low.size)
    by_case y false is =
        let beyond = past y (length xs) is in
        let size = noted.are.size in
        subst (λ (w : Row). pos 0 ≤ℤ w.p) (sym (get_or_past rows y _ (omega (arith, size, beyond)))) (omega (arith, ints))

-- under a guess that is listed, est, lct and sizes stay
record SameThree (t a : Times) : Type 0 where
  est : t.est ≡ a.est
  lct : t.lct ≡ a.lct
  size : t.p ≡ a.p

pub is_guessed : (side : ℕ) (chosen early : Bool) (r q : Region) (i : Itv) (xs : List Itv) (rows : List Row) → IsNoted side chosen early r xs rows → IsSeen r q i early → IsGuessed (times_at rows) (placed side q xs rows)
is_guessed side chosen early r q i xs rows noted h = record { est = λ y. (three y).est; lct = λ y. (three y).lct; size = λ y. (three y).size }
  where
    by_case : (y : ℕ) (b : Bool) → nat_lt y (length xs) ≡ b → SameThree (times_at rows y) (placed side q xs rows y)
    by_case y true is =
        let x = member_at xs y in
        let within = below y (length xs) is in
        let base = row_base chosen side early (bounds_of r x) (noted.narrow x) in
        let look = seen_tighter side early r q i x (noted.narrow i) h in
        let row = noted.are.each y within in
        let there = placed_in side q xs rows y within in
        record {
          est = ap (λ (w : Row). w.est) row ∙ base.est ∙ sym look.est ∙ sym (ap (λ (t : Times). t.est) there);
          lct = ap (λ (w : Row). w.lct) row ∙ base.lct ∙ sym look.lct ∙ sym (ap (λ (t : Times). t.lct) there);
          size = ap (λ (w : Row). w.p) row ∙ base.size ∙ sym look.size ∙ sym (ap (λ (t : Times). t.p) there);
        }
    by_case y false is = let there = placed_past side q xs rows y is in record {
      est = sym (ap (λ (t : Times). t.est) there);
      lct = sym (ap (λ (t : Times). t.lct) there);
      size = sym (ap (λ (t : Times). t.p) there);
    }

    three : (y : ℕ) → SameThree (times_at rows y) (placed side q xs rows y)
    three y = by_case y (nat_lt y (length xs)) refl

pub placed_sized : (side : ℕ) (chosen early : Bool) (r q : Region) (i : Itv) (xs : List Itv) (rows : List Row) → IsNoted side chosen early r xs rows → IsSeen r q i early → IsSized (placed side q xs rows)
placed_sized side chosen early r q i xs rows noted h =
    record { sizes = λ y. subst (λ z. pos 0 ≤ℤ z) ((is_guessed side chosen early r q i xs rows noted h).size y) ((rows_sized side chosen early r xs rows noted).sizes y) }

-- the others keep their latest starts too, where the rows are plain
pub others_stay : (side : ℕ) (early : Bool) (r q : Region) (i : Itv) (xs : List Itv) (rows : List Row) → IsNoted side false early r xs rows → IsSeen r q i early → has xs i ≡ true
    → (y : ℕ) → nat_eq y (place xs i.0) ≡ false → lst_at (times_at rows) y ≡ lst_at (placed side q xs rows) y
others_stay side early r q i xs rows noted h here y off = by_case (nat_lt y (length xs)) refl
  where
    other : y < length xs → (member_at xs y).0 ≡ i.0 → ⊥
    other within e =
        let is_i : member_at xs y ≡ i = ap (λ n. record { 0 = n }) e in
        other_number y (place xs i.0) off (noted.apart y (place xs i.0) within (place_within xs i here) (is_i ∙ sym (stands_at xs i here)))

    by_case : (b : Bool) → nat_lt y (length xs) ≡ b → lst_at (times_at rows) y ≡ lst_at (placed side q xs rows) y
    by_case true is =
        let within = below y (length xs) is in
        ap (λ (w : Row). w.lst) (noted.are.each y within)
        ∙ ap (λ c. (seen side c).lst) (sym (h.others (member_at xs y) (other within)))
        ∙ sym (ap (λ (t : Times). t.lst) (placed_in side q xs rows y within))
    by_case false is = sym (ap (λ (t : Times). t.lst) (placed_past side q xs rows y is))

-- members are named by their places
pub to_places : (side : ℕ) (chosen early : Bool) (r q : Region) (i : Itv) (xs : List Itv) (rows : List Row) → IsNoted side chosen early r xs rows → IsSeen r q i early
    → IsNaming (turned side (times_of q)) (placed side q xs rows) (has_task xs q) (with_candidate rows (place xs i.0)) (place xs)
to_places side chosen early r q i xs rows noted h = record {
  to = λ x on. by_case x on (nat_eq x i.0) refl;
  apart = λ x y on also e. ap (λ (z : Itv). z.0) (by_place xs (record { 0 = x }) (record { 0 = y }) (member x on) (member y also) e);
  est = λ x on. ap (λ (t : Times). t.est) (at_place side q xs rows (record { 0 = x }) (member x on));
  lct = λ x on. ap (λ (t : Times). t.lct) (at_place side q xs rows (record { 0 = x }) (member x on));
  size = λ x on. ap (λ (t : Times). t.p) (at_place side q xs rows (record { 0 = x }) (member x on));
}
  where
    member : (x : ℕ) → has_task xs q x ≡ true → has xs (record { 0 = x }) ≡ true
    member x on = (both_true (has xs (record { 0 = x })) (is_there q (record { 0 = x })) on).0

    by_case : (x : ℕ) → has_task xs q x ≡ true → (b : Bool) → nat_eq x i.0 ≡ b → with_candidate rows (place xs i.0) (place xs x) ≡ true
    by_case x on true is =
        let k = place xs i.0 in
        or_left (nat_eq (place xs x) k) (is_present rows (place xs x)) (subst (λ n. nat_eq (place xs n) k ≡ true) (sym (same_number x i.0 is)) (itself k))
    by_case x on false is =
        let two = both_true (has xs (record { 0 = x })) (is_there q (record { 0 = x })) on in
        or_right (nat_eq (place xs x) (place xs i.0)) (is_present rows (place xs x))
        (present_at side chosen early r xs rows (record { 0 = x }) noted two.0 ∙ ap (λ (c : Bounds). says_present c.presence) (sym (h.others (record { 0 = x }) (other_number x i.0 is))) ∙ two.1)
