-- A set that is found over the places of members makes a witness that refutes where it is asked.
use Rattle.base_laws.specs.laws.Truth.{all_three as join_three}
use Rattle.std.specs.Prelude.{◌≡◌, ◌⊎◌, ℕ, zero, suc, ◌+◌, ◌^◌, ◌<◌, ◌≤◌, ℤ, pos, ◌≤ℤ◌, Bool, true, false, not, ◌&&◌, ◌||◌, nat_eq, nat_lt, List, [], ◌∷◌, map, length, Option, Some, None, slice_get}
use Rattle.std.specs.List.{list_all}
use Rattle.std.proofs.Common.{refl, sym, ap, subst, ◌∙◌, inl, inr, arith}
use Rattle.std.proofs.lemmas.Option.{same_Some}
use Rattle.std.proofs.lemmas.List.{get_or_past}
use Rattle.std.proofs.lemmas.Bool.{or_left}
use Rattle.std.proofs.lemmas.Bool.Decides.{nat_tests}
use Rattle.base_laws.specs.laws.Numbers.{other_number, turned_number}
use Rattle.base_laws.specs.laws.Items.{any_weaker}
use Rattle.sched_base.specs.declared.ids.Itv.{Itv}
use Rattle.sched_base.specs.declared.ids.Seq.{Seq}
use Rattle.sched_model.specs.Words.{passes, passes_if_any}
use Rattle.sched_model.specs.Valid.{IsValid}
use Rattle.sched_model.specs.Bounds.{is_number}
use Rattle.sched_model.specs.laws.Limits.{limits_of}
use Rattle.sched_model.specs.Data.{Data, has as has_itv}
use Rattle.region.specs.declared.types.Bounds.{Bounds}
use Rattle.region.specs.declared.types.Guess.{Guess}
use Rattle.region.specs.declared.types.Guess.TheVariants.{Present}
use Rattle.region.specs.Cells.{Region, bounds_of, is_there, says_present, says_absent}
use Rattle.region.specs.Guesses.{topic, looked_at}
use Rattle.region.specs.Looks.{IsRegionOf}
use Rattle.region.specs.laws.Lists.{true_both}
use Rattle.region.specs.laws.OneSequence.{same_self, place_within}
use Rattle.region.specs.laws.Narrowing.{as_many_bounds, looked_stays}
use Rattle.findings.specs.Ends.{is_open_end, is_asked}
use Rattle.findings.specs.code.Reads.{is_among}
use Rattle.findings.specs.laws.Kept.{asked_admits}
use Rattle.task_sets.specs.Times.{Times, has, adjacent, IsSized, lst_at, overload_row, edge_row, detect_row, turned, seen_in}
use Rattle.task_sets.specs.laws.Sums.{same_number}
use Rattle.task_sets.specs.laws.Ects.{up_from, keep, kept, all_from}
use Rattle.task_sets.specs.laws.NotEndCuts.{detect_not_ends}
use Rattle.task_sets.specs.laws.Mirror.{overload_row_turned}
use Rattle.task_sets.specs.laws.Moved.{IsGuessed}
use Rattle.refute_seq.specs.declared.witness.SeqWitness.TheVariants.{Overload, Edge, NotEnd, Detect}
use Rattle.refute_seq.specs.Witness.{is_valid, is_number_set}
use Rattle.refute_seq.specs.Sets.{times_of, is_task}
use Rattle.refute_seq.specs.Listed.{lists, asks_start, asks_end, asks_member}
use Rattle.theta_passes.specs.declared.rows.Row.{Row}
use Rattle.theta_passes.specs.code.Rows.{is_present, is_candidate, times_at}
use Rattle.theta_passes.specs.laws.Members.{present_below, is_below as row_below}
use Rattle.theta_passes.specs.code.Rows.{with_candidate}
use Rattle.prop_sets.specs.code.Tasks.{sequence_at}
use Rattle.prop_sets.specs.code.Rows.{seen, asked_bounds, asks_early, asks_late, member_at}
use Rattle.prop_sets.specs.code.Given.{IsOf}
use Rattle.theta_passes.specs.code.Witnesses.{IsLateSet}
use Rattle.prop_sets.specs.code.Busy.{IsBusy, name_at, ids_of}
use Rattle.prop_sets.specs.laws.Under.{IsSeen, narrow}
use Rattle.prop_sets.specs.laws.Named.{IsNaming, image, overload_named, edge_named, detect_named}
use Rattle.prop_sets.specs.laws.Placed.{IsNoted, place, has_task, placed, placed_in, is_guessed, others_stay, seen_size, stands_at, present_at, candidate_at}
use Rattle.prop_sets.specs.laws.Members.{has_at, those_low, overload_those, edge_those, detect_those}
use Rattle.prop_sets.specs.laws.BySequence.{overload_in, edge_in, not_end_in, detect_in, overload_by, edge_by, not_end_by, detect_by}
use Rattle.prop_sets.specs.laws.Telling.{IsTightLook, IsTold, end_guess, tight_look, present_look}

-- numbers
is_below : (i n : ℕ) → i < n → nat_lt i n ≡ true
is_below i n h = grind (arith, nat_tests)

below : (i n : ℕ) → nat_lt i n ≡ true → i < n
below i n h = grind (arith, nat_tests)

itself : (n : ℕ) → nat_eq n n ≡ true
itself n = grind (arith, nat_tests)

as_number : (n : ℕ) → n ≤ 100000 → is_number n ≡ true
as_number n h = is_below n (2 ^ 32) (omega (arith, h))

-- members are named by their ids
pub record IsChosen (side : ℕ) (chosen early : Bool) (r q : Region) (xs : List Itv) (rows : List Row) (k : ℕ) : Type 0 where
  pub noted : IsNoted side chosen early r xs rows
  pub within : k < length xs
  pub seen : IsSeen r q (member_at xs k) early

in_rows : (side : ℕ) (chosen early : Bool) (r q : Region) (xs : List Itv) (rows : List Row) (k : ℕ) → IsChosen side chosen early r q xs rows k → (y : ℕ) → with_candidate rows k y ≡ true → y < length xs
in_rows side chosen early r q xs rows k h y on = by_case (nat_eq y k) refl on
  where
    by_case : (b : Bool) → nat_eq y k ≡ b → (b || is_present rows y) ≡ true → y < length xs
    by_case true is on = subst (λ n. n < length xs) (sym (same_number y k is)) h.within
    by_case false is on = let less = present_below rows y on in let size = h.noted.are.size in omega (arith, less, size)

-- the place of the member at a place
place_back : (side : ℕ) (chosen early : Bool) (r q : Region) (xs : List Itv) (rows : List Row) (k : ℕ) → IsChosen side chosen early r q xs rows k → (y : ℕ) → y < length xs → place xs (name_at xs y) ≡ y
place_back side chosen early r q xs rows k h y within =
    h.noted.apart (place xs (name_at xs y)) y (place_within xs (member_at xs y) (has_at xs y within)) within (stands_at xs (member_at xs y) (has_at xs y within))

there : (side : ℕ) (chosen early : Bool) (r q : Region) (xs : List Itv) (rows : List Row) (k : ℕ) → IsChosen side chosen early r q xs rows k → (y : ℕ) → with_candidate rows k y ≡ true → has_task xs q (name_at xs y) ≡ true
there side chosen early r q xs rows k h y on =
    true_both (has_itv xs (member_at xs y)) (is_there q (member_at xs y)) (has_at xs y within) (by_case (nat_eq y k) refl on)
  where
    within : y < length xs
    within = in_rows side chosen early r q xs rows k h y on

    by_case : (b : Bool) → nat_eq y k ≡ b → (b || is_present rows y) ≡ true → is_there q (member_at xs y) ≡ true
    by_case true is on = subst (λ n. is_there q (member_at xs n) ≡ true) (sym (same_number y k is)) h.seen.there
    by_case false is on =
        let at = present_at side chosen early r xs rows (member_at xs y) h.noted (has_at xs y within) in
        let here = ap (is_present rows) (place_back side chosen early r q xs rows k h y within) in
        ap (λ (c : Bounds). says_present c.presence) (h.seen.others (member_at xs y) (λ e. other_number y k is (h.noted.apart y k within h.within (ap (λ n. record { 0 = n }) e)))) ∙ sym at ∙ here ∙ on

pub to_members : (side : ℕ) (chosen early : Bool) (r q : Region) (xs : List Itv) (rows : List Row) (k : ℕ) (d : ℕ → Times) → IsChosen side chosen early r q xs rows k → IsGuessed d (placed side q xs rows)
    → IsNaming d (turned side (times_of q)) (with_candidate rows k) (has_task xs q) (name_at xs)
to_members side chosen early r q xs rows k d h same = record {
  to = there side chosen early r q xs rows k h;
  apart = λ x y on also e. h.noted.apart x y (within x on) (within y also) (ap (λ n. record { 0 = n }) e);
  est = λ x on. ap (λ (t : Times). t.est) (sym (at x on)) ∙ sym (same.est x);
  lct = λ x on. ap (λ (t : Times). t.lct) (sym (at x on)) ∙ sym (same.lct x);
  size = λ x on. ap (λ (t : Times). t.p) (sym (at x on)) ∙ sym (same.size x);
}
  where
    within : (x : ℕ) → with_candidate rows k x ≡ true → x < length xs
    within x on = in_rows side chosen early r q xs rows k h x on

    at : (x : ℕ) → with_candidate rows k x ≡ true → placed side q xs rows x ≡ turned side (times_of q) (name_at xs x)
    at x on = placed_in side q xs rows x (within x on)

-- ids lie below the number of intervals
names_below : (xs : List Itv) (n k : ℕ) → ((y : ℕ) → y < length xs → name_at xs y < n) → k < length xs → (y : ℕ) → name_at xs y < n
names_below xs n k each within y = by_case (nat_lt y (length xs)) refl
  where
    past : nat_lt y (length xs) ≡ false → length xs ≤ y
    past h = grind (arith, nat_tests)

    by_case : (b : Bool) → nat_lt y (length xs) ≡ b → name_at xs y < n
    by_case true is = each y (below y (length xs) is)
    by_case false is =
        let one = each k within in
        let none : name_at xs y ≡ 0 = ap (λ (x : Itv). x.0) (get_or_past xs y (record { 0 = 0 }) (past is)) in
        omega (arith, one, none)

-- sets of ids are valid
length_keep : (t : ℕ → Bool) (xs : List ℕ) → length (keep t xs) ≤ length xs
length_keep t [] = omega arith
length_keep t (x ∷ xs) = step (t x) (length_keep t xs)
  where
    step : (b : Bool) → length (keep t xs) ≤ length xs → length (kept b x (keep t xs)) ≤ length (x ∷ xs)
    step true h = omega (arith, h)
    step false h = omega (arith, h)

length_up : (a n : ℕ) → length (up_from a n) ≡ n
length_up a zero = refl
length_up a (suc n) = ap suc (length_up (suc a) n)

ids_few : (xs : List Itv) (set : List ℕ) (n : ℕ) → length (ids_of xs set n) ≤ n
ids_few xs set n = let short = length_keep (has (map (name_at xs) set)) (up_from 0 n) in let size = length_up 0 n in omega (arith, short, size)

ids_set : (xs : List Itv) (set : List ℕ) (n : ℕ) → n ≤ 2000 → ((y : ℕ) → name_at xs y < n) → is_number_set (ids_of xs set n) ≡ true
ids_set xs set n few low =
    let of = image (name_at xs) n set (λ x on. low x) in
    true_both (adjacent nat_lt (ids_of xs set n)) (list_all is_number (ids_of xs set n)) of.rises
    (all_from is_number (ids_of xs set n) (λ y on. let b = of.back y on in let less = low b.0 in let is = b.2 in as_number y (omega (arith, less, is, few))))

low_names : (m : Data) (c : ℕ) (p : Seq) (r : Region) (xs : List Itv) (k : ℕ) → IsOf m c p r xs → k < length xs → (y : ℕ) → name_at xs y < length m.intervals
low_names m c p r xs k of within =
    names_below xs (length m.intervals) k (λ y inside. those_low m p xs of.valid of.members y inside) within

in_region : (m : Data) (c : ℕ) (p : Seq) (r : Region) (xs : List Itv) (k : ℕ) → IsOf m c p r xs → k < length xs → (member_at xs k).0 < length r.bounds
in_region m c p r xs k of within = let low = low_names m c p r xs k of within k in let same = as_many_bounds m r of.of in omega (arith, low, same)

candidate_open : (side : ℕ) (chosen early : Bool) (r : Region) (xs : List Itv) (rows : List Row) (k : ℕ) → IsNoted side chosen early r xs rows → k < length xs → is_candidate rows k ≡ true → says_absent (bounds_of r (member_at xs k)).presence ≡ false
candidate_open side chosen early r xs rows k noted within on =
    let here = has_at xs k within in
    let back : place xs (name_at xs k) ≡ k = noted.apart (place xs (name_at xs k)) k (place_within xs (member_at xs k) here) within (stands_at xs (member_at xs k) here) in
    flip (says_absent (bounds_of r (member_at xs k)).presence) (sym (candidate_at side chosen early r xs rows (member_at xs k) noted here) ∙ ap (is_candidate rows) back ∙ on)
  where
    flip : (b : Bool) → not b ≡ true → b ≡ false
    flip true h = cc
    flip false h = refl

-- the guess is on the member
on_itself : (early : Bool) (r : Region) (i : Itv) (guess : Option Guess) → IsTold early r i guess → passes_if_any (is_open_end r) guess ≡ true → is_asked (λ g. is_among (i ∷ []) [] (topic g)) r guess ≡ true
on_itself early r i None told opened = refl
on_itself early r i (Some g) told opened = true_both (is_among (i ∷ []) [] (topic g)) (is_open_end r g) (elim told [
  | inl none ↦ cc
  | inr (inl is) ↦ one g (Present i) is refl
  | inr (inr is) ↦ by_end early g is
]) opened
  where
    mine : (is_among (i ∷ []) [] (topic (Present i))) ≡ true
    mine = or_left _ _ (same_self i)

    one : (g h : Guess) → Some g ≡ Some h → h ≡ Present i → is_among (i ∷ []) [] (topic g) ≡ true
    one g h e f = subst (λ k. is_among (i ∷ []) [] (topic k) ≡ true) (sym (same_Some g h e ∙ f)) mine

    by_end : (early : Bool) (g : Guess) → Some g ≡ Some (end_guess early r i) → is_among (i ∷ []) [] (topic g) ≡ true
    by_end true g e = subst (λ k. is_among (i ∷ []) [] (topic k) ≡ true) (sym (same_Some g _ e)) (or_left _ _ (same_self i))
    by_end false g e = subst (λ k. is_among (i ∷ []) [] (topic k) ≡ true) (sym (same_Some g _ e)) (or_left _ _ (same_self i))

-- the numbers of a look are sized
sized_look : (m : Data) (q : Region) (side : ℕ) → IsValid m → IsRegionOf m q → IsSized (turned side (times_of q))
sized_look m q side valid of = record { sizes = λ x. subst (λ z. pos 0 ≤ℤ z) (sym (seen_size side (bounds_of q (record { 0 = x })))) (narrow m q (record { 0 = x }) valid of).size }

-- what the passes tell of a member, and what is true of a look at it
pub record IsHit (m : Data) (c : ℕ) (p : Seq) (r : Region) (xs : List Itv) (side : ℕ) (chosen early : Bool) (rows : List Row) (k : ℕ) : Type 0 where
  pub of : IsOf m c p r xs
  pub noted : IsNoted side chosen early r xs rows
  pub candidate : is_candidate rows k ≡ true

hit_within : (m : Data) (c : ℕ) (p : Seq) (r : Region) (xs : List Itv) (side : ℕ) (chosen early : Bool) (rows : List Row) (k : ℕ) → IsHit m c p r xs side chosen early rows k → k < length xs
hit_within m c p r xs side chosen early rows k h = let low = row_below rows k h.candidate in let size = h.noted.are.size in omega (arith, low, size)

tight_at : (m : Data) (c : ℕ) (p : Seq) (r : Region) (xs : List Itv) (side : ℕ) (chosen early : Bool) (rows : List Row) (k : ℕ) → IsHit m c p r xs side chosen early rows k → (guess : Option Guess) × IsTightLook early r (member_at xs k) guess
tight_at m c p r xs side chosen early rows k h =
    let within = hit_within m c p r xs side chosen early rows k h in
    tight_look early r (member_at xs k) (h.noted.narrow (member_at xs k)) (candidate_open side chosen early r xs rows k h.noted within h.candidate) (in_region m c p r xs k h.of within)

-- the region under it is one of the model
look_of : (m : Data) (r : Region) (early : Bool) (i : Itv) (guess : Option Guess) → IsRegionOf m r → IsTold early r i guess → passes_if_any (is_open_end r) guess ≡ true → IsRegionOf m (looked_at guess r)
look_of m r early i guess of told opened = looked_stays guess m r (asked_admits (λ g. is_among (i ∷ []) [] (topic g)) r guess (on_itself early r i guess told opened)) of

-- guesses that rows list
start_listed : (side : ℕ) (r : Region) (i : Itv) → nat_lt side 2 ≡ true → asks_start side i.0 (topic (end_guess (asks_early side) r i)) ≡ true
start_listed zero r i h = true_both (nat_eq i.0 i.0) true (itself i.0) refl
start_listed (suc zero) r i h = true_both (nat_eq i.0 i.0) true (itself i.0) refl
start_listed (suc (suc n)) r i h = absurd (two_sides n h)
  where
    two_sides : (n : ℕ) → nat_lt (suc (suc n)) 2 ≡ true → ⊥
    two_sides n h = grind (arith, nat_tests)

end_listed : (side : ℕ) (r : Region) (i : Itv) → nat_lt side 2 ≡ true → asks_end side i.0 (topic (end_guess (asks_late side) r i)) ≡ true
end_listed zero r i h = true_both (nat_eq i.0 i.0) true (itself i.0) refl
end_listed (suc zero) r i h = true_both (nat_eq i.0 i.0) true (itself i.0) refl
end_listed (suc (suc n)) r i h = absurd (two_sides n h)
  where
    two_sides : (n : ℕ) → nat_lt (suc (suc n)) 2 ≡ true → ⊥
    two_sides n h = grind (arith, nat_tests)

asked_told : (early : Bool) (r : Region) (i : Itv) (lists : Guess → Bool) (guess : Option Guess) → lists (Present i) ≡ true → lists (end_guess early r i) ≡ true → IsTold early r i guess → passes_if_any (is_open_end r) guess ≡ true → is_asked lists r guess ≡ true
asked_told early r i lists None present end told opened = refl
asked_told early r i lists (Some g) present end told opened = true_both (lists g) (is_open_end r g) (elim told [
  | inl none ↦ cc
  | inr (inl is) ↦ subst (λ k. lists k ≡ true) (sym (same_Some g (Present i) is)) present
  | inr (inr is) ↦ subst (λ k. lists k ≡ true) (sym (same_Some g (end_guess early r i) is)) end
]) opened

-- the row of a constraint, from that of its sequence
of_sequence : (f : Seq → Bool) (o : Option Seq) (p : Seq) → o ≡ Some p → f p ≡ true → passes f o ≡ true
of_sequence f o p is h = subst (λ o. passes f o ≡ true) (sym is) h

side_number : (side : ℕ) → nat_lt side 2 ≡ true → is_number side ≡ true
side_number side h = let low : side < 2 = below side 2 h in as_number side (omega (arith, low))

-- EDGE
edge_valid : (m : Data) (c : ℕ) (p : Seq) (r : Region) (xs : List Itv) (side k : ℕ) (s u v : List ℕ) → IsOf m c p r xs → k < length xs → nat_lt side 2 ≡ true
    → is_valid (Edge c side (name_at xs k) (ids_of xs s (length m.intervals)) (ids_of xs u (length m.intervals)) (ids_of xs v (length m.intervals))) ≡ true
edge_valid m c p r xs side k s u v of within two =
    let n = length m.intervals in
    let few = limits_of m of.valid.limits in
    let low = low_names m c p r xs k of within in
    let one = low k in
    let at = of.within in
    let a = ids_few xs s n in
    let b = ids_few xs u n in
    let e = ids_few xs v n in
    let all = few.intervals in
    let most = few.constraints in
    seven (is_number c) (is_number side) (is_number (name_at xs k)) (is_number_set (ids_of xs s n)) (is_number_set (ids_of xs u n)) (is_number_set (ids_of xs v n)) _
    (as_number c (omega (arith, at, most))) (side_number side two) (as_number (name_at xs k) (omega (arith, one, all))) (ids_set xs s n all low) (ids_set xs u n all low) (ids_set xs v n all low)
    (as_number (7 + length (ids_of xs s n) + length (ids_of xs u n) + length (ids_of xs v n)) (omega (arith, a, b, e, all)))
  where
    seven : (a b c d e f g : Bool) → a ≡ true → b ≡ true → c ≡ true → d ≡ true → e ≡ true → f ≡ true → g ≡ true → (a && b && c && d && e && f && g) ≡ true
    seven a b c d e f g p q r s t u v = rw (p, q, r, s, t, u, v) refl

pub edge_busy : (m : Data) (c : ℕ) (p : Seq) (r : Region) (best : Option ℤ) (xs : List Itv) (side : ℕ) (rows : List Row) (k : ℕ) (s u v : List ℕ) → nat_lt side 2 ≡ true → IsHit m c p r xs side true (asks_early side) rows k
    → edge_row (times_at rows) (with_candidate rows k) k s u v ≡ true
    → IsBusy m r best (member_at xs k) (Edge c side (name_at xs k) (ids_of xs s (length m.intervals)) (ids_of xs u (length m.intervals)) (ids_of xs v (length m.intervals)))
edge_busy m c p r best xs side rows k s u v two h is =
    let early = asks_early side in
    let n = length m.intervals in
    let within = hit_within m c p r xs side true early rows k h in
    let i = member_at xs k in
    let found = tight_at m c p r xs side true early rows k h in
    let guess = found.0 in
    let look = found.1 in
    let q = looked_at guess r in
    let low = low_names m c p r xs k h.of within in
    let chosen : IsChosen side true early r q xs rows k = record { noted = h.noted; within = within; seen = look.seen } in
    let names = to_members side true early r q xs rows k (times_at rows) chosen (is_guessed side true early r q i xs rows h.noted look.seen) in
    let start : lst_at (turned side (times_of q)) (name_at xs k) ≡ lst_at (times_at rows) k = ap (λ t. (seen_in side t).lst) look.same ∙ sym (ap (λ (w : Row). w.lst) (h.noted.are.each k within)) in
    let row = edge_named (times_at rows) (turned side (times_of q)) (with_candidate rows k) (has_task xs q) (name_at xs) k s u v (ids_of xs s n) (ids_of xs u n) (ids_of xs v n)
    (sized_look m q side h.of.valid (look_of m r early i guess h.of.of look.told look.opened)) names (image (name_at xs) n s (λ x on. low x)) (image (name_at xs) n u (λ x on. low x)) (image (name_at xs) n v (λ x on. low x)) start (or_left _ _ (itself k)) is in
    let here = sym (edge_those m p q xs (turned side (times_of q)) (name_at xs k) (ids_of xs s n) (ids_of xs u n) (ids_of xs v n) h.of.members) ∙ row in
    record {
      guess = guess;
      asked = asked_told early r i (λ g. asks_start side i.0 (topic g)) guess (itself i.0) (start_listed side r i two) look.told look.opened;
      on = on_itself early r i guess look.told look.opened;
      refuted = true_both _ _ (edge_valid m c p r xs side k s u v h.of within two)
          (edge_by m q side (name_at xs k) (ids_of xs s n) (ids_of xs u n) (ids_of xs v n) (slice_get m.constraints c)
          ∙ of_sequence (edge_in m q side (name_at xs k) (ids_of xs s n) (ids_of xs u n) (ids_of xs v n)) (sequence_at m c) p h.of.sequence (true_both (nat_lt side 2) _ two here));
    }

-- DETECT and NOTEND: first over the places, with the numbers of the look
set_valid : (m : Data) (c : ℕ) (p : Seq) (r : Region) (xs : List Itv) (side k : ℕ) (s : List ℕ) → IsOf m c p r xs → k < length xs → nat_lt side 2 ≡ true
    → (is_number c && is_number side && is_number (name_at xs k) && is_number_set (ids_of xs s (length m.intervals)) && is_number (5 + length (ids_of xs s (length m.intervals)))) ≡ true
set_valid m c p r xs side k s of within two =
    let n = length m.intervals in
    let few = limits_of m of.valid.limits in
    let low = low_names m c p r xs k of within in
    let one = low k in
    let at = of.within in
    let a = ids_few xs s n in
    let all = few.intervals in
    let most = few.constraints in
    five (is_number c) (is_number side) (is_number (name_at xs k)) (is_number_set (ids_of xs s n)) _
    (as_number c (omega (arith, at, most))) (side_number side two) (as_number (name_at xs k) (omega (arith, one, all))) (ids_set xs s n all low)
    (as_number (5 + length (ids_of xs s n)) (omega (arith, a, all)))
  where
    five : (a b c d e : Bool) → a ≡ true → b ≡ true → c ≡ true → d ≡ true → e ≡ true → (a && b && c && d && e) ≡ true
    five a b c d e p q r s t = rw (p, q, r, s, t) refl

late_placed : (m : Data) (c : ℕ) (p : Seq) (r : Region) (xs : List Itv) (side : ℕ) (early : Bool) (rows : List Row) (k : ℕ) (s : List ℕ) (guess : Option Guess) → IsHit m c p r xs side false early rows k → IsTightLook early r (member_at xs k) guess
    → IsLateSet rows k s → detect_row (placed side (looked_at guess r) xs rows) (with_candidate rows k) k s ≡ true
late_placed m c p r xs side early rows k s guess h look set =
    let q = looked_at guess r in
    let d = placed side q xs rows in
    let i = member_at xs k in
    let within = hit_within m c p r xs side false early rows k h in
    let chosen : IsChosen side false early r q xs rows k = record { noted = h.noted; within = within; seen = look.seen } in
    let back : place xs (name_at xs k) ≡ k = place_back side false early r q xs rows k chosen k within in
    let mine : d k ≡ seen side (asked_bounds early (bounds_of r i)) = placed_in side q xs rows k within ∙ ap (seen_in side) look.same in
    let row = h.noted.are.each k within in
    (set d (record {
      same = is_guessed side false early r q i xs rows h.noted look.seen;
      others = λ y off. others_stay side early r q i xs rows h.noted look.seen (has_at xs k within) y (ap (nat_eq y) back ∙ off);
      reach = ap (λ (t : Times). t.ect) mine ∙ sym (ap (λ (w : Row). w.reach) row);
      bar = ap (λ (t : Times). t.lst) mine ∙ sym (ap (λ (w : Row). w.bar) row);
    })).0

late_row : (m : Data) (c : ℕ) (p : Seq) (r : Region) (xs : List Itv) (side : ℕ) (early : Bool) (rows : List Row) (k : ℕ) (s : List ℕ) (guess : Option Guess) → IsHit m c p r xs side false early rows k → IsTightLook early r (member_at xs k) guess
    → IsLateSet rows k s → detect_row (turned side (times_of (looked_at guess r))) (is_task m (looked_at guess r) p) (name_at xs k) (ids_of xs s (length m.intervals)) ≡ true
late_row m c p r xs side early rows k s guess h look set =
    let q = looked_at guess r in
    let d = placed side q xs rows in
    let n = length m.intervals in
    let i = member_at xs k in
    let within = hit_within m c p r xs side false early rows k h in
    let low = low_names m c p r xs k h.of within in
    let chosen : IsChosen side false early r q xs rows k = record { noted = h.noted; within = within; seen = look.seen } in
    let names = to_members side false early r q xs rows k d chosen (record { est = λ y. refl; lct = λ y. refl; size = λ y. refl }) in
    let row = detect_named d (turned side (times_of q)) (with_candidate rows k) (has_task xs q) (name_at xs) k s (ids_of xs s n)
    (sized_look m q side h.of.valid (look_of m r early i guess h.of.of look.told look.opened)) names (image (name_at xs) n s (λ x on. low x))
    (λ w on. sym (ap (λ (t : Times). t.lst) (placed_in side q xs rows w (in_rows side false early r q xs rows k chosen w on))))
    (sym (ap (λ (t : Times). t.ect) (placed_in side q xs rows k within))) (or_left _ _ (itself k)) (late_placed m c p r xs side early rows k s guess h look set) in
    sym (detect_those m p q xs (turned side (times_of q)) (name_at xs k) (ids_of xs s n) h.of.members) ∙ row

pub detect_busy : (m : Data) (c : ℕ) (p : Seq) (r : Region) (best : Option ℤ) (xs : List Itv) (side : ℕ) (rows : List Row) (k : ℕ) (s : List ℕ) → nat_lt side 2 ≡ true → IsHit m c p r xs side false (asks_early side) rows k → IsLateSet rows k s
    → IsBusy m r best (member_at xs k) (Detect c side (name_at xs k) (ids_of xs s (length m.intervals)))
detect_busy m c p r best xs side rows k s two h set =
    let early = asks_early side in
    let n = length m.intervals in
    let i = member_at xs k in
    let within = hit_within m c p r xs side false early rows k h in
    let found = tight_at m c p r xs side false early rows k h in
    let look = found.1 in
    let q = looked_at found.0 r in
    record {
      guess = found.0;
      asked = asked_told early r i (λ g. asks_start side i.0 (topic g)) found.0 (itself i.0) (start_listed side r i two) look.told look.opened;
      on = on_itself early r i found.0 look.told look.opened;
      refuted = true_both _ _ (set_valid m c p r xs side k s h.of within two)
          (detect_by m q side (name_at xs k) (ids_of xs s n) (slice_get m.constraints c)
          ∙ of_sequence (detect_in m q side (name_at xs k) (ids_of xs s n)) (sequence_at m c) p h.of.sequence (true_both (nat_lt side 2) _ two (late_row m c p r xs side early rows k s found.0 h look set)));
    }

pub not_end_busy : (m : Data) (c : ℕ) (p : Seq) (r : Region) (best : Option ℤ) (xs : List Itv) (side : ℕ) (rows : List Row) (k : ℕ) (s : List ℕ) → nat_lt side 2 ≡ true → IsHit m c p r xs side false (asks_late side) rows k → IsLateSet rows k s
    → IsBusy m r best (member_at xs k) (NotEnd c side (name_at xs k) (ids_of xs s (length m.intervals)))
not_end_busy m c p r best xs side rows k s two h set =
    let early = asks_late side in
    let n = length m.intervals in
    let i = member_at xs k in
    let within = hit_within m c p r xs side false early rows k h in
    let found = tight_at m c p r xs side false early rows k h in
    let look = found.1 in
    let q = looked_at found.0 r in
    record {
      guess = found.0;
      asked = asked_told early r i (λ g. asks_end side i.0 (topic g)) found.0 (itself i.0) (end_listed side r i two) look.told look.opened;
      on = on_itself early r i found.0 look.told look.opened;
      refuted = true_both _ _ (set_valid m c p r xs side k s h.of within two)
          (not_end_by m q side (name_at xs k) (ids_of xs s n) (slice_get m.constraints c)
          ∙ of_sequence (not_end_in m q side (name_at xs k) (ids_of xs s n)) (sequence_at m c) p h.of.sequence
          (true_both (nat_lt side 2) _ two (detect_not_ends (turned side (times_of q)) (is_task m q p) (name_at xs k) (ids_of xs s n) (late_row m c p r xs side early rows k s found.0 h look set))));
    }

-- OVERLOAD, with a set that has the member, or one that is present
overload_valid : (m : Data) (c : ℕ) (p : Seq) (r : Region) (xs : List Itv) (k : ℕ) (s : List ℕ) → IsOf m c p r xs → k < length xs → is_valid (Overload c (ids_of xs s (length m.intervals))) ≡ true
overload_valid m c p r xs k s of within =
    let n = length m.intervals in
    let few = limits_of m of.valid.limits in
    let low = low_names m c p r xs k of within in
    let at = of.within in
    let a = ids_few xs s n in
    let all = few.intervals in
    let most = few.constraints in
    join_three (is_number c) (is_number_set (ids_of xs s n)) (is_number (3 + length (ids_of xs s n))) (as_number c (omega (arith, at, most))) (ids_set xs s n all low) (as_number (3 + length (ids_of xs s n)) (omega (arith, a, all)))

asked_member : (r : Region) (i : Itv) (s : List ℕ) (guess : Option Guess) → has s i.0 ≡ true → (guess ≡ None) ⊎ (guess ≡ Some (Present i)) → passes_if_any (is_open_end r) guess ≡ true → is_asked (λ g. asks_member s (topic g)) r guess ≡ true
asked_member r i s None here told opened = refl
asked_member r i s (Some g) here told opened = true_both (asks_member s (topic g)) (is_open_end r g) (elim told [
  | inl none ↦ cc
  | inr is ↦ subst (λ h. asks_member s (topic h) ≡ true) (sym (same_Some g (Present i) is)) (any_weaker (λ n. nat_eq n i.0) (λ n. nat_eq i.0 n) (λ n e. turned_number n i.0 e) s here)
]) opened

present_told : (early : Bool) (r : Region) (i : Itv) (guess : Option Guess) → (guess ≡ None) ⊎ (guess ≡ Some (Present i)) → IsTold early r i guess
present_told early r i guess (inl e) = inl e
present_told early r i guess (inr e) = inr (inl e)

pub overload_busy : (m : Data) (c : ℕ) (p : Seq) (r : Region) (best : Option ℤ) (xs : List Itv) (side : ℕ) (chosen early : Bool) (rows : List Row) (k : ℕ) (s : List ℕ) → IsHit m c p r xs side chosen early rows k → has s k ≡ true
    → overload_row (times_at rows) (with_candidate rows k) s ≡ true → IsBusy m r best (member_at xs k) (Overload c (ids_of xs s (length m.intervals)))
overload_busy m c p r best xs side chosen early rows k s h here is =
    let n = length m.intervals in
    let i = member_at xs k in
    let within = hit_within m c p r xs side chosen early rows k h in
    let found = present_look early r i (candidate_open side chosen early r xs rows k h.noted within h.candidate) (in_region m c p r xs k h.of within) in
    let look = found.1 in
    let q = looked_at found.0 r in
    let low = low_names m c p r xs k h.of within in
    let of = image (name_at xs) n s (λ x on. low x) in
    let picked : IsChosen side chosen early r q xs rows k = record { noted = h.noted; within = within; seen = look.seen } in
    let names = to_members side chosen early r q xs rows k (times_at rows) picked (is_guessed side chosen early r q i xs rows h.noted look.seen) in
    let told = present_told early r i found.0 look.told in
    let row = overload_named (times_at rows) (turned side (times_of q)) (with_candidate rows k) (has_task xs q) (name_at xs) s (ids_of xs s n) (sized_look m q side h.of.valid (look_of m r early i found.0 h.of.of told look.opened)) names of is in
    let mine = sym (overload_those m p q xs (turned side (times_of q)) (ids_of xs s n) h.of.members) ∙ row in
    record {
      guess = found.0;
      asked = asked_member r i (ids_of xs s n) found.0 (of.there k here) look.told look.opened;
      on = on_itself early r i found.0 told look.opened;
      refuted = true_both _ _ (overload_valid m c p r xs k s h.of within)
          (overload_by m q (ids_of xs s n) (slice_get m.constraints c)
          ∙ of_sequence (overload_in m q (ids_of xs s n)) (sequence_at m c) p h.of.sequence (sym (overload_row_turned side (times_of q) (is_task m q p) (ids_of xs s n)) ∙ mine));
    }
