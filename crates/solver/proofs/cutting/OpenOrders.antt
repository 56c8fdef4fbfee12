-- A guess on an open order of two members splits.
use Rattle.std.proofs.Common.{◌≡◌, ℕ, zero, suc, ◌+◌, ◌<◌, Bool, true, false, ◌&&◌, List, [], ◌∷◌, length, drop, map, refl, sym, ap, subst, ◌∙◌, arith, get_or, true≢false}
use Rattle.std.specs.Prelude.{◌||◌, not, nat_lt, nat_eq}
use Rattle.std.specs.List.{list_all}
use Rattle.std.proofs.lemmas.Bool.Decides.{nat_tests}
use Rattle.std.proofs.lemmas.List.{get_or-map}
use Rattle.std.proofs.lemmas.Bool.{or_right}
use Rattle.sched_base.specs.declared.ids.Itv.{Itv}
use Rattle.sched_base.specs.declared.ids.Seq.{Seq}
use Rattle.sched_model.specs.declared.types.SequenceDef.{SequenceDef}
use Rattle.sched_model.specs.Data.{Data, same, has}
use Rattle.sched_model.specs.Valid.{IsValid, is_itv, are_distinct, is_sequence_def}
use Rattle.region.specs.declared.types.Bounds.{Bounds}
use Rattle.region.specs.declared.types.Presence.{Presence}
use Rattle.region.specs.declared.types.Presence.TheVariants as presence
use Rattle.region.specs.Orders.{SequenceCells}
use Rattle.region.specs.Cells.{Region, unknown, no_sequence, cells_of, says_present, says_absent}
use Rattle.region.specs.Looks.{IsRegionOf}
use Rattle.region.specs.laws.Lists.{both_true, true_both}
use Rattle.region.specs.laws.Narrowing.{as_many}
use Rattle.solver.specs.code.Searching.{IsLater, AreMembers, is_other}

-- one that is there is an interval of the region, and may be there
beyond : (bs : List Bounds) (n : ℕ) → says_present (get_or bs n unknown).presence ≡ true → n < length bs
beyond [] n there = absurd (true≢false (sym there))
beyond (c ∷ bs) zero there = omega arith
beyond (c ∷ bs) (suc n) there = omega (arith, beyond bs n there)

not_absent : (p : Presence) → says_present p ≡ true → not (says_absent p) ≡ true
not_absent presence.Absent there = cc
not_absent presence.Present there = refl
not_absent presence.Maybe there = cc

below_test : (n k : ℕ) → n < k → nat_lt n k ≡ true
below_test n k h = grind (arith, nat_tests)

-- an element of a list of which all pass
passes_at : {X : Type 0} (t : X → Bool) (xs : List X) (i : ℕ) (d : X) → list_all t xs ≡ true → i < length xs → t (get_or xs i d) ≡ true
passes_at t [] i d h within = absurd (omega (arith, within))
passes_at t (x ∷ xs) zero d h within = (both_true (t x) (list_all t xs) h).0
passes_at t (x ∷ xs) (suc i) d h within = passes_at t xs i d (both_true (t x) (list_all t xs) h).1 (omega (arith, within))

-- the members behind one are others
more_have : (m : Itv) (ms ys : List Itv) → list_all (has ms) ys ≡ true → list_all (has (m ∷ ms)) ys ≡ true
more_have m ms [] h = refl
more_have m ms (y ∷ ys) h = let two = both_true (has ms y) (list_all (has ms) ys) h in true_both (has (m ∷ ms) y) _ (or_right (same y m) (has ms y) two.0) (more_have m ms ys two.1)

same_itself : (x : Itv) → same x x ≡ true
same_itself x = itself x.0
  where
    itself : (n : ℕ) → nat_eq n n ≡ true
    itself n = grind (arith, nat_tests)

first_has : (m : Itv) (ms : List Itv) → has (m ∷ ms) m ≡ true
first_has m ms = ap (λ b. b || has ms m) (same_itself m)

have_all : (ms : List Itv) → list_all (has ms) ms ≡ true
have_all [] = refl
have_all (m ∷ ms) = true_both (has (m ∷ ms) m) _ (first_has m ms) (more_have m ms ms (have_all ms))

both_pass : (s t : Itv → Bool) (ys : List Itv) → list_all s ys ≡ true → list_all t ys ≡ true → list_all (λ y. s y && t y) ys ≡ true
both_pass s t [] first second = refl
both_pass s t (y ∷ ys) first second =
    let one = both_true (s y) (list_all s ys) first in
    let two = both_true (t y) (list_all t ys) second in
    true_both (s y && t y) _ (true_both (s y) (t y) one.0 two.0) (both_pass s t ys one.1 two.1)

others_after : (all ms : List Itv) (i : ℕ) (d : Itv) → list_all (has all) ms ≡ true → are_distinct ms ≡ true → i < length ms → list_all (is_other all (get_or ms i d)) (drop (suc i) ms) ≡ true
others_after all [] i d have distinct within = absurd (omega (arith, within))
others_after all (m ∷ ms) zero d have distinct within =
    both_pass (has all) (λ y. not (same m y)) ms (both_true (has all m) (list_all (has all) ms) have).1 (both_true (list_all (λ y. not (same m y)) ms) (are_distinct ms) distinct).0
others_after all (m ∷ ms) (suc i) d have distinct within =
    others_after all ms i d (both_true (has all m) (list_all (has all) ms) have).1 (both_true (list_all (λ y. not (same m y)) ms) (are_distinct ms) distinct).1 (omega (arith, within))

pub later_of : (r : Region) (p : Seq) (ms : List Itv) (i : ℕ) (x : Itv) (later : List Itv) → AreMembers r p ms → i < length ms → x ≡ get_or ms i x → later ≡ drop (i + 1) ms → IsLater r p x later
later_of r p ms i x later of within at are =
    let have : list_all (has (cells_of r p).members) ms ≡ true = subst (λ all. list_all (has all) ms ≡ true) of.are (have_all ms) in
    record {
      within = of.within;
      member = subst (λ z. has (cells_of r p).members z ≡ true) (sym at) (passes_at (has (cells_of r p).members) ms i x have within);
      others = subst (λ ys. list_all (is_other (cells_of r p).members x) ys ≡ true) (sym (are ∙ ap (λ n. drop n ms) (next i)))
          (subst (λ z. list_all (is_other (cells_of r p).members z) (drop (suc i) ms) ≡ true) (sym at) (others_after (cells_of r p).members ms i x have of.distinct within));
    }
  where
    next : (n : ℕ) → n + 1 ≡ suc n
    next n = omega arith

-- the members of a sequence of a model are those of the region
pub members_of_region : (m : Data) (r : Region) (ds : List SequenceDef) (n : ℕ) (d : SequenceDef) → IsValid m → IsRegionOf m r → ds ≡ m.sequences → n < length ds → AreMembers r (record { 0 = n }) (get_or ds n d).members
members_of_region m r ds n d valid of are within =
    let inside : n < length r.orders = omega (arith, within, as_many m r of, ap (λ (es : List SequenceDef). length es) are) in
    let def : is_sequence_def m (get_or ds n d) ≡ true = passes_at (is_sequence_def m) ds n d (subst (λ es. list_all (is_sequence_def m) es ≡ true) (sym are) valid.sequences) within in
    let ms = (get_or ds n d).members in
    record {
      within = inside;
      are = sym (get_or-map (λ (e : SequenceDef). e.members) ds n d ms within)
          ∙ ap (λ es. get_or (map (λ (e : SequenceDef). e.members) es) n ms) are
          ∙ ap (λ mss. get_or mss n ms) (sym of.members) ∙ get_or-map (λ (s : SequenceCells). s.members) r.orders n no_sequence ms inside;
      distinct = (both_true (list_all (is_itv m) ms) (are_distinct ms) (both_true _ _ (both_true _ _ def).0).0).1;
    }
