-- The sets of a finding make its row true.
use Rattle.std.specs.Prelude.{◌≡◌, ℕ, ◌+◌, ◌<◌, ◌≤◌, ℤ, ◌≤ℤ◌, Bool, true, false, not, nat_eq, int_le, int_lt, cond, List, ◌∷◌, length, Option, Some, None, refl}
use Rattle.std.proofs.Common.{arith, sym, subst, ap, ◌∙◌, inl, inr}
use Rattle.std.proofs.lemmas.Int.{ints}
use Rattle.std.proofs.lemmas.Bool.{cases_eq, and_from, and_parts, true≢false, or_right, or_left, not-true}
use Rattle.base_laws.specs.laws.Truth.{three_true, all_three}
use Rattle.task_sets.specs.Times.{has, lct_at, lst_at, ect_at, IsWithin, IsEct, in_cut, overload_row, detect_row, before_end}
use Rattle.task_sets.specs.laws.Sums.{has_first, self_eq}
use Rattle.task_sets.specs.laws.Ects.{greatest_reached, le_holds, le_true, lt_holds, lt_true}
use Rattle.task_sets.specs.laws.Cuts.{IsBelow, overload_is, overload_cuts, cut_below}
use Rattle.task_sets.specs.laws.NotEndCuts.{detect_not_ends}
use Rattle.task_sets.specs.laws.Moved.{ends_alike}
use Rattle.task_sets.specs.laws.Witnesses.{detect_made}
use Rattle.theta_passes.specs.declared.rows.Row.{Row}
use Rattle.theta_passes.specs.declared.parts.Part.TheVariants.{Cut, Before}
use Rattle.theta_passes.specs.declared.parts.Top.{Top}
use Rattle.theta_passes.specs.declared.witnesses.Ended.{Ended}
use Rattle.theta_passes.specs.code.Rows.{row_at, is_present, times_at, with_candidate, IsNearRow, IsByEst}
use Rattle.theta_passes.specs.code.Over.{Overfull}
use Rattle.theta_passes.specs.code.Late.{before_key, IsLateRow}
use Rattle.theta_passes.specs.code.Parts.{part_has, IsTop, GivesTop}
use Rattle.theta_passes.specs.code.Witnesses.{members_of, part_from, full_by, told_by, is_told, AreEnded, FullAt, FullCut, IsLateSet}
use Rattle.theta_passes.specs.laws.Members.{present_below, with_below}
use Rattle.theta_passes.proofs.scans.Reached.{near_sized, top_reached, top_ect}

-- OVERLOAD

pub asked_below : (rows : List Row) (with : Option ℕ) → Overfull rows with → IsBelow (members_of rows with) (length rows)
asked_below rows None over = present_below rows
asked_below rows (Some i) over = with_below rows i over.0

pub full_is : (rows : List Row) (with : Option ℕ) (end : ℤ) (o : Option Top) (r : Option ℕ) → ((k : ℕ) → IsNearRow (row_at rows k)) → IsByEst rows → IsBelow (members_of rows with) (length rows) → r ≡ full_by end o → GivesTop rows (part_has rows (Cut with end)) 0 o
    → FullAt rows with end r
full_is rows with end o r near sorted low is gives = subst (FullAt rows with end) (sym is) (given o gives)
  where
    below : IsBelow (part_has rows (Cut with end)) (length rows)
    below = cut_below (times_at rows) (members_of rows with) (length rows) end low

    chosen : (b : Top) (c : Bool) → int_lt end b.value ≡ c → IsTop rows (part_has rows (Cut with end)) 0 b → FullAt rows with end (cond c (Some b.place) None)
    chosen b true late top =
        let r = top_reached rows (part_has rows (Cut with end)) 0 b sorted below top in
        let d = times_at rows in
        let last = greatest_reached d b.place r.rest in
        let most = le_holds (lct_at d last.0) end (and_parts (members_of rows with last.0) _ (r.set.inside last.0 last.1)).1 in
        let is_last = last.2 in
        let value = r.value in (
          top.within,
          subst (λ s. overload_row d (members_of rows with) s ≡ true) (sym r.list)
              (overload_is d (members_of rows with) b.place r.rest (record { rises = r.set.rises; inside = λ y here. (and_parts (members_of rows with y) _ (r.set.inside y here)).0 })
              (omega (arith, ints, most, is_last, value, lt_holds end b.value late))),
        )
    chosen b false early top = λ z ect.
        let mine = top_ect rows (part_has rows (Cut with end)) b (near_sized rows near) sorted below top in
        let set = ect.reached in
        let up = mine.greatest set.0 set.1 set.2 in
        let same = set.3 in
        let high : b.value ≤ℤ end = grind (arith, ints) in
        omega (arith, ints, up, same, high)

    given : (o : Option Top) → GivesTop rows (part_has rows (Cut with end)) 0 o → FullAt rows with end (full_by end o)
    given None none = λ z ect.
        let set = ect.reached in
        let on = set.2.inside set.0 (has_first set.0 set.1) in
        absurd (none set.0 (omega arith) (below set.0 on) on)
    given (Some b) top = chosen b (int_lt end b.value) refl top

pub some_full : (rows : List Row) (with : Option ℕ) → ((k : ℕ) → IsNearRow (row_at rows k)) → Overfull rows with → FullCut rows with None → ⊥
some_full rows with near over none =
    let low = asked_below rows with over in
    let s = set_of with over in
    let cut = overload_cuts (times_at rows) (members_of rows with) (length rows) s.0 (near_sized rows near) low s.1 in
    let y = cut.2.member.0 in
    let early = none y (low y cut.2.member.1) cut.1 (subst (λ l. IsEct (times_at rows) (in_cut (times_at rows) (members_of rows with) l) cut.1) (sym cut.2.member.2) cut.2.ect) in
    let end = cut.2.member.2 in
    omega (arith, ints, early, end, cut.2.late)
  where
    set_of : (with : Option ℕ) → Overfull rows with → (s : List ℕ) × (overload_row (times_at rows) (members_of rows with) s ≡ true)
    set_of None over = over
    set_of (Some i) over = (over.1, over.2)

-- a cut tells of one at an earlier moment
pub ended_is : (rows : List Row) (with : Option ℕ) (l end : ℤ) (o : Option Top) (known : Option Ended) → ((k : ℕ) → IsNearRow (row_at rows k)) → IsByEst rows → IsBelow (members_of rows with) (length rows) → l ≡ end → known ≡ told_by l o → GivesTop rows (part_has rows (Cut with end)) 0 o
    → AreEnded rows with known
ended_is rows with l end None known near sorted low same is gives = subst (AreEnded rows with) (sym is) tt
ended_is rows with l end (Some b) known near sorted low same is gives = subst (AreEnded rows with) (sym is) (λ x xs set.
    (top_ect rows (part_has rows (Cut with end)) b (near_sized rows near) sorted (cut_below (times_at rows) (members_of rows with) (length rows) end low) gives).greatest x xs
    (subst (λ v. IsWithin (part_has rows (Cut with v)) x xs) same set))

pub told_none : (rows : List Row) (with : Option ℕ) (end : ℤ) (known : Option Ended) → is_told known end ≡ true → AreEnded rows with known → FullAt rows with end None
told_none rows with end None told all z ect = absurd (true≢false (sym told))
told_none rows with end (Some c) told all z ect =
    let both = and_parts (int_le end c.end) (int_le c.value end) told in
    let set = ect.reached in
    let later = le_holds end c.end both.0 in
    let within : IsWithin (part_has rows (Cut with c.end)) set.0 set.1 = record {
      rises = set.2.rises;
      inside = λ y here.
          let on = and_parts (members_of rows with y) (int_le (lct_at (times_at rows) y) end) (set.2.inside y here) in
          let by = le_holds (lct_at (times_at rows) y) end on.1 in
          and_from (members_of rows with y) (int_le (lct_at (times_at rows) y) c.end) on.0 (le_true (lct_at (times_at rows) y) c.end (omega (arith, ints, by, later)));
    } in
    let up = all set.0 set.1 within in
    let same = set.3 in
    let high = le_holds c.value end both.1 in
    omega (arith, ints, up, same, high)

-- so the cuts of the rows from one on are told, one after the other
abbrev pub NoneFrom : List Row → Option ℕ → ℕ → Type 0
NoneFrom rows with m = (j : ℕ) → m ≤ j → j < length rows → FullAt rows with (row_at rows j).lct None

pub one_told : (rows : List Row) (with : Option ℕ) (k m : ℕ) (l : ℤ) → k + 1 ≡ m → l ≡ (row_at rows k).lct → FullAt rows with l None → NoneFrom rows with m → NoneFrom rows with k
one_told rows with k m l next is none later j from below = elim (cases_eq j k) [
  | inl same ↦ subst (λ i. FullAt rows with (row_at rows i).lct None) (sym same) (subst (λ v. FullAt rows with v None) is none)
  | inr other ↦ later j (omega (arith, from, other, next)) below
]

pub none_told : (rows : List Row) (with : Option ℕ) → NoneFrom rows with (length rows)
none_told rows with j from below = absurd (omega (arith, from, below))

pub no_full : (rows : List Row) (with : Option ℕ) (o : Option (ℤ × ℕ)) → ((k : ℕ) → IsNearRow (row_at rows k)) → Overfull rows with → o ≡ None → FullCut rows with o → ⊥
no_full rows with o near over is cut = some_full rows with near over (subst (FullCut rows with) is cut)

pub full_shown : (rows : List Row) (with : Option ℕ) (o : Option (ℤ × ℕ)) (l end : ℤ) (first : ℕ) (items : List ℕ) → o ≡ Some (end, first) → FullCut rows with o → l ≡ end → items ≡ part_from rows (Cut with l) first → overload_row (times_at rows) (members_of rows with) items ≡ true
full_shown rows with o l end first items is cut same made =
    subst (λ s. overload_row (times_at rows) (members_of rows with) s ≡ true) (sym (made ∙ ap (λ v. part_from rows (Cut with v) first) same)) (subst (FullCut rows with) is cut).1

-- NOTEND and DETECT

pub key_below : (rows : List Row) (i : ℕ) → IsBelow (before_key rows i) (length rows)
key_below rows i y on = present_below rows y (three_true (is_present rows y) (not (nat_eq y i)) (int_lt (row_at rows y).lst (row_at rows i).reach) on).0

pub some_late : (rows : List Row) (i : ℕ) (z : ℤ) → IsLateRow rows i z → GivesTop rows (part_has rows (Before i (row_at rows i).reach)) 0 None → ⊥
some_late rows i z late none =
    let set = late.ect.reached in
    let on = set.2.inside set.0 (has_first set.0 set.1) in
    none set.0 (omega arith) (key_below rows i set.0 on) on

pub late_shown : (rows : List Row) (i : ℕ) (z : ℤ) (b : Top) → ((k : ℕ) → IsNearRow (row_at rows k)) → IsByEst rows → IsLateRow rows i z → IsTop rows (part_has rows (Before i (row_at rows i).reach)) 0 b
    → IsLateSet rows i (part_from rows (Before i (row_at rows i).reach) b.place)
late_shown rows i z b near sorted late top e look =
    let d = times_at rows in
    let r = top_reached rows (before_key rows i) 0 b sorted (key_below rows i) top in
    let mine = top_ect rows (before_key rows i) b (near_sized rows near) sorted (key_below rows i) top in
    let set = late.ect.reached in
    let up = mine.greatest set.0 set.1 set.2 in
    let same = set.3 in
    let value = r.value in
    let ends = ends_alike d e b.place r.rest look.same.est look.same.size in
    let bar = look.bar in
    let inside : (y : ℕ) → has (b.place ∷ r.rest) y ≡ true → before_end e (with_candidate rows i) i y ≡ true = λ y here.
    let h = three_true (is_present rows y) (not (nat_eq y i)) (int_lt (row_at rows y).lst (row_at rows i).reach) (r.set.inside y here) in
    let start = look.others y (not-true (nat_eq y i) h.1) in
    let reach = look.reach in
    all_three (with_candidate rows i y) (not (nat_eq y i)) (int_lt (lst_at e y) (ect_at e i)) (or_right (nat_eq y i) (is_present rows y) h.0) h.1
    (lt_true (lst_at e y) (ect_at e i) (omega (arith, ints, lt_holds (row_at rows y).lst (row_at rows i).reach h.2, start, reach))) in
    let row : detect_row e (with_candidate rows i) i (b.place ∷ r.rest) ≡ true = detect_made e (with_candidate rows i) i b.place r.rest (or_left (nat_eq i i) (is_present rows i) (self_eq i)) (record { rises = r.set.rises; inside = inside })
    (omega (arith, ints, up, same, value, ends, bar, late.late)) in
    let whole = subst (λ s. detect_row e (with_candidate rows i) i s ≡ true) (sym r.list) row in
    (whole, detect_not_ends e (with_candidate rows i) i (part_from rows (Before i (row_at rows i).reach) b.place) whole)

pub no_late : (rows : List Row) (i : ℕ) (l : ℤ) (o : Option Top) → (z : ℤ) × IsLateRow rows i z → l ≡ (row_at rows i).reach → o ≡ None → GivesTop rows (part_has rows (Before i l)) 0 o → ⊥
no_late rows i l o found same is gives =
    some_late rows i found.0 found.1 (subst (λ v. GivesTop rows (part_has rows (Before i v)) 0 None) same (subst (GivesTop rows (part_has rows (Before i l)) 0) is gives))

pub late_said : (rows : List Row) (i : ℕ) (l : ℤ) (o : Option Top) (b : Top) (items : List ℕ) → ((k : ℕ) → IsNearRow (row_at rows k)) → IsByEst rows → (z : ℤ) × IsLateRow rows i z → l ≡ (row_at rows i).reach → o ≡ Some b → GivesTop rows (part_has rows (Before i l)) 0 o
    → items ≡ part_from rows (Before i l) b.place → IsLateSet rows i items
late_said rows i l o b items near sorted found same is gives made =
    subst (IsLateSet rows i) (sym (made ∙ ap (λ v. part_from rows (Before i v) b.place) same))
    (late_shown rows i found.0 b near sorted found.1 (subst (λ v. IsTop rows (part_has rows (Before i v)) 0 b) same (subst (GivesTop rows (part_has rows (Before i l)) 0) is gives)))
