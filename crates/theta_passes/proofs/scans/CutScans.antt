-- The scans of the cuts: for an overload, and for a member that some cut finds.
use Rattle.std.specs.Prelude.{◌≡◌, ℕ, ◌+◌, ◌<◌, ◌≤◌, ℤ, ◌+ℤ◌, Bool, true, false, ◌&&◌, ◌||◌, nat_eq, int_lt, is_some, int_le, List, length, Option, Some, None, refl}
use Rattle.std.specs.Int.{int_max}
use Rattle.std.proofs.Common.{arith, sym, subst, ap, ◌∙◌, inl, inr}
use Rattle.std.proofs.lemmas.Int.{ints}
use Rattle.std.proofs.lemmas.Bool.{and_from, and_parts, both_ways, cases_eq, true≢false}
use Rattle.base_laws.specs.laws.Numbers.{below_or_last}
use Rattle.task_sets.specs.laws.Cuts.{cut_below, cut_overloads, overload_cuts}
use Rattle.task_sets.specs.laws.Ects.{le_holds, lt_holds, lt_true}
use Rattle.task_sets.specs.laws.Moved.{ect_alike}
use Rattle.task_sets.specs.laws.Sums.{has_first, same_number}
use Rattle.task_sets.specs.Times.{IsEct, IsEdgeCut, est_at, size_at, in_cut, lct_at, overload_row, with_one}
use Rattle.theta_passes.specs.declared.parts.Part.TheVariants.{Cut, CutAnd}
use Rattle.theta_passes.specs.declared.parts.Top.{Top}
use Rattle.theta_passes.specs.declared.rows.Row.{Row}
use Rattle.theta_passes.specs.code.Edge.{ByMember, FoundBy, FoundOrNone, IsMember, NoneAt, PassOrNone, cut_of, is_pushed, is_over_with}
use Rattle.theta_passes.specs.code.Late.{late_by}
use Rattle.theta_passes.specs.code.Over.{OverPass}
use Rattle.theta_passes.specs.code.Parts.{GivesTop, IsTop, part_has}
use Rattle.theta_passes.specs.code.Rows.{IsByEst, IsNearRow, is_candidate, is_present, row_at, times_at, with_candidate}
use Rattle.theta_passes.specs.code.Witnesses.{FullCut, part_from}
use Rattle.theta_passes.specs.laws.Members.{present_below, with_below}
use Rattle.theta_passes.specs.laws.Members.{is_below as row_below}
use Rattle.theta_passes.proofs.trees.Cuts.{one_below}
use Rattle.theta_passes.proofs.scans.OneMore.{one_more}
use Rattle.theta_passes.proofs.scans.Reached.{near_sized, top_ect}
use Rattle.theta_passes.proofs.shown.Showing.{no_full}

-- OVERLOAD

no_more : (rows : List Row) (i : ℕ) → is_present rows i ≡ true → (y : ℕ) → with_candidate rows i y ≡ is_present rows y
no_more rows i on y = decided (nat_eq y i) refl
  where
    decided : (b : Bool) → nat_eq y i ≡ b → (b || is_present rows y) ≡ is_present rows y
    decided true same = sym (ap (is_present rows) (same_number y i same) ∙ on)
    decided false other = refl

-- where nobody is optional, one more is none more
pub over_none : (rows : List Row) (o : Option (ℤ × ℕ)) → ((k : ℕ) → IsNearRow (row_at rows k)) → ((k : ℕ) → is_candidate rows k ≡ is_present rows k) → o ≡ None → FullCut rows None o → OverPass rows None
over_none rows o near sure is cut = record {
  alone = alone;
  with_i = λ i s on over.
      let d = times_at rows in
      let here : is_present rows i ≡ true = sym (sure i) ∙ on in
      let full = overload_cuts d (with_candidate rows i) (length rows) s (near_sized rows near) (with_below rows i on) over in
      let h = full.2 in
      let set = cut_overloads d (is_present rows) full.0 full.1 (record {
        member = (h.member.0, sym (no_more rows i here h.member.0) ∙ h.member.1, h.member.2);
        ect = ect_alike d d (in_cut d (with_candidate rows i) full.0) (in_cut d (is_present rows) full.0) full.1 (λ y. refl) (λ y. refl) (λ y. ap (λ b. b && in_time full.0 y) (no_more rows i here y)) h.ect;
        late = h.late;
      }) in
      alone set.0 set.1;
}
  where
    in_time : ℤ → ℕ → Bool
    in_time end y = int_le (lct_at (times_at rows) y) end

    alone : (s : List ℕ) → overload_row (times_at rows) (is_present rows) s ≡ true → ⊥
    alone s over = no_full rows None o near (s, over) is cut

pub over_some : (rows : List Row) (o : Option (ℤ × ℕ)) (r : ℤ × ℕ) → o ≡ Some r → FullCut rows None o → OverPass rows (Some None)
over_some rows o r is cut = let full = subst (FullCut rows None) is cut in (part_from rows (Cut None r.0) r.1, full.1)

-- EDGE

pub no_candidate_found : (rows : List Row) (level : ℤ) (i : ℕ) → is_candidate rows i ≡ false → FoundBy rows level i false
no_candidate_found rows level i off z u on found = true≢false (sym on ∙ off)

cut_ect : (rows : List Row) (level : ℤ) (v : Top) → ((k : ℕ) → IsNearRow (row_at rows k)) → IsByEst rows → IsTop rows (cut_of rows level) 0 v → IsEct (times_at rows) (cut_of rows level) v.value
cut_ect rows level v near sorted top = top_ect rows (cut_of rows level) v (near_sized rows near) sorted (cut_below (times_at rows) (is_present rows) (length rows) level (present_below rows)) top

with_ect : (rows : List Row) (level : ℤ) (i : ℕ) (w : Top) → ((k : ℕ) → IsNearRow (row_at rows k)) → IsByEst rows → is_candidate rows i ≡ true → IsTop rows (with_one i (cut_of rows level)) 0 w
    → IsEct (times_at rows) (with_one i (cut_of rows level)) w.value
with_ect rows level i w near sorted one top = top_ect rows (with_one i (cut_of rows level)) w (near_sized rows near) sorted (one_below rows level i one) top

pub not_pushed : (rows : List Row) (level : ℤ) (i : ℕ) (v : Option Top) → ((k : ℕ) → IsNearRow (row_at rows k)) → IsByEst rows → is_pushed (row_at rows i) level v ≡ false → GivesTop rows (part_has rows (Cut None level)) 0 v → FoundBy rows level i false
not_pushed rows level i None near sorted off none z u one found =
    let set = found.cut.reached in
    let on = set.2.inside set.0 (has_first set.0 set.1) in
    none set.0 (omega arith) (cut_below (times_at rows) (is_present rows) (length rows) level (present_below rows) set.0 on) on
not_pushed rows level i (Some v) near sorted off top z u one found =
    let r = row_at rows i in
    let set = found.cut.reached in
    let up = (cut_ect rows level v near sorted top).greatest set.0 set.1 set.2 in
    let is = set.3 in
    both_ways (int_lt level r.lct && int_lt r.lst v.value) off
    (and_from (int_lt level r.lct) (int_lt r.lst v.value) (lt_true level r.lct found.early) (lt_true r.lst v.value (omega (arith, ints, up, is, found.late))))

pub none_pushed : (rows : List Row) (level : ℤ) (i : ℕ) (v : Option Top) (b : Bool) → ((k : ℕ) → IsNearRow (row_at rows k)) → IsByEst rows → b ≡ false → b ≡ is_pushed (row_at rows i) level v → GivesTop rows (part_has rows (Cut None level)) 0 v → FoundBy rows level i false
none_pushed rows level i v b near sorted off is top = not_pushed rows level i v near sorted (sym is ∙ off) top

pub cut_finds : (rows : List Row) (level : ℤ) (i : ℕ) (v w : Option Top) (b : Bool) → ((k : ℕ) → IsNearRow (row_at rows k)) → IsByEst rows → IsMember rows level → is_candidate rows i ≡ true → is_pushed (row_at rows i) level v ≡ true → b ≡ late_by level w
    → GivesTop rows (part_has rows (Cut None level)) 0 v → GivesTop rows (part_has rows (CutAnd level i)) 0 w → FoundBy rows level i b
cut_finds rows level i None w b near sorted member one pushed is top_v top_w = absurd (true≢false (sym pushed))
cut_finds rows level i (Some v) None b near sorted member one pushed is top_v none = subst (FoundBy rows level i) (sym is) (λ z u on found.
    let set = found.with_i.reached in
    let here = set.2.inside set.0 (has_first set.0 set.1) in
    none set.0 (omega arith) (one_below rows level i one set.0 here) here)
cut_finds rows level i (Some v) (Some w) b near sorted member one pushed is top_v top_w = subst (FoundBy rows level i) (sym is) (decided (int_lt level w.value) refl)
  where
    decided : (c : Bool) → int_lt level w.value ≡ c → FoundBy rows level i c
    decided true full =
        let h = and_parts (int_lt level (row_at rows i).lct) (int_lt (row_at rows i).lst v.value) pushed in (
          one,
          level,
          w.value,
          v.value,
          record {
            member = (member.place, member.on, member.is);
            early = lt_holds level (row_at rows i).lct h.0;
            with_i = with_ect rows level i w near sorted one top_w;
            cut = cut_ect rows level v near sorted top_v;
            full = lt_holds level w.value full;
            late = lt_holds (row_at rows i).lst v.value h.1;
          },
        )
    decided false low = λ z u on found.
        let set = found.with_i.reached in
        let up = (with_ect rows level i w near sorted one top_w).greatest set.0 set.1 set.2 in
        let same = set.3 in
        both_ways (int_lt level w.value) low (lt_true level w.value (omega (arith, ints, up, same, found.full)))

-- and none that is over with the member
pub none_over : (rows : List Row) (level : ℤ) (i : ℕ) (v : Option Top) (b : Bool) → ((k : ℕ) → IsNearRow (row_at rows k)) → IsByEst rows → b ≡ true → b ≡ is_over_with (row_at rows i) level v → GivesTop rows (part_has rows (Cut None level)) 0 v → FoundBy rows level i false
none_over rows level i None b near sorted on is gives z u one found = absurd (true≢false (sym on ∙ is))
none_over rows level i (Some v) b near sorted on is top z u one found =
    let d = times_at rows in
    let set = found.with_i.reached in
    let most = one_more d (cut_of rows level) i set.0 set.1 z v.value (near_sized rows near) set.2 set.3 (cut_ect rows level v near sorted top) in
    let over = le_holds (int_max (est_at d i) v.value +ℤ size_at d i) level (sym is ∙ on) in
    let full = found.full in
    omega (arith, ints, most, over, full)

pub none_tried : (rows : List Row) (level : ℤ) (j : ℕ) → j < 0 → FoundBy rows level j false
none_tried rows level j low = absurd (omega (arith, low))

pub more_tried : (rows : List Row) (level : ℤ) (n k : ℕ) (b : Bool) → k ≡ n → b ≡ false → FoundBy rows level k b → ((j : ℕ) → j < n → FoundBy rows level j false) → (j : ℕ) → j < n + 1 → FoundBy rows level j false
more_tried rows level n k b same off here before j low = elim (below_or_last j n low) [
  | inl less ↦ before j less
  | inr last ↦ subst (λ i. FoundBy rows level i false) (same ∙ sym last) (subst (FoundBy rows level k) off here)
]

pub all_tried : (rows : List Row) (level l : ℤ) (n : ℕ) → l ≡ level → length rows ≤ n → ((j : ℕ) → j < n → FoundBy rows l j false) → FoundOrNone rows level None
all_tried rows level l n eq whole none k z u on found =
    let low = row_below rows k on in
    none k (omega (arith, low, whole)) z u on (subst (λ v. IsEdgeCut (times_at rows) (is_present rows) k v z u) (sym eq) found)

pub one_tried : (rows : List Row) (level : ℤ) (k : ℕ) (b : Bool) → b ≡ true → FoundBy rows level k b → FoundOrNone rows level (Some k)
one_tried rows level k b on here = subst (FoundBy rows level k) on here

pub member_at : (rows : List Row) (k : ℕ) → is_present rows k ≡ true → IsMember rows (row_at rows k).lct
member_at rows k on = record { place = k; on = on; is = refl }

pub no_member : (rows : List Row) (k : ℕ) → is_present rows k ≡ false → ByMember rows k None
no_member rows k off on = absurd (true≢false (sym on ∙ off))

pub found_member : (rows : List Row) (k : ℕ) (level : ℤ) (o : Option ℕ) → level ≡ (row_at rows k).lct → FoundOrNone rows level o → ByMember rows k o
found_member rows k level None is none = λ on. subst (NoneAt rows) is none
found_member rows k level (Some i) is found = found

pub cut_passed : (rows : List Row) (k : ℕ) (o : Option ℕ) → is_some o ≡ true → ByMember rows k o → PassOrNone rows o
cut_passed rows k None some found = absurd (true≢false (sym some))
cut_passed rows k (Some i) some found = found

pub no_cut : (rows : List Row) (n : ℕ) → n < 0 → is_present rows n ≡ true → NoneAt rows (row_at rows n).lct
no_cut rows n low = absurd (omega (arith, low))

pub more_cuts : (rows : List Row) (n : ℕ) (o : Option ℕ) → is_some o ≡ false → ByMember rows n o → ((j : ℕ) → j < n → is_present rows j ≡ true → NoneAt rows (row_at rows j).lct)
    → (j : ℕ) → j < n + 1 → is_present rows j ≡ true → NoneAt rows (row_at rows j).lct
more_cuts rows n (Some k) none found before j low = absurd (true≢false none)
more_cuts rows n None none found before j low = elim (cases_eq j n) [
  | inl same ↦ subst (λ k. is_present rows k ≡ true → NoneAt rows (row_at rows k).lct) (sym same) found
  | inr other ↦ before j (omega (arith, low, other))
]

pub all_cuts : (rows : List Row) (n : ℕ) → length rows ≤ n → ((j : ℕ) → j < n → is_present rows j ≡ true → NoneAt rows (row_at rows j).lct) → PassOrNone rows None
all_cuts rows n whole none k end z u on found =
    let low = present_below rows found.member.0 found.member.1 in
    subst (NoneAt rows) found.member.2 (none found.member.0 (omega (arith, low, whole)) found.member.1) k z u on found

pub cut_found : (rows : List Row) (level l : ℤ) (i : ℕ) (v w : Option Top) (b : Bool) → ((k : ℕ) → IsNearRow (row_at rows k)) → IsByEst rows → IsMember rows level → l ≡ level → is_candidate rows i ≡ true → is_pushed (row_at rows i) level v ≡ true → b ≡ late_by level w
    → GivesTop rows (part_has rows (Cut None level)) 0 v → GivesTop rows (part_has rows (CutAnd l i)) 0 w → FoundBy rows level i b
cut_found rows level l i v w b near sorted member same one pushed is top_v top_w = cut_finds rows level i v w b near sorted member one pushed is top_v (subst (λ e. GivesTop rows (part_has rows (CutAnd e i)) 0 w) same top_w)
