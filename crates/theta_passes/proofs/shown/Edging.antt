-- The sets of EDGE make its row true.
use Rattle.std.specs.Prelude.{◌≡◌, ℕ, ◌+◌, ◌-◌, ◌<◌, ◌≤◌, ℤ, ◌<ℤ◌, Bool, true, false, not, ◌&&◌, ◌||◌, nat_eq, int_lt, cond, List, [], ◌∷◌, length, Option, Some, None, refl}
use Rattle.std.proofs.Common.{arith, sym, subst, ap, ◌∙◌, inl, inr}
use Rattle.std.proofs.lemmas.Int.{ints}
use Rattle.std.proofs.lemmas.Bool.{cases_eq, and_parts, false_from_ne_true, both_ways}
use Rattle.base_laws.specs.laws.Truth.{three_true, all_three}
use Rattle.task_sets.specs.Times.{IsEdgeCut, in_cut, with_one, edge_row}
use Rattle.task_sets.specs.laws.Sums.{has_first, same_number}
use Rattle.task_sets.specs.laws.Ects.{up_from, keep, keep_alike, kept, le_holds, lt_holds, lt_true}
use Rattle.task_sets.specs.laws.Cuts.{cut_below}
use Rattle.task_sets.specs.laws.EdgeCuts.{but}
use Rattle.task_sets.specs.laws.Moved.{ends_alike, cut_guessed}
use Rattle.task_sets.specs.laws.Witnesses.{edge_made}
use Rattle.theta_passes.specs.declared.rows.Row.{Row}
use Rattle.theta_passes.specs.declared.parts.Part.TheVariants.{Cut, CutAnd}
use Rattle.theta_passes.specs.declared.parts.Top.{Top}
use Rattle.theta_passes.specs.code.Rows.{row_at, is_present, is_candidate, times_at, with_candidate, lct_in, IsNearRow, IsByEst}
use Rattle.theta_passes.specs.code.Edge.{cut_of, IsFound, IsOrder}
use Rattle.theta_passes.specs.code.Over.{NoOverloads}
use Rattle.theta_passes.specs.code.Parts.{part_has, IsTop, GivesTop}
use Rattle.theta_passes.specs.code.Witnesses.{part_from, IsEdgeSets, edge_by, EdgeAt, EdgeCut}
use Rattle.theta_passes.specs.laws.Members.{present_below}
use Rattle.theta_passes.specs.laws.Members.{with_below}
use Rattle.theta_passes.specs.laws.Quiet.{none_under, itself}
use Rattle.theta_passes.proofs.trees.Cuts.{one_below}
use Rattle.theta_passes.proofs.scans.Reached.{near_sized, top_reached, top_ect}

-- one that joined a set, and is left out again
keep_but : (t : ℕ → Bool) (i : ℕ) (xs : List ℕ) → t i ≡ false → keep (but i) (keep (with_one i t) xs) ≡ keep t xs
keep_but t i [] off = refl
keep_but t i (x ∷ xs) off = step (nat_eq x i) refl (keep_but t i xs off)
  where
    other : (c : Bool) → nat_eq x i ≡ false → keep (but i) (keep (with_one i t) xs) ≡ keep t xs → keep (but i) (kept c x (keep (with_one i t) xs)) ≡ kept c x (keep t xs)
    other true is rest = ap (λ c. kept (not c) x (keep (but i) (keep (with_one i t) xs))) is ∙ ap (λ zs. x ∷ zs) rest
    other false is rest = rest

    step : (b : Bool) → nat_eq x i ≡ b → keep (but i) (keep (with_one i t) xs) ≡ keep t xs → keep (but i) (kept (b || t x) x (keep (with_one i t) xs)) ≡ kept (t x) x (keep t xs)
    step true is rest = ap (λ c. kept (not c) x (keep (but i) (keep (with_one i t) xs))) is ∙ rest ∙ sym (ap (λ c. kept c x (keep t xs)) (ap t (same_number x i is) ∙ off))
    step false is rest = other (t x) is rest

out_of_cut : (rows : List Row) (end : ℤ) (i : ℕ) → end <ℤ (row_at rows i).lct → cut_of rows end i ≡ false
out_of_cut rows end i early = false_from_ne_true (cut_of rows end i) (λ on. let low = le_holds (row_at rows i).lct end (and_parts (is_present rows i) _ on).1 in omega (arith, ints, low, early))

pub edge_shows : (rows : List Row) (i : ℕ) (end : ℤ) (w v : Top) → ((k : ℕ) → IsNearRow (row_at rows k)) → IsByEst rows → NoOverloads rows → is_candidate rows i ≡ true → end <ℤ (row_at rows i).lct → end <ℤ w.value → (row_at rows i).lst <ℤ v.value
    → IsTop rows (with_one i (cut_of rows end)) 0 w → IsTop rows (cut_of rows end) 0 v
    → IsEdgeSets rows i (part_from rows (Cut None end) 0) (part_from rows (Cut None end) w.place) (part_from rows (Cut None end) v.place)
edge_shows rows i end w v near sorted none one early full late top_w top_v e look =
    let d = times_at rows in
    let n = length rows in
    let members = with_candidate rows i in
    let rw_ = top_reached rows (with_one i (cut_of rows end)) 0 w sorted (one_below rows end i one) top_w in
    let rv = top_reached rows (cut_of rows end) 0 v sorted (cut_below d (is_present rows) n end (present_below rows)) top_v in
    let same : (y : ℕ) → cut_of rows end y ≡ in_cut e members end y = cut_guessed d e (is_present rows) i end look.same early in
    let lct = look.same.lct i in
    let start = look.start in
    let value_w = rw_.value in
    let value_v = rv.value in
    let ends_w = ends_alike d e w.place rw_.rest look.same.est look.same.size in
    let ends_v = ends_alike d e v.place rv.rest look.same.est look.same.size in
    let row = edge_made e members i n end w.place rw_.rest v.place rv.rest (with_below rows i one) (none_under rows i e none one look.same) (itself rows i) (omega (arith, ints, early, lct))
    (record { rises = rw_.set.rises; inside = λ y here. sym (ap (λ b. nat_eq y i || b) (same y)) ∙ rw_.set.inside y here }) (omega (arith, ints, full, value_w, ends_w))
    (record { rises = rv.set.rises; inside = λ y here. sym (same y) ∙ rv.set.inside y here }) (omega (arith, ints, late, start, value_v, ends_v)) in
    let all : n - 0 ≡ n = omega arith in
    let s : keep (in_cut e members end) (up_from 0 n) ≡ part_from rows (Cut None end) 0 = sym (keep_alike (cut_of rows end) (in_cut e members end) (up_from 0 n) same) ∙ sym (ap (λ m. keep (cut_of rows end) (up_from 0 m)) all) in
    let u : keep (but i) (w.place ∷ rw_.rest) ≡ part_from rows (Cut None end) w.place = sym (ap (keep (but i)) rw_.list) ∙ keep_but (cut_of rows end) i (up_from w.place (n - w.place)) (out_of_cut rows end i early) in
    subst (λ q. edge_row e members i q (part_from rows (Cut None end) w.place) (part_from rows (Cut None end) v.place) ≡ true) s
    (subst (λ q. edge_row e members i (keep (in_cut e members end) (up_from 0 n)) q (part_from rows (Cut None end) v.place) ≡ true) u
    (subst (λ q. edge_row e members i (keep (in_cut e members end) (up_from 0 n)) (keep (but i) (w.place ∷ rw_.rest)) q ≡ true) (sym rv.list) row))

pub edge_is : (rows : List Row) (i : ℕ) (end : ℤ) (w v : Option Top) → ((k : ℕ) → IsNearRow (row_at rows k)) → IsByEst rows → NoOverloads rows → is_candidate rows i ≡ true
    → GivesTop rows (part_has rows (CutAnd end i)) 0 w → GivesTop rows (part_has rows (Cut None end)) 0 v → EdgeAt rows i end (edge_by (row_at rows i) end w v)
edge_is rows i end None v near sorted none one no_w top_v = λ z u found.
    let set = found.with_i.reached in
    let on = set.2.inside set.0 (has_first set.0 set.1) in
    no_w set.0 (omega arith) (one_below rows end i one set.0 on) on
edge_is rows i end (Some w) None near sorted none one top_w no_v = λ z u found.
    let set = found.cut.reached in
    let on = set.2.inside set.0 (has_first set.0 set.1) in
    no_v set.0 (omega arith) (cut_below (times_at rows) (is_present rows) (length rows) end (present_below rows) set.0 on) on
edge_is rows i end (Some w) (Some v) near sorted none one top_w top_v = decided (int_lt end (row_at rows i).lct && int_lt end w.value && int_lt (row_at rows i).lst v.value) refl
  where
    decided : (b : Bool) → (int_lt end (row_at rows i).lct && int_lt end w.value && int_lt (row_at rows i).lst v.value) ≡ b → EdgeAt rows i end (cond b (Some (w.place, v.place)) None)
    decided true is =
        let h = three_true (int_lt end (row_at rows i).lct) (int_lt end w.value) (int_lt (row_at rows i).lst v.value) is in
        (top_w.within, top_v.within, edge_shows rows i end w v near sorted none one (lt_holds end (row_at rows i).lct h.0) (lt_holds end w.value h.1) (lt_holds (row_at rows i).lst v.value h.2) top_w top_v)
    decided false is = λ z u found.
        let valid = near_sized rows near in
        let more = top_ect rows (with_one i (cut_of rows end)) w valid sorted (one_below rows end i one) top_w in
        let cut = top_ect rows (cut_of rows end) v valid sorted (cut_below (times_at rows) (is_present rows) (length rows) end (present_below rows)) top_v in
        let a = found.with_i.reached in
        let b = found.cut.reached in
        let up_a = more.greatest a.0 a.1 a.2 in
        let up_b = cut.greatest b.0 b.1 b.2 in
        let is_a = a.3 in
        let is_b = b.3 in
        both_ways (int_lt end (row_at rows i).lct && int_lt end w.value && int_lt (row_at rows i).lst v.value) is (all_three (int_lt end (row_at rows i).lct) (int_lt end w.value) (int_lt (row_at rows i).lst v.value)
        (lt_true end (row_at rows i).lct found.early) (lt_true end w.value (omega (arith, ints, up_a, is_a, found.full))) (lt_true (row_at rows i).lst v.value (omega (arith, ints, up_b, is_b, found.late))))

pub edge_said : (rows : List Row) (i : ℕ) (l end : ℤ) (w v : Option Top) (r : Option (ℕ × ℕ)) → ((k : ℕ) → IsNearRow (row_at rows k)) → IsByEst rows → NoOverloads rows → is_candidate rows i ≡ true → l ≡ end → r ≡ edge_by (row_at rows i) l w v
    → GivesTop rows (part_has rows (CutAnd l i)) 0 w → GivesTop rows (part_has rows (Cut None l)) 0 v → EdgeAt rows i end r
edge_said rows i l end w v r near sorted none one same is top_w top_v = subst (λ q. EdgeAt rows i q r) same (subst (EdgeAt rows i l) (sym is) (edge_is rows i l w v near sorted none one top_w top_v))

pub edge_more : (rows : List Row) (order : List ℕ) (i n : ℕ) (l : ℤ) (r : Option (ℕ × ℕ)) → l ≡ lct_in rows order n → r ≡ None → EdgeAt rows i l r → ((j : ℕ) → j < n → EdgeAt rows i (lct_in rows order j) None)
    → (j : ℕ) → j < n + 1 → EdgeAt rows i (lct_in rows order j) None
edge_more rows order i n l r is none at before j below = elim (cases_eq j n) [
  | inl same ↦ subst (λ k. EdgeAt rows i (lct_in rows order k) None) (sym same) (subst (λ q. EdgeAt rows i q None) is (subst (EdgeAt rows i l) none at))
  | inr other ↦ before j (omega (arith, below, other))
]

pub no_edge : (rows : List Row) (order : List ℕ) (i : ℕ) (o : Option (ℤ × ℕ × ℕ)) → IsOrder rows order → IsFound rows i → o ≡ None → EdgeCut rows order i o → ⊥
no_edge rows order i o ordered found is cut =
    let h = found.4 in
    let n = ordered.whole h.member.0 h.member.1 in
    let level : (row_at rows h.member.0).lct ≡ found.1 = h.member.2 in
    let at : lct_in rows order n.0 ≡ found.1 = ap (λ k. (row_at rows k).lct) n.2 ∙ level in
    (subst (EdgeCut rows order i) is cut) n.0 n.1 found.2 found.3 (subst (λ q. IsEdgeCut (times_at rows) (is_present rows) i q found.2 found.3) (sym at) h)

pub edge_shown : (rows : List Row) (order : List ℕ) (i : ℕ) (o : Option (ℤ × ℕ × ℕ)) (l end : ℤ) (f p : ℕ) (s u v : List ℕ) → o ≡ Some (end, f, p) → EdgeCut rows order i o → l ≡ end
    → s ≡ part_from rows (Cut None l) 0 → u ≡ part_from rows (Cut None l) f → v ≡ part_from rows (Cut None l) p → IsEdgeSets rows i s u v
edge_shown rows order i o l end f p s u v is cut same in_s in_u in_v e look =
    let row = (subst (EdgeCut rows order i) is cut).2 e look in
    let one = in_s ∙ ap (λ q. part_from rows (Cut None q) 0) same in
    let two = in_u ∙ ap (λ q. part_from rows (Cut None q) f) same in
    let three = in_v ∙ ap (λ q. part_from rows (Cut None q) p) same in
    ap (λ q. edge_row e (with_candidate rows i) i q u v) one ∙ ap (λ q. edge_row e (with_candidate rows i) i (part_from rows (Cut None end) 0) q v) two
    ∙ ap (λ q. edge_row e (with_candidate rows i) i (part_from rows (Cut None end) 0) (part_from rows (Cut None end) f) q) three ∙ row

pub edge_end : (rows : List Row) (order : List ℕ) (i n : ℕ) → length order ≤ n → ((j : ℕ) → j < n → EdgeAt rows i (lct_in rows order j) None) → (j : ℕ) → j < length order → EdgeAt rows i (lct_in rows order j) None
edge_end rows order i n all before j below = before j (omega (arith, below, all))
