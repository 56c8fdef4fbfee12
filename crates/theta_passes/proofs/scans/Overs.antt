-- When all that are present complete tells who isn't late, and which cuts find nobody.
use Rattle.std.specs.Prelude.{◌≡◌, ℕ, ◌+◌, ◌≤◌, ℤ, ◌≤ℤ◌, Bool, true, false, not, ◌||◌, nat_eq, int_lt, int_le, List, length, Option, Some, None, refl}
use Rattle.std.specs.Int.{int_max}
use Rattle.std.proofs.Common.{arith, sym, ap, ◌∙◌, inl, inr}
use Rattle.std.proofs.lemmas.Int.{ints}
use Rattle.std.proofs.Math.Bool.{or-true}
use Rattle.std.proofs.lemmas.Bool.{and_parts, or_cases, true≢false}
use Rattle.base_laws.specs.laws.Numbers.{below_or_last}
use Rattle.base_laws.specs.laws.Truth.{three_true}
use Rattle.task_sets.specs.Times.{Times, IsEct, lct_at, with_one}
use Rattle.task_sets.specs.laws.Ects.{le_holds, lt_true}
use Rattle.task_sets.specs.laws.Sums.{has_first, same_number}
use Rattle.theta_passes.specs.declared.parts.Part.TheVariants.{Whole}
use Rattle.theta_passes.specs.declared.parts.Top.{Top}
use Rattle.theta_passes.specs.declared.rows.Presence.{Presence}
use Rattle.theta_passes.specs.declared.rows.Presence.TheVariants as is
use Rattle.theta_passes.specs.declared.rows.Row.{Row}
use Rattle.theta_passes.specs.declared.scan.Lows.{Lows}
use Rattle.theta_passes.specs.code.Edge.{AreOver, NoneAt, PassOrNone, cut_of, end_with}
use Rattle.theta_passes.specs.code.Late.{AreLows, LateCandidate, before_key, is_free, is_idle, late_by}
use Rattle.theta_passes.specs.code.Parts.{GivesTop, part_has}
use Rattle.theta_passes.specs.code.Rows.{IsByEst, IsNearRow, is_candidate, is_present, row_at, says_absent, says_present, times_at}
use Rattle.theta_passes.specs.laws.Members.{present_below}
use Rattle.theta_passes.specs.laws.Members.{is_below as row_below}
use Rattle.theta_passes.proofs.scans.Lowest.{free_early}
use Rattle.theta_passes.proofs.scans.OneMore.{both_max, one_more}
use Rattle.theta_passes.proofs.scans.Reached.{near_sized, top_ect}

abbrev pub WholeTop : List Row → Option Top → Type 0
WholeTop rows o = GivesTop rows (part_has rows Whole) 0 o

whole_ect : (rows : List Row) (b : Top) → ((k : ℕ) → IsNearRow (row_at rows k)) → IsByEst rows → WholeTop rows (Some b) → IsEct (times_at rows) (is_present rows) b.value
whole_ect rows b near sorted top = top_ect rows (is_present rows) b (near_sized rows near) sorted (present_below rows) top

-- of the sets of a part, none completes later than all of it
no_later : (d : ℕ → Times) (t w : ℕ → Bool) (z v : ℤ) → ((y : ℕ) → t y ≡ true → w y ≡ true) → IsEct d t z → IsEct d w v → z ≤ℤ v
no_later d t w z v sub part all =
    let set = part.reached in
    let up = all.greatest set.0 set.1 (record { rises = set.2.rises; inside = λ y on. sub y (set.2.inside y on) }) in
    let same = set.3 in
    omega (arith, ints, up, same)

-- LATE

before_present : (rows : List Row) (i y : ℕ) → before_key rows i y ≡ true → is_present rows y ≡ true
before_present rows i y on = (three_true (is_present rows y) (not (nat_eq y i)) (int_lt (row_at rows y).lst (row_at rows i).reach) on).0

not_behind : (rows : List Row) (i : ℕ) (o : Option Top) → ((k : ℕ) → IsNearRow (row_at rows k)) → IsByEst rows → late_by (row_at rows i).bar o ≡ false → WholeTop rows o → LateCandidate rows i false
not_behind rows i None near sorted off none z on late =
    let set = late.ect.reached in
    let here = before_present rows i set.0 (set.2.inside set.0 (has_first set.0 set.1)) in
    none set.0 (omega arith) (present_below rows set.0 here) here
not_behind rows i (Some b) near sorted off top z on late =
    let up = no_later (times_at rows) (before_key rows i) (is_present rows) z b.value (before_present rows i) late.ect (whole_ect rows b near sorted top) in
    let behind = late.late in
    absurd (true≢false (sym (lt_true (row_at rows i).bar b.value (omega (arith, ints, up, behind))) ∙ off))

pub idle_early : (rows : List Row) (i : ℕ) (l : Lows) (o : Option Top) → ((k : ℕ) → IsNearRow (row_at rows k)) → IsByEst rows → is_idle l o (row_at rows i) i ≡ true → AreLows rows (length rows) l → WholeTop rows o → LateCandidate rows i false
idle_early rows i l o near sorted idle lows whole = elim (or_cases (is_free l (row_at rows i) i) (not (late_by (row_at rows i).bar o)) idle) [
  | inl free ↦ free_early rows (length rows) i l (omega arith) free lows
  | inr off ↦ not_behind rows i o near sorted (off_from (late_by (row_at rows i).bar o) off) whole
]
  where
    off_from : (b : Bool) → not b ≡ true → b ≡ false
    off_from true on = cc
    off_from false on = refl

-- EDGE

in_whole : (rows : List Row) (level : ℤ) (y : ℕ) → cut_of rows level y ≡ true → is_present rows y ≡ true
in_whole rows level y on = (and_parts (is_present rows y) (int_le (lct_at (times_at rows) y) level) on).0

one_over : (rows : List Row) (b : Top) (i : ℕ) (level z : ℤ) → ((k : ℕ) → IsNearRow (row_at rows k)) → IsByEst rows → WholeTop rows (Some b) → is_candidate rows i ≡ true → IsEct (times_at rows) (with_one i (cut_of rows level)) z
    → z ≤ℤ end_with (row_at rows i).presence (row_at rows i) b.value
one_over rows b i level z near sorted top one ect = by_case (row_at rows i).presence refl one
  where
    d : ℕ → Times
    d = times_at rows

    by_case : (p : Presence) → (row_at rows i).presence ≡ p → not (says_absent p) ≡ true → z ≤ℤ end_with p (row_at rows i) b.value
    by_case is.Present here on = no_later d (with_one i (cut_of rows level)) (is_present rows) z b.value inside ect (whole_ect rows b near sorted top)
      where
        inside : (y : ℕ) → with_one i (cut_of rows level) y ≡ true → is_present rows y ≡ true
        inside y on = elim (or_cases (nat_eq y i) (cut_of rows level y) on) [
          | inl same ↦ ap (is_present rows) (same_number y i same) ∙ ap says_present here
          | inr mine ↦ in_whole rows level y mine
        ]
    by_case is.Maybe here on =
        let set = ect.reached in
        one_more d (is_present rows) i set.0 set.1 z b.value (near_sized rows near) (record { rises = set.2.rises; inside = λ y has. inside y (set.2.inside y has) }) set.3 (whole_ect rows b near sorted top)
      where
        inside : (y : ℕ) → with_one i (cut_of rows level) y ≡ true → with_one i (is_present rows) y ≡ true
        inside y on = elim (or_cases (nat_eq y i) (cut_of rows level y) on) [
          | inl same ↦ ap (λ b. b || is_present rows y) same
          | inr mine ↦ ap (λ b. nat_eq y i || b) (in_whole rows level y mine) ∙ or-true (nat_eq y i)
        ]
    by_case is.Absent here on = cc

pub none_over : (rows : List Row) (last : ℤ) → AreOver rows 0 last
none_over rows last k level z low = absurd (omega (arith, low))

pub more_over : (rows : List Row) (b : Top) (n : ℕ) (last e more : ℤ) → ((k : ℕ) → IsNearRow (row_at rows k)) → IsByEst rows → WholeTop rows (Some b) → e ≡ end_with (row_at rows n).presence (row_at rows n) b.value → more ≡ int_max last e → AreOver rows n last → AreOver rows (n + 1) more
more_over rows b n last e more near sorted top at is before k level z low one ect = elim (below_or_last k n low) [
  | inl less ↦ (let up = before k level z less one ect in let most = both_max last e in omega (arith, ints, up, most.0, is))
  | inr same ↦ (
      let up = one_over rows b k level z near sorted top one ect in
      let mine : end_with (row_at rows k).presence (row_at rows k) b.value ≡ e = ap (λ j. end_with (row_at rows j).presence (row_at rows j) b.value) same ∙ sym at in
      let most = both_max last e in
      omega (arith, ints, up, mine, most.1, is)
      )
]

pub all_over : (rows : List Row) (n : ℕ) (last : ℤ) → length rows ≤ n → AreOver rows n last → AreOver rows (length rows) last
all_over rows n last whole before k level z low = before k level z (omega (arith, low, whole))

-- such a cut finds nobody
pub over_by : (rows : List Row) (last level : ℤ) (b : Bool) → b ≡ true → b ≡ int_le last level → AreOver rows (length rows) last → NoneAt rows level
over_by rows last level b on is over k z u one found =
    let up = over k level z (row_below rows k one) one found.with_i in
    let by = le_holds last level (sym is ∙ on) in
    let full = found.full in
    omega (arith, ints, up, by, full)

-- nobody is present, so that there is no cut
pub nobody : (rows : List Row) → WholeTop rows None → PassOrNone rows None
nobody rows none k end z u one found = none found.member.0 (omega arith) (present_below rows found.member.0 found.member.1) found.member.1
