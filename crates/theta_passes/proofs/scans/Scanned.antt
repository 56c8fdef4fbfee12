-- The scan for a member that is late behind the others.
use Rattle.std.specs.Prelude.{◌≡◌, ℕ, ◌+◌, ◌≤◌, ℤ, ◌≤ℤ◌, ◌<ℤ◌, Bool, true, false, int_lt, List, length, Option, Some, None}
use Rattle.std.proofs.Common.{arith, sym, subst, ◌∙◌, refl, inl, inr}
use Rattle.std.proofs.lemmas.Bool.{true≢false}
use Rattle.std.proofs.lemmas.Int.{ints}
use Rattle.base_laws.specs.laws.Numbers.{below_or_last}
use Rattle.task_sets.specs.laws.Ects.{lt_holds}
use Rattle.theta_passes.specs.declared.rows.Row.{Row}
use Rattle.theta_passes.specs.declared.parts.Part.TheVariants.{Before}
use Rattle.theta_passes.specs.declared.parts.Top.{Top}
use Rattle.theta_passes.specs.code.Rows.{row_at, is_candidate, IsNearRow, IsByEst}
use Rattle.theta_passes.specs.code.Parts.{part_has, IsTop, GivesTop}
use Rattle.theta_passes.specs.code.Late.{IsLateRow, LateAt, LateCandidate, LatePass, NoneScanned, before_key, late_by}
use Rattle.theta_passes.specs.laws.Members.{is_below as row_below}
use Rattle.theta_passes.proofs.scans.Reached.{near_sized, top_ect}
use Rattle.theta_passes.proofs.shown.Showing.{key_below, some_late}

-- whether the latest completion of the others is behind the bar
pub late_scanned : (rows : List Row) (i : ℕ) (bar : ℤ) (o : Option Top) (b : Bool) → ((k : ℕ) → IsNearRow (row_at rows k)) → IsByEst rows → bar ≡ (row_at rows i).bar → b ≡ late_by bar o
    → GivesTop rows (part_has rows (Before i (row_at rows i).reach)) 0 o → LateAt rows i b
late_scanned rows i bar None b near sorted is by gives = subst (LateAt rows i) (sym by) (λ z late. some_late rows i z late gives)
late_scanned rows i bar (Some top) b near sorted is by gives = subst (LateAt rows i) (sym by) (decided (int_lt bar top.value) refl)
  where
    ect : (t : Top) → IsTop rows (part_has rows (Before i (row_at rows i).reach)) 0 t → (z : ℤ) → IsLateRow rows i z → z ≤ℤ t.value
    ect t h z late =
        let mine = top_ect rows (before_key rows i) t (near_sized rows near) sorted (key_below rows i) h in
        let set = late.ect.reached in
        let up = mine.greatest set.0 set.1 set.2 in
        let same = set.3 in
        omega (arith, ints, up, same)

    decided : (c : Bool) → int_lt bar top.value ≡ c → LateAt rows i c
    decided true less = (
      top.value,
      record {
        ect = top_ect rows (before_key rows i) top (near_sized rows near) sorted (key_below rows i) gives;
        late = (let low = lt_holds bar top.value less in omega (arith, ints, low, is));
      },
    )
    decided false more = λ z late.
        let up = ect top gives z late in
        let behind = late.late in
        never bar top.value z (row_at rows i).bar more is up behind
      where
        never : (x v z w : ℤ) → int_lt x v ≡ false → x ≡ w → z ≤ℤ v → w <ℤ z → ⊥
        never x v z w a b c d = grind (arith, ints, a, b, c, d)

pub no_candidate : (rows : List Row) (i : ℕ) → is_candidate rows i ≡ false → LateCandidate rows i false
no_candidate rows i off z on late = true≢false (sym on ∙ off)

pub candidate_late : (rows : List Row) (i : ℕ) (b : Bool) → is_candidate rows i ≡ true → LateAt rows i b → LateCandidate rows i b
candidate_late rows i true on late = (on, late.0, late.1)
candidate_late rows i false on none = λ z on late. none z late

pub none_scanned : (rows : List Row) → NoneScanned rows 0
none_scanned rows k low = absurd (omega (arith, low))

pub more_scanned : (rows : List Row) (n k : ℕ) (b : Bool) → k ≡ n → b ≡ false → LateCandidate rows k b → NoneScanned rows n → NoneScanned rows (n + 1)
more_scanned rows n k b same off here before j low = elim (below_or_last j n low) [
  | inl less ↦ before j less
  | inr last ↦ subst (λ i. LateCandidate rows i false) (same ∙ sym last) (subst (LateCandidate rows k) off here)
]

pub all_scanned : (rows : List Row) (n : ℕ) → length rows ≤ n → NoneScanned rows n → LatePass rows None
all_scanned rows n whole none k z on late = let low = row_below rows k on in none k (omega (arith, low, whole)) z on late

pub scan_found : (rows : List Row) (k : ℕ) (b : Bool) → b ≡ true → LateCandidate rows k b → LatePass rows (Some k)
scan_found rows k b on here = subst (LateCandidate rows k) on here
