-- The places of those that a cut pushes, and the loop over them.
use Rattle.std.specs.Prelude.{◌≡◌, ℕ, ◌+◌, ◌<◌, ℤ, Bool, true, false, not, ◌&&◌, ◌||◌, nat_eq, nat_lt, List, length, Option, None, refl}
use Rattle.std.proofs.Common.{arith, sym, subst, ap, ◌∙◌, inl, inr}
use Rattle.std.proofs.lemmas.Bool.{and_parts, cases_eq, lt-ltb, ltb-true, true≢false}
use Rattle.std.proofs.lemmas.Bool.Decides.{nat_tests}
use Rattle.std.proofs.lemmas.Nat.Bits.{bit_at-zero}
use Rattle.base_laws.specs.laws.Numbers.{differs}
use Rattle.theta_passes.specs.declared.parts.Part.TheVariants.{Cut}
use Rattle.theta_passes.specs.declared.parts.Top.{Top}
use Rattle.theta_passes.specs.declared.rows.Row.{Row}
use Rattle.theta_passes.specs.code.Edge.{FoundBy, FoundOrNone, is_pushed, is_pushed_at}
use Rattle.theta_passes.specs.code.Parts.{GivesTop, part_has}
use Rattle.theta_passes.specs.code.Places.{has_place}
use Rattle.theta_passes.specs.code.Rows.{IsByEst, IsNearRow, row_at}
use Rattle.theta_passes.specs.laws.Members.{is_below as row_below}
use Rattle.theta_passes.proofs.scans.CutScans.{all_tried, not_pushed}

pub nowhere : (k : ℕ) → has_place 0 k ≡ false
nowhere k = ap (λ n. nat_eq n 1) (bit_at-zero k)

-- of those below a place
abbrev pub ArePushed : List Row → ℤ → Option Top → ℕ → ℕ → Type 0
ArePushed rows level pushing n set = (k : ℕ) → has_place set k ≡ (nat_lt k n && is_pushed (row_at rows k) level pushing)

pub none_pushed : (rows : List Row) (level : ℤ) (v : Option Top) → ArePushed rows level v 0 0
none_pushed rows level v k = nowhere k ∙ sym (ap (λ b. b && is_pushed (row_at rows k) level v) (none_below k))
  where
    none_below : (k : ℕ) → nat_lt k 0 ≡ false
    none_below k = grind (arith, nat_tests)

pub one_more : (k n : ℕ) (b : Bool) (t : Bool) → (k ≡ n → t ≡ b) → ((b && nat_eq k n) || (nat_lt k n && t)) ≡ (nat_lt k (n + 1) && t)
one_more k n true true same = grind (arith, nat_tests)
one_more k n true false same = grind (arith, nat_tests)
one_more k n false true same = grind (arith, nat_tests)
one_more k n false false same = grind (arith, nat_tests)

pub more_pushed : (rows : List Row) (level : ℤ) (v : Option Top) (n set more : ℕ) (b : Bool) → ArePushed rows level v n set → ((k : ℕ) → has_place more k ≡ ((b && nat_eq k n) || has_place set k)) → b ≡ is_pushed (row_at rows n) level v → ArePushed rows level v (n + 1) more
more_pushed rows level v n set more b before is told k = is k ∙ ap (λ t. (b && nat_eq k n) || t) (before k) ∙ one_more k n b (is_pushed (row_at rows k) level v) (λ e. ap (λ i. is_pushed (row_at rows i) level v) e ∙ sym told)

-- those that are still to be asked about, and nobody else, may be found
pub record IsLeft (rows : List Row) (level : ℤ) (left : ℕ) : Type 0 where
  pub within : (k : ℕ) → has_place left k ≡ true → k < length rows
  pub rest : (k : ℕ) → has_place left k ≡ false → FoundBy rows level k false

pub all_left : (rows : List Row) (level l : ℤ) (v : Option Top) (places : ℕ) → l ≡ level → ((k : ℕ) → IsNearRow (row_at rows k)) → IsByEst rows → GivesTop rows (part_has rows (Cut None level)) 0 v → ((k : ℕ) → has_place places k ≡ is_pushed_at rows level v k) → IsLeft rows l places
all_left rows level l v places eq near sorted top are = record {
  within = λ k on. ltb-true k (length rows) (and_parts (nat_lt k (length rows)) (is_pushed (row_at rows k) level v) (sym (are k) ∙ on)).0;
  rest = λ k off. subst (λ e. FoundBy rows e k false) (sym eq) (decided k (nat_lt k (length rows)) refl (sym (are k) ∙ off));
}
  where
    decided : (k : ℕ) (b : Bool) → nat_lt k (length rows) ≡ b → (b && is_pushed (row_at rows k) level v) ≡ false → FoundBy rows level k false
    decided k true below off = not_pushed rows level k v near sorted off top
    decided k false past off = λ z u on found. absurd (true≢false (sym (lt-ltb k (length rows) (row_below rows k on)) ∙ past))

pub less_left : (rows : List Row) (level : ℤ) (left less i : ℕ) (b : Bool) → IsLeft rows level left → ((k : ℕ) → has_place less k ≡ (not (nat_eq k i) && has_place left k)) → b ≡ false → FoundBy rows level i b → IsLeft rows level less
less_left rows level left less i b before is off here = record {
  within = λ k on. before.within k (and_parts (not (nat_eq k i)) (has_place left k) (sym (is k) ∙ on)).1;
  rest = λ k out. elim (cases_eq k i) [
    | inl same ↦ subst (λ j. FoundBy rows level j false) (sym same) (subst (FoundBy rows level i) off here)
    | inr other ↦ before.rest k (sym (ap (λ t. not t && has_place left k) (differs k i other)) ∙ sym (is k) ∙ out)
  ];
}

pub none_left : (rows : List Row) (level l : ℤ) (left : ℕ) → l ≡ level → left ≡ 0 → IsLeft rows l left → FoundOrNone rows level None
none_left rows level l left eq none before = all_tried rows level l (length rows) eq (omega arith) (λ k below. before.rest k (ap (λ s. has_place s k) none ∙ nowhere k))

-- nobody is in the cut
pub none_in_cut : (rows : List Row) (level l : ℤ) → l ≡ level → ((k : ℕ) → IsNearRow (row_at rows k)) → IsByEst rows → GivesTop rows (part_has rows (Cut None l)) 0 None → FoundOrNone rows level None
none_in_cut rows level l eq near sorted none k = not_pushed rows level k None near sorted refl (subst (λ e. GivesTop rows (part_has rows (Cut None e)) 0 None) eq none)
