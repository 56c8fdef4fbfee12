-- Sums and sets over the places from one on, one place further.
use Rattle.std.specs.Prelude.{Bool, List, [], false, suc, true, ℕ, ℤ, ◌++◌, ◌+ℤ◌, ◌+◌, ◌-◌, ◌<◌, ◌∷◌, ◌≡◌, ◌≤◌}
use Rattle.std.proofs.Common.{ap, arith, sym, ◌∙◌}
use Rattle.std.proofs.lemmas.List.{append-nil, append_assoc}
use Rattle.task_sets.specs.laws.Ects.{keep, kept, up_from}
use Rattle.task_sets.specs.laws.Sums.{load, pick}

pub load_step : (p : ℕ → ℤ) (t : ℕ → Bool) (k n : ℕ) → k < n → load p t (up_from k (n - k)) ≡ pick (t k) (p k) +ℤ load p t (up_from (k + 1) (n - (k + 1)))
load_step p t k n low =
    let one : n - k ≡ suc (n - (k + 1)) = omega (arith, low) in
    let next : suc k ≡ k + 1 = omega arith in
    ap (λ m. load p t (up_from k m)) one ∙ ap (λ j. pick (t k) (p k) +ℤ load p t (up_from j (n - (k + 1)))) next

pub keep_step : (t : ℕ → Bool) (k n : ℕ) → k < n → keep t (up_from k (n - k)) ≡ kept (t k) k (keep t (up_from (k + 1) (n - (k + 1))))
keep_step t k n low =
    let one : n - k ≡ suc (n - (k + 1)) = omega (arith, low) in
    let next : suc k ≡ k + 1 = omega arith in
    ap (λ m. keep t (up_from k m)) one ∙ ap (λ j. kept (t k) k (keep t (up_from j (n - (k + 1))))) next

pub keep_pushed : (t : ℕ → Bool) (k n : ℕ) (xs whole : List ℕ) → k < n → t k ≡ true → (xs ++ keep t (up_from k (n - k))) ≡ whole → ((xs ++ (k ∷ [])) ++ keep t (up_from (k + 1) (n - (k + 1)))) ≡ whole
keep_pushed t k n xs whole low on is =
    let step : keep t (up_from k (n - k)) ≡ (k ∷ keep t (up_from (k + 1) (n - (k + 1)))) = keep_step t k n low ∙ ap (λ b. kept b k (keep t (up_from (k + 1) (n - (k + 1))))) on in
    append_assoc xs (k ∷ []) (keep t (up_from (k + 1) (n - (k + 1)))) ∙ sym (ap (λ ys. xs ++ ys) step) ∙ is

pub keep_passed : (t : ℕ → Bool) (k n : ℕ) (xs whole : List ℕ) → k < n → t k ≡ false → (xs ++ keep t (up_from k (n - k))) ≡ whole → (xs ++ keep t (up_from (k + 1) (n - (k + 1)))) ≡ whole
keep_passed t k n xs whole low off is =
    let step : keep t (up_from k (n - k)) ≡ keep t (up_from (k + 1) (n - (k + 1))) = keep_step t k n low ∙ ap (λ b. kept b k (keep t (up_from (k + 1) (n - (k + 1))))) off in
    sym (ap (λ ys. xs ++ ys) step) ∙ is

pub keep_end : (t : ℕ → Bool) (k n : ℕ) (xs whole : List ℕ) → n ≤ k → (xs ++ keep t (up_from k (n - k))) ≡ whole → xs ≡ whole
keep_end t k n xs whole all is =
    let none : n - k ≡ 0 = omega (arith, all) in
    sym (append-nil xs) ∙ sym (ap (λ m. xs ++ keep t (up_from k m)) none) ∙ is
