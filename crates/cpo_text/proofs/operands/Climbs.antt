-- What is read at a tighter level is read at a looser one, where nothing that follows goes on there.
use Rattle.std.proofs.Common.{◌≡◌, ℕ, zero, suc, ◌+◌, ◌*◌, ◌-◌, ◌≤◌, true, List, [], ◌∷◌, ◌++◌, length, Some, None, refl, sym, subst, arith}
use Rattle.std.specs.Prelude.{codes}
use Rattle.cpo_text.specs.Words.{Word}
use Rattle.cpo_text.specs.Expressions.{link_sign, logic_words, level}
use Rattle.cpo_text.specs.code.Rules.{behind}
use Rattle.cpo_text.specs.code.Levels.{Trees, Task, read, inner, comparison_at}
use Rattle.cpo_text.specs.code.Levels.Task.{logic, chain, unit, sum, term}
use Rattle.cpo_text.specs.declared.expression.Link.{Link}
use Rattle.cpo_text.specs.declared.expression.Link.TheVariants.{Times, And, Or}
use Rattle.cpo_text.specs.declared.expression.Logic.{Logic}
use Rattle.cpo_text.proofs.operands.Nodes.{is_tight, looser}
use Rattle.cpo_text.proofs.operands.Openings.{minus_free, not_free}
use Rattle.cpo_text.proofs.operands.Ends.{signs, at, cost, ends, unit_signs, conj_signs, disj_signs, first_ends, tighter_ends, no_plus, no_minus, no_comparison}

-- with so much fuel, or more
abbrev pub Gets : Task → List Word → Logic → List Word → ℕ → Type 0
Gets t ws e rest n = (f : ℕ) → n ≤ f → ◌≡◌ {A = Trees} (read f t ws) (Some (e ∷ [], rest))

step_chain : (l : Link) (ws : List Word) (e : Logic) (rest : List Word) (n : ℕ) → behind (link_sign l) rest ≡ None → Gets (inner l) ws e rest n → (f : ℕ) → n + 2 ≤ f → ◌≡◌ {A = Trees} (read f (chain l) ws) (Some (e ∷ [], rest))
step_chain l ws e rest n none got zero big = absurd (omega arith)
step_chain l ws e rest n none got (suc zero) big = absurd (omega arith)
step_chain l ws e rest n none got (suc (suc f)) big = let here = got (suc f) (omega arith) in rw here (rw none refl)

step_term : (ws : List Word) (e : Logic) (rest : List Word) (n : ℕ) → behind (codes "-") ws ≡ None → Gets (chain Times) ws e rest n → (f : ℕ) → n + 1 ≤ f → ◌≡◌ {A = Trees} (read f term ws) (Some (e ∷ [], rest))
step_term ws e rest n none got zero big = absurd (omega arith)
step_term ws e rest n none got (suc f) big = let here = got f (omega arith) in rw none here

step_sum : (ws : List Word) (e : Logic) (rest : List Word) (n : ℕ) → behind (codes "+") rest ≡ None → behind (codes "-") rest ≡ None → Gets term ws e rest n → (f : ℕ) → n + 2 ≤ f → ◌≡◌ {A = Trees} (read f sum ws) (Some (e ∷ [], rest))
step_sum ws e rest n plus minus got zero big = absurd (omega arith)
step_sum ws e rest n plus minus got (suc zero) big = absurd (omega arith)
step_sum ws e rest n plus minus got (suc (suc f)) big = let here = got (suc f) (omega arith) in rw here (rw (plus, minus) refl)

step_unit : (ws : List Word) (e : Logic) (rest : List Word) (n : ℕ) → behind (codes "!") ws ≡ None → comparison_at rest ≡ None → Gets sum ws e rest n → (f : ℕ) → n + 1 ≤ f → ◌≡◌ {A = Trees} (read f unit ws) (Some (e ∷ [], rest))
step_unit ws e rest n none alone got zero big = absurd (omega arith)
step_unit ws e rest n none alone got (suc f) big = let here = got f (omega arith) in rw (none, here) (rw alone refl)

step_logic : (ws : List Word) (e : Logic) (rest : List Word) (n : ℕ) → behind (codes "=>") rest ≡ None → Gets (chain Or) ws e rest n → (f : ℕ) → n + 1 ≤ f → ◌≡◌ {A = Trees} (read f logic ws) (Some (e ∷ [], rest))
step_logic ws e rest n none got zero big = absurd (omega arith)
step_logic ws e rest n none got (suc f) big = let here = got f (omega arith) in rw here (rw none refl)

step : (n : ℕ) (e : Logic) (rest : List Word) (m : ℕ) → is_tight (suc n) e ≡ true → n ≤ 6 → ends (signs n) rest ≡ true → Gets (at (suc n)) (logic_words e ++ rest) e rest (m + cost (suc n)) → Gets (at n) (logic_words e ++ rest) e rest (m + cost n)
step zero e rest m tight few end got = λ f big. step_logic (logic_words e ++ rest) e rest (m + 10) (first_ends (codes "=>") disj_signs rest end) got f (omega arith)
step (suc zero) e rest m tight few end got = λ f big. step_chain Or (logic_words e ++ rest) e rest (m + 8) (first_ends (codes "||") conj_signs rest end) got f (omega arith)
step (suc (suc zero)) e rest m tight few end got = λ f big. step_chain And (logic_words e ++ rest) e rest (m + 6) (first_ends (codes "&&") unit_signs rest end) got f (omega arith)
step (suc (suc (suc zero))) e rest m tight few end got = λ f big. step_unit (logic_words e ++ rest) e rest (m + 5) (not_free e rest tight) (no_comparison rest end) got f (omega arith)
step (suc (suc (suc (suc zero)))) e rest m tight few end got = λ f big. step_sum (logic_words e ++ rest) e rest (m + 3) (no_plus rest end) (no_minus rest end) got f (omega arith)
step (suc (suc (suc (suc (suc zero))))) e rest m tight few end got = λ f big. step_term (logic_words e ++ rest) e rest (m + 2) (minus_free e rest tight) got f (omega arith)
step (suc (suc (suc (suc (suc (suc zero)))))) e rest m tight few end got = λ f big. step_chain Times (logic_words e ++ rest) e rest (m + 0) (first_ends (codes "*") [] rest end) got f (omega arith)
step (suc (suc (suc (suc (suc (suc (suc n))))))) e rest m tight few end got = absurd (omega arith)

-- read at its own level
abbrev pub Own : Logic → ℕ → Type 0
Own e k = (rest : List Word) → ends (signs k) rest ≡ true → Gets (at k) (logic_words e ++ rest) e rest (20 * length (logic_words e) + cost k)

-- read at each level that it is tight enough for
abbrev pub Again : Logic → Type 0
Again e = (n : ℕ) (rest : List Word) → is_tight n e ≡ true → ends (signs n) rest ≡ true → Gets (at n) (logic_words e ++ rest) e rest (20 * length (logic_words e) + cost n)

climb : (d n k : ℕ) (e : Logic) → n + d ≡ k → k ≤ 7 → is_tight k e ≡ true → Own e k → (rest : List Word) → ends (signs n) rest ≡ true → Gets (at n) (logic_words e ++ rest) e rest (20 * length (logic_words e) + cost n)
climb zero n k e is few tight own rest end =
    let same : k ≡ n = omega arith in
    subst (λ j. Gets (at j) (logic_words e ++ rest) e rest (20 * length (logic_words e) + cost j)) same (own rest (subst (λ j. ends (signs j) rest ≡ true) (sym same) end))
climb (suc d) n k e is few tight own rest end =
    step n e rest (20 * length (logic_words e)) (looser (suc n) k (level e) (omega arith) tight) (omega arith) end (climb d (suc n) k e (omega arith) few tight own rest (tighter_ends n rest end))

pub reach : (n k : ℕ) (e : Logic) → n ≤ k → k ≤ 7 → is_tight k e ≡ true → Own e k → (rest : List Word) → ends (signs n) rest ≡ true → Gets (at n) (logic_words e ++ rest) e rest (20 * length (logic_words e) + cost n)
reach n k e below few tight own rest end = climb (k - n) n k e (omega arith) few tight own rest end
