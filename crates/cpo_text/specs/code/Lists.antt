-- Lists in square brackets, read from left to right by a reader of their items.
use Rattle.std.specs.Prelude.{ℕ, zero, suc, List, [], ◌∷◌, ◌++◌, length, codes, Some, None}
use Rattle.cpo_text.specs.Words.{Word}
use Rattle.cpo_text.specs.code.Rules.{Found, bound, behind, if_behind, name_at, int_at, int_before}
use Rattle.cpo_text.specs.declared.tree.Int.{Int}
use Rattle.cpo_text.specs.declared.tree.StepPair.{StepPair}

-- with these in front
abbrev pub after : {X : Type 0} → List X → Found (List X) → Found (List X)
after front found = bound found (λ xs r. Some (front ++ xs, r))

-- one item or more, with a comma between each two; the fuel bounds how many
abbrev pub items_more : {X : Type 0} → (List Word → Found X) → ℕ → List Word → Found (List X)
items_more read zero ws = None
items_more read (suc f) ws = bound (read ws) (λ x r. if_behind (behind (codes ",") r) (λ r2. after (x ∷ []) (items_more read f r2)) (Some (x ∷ [], r)))

unfoldable pub items_at : {X : Type 0} → (List Word → Found X) → List Word → Found (List X)
items_at read ws = items_more read (length ws) ws

unfoldable pub listed_at : {X : Type 0} → (List Word → Found X) → List Word → Found (List X)
listed_at read ws = if_behind (behind (codes "[") ws) (λ r. if_behind (behind (codes "]") r) (λ r2. Some ([], r2))
    (bound (items_at read r) (λ xs r2. if_behind (behind (codes "]") r2) (λ r3. Some (xs, r3)) None))) None

unfoldable pub names_at : List Word → Found (List (List ℕ))
names_at = listed_at name_at

unfoldable pub ints_at : List Word → Found (List Int)
ints_at = listed_at int_at

unfoldable pub rows_at : List Word → Found (List (List Int))
rows_at = listed_at ints_at

-- a moment and a value
unfoldable pub step_at : List Word → Found StepPair
step_at ws = if_behind (behind (codes "[") ws) (λ r. bound (int_before (codes ",") r) (λ t r2. bound (int_before (codes "]") r2) (λ v r3. Some (record { moment = t; value = v }, r3)))) None

unfoldable pub steps_at : List Word → Found (List StepPair)
steps_at = listed_at step_at
