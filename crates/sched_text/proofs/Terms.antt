-- The operands of a sum, one behind the other, and sums by their word.
use Rattle.std.proofs.Common.{◌≡◌, ◌∙◌, ℕ, ◌+◌, ◌<◌, ◌≤◌, Bool, true, false, if◌then◌else◌, List, [], ◌∷◌, ◌++◌, codes, length, map, drop, get_or, refl, sym, ap, arith}
use Rattle.std.specs.List.{flat_map}
use Rattle.std.proofs.lemmas.List.{at_drop_more, at_drop_all}
use Rattle.textline.specs.Lines.{Bytes}
use Rattle.sched_base.specs.State.{State}
use Rattle.sched_text.specs.declared.page.Page.{Page}
use Rattle.sched_text.specs.Pieces.{call, listed}
use Rattle.sched_text.specs.code.Printing.{Leaves, Prints}
use Rattle.sched_text.proofs.Printing.{all_done, goes_on}
use Rattle.sched_text.specs.Shown.{Shown, as_operand, wholes, operands, terms, summed}

-- the operands from here on: whether the next is the first
abbrev pub terms_from : Bool → List Shown → Bytes
terms_from true xs = terms xs
terms_from false xs = flat_map (λ x. x.later) xs

abbrev pub term : Bool → Shown → Bytes
term is_first x = if is_first then x.operand else x.later

next_term : (b : Bool) (x : Shown) (xs : List Shown) → terms_from b (x ∷ xs) ≡ term b x ++ terms_from false xs
next_term true x xs = refl
next_term false x xs = refl

none_left : (b : Bool) → terms_from b [] ≡ []
none_left true = refl
none_left false = refl

pub term_more : {A : Type 0} (f : A → Shown) (xs : List A) (i : ℕ) (x d : A) (b : Bool) {text : Bytes} {old mid new : Page} {r t u : State} → i < length xs → x ≡ get_or xs i d
    → Leaves text (terms_from b (map f (drop i xs))) old mid r t → Prints (term b (f x)) mid new t u → Leaves text (terms_from false (map f (drop (i + 1) xs))) old new r u
term_more f xs i x d b within is so_far item =
    goes_on (
    at_drop_more (λ ys. terms_from b (map f ys)) xs i d within
    ∙ ap (λ y. terms_from b (f y ∷ map f (drop (i + 1) xs))) (sym is)
    ∙ next_term b (f x) (map f (drop (i + 1) xs)))
    so_far item

pub terms_end : {A : Type 0} (f : A → Shown) (xs : List A) (i : ℕ) (b : Bool) {text : Bytes} {old new : Page} {r t : State} → length xs ≤ i → Leaves text (terms_from b (map f (drop i xs))) old new r t
    → Prints text old new r t
terms_end f xs i b past so_far = all_done (at_drop_all (λ ys. terms_from b (map f ys)) xs i past ∙ none_left b) so_far

pub few_terms : {A : Type 0} (f : A → Shown) (xs : List A) → length xs < 2 → call (codes "sum") (listed (wholes (map f xs)) ∷ []) ≡ (summed (map f xs)).whole
few_terms f [] few = refl
few_terms f (x ∷ []) few = refl
few_terms f (x ∷ y ∷ xs) few = absurd (omega arith)

pub many_terms : {A : Type 0} (f : A → Shown) (xs : List A) → 2 ≤ length xs → terms (map f xs) ≡ (summed (map f xs)).whole
many_terms f [] many = absurd (omega arith)
many_terms f (x ∷ []) many = absurd (omega arith)
many_terms f (x ∷ y ∷ xs) many = refl

pub wholes_of : {A : Type 0} (f : A → Shown) (xs : List A) → map (λ x. (f x).whole) xs ≡ wholes (map f xs)
wholes_of f [] = refl
wholes_of f (x ∷ xs) = ap (λ ws. (f x).whole ∷ ws) (wholes_of f xs)

pub operands_of : {A : Type 0} (f : A → Shown) (xs : List A) → map (λ x. (f x).operand) xs ≡ operands (map f xs)
operands_of f [] = refl
operands_of f (x ∷ xs) = ap (λ ws. (f x).operand ∷ ws) (operands_of f xs)

-- an operand in brackets, or without
pub plain_operand : (b : Bool) (x : Shown) → x.operand ≡ as_operand b x.whole → b ≡ false → x.whole ≡ x.operand
plain_operand b x shown plain = sym (shown ∙ ap (λ c. as_operand c x.whole) plain)

pub composed_operand : (b : Bool) (x : Shown) → x.operand ≡ as_operand b x.whole → b ≡ true → codes "(" ++ (x.whole ++ codes ")") ≡ x.operand
composed_operand b x shown composed = sym (shown ∙ ap (λ c. as_operand c x.whole) composed)
