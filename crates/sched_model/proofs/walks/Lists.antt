-- One step of a walk over two lists side by side.
use Rattle.std.proofs.Common.{◌≡◌, ◌≢◌, ℕ, zero, suc, ◌+◌, ◌-◌, inl, inr, set, take, subst, ◌<◌, ◌≤◌, Bool, true, false, not, ◌&&◌, ◌||◌, List, [], ◌∷◌, length, drop, get_or, refl, sym, ap, ◌∙◌, arith}
use Rattle.std.proofs.lemmas.Bool.{cases_eq}
use Rattle.std.proofs.lemmas.List.{at_drop_more, get_or_default, get_or-set_same, get_or-set_other, take_rest}
use Rattle.sched_model.specs.Words.{adjacent, pairwise}
use Rattle.std.specs.List.{list_all, list_any}

pub adjacent_end : {X : Type 0} (r : X → X → Bool) (xs : List X) (i : ℕ) → length xs ≤ i + 1 → adjacent r (drop i xs) ≡ true
adjacent_end r [] zero past = refl
adjacent_end r [] (suc i) past = refl
adjacent_end r (x ∷ []) zero past = refl
adjacent_end r (x ∷ y ∷ zs) zero past = absurd (omega (arith, past))
adjacent_end r (x ∷ xs) (suc i) past = adjacent_end r xs i (omega (arith, past))

-- pairs that don't pass a test: the next element against those behind it
pub any_not : {X : Type 0} (p : X → Bool) (xs : List X) → list_all (λ x. not (p x)) xs ≡ not (list_any p xs)
any_not p [] = refl
any_not p (x ∷ xs) = ap (λ b. not (p x) && b) (any_not p xs) ∙ not_or (p x) (list_any p xs)
  where
    not_or : (a b : Bool) → (not a && not b) ≡ not (a || b)
    not_or true b = refl
    not_or false b = refl

unlike_more : {X : Type 0} (r : X → X → Bool) (xs : List X) (i : ℕ) (d : X) (b whole : Bool) → pairwise (λ y z. not (r y z)) (drop i xs) ≡ whole → i < length xs
    → b ≡ list_any (r (get_or xs i d)) (take (length xs - (i + 1)) (drop (i + 1) xs)) → (not b && pairwise (λ y z. not (r y z)) (drop (i + 1) xs)) ≡ whole
unlike_more r xs i d b whole before within is =
    ap (λ c. not c && pairwise (λ y z. not (r y z)) (drop (i + 1) xs)) (is ∙ ap (list_any (r (get_or xs i d))) (take_rest xs (i + 1)))
    ∙ ap (λ c. c && pairwise (λ y z. not (r y z)) (drop (i + 1) xs)) (sym (any_not (r (get_or xs i d)) (drop (i + 1) xs)))
    ∙ sym (at_drop_more (pairwise (λ y z. not (r y z))) xs i d within)
    ∙ before

pub unlike_turn : {X : Type 0} (r : X → X → Bool) (xs : List X) (i : ℕ) (d : X) (b whole : Bool) → pairwise (λ y z. not (r y z)) (drop i xs) ≡ whole → i < length xs
    → b ≡ list_any (r (get_or xs i d)) (take (length xs - (i + 1)) (drop (i + 1) xs)) → b ≡ false → pairwise (λ y z. not (r y z)) (drop (i + 1) xs) ≡ whole
unlike_turn r xs i d b whole before within is other = ap (λ c. not c && pairwise (λ y z. not (r y z)) (drop (i + 1) xs)) (sym other) ∙ unlike_more r xs i d b whole before within is

pub unlike_stop : {X : Type 0} (r : X → X → Bool) (xs : List X) (i : ℕ) (d : X) (b whole : Bool) → pairwise (λ y z. not (r y z)) (drop i xs) ≡ whole → i < length xs
    → b ≡ list_any (r (get_or xs i d)) (take (length xs - (i + 1)) (drop (i + 1) xs)) → b ≡ true → false ≡ whole
unlike_stop r xs i d b whole before within is found = ap (λ c. not c && pairwise (λ y z. not (r y z)) (drop (i + 1) xs)) (sym found) ∙ unlike_more r xs i d b whole before within is

-- a list of numbers that are f of the elements, as far as it reaches, with one more
pub cached_more : {X : Type 0} (f : X → ℕ) (xs : List X) (ts : List ℕ) (i v : ℕ) (d : X) → ((k : ℕ) (x : X) → k < i → x ≡ get_or xs k x → get_or ts k 0 ≡ f x)
    → i < length xs → i < length ts → v ≡ f (get_or xs i d) → (k : ℕ) (x : X) → k < i + 1 → x ≡ get_or xs k x → get_or (set ts i v) k 0 ≡ f x
cached_more f xs ts i v d before in_xs in_ts is k x within at_k = elim (cases_eq k i) [
  | inl here ↦ ap (λ j. get_or (set ts i v) j 0) here ∙ get_or-set_same ts i v 0 in_ts ∙ is ∙ ap f (get_or_default xs i d x in_xs ∙ sym (subst (λ j. x ≡ get_or xs j x) here at_k))
  | inr other ↦ get_or-set_other ts i k v 0 other ∙ before k x (let ne : k ≢ i = other in omega (arith, within)) at_k
]
