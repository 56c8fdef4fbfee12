-- One step of a walk over some expressions that joins their ranges.
use Rattle.std.proofs.Common.{◌≡◌, ℕ, ◌+◌, ◌<◌, ℤ, ◌+ℤ◌, List, [], ◌∷◌, ◌++◌, length, map, drop, get_or, fold, Option, Some, None, refl, sym, ap, ◌∙◌}
use Rattle.std.specs.Option.{option_to_list}
use Rattle.std.proofs.lemmas.List.{at_drop_more}
use Rattle.sched_model.specs.Words.{total}
use Rattle.sched_model.specs.Ranges.{Ends, lows, highs, greatest_range, least_range}
use Rattle.sched_model.specs.code.Saturated.{saturated_range}
use Rattle.base_laws.specs.laws.Numbers.{regroup}

-- the next range, at the front of what is left
next_of : {A X : Type 0} (F : List Ends → A) (f : X → Ends) (xs : List X) (i : ℕ) (x : X) (r : Ends) → i < length xs → x ≡ get_or xs i x → r ≡ f x
    → F (map f (drop i xs)) ≡ F (r ∷ map f (drop (i + 1) xs))
next_of F f xs i x r within at_i is =
    at_drop_more (λ ys. F (map f ys)) xs i x within
    ∙ ap (λ y. F (f y ∷ map f (drop (i + 1) xs))) (sym at_i)
    ∙ ap (λ o. F (o ∷ map f (drop (i + 1) xs))) (sym is)

-- a walk that keeps the joined range of what is done and what is left
pub turn : {A B X : Type 0} (G : B → List Ends → A) (f : X → Ends) (xs : List X) (i : ℕ) (x : X) (r : Ends) (b d : B) (whole : A) → G b (map f (drop i xs)) ≡ whole
    → i < length xs → x ≡ get_or xs i x → r ≡ f x → ((rs : List Ends) → G b (r ∷ rs) ≡ G d rs) → G d (map f (drop (i + 1) xs)) ≡ whole
turn G f xs i x r b d whole before within at_i is same =
    sym (next_of (G b) f xs i x r within at_i is ∙ same (map f (drop (i + 1) xs))) ∙ before

pub low_turn : {X : Type 0} (f : X → Ends) (xs : List X) (i : ℕ) (x : X) (r : Ends) (sum sum' whole : ℤ) → sum +ℤ total (lows (map f (drop i xs))) ≡ whole
    → i < length xs → x ≡ get_or xs i x → r ≡ f x → sum' ≡ sum +ℤ r.0 → sum' +ℤ total (lows (map f (drop (i + 1) xs))) ≡ whole
low_turn f xs i x r sum sum' whole before within at_i is new =
    turn (λ s rs. s +ℤ total (lows rs)) f xs i x r sum sum' whole before within at_i is (λ rs. regroup sum r.0 (total (lows rs)) sum' new)

pub high_turn : {X : Type 0} (f : X → Ends) (xs : List X) (i : ℕ) (x : X) (r : Ends) (sum sum' whole : ℤ) → sum +ℤ total (highs (map f (drop i xs))) ≡ whole
    → i < length xs → x ≡ get_or xs i x → r ≡ f x → sum' ≡ sum +ℤ r.1 → sum' +ℤ total (highs (map f (drop (i + 1) xs))) ≡ whole
high_turn f xs i x r sum sum' whole before within at_i is new =
    turn (λ s rs. s +ℤ total (highs rs)) f xs i x r sum sum' whole before within at_i is (λ rs. regroup sum r.1 (total (highs rs)) sum' new)

pub product_turn : {X : Type 0} (f : X → Ends) (xs : List X) (i : ℕ) (x : X) (r p q whole : Ends) → fold saturated_range p (map f (drop i xs)) ≡ whole
    → i < length xs → x ≡ get_or xs i x → r ≡ f x → q ≡ saturated_range p r → fold saturated_range q (map f (drop (i + 1) xs)) ≡ whole
product_turn f xs i x r p q whole before within at_i is new =
    turn (λ s rs. fold saturated_range s rs) f xs i x r p q whole before within at_i is (λ rs. ap (λ z. fold saturated_range z rs) (sym new))

greater_more : (o : Option Ends) (r : Ends) (rs : List Ends) → greatest_range (option_to_list o ++ r ∷ rs) ≡ greatest_range (greatest_range (option_to_list o ++ r ∷ []) ∷ rs)
greater_more None r rs = refl
greater_more (Some a) r rs = refl

lesser_more : (o : Option Ends) (r : Ends) (rs : List Ends) → least_range (option_to_list o ++ r ∷ rs) ≡ least_range (least_range (option_to_list o ++ r ∷ []) ∷ rs)
lesser_more None r rs = refl
lesser_more (Some a) r rs = refl

pub greatest_turn : {X : Type 0} (f : X → Ends) (xs : List X) (i : ℕ) (x : X) (r : Ends) (o : Option Ends) (q whole : Ends) → greatest_range (option_to_list o ++ map f (drop i xs)) ≡ whole
    → i < length xs → x ≡ get_or xs i x → r ≡ f x → q ≡ greatest_range (option_to_list o ++ r ∷ []) → greatest_range (q ∷ map f (drop (i + 1) xs)) ≡ whole
greatest_turn f xs i x r o q whole before within at_i is new =
    turn (λ s rs. greatest_range (option_to_list s ++ rs)) f xs i x r o (Some q) whole before within at_i is (λ rs. greater_more o r rs ∙ ap (λ z. greatest_range (z ∷ rs)) (sym new))

pub least_turn : {X : Type 0} (f : X → Ends) (xs : List X) (i : ℕ) (x : X) (r : Ends) (o : Option Ends) (q whole : Ends) → least_range (option_to_list o ++ map f (drop i xs)) ≡ whole
    → i < length xs → x ≡ get_or xs i x → r ≡ f x → q ≡ least_range (option_to_list o ++ r ∷ []) → least_range (q ∷ map f (drop (i + 1) xs)) ≡ whole
least_turn f xs i x r o q whole before within at_i is new =
    turn (λ s rs. least_range (option_to_list s ++ rs)) f xs i x r o (Some q) whole before within at_i is (λ rs. lesser_more o r rs ∙ ap (λ z. least_range (z ∷ rs)) (sym new))
