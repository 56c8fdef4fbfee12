-- One step of a walk over some expressions that joins their values.
use Rattle.std.proofs.Common.{◌≡◌, ℕ, ◌+◌, ◌<◌, ℤ, ◌+ℤ◌, ◌*ℤ◌, List, [], ◌∷◌, ◌++◌, length, map, drop, get_or, fold, Option, Some, None, refl, sym, ap, ◌∙◌}
use Rattle.std.specs.Int.{saturate_signed, w128}
use Rattle.std.specs.Option.{option_to_list}
use Rattle.std.proofs.lemmas.List.{at_drop_more}
use Rattle.sched_model.specs.Words.{total, greatest, least}
use Rattle.base_laws.specs.laws.Numbers.{regroup}

-- the next value, at the front of what is left
next_value : {A X : Type 0} (F : List ℤ → A) (f : X → ℤ) (xs : List X) (i : ℕ) (x : X) (z : ℤ) → i < length xs → x ≡ get_or xs i x → z ≡ f x
    → F (map f (drop i xs)) ≡ F (z ∷ map f (drop (i + 1) xs))
next_value F f xs i x z within at_i is =
    at_drop_more (λ ys. F (map f ys)) xs i x within
    ∙ ap (λ y. F (f y ∷ map f (drop (i + 1) xs))) (sym at_i)
    ∙ ap (λ o. F (o ∷ map f (drop (i + 1) xs))) (sym is)

pub total_turn : {X : Type 0} (f : X → ℤ) (xs : List X) (i : ℕ) (x : X) (z sum sum' whole : ℤ) → sum +ℤ total (map f (drop i xs)) ≡ whole → i < length xs → x ≡ get_or xs i x → z ≡ f x → sum' ≡ sum +ℤ z
    → sum' +ℤ total (map f (drop (i + 1) xs)) ≡ whole
total_turn f xs i x z sum sum' whole before within at_i is new =
    sym (next_value (λ zs. sum +ℤ total zs) f xs i x z within at_i is ∙ regroup sum z (total (map f (drop (i + 1) xs))) sum' new) ∙ before

abbrev times : ℤ → ℤ → ℤ
times p z = saturate_signed w128 (p *ℤ z)

pub product_turn : {X : Type 0} (f : X → ℤ) (xs : List X) (i : ℕ) (x : X) (z p q whole : ℤ) → fold times p (map f (drop i xs)) ≡ whole → i < length xs → x ≡ get_or xs i x → z ≡ f x → q ≡ times p z
    → fold times q (map f (drop (i + 1) xs)) ≡ whole
product_turn f xs i x z p q whole before within at_i is new =
    ap (λ y. fold times y (map f (drop (i + 1) xs))) new ∙ sym (next_value (λ zs. fold times p zs) f xs i x z within at_i is) ∙ before

greatest_more : (o : Option ℤ) (z : ℤ) (zs : List ℤ) → greatest (option_to_list o ++ z ∷ zs) ≡ greatest (greatest (option_to_list o ++ z ∷ []) ∷ zs)
greatest_more None z zs = refl
greatest_more (Some y) z zs = refl

least_more : (o : Option ℤ) (z : ℤ) (zs : List ℤ) → least (option_to_list o ++ z ∷ zs) ≡ least (least (option_to_list o ++ z ∷ []) ∷ zs)
least_more None z zs = refl
least_more (Some y) z zs = refl

pub greatest_turn : {X : Type 0} (f : X → ℤ) (xs : List X) (i : ℕ) (x : X) (z : ℤ) (o : Option ℤ) (q whole : ℤ) → greatest (option_to_list o ++ map f (drop i xs)) ≡ whole
    → i < length xs → x ≡ get_or xs i x → z ≡ f x → q ≡ greatest (option_to_list o ++ z ∷ []) → greatest (q ∷ map f (drop (i + 1) xs)) ≡ whole
greatest_turn f xs i x z o q whole before within at_i is new =
    ap (λ y. greatest (y ∷ map f (drop (i + 1) xs))) new ∙ sym (greatest_more o z (map f (drop (i + 1) xs)))
    ∙ sym (next_value (λ zs. greatest (option_to_list o ++ zs)) f xs i x z within at_i is) ∙ before

pub least_turn : {X : Type 0} (f : X → ℤ) (xs : List X) (i : ℕ) (x : X) (z : ℤ) (o : Option ℤ) (q whole : ℤ) → least (option_to_list o ++ map f (drop i xs)) ≡ whole
    → i < length xs → x ≡ get_or xs i x → z ≡ f x → q ≡ least (option_to_list o ++ z ∷ []) → least (q ∷ map f (drop (i + 1) xs)) ≡ whole
least_turn f xs i x z o q whole before within at_i is new =
    ap (λ y. least (y ∷ map f (drop (i + 1) xs))) new ∙ sym (least_more o z (map f (drop (i + 1) xs)))
    ∙ sym (next_value (λ zs. least (option_to_list o ++ zs)) f xs i x z within at_i is) ∙ before
