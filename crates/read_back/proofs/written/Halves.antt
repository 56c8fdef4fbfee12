-- The items that pass a test stand first, and the others behind them, once a list is parted.
use Rattle.std.proofs.Common.{◌≡◌, Bool, true, false, not, ◌||◌, List, [], ◌∷◌, ◌++◌, length, refl, sym, ap, ◌∙◌}
use Rattle.std.specs.List.{filter, count_by, list_all}
use Rattle.std.proofs.lemmas.List.{append-nil}
use Rattle.std.proofs.lemmas.List.Elements.{filter-append}
use Rattle.std.proofs.lemmas.List.Sums.{length-filter}
use Rattle.std.proofs.lemmas.Bool.{and_parts, and_from, or_left, or_right}
use Rattle.base_laws.specs.laws.Items.{all_weaker}
use Rattle.base_laws.specs.laws.Kept.{none_pass, all_pass}
use Rattle.cpo_elab.specs.NamedFirst.{parted}
use Rattle.cpo_elab.specs.NamedFirstLaws.{is_parted}
use Rattle.read_back.proofs.Items.{kept_pass}

twice_not : (b : Bool) → b ≡ true → not (not b) ≡ true
twice_not true h = refl
twice_not false h = cc

front : {X : Type 0} (first : X → Bool) (xs : List X) → filter first (parted first xs) ≡ filter first xs
front first xs =
    filter-append first (filter first xs) (filter (λ x. not (first x)) xs)
    ∙ (λ i. all_pass first (filter first xs) (kept_pass first xs) i ++ none_pass first (filter (λ x. not (first x)) xs) (kept_pass (λ x. not (first x)) xs) i)
    ∙ append-nil (filter first xs)

pub behind : {X : Type 0} (first : X → Bool) (xs : List X) → filter (λ x. not (first x)) (parted first xs) ≡ filter (λ x. not (first x)) xs
behind first xs =
    filter-append (λ x. not (first x)) (filter first xs) (filter (λ x. not (first x)) xs)
    ∙ (λ i. none_pass (λ x. not (first x)) (filter first xs) (all_weaker first (λ x. not (not (first x))) (λ x. twice_not (first x)) (filter first xs) (kept_pass first xs)) i
    ++ all_pass (λ x. not (first x)) (filter (λ x. not (first x)) xs) (kept_pass (λ x. not (first x)) xs) i)

pub same_count : {X : Type 0} (first : X → Bool) (xs : List X) → count_by first (parted first xs) ≡ count_by first xs
same_count first xs = sym (length-filter first (parted first xs)) ∙ ap length (front first xs) ∙ length-filter first xs

after_passing : {X : Type 0} (first : X → Bool) (x : X) (ys : List X) → first x ≡ true → list_all (λ y. first x || not (first y)) ys ≡ true
after_passing first x [] holds = refl
after_passing first x (y ∷ ys) holds = and_from (first x || not (first y)) _ (or_left (first x) (not (first y)) holds) (after_passing first x ys holds)

others_parted : {X : Type 0} (first : X → Bool) (ys : List X) → list_all (λ y. not (first y)) ys ≡ true → is_parted first ys ≡ true
others_parted first [] others = refl
others_parted first (y ∷ ys) others =
    let parts = and_parts (not (first y)) (list_all (λ y. not (first y)) ys) others in
    and_from (list_all (λ z. first y || not (first z)) ys) _ (all_weaker (λ z. not (first z)) (λ z. first y || not (first z)) (λ z. or_right (first y) (not (first z))) ys parts.1) (others_parted first ys parts.1)

halves_parted : {X : Type 0} (first : X → Bool) (xs ys : List X) → list_all first xs ≡ true → list_all (λ y. not (first y)) ys ≡ true → is_parted first (xs ++ ys) ≡ true
halves_parted first [] ys passing others = others_parted first ys others
halves_parted first (x ∷ xs) ys passing others =
    let parts = and_parts (first x) (list_all first xs) passing in
    and_from (list_all (λ y. first x || not (first y)) (xs ++ ys)) _ (after_passing first x (xs ++ ys) parts.0) (halves_parted first xs ys parts.1 others)

pub is_parted_now : {X : Type 0} (first : X → Bool) (xs : List X) → is_parted first (parted first xs) ≡ true
is_parted_now first xs = halves_parted first (filter first xs) (filter (λ x. not (first x)) xs) (kept_pass first xs) (kept_pass (λ x. not (first x)) xs)
