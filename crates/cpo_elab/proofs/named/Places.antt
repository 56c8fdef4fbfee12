-- The place of a name among names that are seen as lists of bytes.
use Rattle.std.proofs.Common.{◌≡◌, ℕ, ◌+◌, Bool, ◌||◌, if◌then◌else◌, List, [], ◌∷◌, ◌++◌, map, position, None, is_some, refl, sym, ap, ◌∙◌}
use Rattle.std.specs.List.{list_any}
use Rattle.std.specs.Str.{bytes_eq}
use Rattle.std.proofs.lemmas.List.{map-append}
use Rattle.base_laws.specs.laws.Places.{found}

any_in_map : {X Y : Type 0} (f : X → Y) (p : Y → Bool) (xs : List X) → list_any p (map f xs) ≡ list_any (λ x. p (f x)) xs
any_in_map f p [] = refl
any_in_map f p (x ∷ xs) = ap (λ b. p (f x) || b) (any_in_map f p xs)

-- what a set of names is seen as after a new name
pub pushed : {X : Type 0} (f : X → List ℕ) (ks new : List X) (k : X) (n : List ℕ) → f k ≡ n → new ≡ (if list_any (λ x. bytes_eq (f k) (f x)) ks then ks else ks ++ k ∷ [])
    → position (bytes_eq n) (map f ks) ≡ None → map f new ≡ map f ks ++ n ∷ []
pushed f ks new k n is after none =
    let absent = sym (any_in_map f (bytes_eq n) ks) ∙ sym (found (bytes_eq n) (map f ks)) ∙ ap is_some none in
    let last : new ≡ ks ++ k ∷ [] = after ∙ ap (λ b. if b then ks else ks ++ k ∷ []) (ap (λ m. list_any (λ x. bytes_eq m (f x)) ks) is ∙ absent) in
    ap (map f) last ∙ map-append f ks (k ∷ []) ∙ ap (λ m. map f ks ++ m ∷ []) is
