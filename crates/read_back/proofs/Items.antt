-- Which item stands at a place of a list, and which items pass a test.
use Rattle.std.proofs.Common.{◌≡◌, ℕ, Bool, true, false, List, [], ◌∷◌, ◌++◌, length, slice_get, Option, Some, None, is_some, nat_lt, refl, sym, ap, ◌∙◌}
use Rattle.std.specs.List.{filter, list_all}
use Rattle.std.proofs.lemmas.Bool.{and_from}
use Rattle.base_laws.specs.laws.Places.{within}
use Rattle.base_laws.specs.laws.Kept.{filter_yes, filter_no}
use Rattle.read_back.proofs.Truth.{all_from}

pub item_at : {X : Type 0} (xs : List X) (i : ℕ) → nat_lt i (length xs) ≡ true → (x : X) × (slice_get xs i ≡ Some x)
item_at xs i h = by (slice_get xs i) refl where
  by : (o : Option _) → slice_get xs i ≡ o → (x : _) × (slice_get xs i ≡ Some x)
  by None is = let none : false ≡ true = sym (within xs i ∙ ap is_some is) ∙ h in cc
  by (Some x) is = (x, is)

-- and that between a front part and the rest
pub item : {X : Type 0} (p : X → Bool) (front back whole : List X) (x : X) → front ++ x ∷ back ≡ whole → list_all p whole ≡ true → p x ≡ true
item p front back whole x is all = all_from p front back x (ap (list_all p) is ∙ all)

-- those that pass a test

kept_more : {X : Type 0} (p : X → Bool) (x : X) (xs : List X) (b : Bool) → p x ≡ b → list_all p (filter p xs) ≡ true → list_all p (filter p (x ∷ xs)) ≡ true
kept_more p x xs true holds rest = ap (list_all p) (filter_yes p x xs holds) ∙ and_from (p x) _ holds rest
kept_more p x xs false fails rest = ap (list_all p) (filter_no p x xs fails) ∙ rest

pub kept_pass : {X : Type 0} (p : X → Bool) (xs : List X) → list_all p (filter p xs) ≡ true
kept_pass p [] = refl
kept_pass p (x ∷ xs) = kept_more p x xs (p x) refl (kept_pass p xs)
