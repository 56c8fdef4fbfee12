-- Lists with one more item.
use Rattle.std.proofs.Common.{◌≡◌, ℕ, Bool, true, false, not, List, [], ◌∷◌, ◌++◌, refl, ◌∙◌}
use Rattle.std.specs.List.{list_all, list_any}
use Rattle.std.specs.Str.{bytes_eq}
use Rattle.std.proofs.lemmas.Cmp.{nat_list_eq_equiv}
use Rattle.std.proofs.lemmas.Bool.{and_parts, and_from, or_parts, not_from_false}
use Rattle.base_laws.specs.laws.Items.{all_push}
use Rattle.sched_model.specs.Words.{pairwise}

pub pairwise_push : {X : Type 0} (r : X → X → Bool) (xs : List X) (x : X) → pairwise r xs ≡ true → list_all (λ y. r y x) xs ≡ true → pairwise r (xs ++ x ∷ []) ≡ true
pairwise_push r [] x before last = refl
pairwise_push r (y ∷ ys) x before last =
    let parts = and_parts (list_all (r y) ys) (pairwise r ys) before in
    let ends = and_parts (r y x) (list_all (λ z. r z x) ys) last in
    and_from _ _ (all_push (r y) ys x parts.0 ends.0) (pairwise_push r ys x parts.1 ends.1)

-- a name that isn't there differs from each
pub differs : (n : List ℕ) (ns : List (List ℕ)) → list_any (bytes_eq n) ns ≡ false → list_all (λ m. not (bytes_eq m n)) ns ≡ true
differs n [] absent = refl
differs n (m ∷ ms) absent =
    let parts = or_parts (bytes_eq n m) (list_any (bytes_eq n) ms) absent in
    and_from _ _ (not_from_false _ (nat_list_eq_equiv.symm m n ∙ parts.0)) (differs n ms parts.1)
