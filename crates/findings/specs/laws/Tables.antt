-- The lists of a table, one after the other.
use Rattle.std.specs.Prelude.{◌≡◌, ℕ, ◌+◌, List, [], ◌∷◌, ◌++◌}
use Rattle.std.proofs.Common.{refl, ap, subst, ◌∙◌, arith}
use Rattle.std.proofs.lemmas.List.{length_push}
use Rattle.base_laws.specs.laws.Places.{each_pushed}
use Rattle.findings.specs.code.Tables.{AreLists}

pub no_lists : {X : Type 0} (wanted : ℕ → List X) → AreLists wanted 0 []
no_lists wanted = record { size = refl; each = λ k below. absurd (omega (arith, below)) }

pub more_lists : {X : Type 0} (wanted : ℕ → List X) (n : ℕ) (t : List (List X)) (v : List X) → AreLists wanted n t → v ≡ wanted n → AreLists wanted (n + 1) (t ++ v ∷ [])
more_lists wanted n t v so_far is = record { size = length_push t v ∙ ap (λ k. k + 1) so_far.size; each = each_pushed wanted n t v so_far.size so_far.each is }

pub all_lists : {X : Type 0} (wanted : ℕ → List X) (k n : ℕ) (t : List (List X)) → k ≡ n → AreLists wanted k t → AreLists wanted n t
all_lists wanted k n t same each = subst (λ (i : ℕ). AreLists wanted i t) same each
