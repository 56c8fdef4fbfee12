-- The parts of a table, one after the other.
use Rattle.std.specs.Prelude.{◌≡◌, ℕ, ◌+◌, ◌<◌, List, [], ◌∷◌, ◌++◌, length, Option, Some, None, slice_get}
use Rattle.std.proofs.Common.{◌≢◌, refl, sym, ap, subst, ◌∙◌, arith, get_or, inl, inr}
use Rattle.std.proofs.lemmas.Bool.{cases_eq}
use Rattle.std.proofs.lemmas.List.{get_or_append_left, length_push}
use Rattle.sched_base.specs.declared.ids.Itv.{Itv}
use Rattle.sched_model.specs.declared.types.Constraint.{Constraint}
use Rattle.hull_tree.specs.code.Trees.{Tree}
use Rattle.prop_basic.specs.code.Tasks.{logic_of}
use Rattle.prop_basic.specs.code.Tables.{Fits, FitEach, AreNumbered, tree_at}
use Rattle.base_laws.specs.laws.Places.{newest, there}

pub numbered_none : AreNumbered 0 []
numbered_none = record { size = refl; each = λ x d below. absurd (omega (arith, below)) }

pub numbered_more : (n : ℕ) (xs : List Itv) (y : Itv) → AreNumbered n xs → y ≡ record { 0 = n } → AreNumbered (n + 1) (xs ++ y ∷ [])
numbered_more n xs y so_far is = record {
  size = length_push xs y ∙ ap (λ k. k + 1) so_far.size;
  each = λ x d below. elim (cases_eq x n) [
    | inl last ↦ ap (λ k. get_or (xs ++ y ∷ []) k d) last ∙ newest n xs y d (sym so_far.size) ∙ is ∙ ap number (sym last)
    | inr other ↦ (let apart : x ≢ n = other in let less : x < n = omega (arith, below, apart) in let size = so_far.size in get_or_append_left xs (y ∷ []) d x (omega (arith, less, size)) ∙ so_far.each x d less)
  ];
}
  where
    number : ℕ → Itv
    number k = record { 0 = k }

-- the trees of the first constraints
pub record FitBelow (n : ℕ) (cs : List Constraint) (ts : List (Option Tree)) : Type 0 where
  pub size : length ts ≡ n
  pub each : (c : ℕ) → c < n → Fits (logic_of (slice_get cs c)) (tree_at ts c)

pub fit_none : (cs : List Constraint) → FitBelow 0 cs []
fit_none cs = record { size = refl; each = λ c below. absurd (omega (arith, below)) }

pub fit_more : (n : ℕ) (cs : List Constraint) (ts : List (Option Tree)) (c : Constraint) (t : Option Tree) → FitBelow n cs ts → n < length cs → c ≡ get_or cs n c → Fits (logic_of (Some c)) t → FitBelow (n + 1) cs (ts ++ t ∷ [])
fit_more n cs ts c t so_far within at fits = record {
  size = length_push ts t ∙ ap (λ k. k + 1) so_far.size;
  each = λ i below. elim (cases_eq i n) [
    | inl last ↦ subst (λ k. Fits (logic_of (slice_get cs k)) (tree_at (ts ++ t ∷ []) k)) (sym last)
        (subst (Fits (logic_of (slice_get cs n))) (sym (newest n ts t None (sym so_far.size))) (subst (λ o. Fits (logic_of o) t) (sym (there cs n c c within at)) fits))
    | inr other ↦ (let apart : i ≢ n = other in let less : i < n = omega (arith, below, apart) in let size = so_far.size in subst (Fits (logic_of (slice_get cs i))) (sym (get_or_append_left ts (t ∷ []) None i (omega (arith, less, size)))) (so_far.each i less))
  ];
}

pub fit_all : (n : ℕ) (cs : List Constraint) (ts : List (Option Tree)) → n ≡ length cs → FitBelow n cs ts → FitEach cs ts
fit_all n cs ts all so_far = record { size = so_far.size ∙ all; each = λ c within. so_far.each c (omega (arith, within, all)) }
