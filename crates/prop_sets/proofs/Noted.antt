-- Rows that are noted one after the other.
use Rattle.std.specs.Prelude.{◌≡◌, ℕ, ◌+◌, ◌<◌, List, [], ◌∷◌, ◌++◌, length}
use Rattle.std.proofs.Common.{◌≢◌, refl, sym, ap, subst, ◌∙◌, arith, inl, inr}
use Rattle.std.proofs.lemmas.Bool.{cases_eq}
use Rattle.std.proofs.lemmas.List.{get_or_append_left, length_push}
use Rattle.sched_base.specs.declared.ids.Itv.{Itv}
use Rattle.region.specs.declared.types.Bounds.{Bounds}
use Rattle.region.specs.Cells.{Region, bounds_of}
use Rattle.base_laws.specs.laws.Places.{newest}
use Rattle.theta_passes.specs.declared.rows.Row.{Row}
use Rattle.theta_passes.specs.code.Rows.{row_at}
use Rattle.prop_sets.specs.code.Rows.{member_at, AreRows}

-- the first n rows
pub record AreFirst (make : Bounds → Row) (r : Region) (xs : List Itv) (n : ℕ) (rows : List Row) : Type 0 where
  pub size : length rows ≡ n
  pub each : (k : ℕ) → k < n → row_at rows k ≡ make (bounds_of r (member_at xs k))

pub no_rows : (make : Bounds → Row) (r : Region) (xs : List Itv) → AreFirst make r xs 0 []
no_rows make r xs = record { size = refl; each = λ k low. absurd (omega (arith, low)) }

pub more_rows : (make : Bounds → Row) (r : Region) (xs : List Itv) (n : ℕ) (rows : List Row) (row : Row) → AreFirst make r xs n rows → row ≡ make (bounds_of r (member_at xs n)) → AreFirst make r xs (n + 1) (rows ++ row ∷ [])
more_rows make r xs n rows row so_far is = record {
  size = length_push rows row ∙ ap (λ k. k + 1) so_far.size;
  each = λ k low. elim (cases_eq k n) [
    | inl last ↦ subst (λ (i : ℕ). row_at (rows ++ row ∷ []) i ≡ make (bounds_of r (member_at xs i))) (sym last) (newest n rows row _ (sym so_far.size) ∙ is)
    | inr other ↦ (let apart : k ≢ n = other in let less : k < n = omega (arith, low, apart) in let size = so_far.size in get_or_append_left rows (row ∷ []) _ k (omega (arith, less, size)) ∙ so_far.each k less)
  ];
}

pub all_rows : (make : Bounds → Row) (r : Region) (xs : List Itv) (n : ℕ) (rows : List Row) → n ≡ length xs → AreFirst make r xs n rows → AreRows make r xs rows
all_rows make r xs n rows whole first = record { size = first.size ∙ whole; each = λ k low. first.each k (omega (arith, low, whole)) }
