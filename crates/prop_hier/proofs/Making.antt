-- What the propagators of a model watch, one after the other.
use Rattle.std.specs.Prelude.{◌≡◌, ℕ, ◌+◌, ◌<◌, List, [], ◌∷◌, ◌++◌, length, Some, slice_get}
use Rattle.std.proofs.Common.{◌≢◌, refl, sym, ap, subst, ◌∙◌, arith, get_or, inl, inr}
use Rattle.std.proofs.lemmas.Bool.{cases_eq}
use Rattle.std.proofs.lemmas.List.{get_or_append_left, length_push}
use Rattle.sched_model.specs.declared.types.Constraint.{Constraint}
use Rattle.sched_model.specs.Data.{Data}
use Rattle.prop_hier.specs.declared.watch.Watch.{Watch}
use Rattle.prop_hier.specs.code.Tables.{Table, ListEach, no_watch, watch_of}
use Rattle.base_laws.specs.laws.Places.{newest, there}

-- those of the first constraints
pub record ListBelow (m : Data) (n : ℕ) (cs : List Constraint) (t : Table) : Type 0 where
  pub size : length t ≡ n
  pub each : (c : ℕ) → c < n → get_or t c no_watch ≡ watch_of m (slice_get cs c)

pub list_none : (m : Data) (cs : List Constraint) → ListBelow m 0 cs []
list_none m cs = record { size = refl; each = λ c below. absurd (omega (arith, below)) }

pub list_more : (m : Data) (n : ℕ) (cs : List Constraint) (t : Table) (c : Constraint) (v : Watch) → ListBelow m n cs t → n < length cs → c ≡ get_or cs n c → v ≡ watch_of m (Some c) → ListBelow m (n + 1) cs (t ++ v ∷ [])
list_more m n cs t c v so_far within at is = record {
  size = length_push t v ∙ ap (λ k. k + 1) so_far.size;
  each = λ i below. elim (cases_eq i n) [
    | inl last ↦ subst (λ k. get_or (t ++ v ∷ []) k no_watch ≡ watch_of m (slice_get cs k)) (sym last) (newest n t v no_watch (sym so_far.size) ∙ is ∙ sym (ap (watch_of m) (there cs n c c within at)))
    | inr other ↦ (let apart : i ≢ n = other in let less : i < n = omega (arith, below, apart) in let size = so_far.size in get_or_append_left t (v ∷ []) no_watch i (omega (arith, less, size)) ∙ so_far.each i less)
  ];
}

pub list_all : (m : Data) (n : ℕ) (cs : List Constraint) (t : Table) → n ≡ length cs → ListBelow m n cs t → ListEach m cs t
list_all m n cs t all so_far = record { size = so_far.size ∙ all; each = λ c within. so_far.each c (omega (arith, within, all)) }
