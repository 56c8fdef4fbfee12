-- What every element of a list passes, one of them passes.
use Rattle.std.proofs.Common.{◌≡◌, ℕ, zero, suc, ◌<◌, Bool, true, List, [], ◌∷◌, Some, length, get_or, sym, ap, subst, ◌∙◌, arith}
use Rattle.std.specs.Prelude.{◌↔◌, IsTrue, slice_get, is_some}
use Rattle.std.specs.List.{list_all}
use Rattle.std.proofs.lemmas.Bool.{and_parts}
use Rattle.base_laws.specs.laws.Items.{all_at}
use Rattle.sched_model.specs.declared.types.Constraint.{Constraint}
use Rattle.sched_model.specs.declared.types.Objective.{Objective}
use Rattle.sched_model.specs.declared.types.Expr.{Expr}
use Rattle.sched_model.specs.Data.{Data}
use Rattle.sched_model.specs.Hull.{hull_of}
use Rattle.sched_base.specs.declared.ids.Con.{Con}
use Rattle.sched_model.specs.Sentences.{Holds, holds, holds_at}
use Rattle.sched_model.specs.laws.Tested.{sentence_tested}
use Rattle.sched_model.specs.Words.{passes, passes_if_any}
use Rattle.sched_model.specs.declared.types.Assignment.{Assignment}
use Rattle.sched_model.specs.Valid.{IsValid, is_constraint, is_expr}

pub passes_at : {X : Type 0} (p : X → Bool) (xs : List X) (i : ℕ) (x : X) → list_all p xs ≡ true → i < length xs → x ≡ get_or xs i x → p x ≡ true
passes_at p [] i x all within at_i = absurd (omega (arith, within))
passes_at p (y ∷ ys) zero x all within at_i = subst (λ z. p z ≡ true) (sym at_i) (and_parts (p y) (list_all p ys) all).0
passes_at p (y ∷ ys) (suc i) x all within at_i = passes_at p ys i x (and_parts (p y) (list_all p ys) all).1 (omega (arith, within)) at_i

pub valid_there : (m : Data) (k : ℕ) (c : Constraint) → IsValid m → slice_get m.constraints k ≡ Some c → is_constraint m c ≡ true
valid_there m k c valid there = all_at (is_constraint m) m.constraints k c valid.constraints there

pub hull_from_expr : (m : Data) (x : Expr) → is_expr m x ≡ true → is_some (hull_of m x) ≡ true
hull_from_expr m x h = (and_parts _ (is_some (hull_of m x)) h).1

pub objective_hull : (m : Data) (o : Objective) → IsValid m → Some o ≡ m.objective → is_some (hull_of m o.expr) ≡ true
objective_hull m o valid there = hull_from_expr m o.expr (subst (λ z. passes_if_any (λ o. is_expr m o.expr) z ≡ true) (sym there) valid.objective)

-- what is tested of the constraint of an id is its sentence
pub sentence_there : (m : Data) (a : Assignment) (k : Con) (c : Constraint) (b : Bool) → b ≡ holds_at m k a → slice_get m.constraints k.0 ≡ Some c → IsTrue b ↔ Holds m a c
sentence_there m a k c b tested there = subst (λ x. IsTrue x ↔ Holds m a c) (sym (tested ∙ ap (passes (holds m a)) there)) (sentence_tested m a c)
