-- What every model that a text deserves has beyond being valid: it is as a text can write it.
use Rattle.std.specs.Prelude.{◌≡◌, ◌^◌, ℕ, ◌+◌, nat_le, ℤ, pos, neg_ℤ, Bool, true, not, ◌&&◌, ◌||◌, List, [], ◌∷◌, flat_map, is_none, is_some, slice_get, IsTrue, int_le, fold}
use Rattle.std.specs.List.{list_all, list_any, filter, count_by}
use Rattle.std.specs.Str.{bytes_eq}
use Rattle.std.specs.Ordering.{int_eq}
use Rattle.sched_base.specs.declared.ids.Seq.{Seq}
use Rattle.sched_model.specs.Data.{Data}
use Rattle.sched_model.specs.Words.{passes, is_empty, passes_if_any}
use Rattle.sched_model.specs.Rank.{criteria_of}
use Rattle.sched_model.specs.Valid.{all_names}
use Rattle.sched_model.specs.declared.types.Window.{Window}
use Rattle.sched_model.specs.declared.types.Window.TheVariants.{Always}
use Rattle.sched_model.specs.declared.types.Expr.{Expr}
use Rattle.sched_model.specs.declared.types.Expr.TheOpen.{Expr-F}
use Rattle.sched_model.specs.declared.types.Expr.TheOpen.Expr-F.{Lit, StartOf, EndOf, SizeOf, LengthOf, PresenceOf, Neg, Sum, Product, Max, Min, Compare, Not, And, Or, Implies}
use Rattle.sched_model.specs.declared.types.Expr.TheFolds.{fold-Expr}
use Rattle.sched_model.specs.declared.types.Constraint.{Constraint}
use Rattle.sched_model.specs.declared.types.Constraint.TheVariants.{Logic, NoOverlap, First, Last, Before, Prev, CumulIn}
use Rattle.cpo_text.specs.Expressions.{are_many}
use Rattle.cpo_text.specs.Runs.{left_out_words}
use Rattle.cpo_elab.specs.declared.factors.Factor.{Factor}
use Rattle.cpo_elab.specs.declared.factors.Factor.TheVariants.{Free, Named}
use Rattle.cpo_elab.specs.Factors.{beside, times, all_beside}
use Rattle.cpo_elab.specs.Judged.{is_crowded}
use Rattle.cpo_elab.specs.NamedFirst.{is_named_sequence, is_named_cumul}
use Rattle.cpo_elab.specs.NamedFirstLaws.{is_parted}

-- literals have no sign, and products, `&&` and `||` have two operands or more
abbrev pub written_step : Expr-F Bool → Bool
written_step (Lit n) = int_le (pos 0) n
written_step (StartOf x d) = true
written_step (EndOf x d) = true
written_step (SizeOf x d) = true
written_step (LengthOf x d) = true
written_step (PresenceOf x) = true
written_step (Neg b) = b
written_step (Sum bs) = list_all (λ b. b) bs
written_step (Product bs) = are_many bs && list_all (λ b. b) bs
written_step (Max bs) = list_all (λ b. b) bs
written_step (Min bs) = list_all (λ b. b) bs
written_step (Compare op b c) = b && c
written_step (Not b) = b
written_step (And bs) = are_many bs && list_all (λ b. b) bs
written_step (Or bs) = are_many bs && list_all (λ b. b) bs
written_step (Implies b c) = b && c

-- which expressions name an interval, and which multiply two that do
abbrev pub factor_step : Expr-F Factor → Factor
factor_step (Lit n) = Free
factor_step (StartOf x d) = Named
factor_step (EndOf x d) = Named
factor_step (SizeOf x d) = Named
factor_step (LengthOf x d) = Named
factor_step (PresenceOf x) = Named
factor_step (Neg x) = x
factor_step (Sum xs) = all_beside xs
factor_step (Product xs) = fold times Free xs
factor_step (Max xs) = all_beside xs
factor_step (Min xs) = all_beside xs
factor_step (Compare op x y) = beside x y
factor_step (Not x) = x
factor_step (And xs) = all_beside xs
factor_step (Or xs) = all_beside xs
factor_step (Implies x y) = beside x y

abbrev pub factor : Expr → Factor
factor = fold-Expr Factor factor_step

abbrev pub is_written_expr : Expr → Bool
is_written_expr e = fold-Expr Bool written_step e && not (is_crowded (factor e))

abbrev pub is_named_at : Data → Seq → Bool
is_named_at m p = passes is_named_sequence (slice_get m.sequences p.0)

-- a bound on all moments is one from below or one from above
abbrev pub is_one_bound : Window → ℤ → ℤ → Bool
is_one_bound Always lo hi = int_eq lo (neg_ℤ (pos (2 ^ 62))) || int_eq hi (pos (2 ^ 62))
is_one_bound w lo hi = true

-- where no matrix is written, there is no flag
abbrev pub is_written : Data → Constraint → Bool
is_written m (Logic e) = is_written_expr e
is_written m (First p x) = is_named_at m p
is_written m (Last p x) = is_named_at m p
is_written m (Before p x y) = is_named_at m p
is_written m (Prev p x y) = is_named_at m p
is_written m (NoOverlap p matrix direct) = is_some matrix || not direct
is_written m (CumulIn f w lo hi) = is_one_bound w lo hi
is_written m c = true

-- the sequence that may be written as a list there, and the function that may be written out
abbrev pub sequences_in : Constraint → List ℕ
sequences_in (NoOverlap p matrix direct) = p.0 ∷ []
sequences_in c = []

abbrev pub cumuls_in : Constraint → List ℕ
cumuls_in (CumulIn f w lo hi) = f.0 ∷ []
cumuls_in c = []

-- the places of some items, the first of which has this place
abbrev pub places : {X : Type 0} → ℕ → List X → List ℕ
places i [] = []
places i (x ∷ xs) = i ∷ places (i + 1) xs

abbrev pub from_place : ℕ → List ℕ → List ℕ
from_place n is = filter (nat_le n) is

pub record IsWritten (m : Data) : Type 0 where
  -- those with a name stand in front
  pub sequences : IsTrue (is_parted is_named_sequence m.sequences)
  pub cumuls : IsTrue (is_parted is_named_cumul m.cumuls)
  -- each without a name is written in one constraint, in the order of their numbers
  pub listed : from_place (count_by is_named_sequence m.sequences) (flat_map sequences_in m.constraints) ≡ places (count_by is_named_sequence m.sequences) (filter (λ d. not (is_named_sequence d)) m.sequences)
  pub unnamed : from_place (count_by is_named_cumul m.cumuls) (flat_map cumuls_in m.constraints) ≡ places (count_by is_named_cumul m.cumuls) (filter (λ f. not (is_named_cumul f)) m.cumuls)
  pub untyped : IsTrue (list_all (λ d. is_named_sequence d || is_none d.types) m.sequences)
  pub parts : IsTrue (list_all (λ f. not (is_empty f.parts)) m.cumuls)
  pub constraints : IsTrue (list_all (is_written m) m.constraints)
  pub objective : IsTrue (passes_if_any (λ o. list_all is_written_expr (criteria_of o)) m.objective)
  -- no name is a word that the language leaves out
  pub names : IsTrue (list_all (λ n. not (list_any (bytes_eq n) left_out_words)) (all_names m))
