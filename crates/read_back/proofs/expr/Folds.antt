-- What holds of each level of an expression holds of the whole; and the three ways in which the tree of one is told.
use Rattle.std.proofs.Common.{◌≡◌, ◌∙◌, Bool, List, refl, ap, subst}
use Rattle.std.proofs.lemmas.Simd.{map-map}
use Rattle.sched_model.specs.declared.types.Expr.{Expr}
use Rattle.sched_model.specs.declared.types.Expr.TheOpen.{Expr-F}
use Rattle.sched_model.specs.declared.types.Expr.TheOpen.Expr-F.{Lit, StartOf, EndOf, SizeOf, LengthOf, PresenceOf, Neg, Sum, Product, Max, Min, Compare, Not, And, Or, Implies}
use Rattle.sched_model.specs.declared.types.Expr.TheFolds.{fold-Expr, fold-roll-Expr, ind-Expr, map-Expr}
use Rattle.sched_model.specs.declared.types.Expr.TheViews.{roll-Expr}
use Rattle.cpo_text.specs.declared.expression.Logic.{Logic}
use Rattle.cpo_text.specs.declared.expression.Logic.TheOpen.Logic-F.{Group}
use Rattle.cpo_text.specs.declared.expression.Logic.TheViews.{roll-Logic}
use Rattle.read_back.specs.Trees.{Told, plain, composed, negated}
use Rattle.sched_model.specs.Data.{Data}
use Rattle.sched_model.specs.Valid.{expr_step}
use Rattle.read_back.specs.Written.{written_step}

-- the tests of an expression but for its hull, and for the intervals that it multiplies
abbrev pub is_tree : Data → Expr → Bool
is_tree m = fold-Expr Bool (expr_step m)

abbrev pub is_written_tree : Expr → Bool
is_written_tree = fold-Expr Bool written_step

-- an expression, and what is known of it
abbrev pub Known : (Expr → Type 0) → Type 0
Known P = (e : Expr) × P e

-- the expression that one level makes of such parts
abbrev pub made : (P : Expr → Type 0) → Expr-F (Known P) → Expr
made P y = roll-Expr (map-Expr (Known P) Expr (λ p. p.0) y)

mapped : (P : Expr → Type 0) (A : Type 0) (f : Expr → A) (y : Expr-F (Known P)) → map-Expr Expr A f (map-Expr (Known P) Expr (λ p. p.0) y) ≡ map-Expr (Known P) A (λ p. f p.0) y
mapped P A f (Lit n) = refl
mapped P A f (StartOf x d) = refl
mapped P A f (EndOf x d) = refl
mapped P A f (SizeOf x d) = refl
mapped P A f (LengthOf x d) = refl
mapped P A f (PresenceOf x) = refl
mapped P A f (Neg p) = refl
mapped P A f (Sum ps) = ap (λ (xs : List A). Sum xs) (map-map f (λ p. p.0) ps)
mapped P A f (Product ps) = ap (λ (xs : List A). Product xs) (map-map f (λ p. p.0) ps)
mapped P A f (Max ps) = ap (λ (xs : List A). Max xs) (map-map f (λ p. p.0) ps)
mapped P A f (Min ps) = ap (λ (xs : List A). Min xs) (map-map f (λ p. p.0) ps)
mapped P A f (Compare op p q) = refl
mapped P A f (Not p) = refl
mapped P A f (And ps) = ap (λ (xs : List A). And xs) (map-map f (λ p. p.0) ps)
mapped P A f (Or ps) = ap (λ (xs : List A). Or xs) (map-map f (λ p. p.0) ps)
mapped P A f (Implies p q) = refl

-- a fold of one level
pub folded : (P : Expr → Type 0) (A : Type 0) (f : Expr-F A → A) (y : Expr-F (Known P)) → fold-Expr A f (made P y) ≡ f (map-Expr (Known P) A (λ p. fold-Expr A f p.0) y)
folded P A f y = fold-roll-Expr A f (map-Expr (Known P) Expr (λ p. p.0) y) ∙ ap f (mapped P A (fold-Expr A f) y)

-- what holds of each level whose parts it holds of holds of each expression
pub by_levels : (P : Expr → Type 0) → ((y : Expr-F (Known P)) → P (made P y)) → (e : Expr) → P e
by_levels P step = ind-Expr P (λ x y is. subst (λ z. P (roll-Expr z)) is (step y))

-- it holds of the whole, of the operand and of the later operand
pub record Thrice (P : Logic → Type 0) (t : Told) : Type 0 where
  pub whole : P t.whole
  pub operand : P t.operand
  pub later : P t.later

pub of_plain : (P : Logic → Type 0) (l : Logic) → P l → Thrice P (plain l)
of_plain P l h = record { whole = h; operand = h; later = h }

pub of_composed : (P : Logic → Type 0) → ((l : Logic) → P l → P (roll-Logic (Group l))) → (l : Logic) → P l → Thrice P (composed l)
of_composed P group l h = record { whole = h; operand = group l h; later = group l h }

pub of_negated : (P : Logic → Type 0) → ((l : Logic) → P l → P (roll-Logic (Group l))) → (l : Logic) → P l → Thrice P (negated l)
of_negated P group l h = record { whole = h; operand = group l h; later = h }
