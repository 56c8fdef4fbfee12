-- The canonical text of an expression.
use Rattle.std.specs.Prelude.{Bool, true, false, List, [], ◌∷◌, ◌++◌, map, flat_map, codes}
use Rattle.std.specs.Fmt.{signed_decimal}
use Rattle.sched_model.specs.declared.types.CompareOp.{CompareOp}
use Rattle.sched_model.specs.declared.types.CompareOp.TheVariants.{Eq, Ne, Le, Ge, Lt, Gt}
use Rattle.sched_model.specs.declared.types.Expr.{Expr}
use Rattle.sched_model.specs.declared.types.Expr.TheOpen.{Expr-F}
use Rattle.sched_model.specs.declared.types.Expr.TheOpen.Expr-F.{Lit, StartOf, EndOf, SizeOf, LengthOf, PresenceOf, Neg, Sum, Product, Max, Min, Compare, Not, And, Or, Implies}
use Rattle.sched_model.specs.declared.types.Expr.TheFolds.{fold-Expr}
use Rattle.sched_model.specs.Data.{Data}
use Rattle.textline.specs.Lines.{Bytes}
use Rattle.sched_text.specs.Pieces.{between, listed, bracketed, call, interval_name}

-- how an expression is written: as a whole statement, an argument or an item of a list; as an operand; and as an operand of a
-- sum behind the first, with the sign before it
pub record Shown : Type 0 where
  pub whole : Bytes
  pub operand : Bytes
  pub later : Bytes

-- without brackets anywhere
abbrev pub plain : Bytes → Shown
plain text = record { whole = text; operand = text; later = codes "+" ++ text }

-- in brackets where it is an operand
abbrev pub composed : Bytes → Shown
composed text = record { whole = text; operand = bracketed text; later = codes "+" ++ bracketed text }

-- subtracted, where it is a later operand of a sum
abbrev pub negated : Shown → Shown
negated x = record { whole = codes "-" ++ x.operand; operand = bracketed (codes "-" ++ x.operand); later = codes "-" ++ x.operand }

-- an operand in brackets, or without
abbrev pub as_operand : Bool → Bytes → Bytes
as_operand true text = bracketed text
as_operand false text = text

abbrev pub wholes : List Shown → List Bytes
wholes xs = map (λ x. x.whole) xs

abbrev pub operands : List Shown → List Bytes
operands xs = map (λ x. x.operand) xs

-- the first operand of a sum, and each later one with its sign
abbrev pub terms : List Shown → Bytes
terms [] = []
terms (x ∷ xs) = x.operand ++ flat_map (λ y. y.later) xs

-- a sum of two or more by its signs, one of fewer by its word
abbrev pub summed : List Shown → Shown
summed [] = composed (call (codes "sum") (listed [] ∷ []))
summed (x ∷ []) = composed (call (codes "sum") (listed (x.whole ∷ []) ∷ []))
summed (x ∷ y ∷ zs) = composed (terms (x ∷ y ∷ zs))

abbrev pub comparison_sign : CompareOp → Bytes
comparison_sign Eq = codes "=="
comparison_sign Ne = codes "!="
comparison_sign Le = codes "<="
comparison_sign Ge = codes ">="
comparison_sign Lt = codes "<"
comparison_sign Gt = codes ">"

abbrev pub shown_step : Data → Expr-F Shown → Shown
shown_step m (Lit n) = plain (signed_decimal n)
shown_step m (StartOf x d) = plain (call (codes "startOf") (interval_name m x ∷ signed_decimal d ∷ []))
shown_step m (EndOf x d) = plain (call (codes "endOf") (interval_name m x ∷ signed_decimal d ∷ []))
shown_step m (SizeOf x d) = plain (call (codes "sizeOf") (interval_name m x ∷ signed_decimal d ∷ []))
shown_step m (LengthOf x d) = plain (call (codes "lengthOf") (interval_name m x ∷ signed_decimal d ∷ []))
shown_step m (PresenceOf x) = plain (call (codes "presenceOf") (interval_name m x ∷ []))
shown_step m (Neg x) = negated x
shown_step m (Sum xs) = summed xs
shown_step m (Product xs) = composed (between (codes "*") (operands xs))
shown_step m (Max xs) = plain (call (codes "max") (listed (wholes xs) ∷ []))
shown_step m (Min xs) = plain (call (codes "min") (listed (wholes xs) ∷ []))
shown_step m (Compare op x y) = composed (x.operand ++ comparison_sign op ++ y.operand)
shown_step m (Not x) = composed (codes "!" ++ x.operand)
shown_step m (And xs) = composed (between (codes "&&") (operands xs))
shown_step m (Or xs) = composed (between (codes "||") (operands xs))
shown_step m (Implies x y) = composed (x.operand ++ codes "=>" ++ y.operand)

abbrev pub shown : Data → Expr → Shown
shown m = fold-Expr Shown (shown_step m)
