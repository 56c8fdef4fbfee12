-- Expressions: the words of each, and how tightly it holds together.
use Rattle.std.specs.Prelude.{ℕ, suc, nat_le, Bool, true, false, ◌&&◌, List, [], ◌∷◌, ◌++◌, map, length, codes, Option, Some, None, if◌then◌else◌}
use Rattle.std.specs.List.{list_all}
use Rattle.cpo_text.specs.Words.{Word, is_sign, size_word, between, round, call}
pub use Rattle.cpo_text.specs.Words.{square}
use Rattle.cpo_text.specs.Words.Word.{sign}
use Rattle.cpo_text.specs.Parts.{int_items, name_words}
use Rattle.cpo_text.specs.declared.expression.Measure.{Measure}
use Rattle.cpo_text.specs.declared.expression.Measure.TheVariants.{StartOf, EndOf, SizeOf, LengthOf}
use Rattle.cpo_text.specs.declared.expression.Gather.{Gather}
use Rattle.cpo_text.specs.declared.expression.Gather.TheVariants as gather
use Rattle.cpo_text.specs.declared.expression.Link.{Link}
use Rattle.cpo_text.specs.declared.expression.Link.TheVariants.{Times, And, Or}
use Rattle.cpo_text.specs.declared.expression.Comparison.{Comparison}
use Rattle.cpo_text.specs.declared.expression.Comparison.TheVariants.{Equal, NotEqual, AtMost, AtLeast, Below, Above}
use Rattle.cpo_text.specs.declared.expression.Logic.{Logic}
use Rattle.cpo_text.specs.declared.expression.Logic.TheOpen.{Logic-F}
use Rattle.cpo_text.specs.declared.expression.Logic.TheOpen.Logic-F.{Lit, Group, PresenceOf, Measured, Gathered, Linked, Neg, Sum, Compare, Not, Implies}
use Rattle.cpo_text.specs.declared.expression.Logic.TheFolds.{fold-Logic}

abbrev pub measure_word : Measure → List ℕ
measure_word StartOf = codes "startOf"
measure_word EndOf = codes "endOf"
measure_word SizeOf = codes "sizeOf"
measure_word LengthOf = codes "lengthOf"

abbrev pub gather_word : Gather → List ℕ
gather_word gather.Max = codes "max"
gather_word gather.Min = codes "min"
gather_word gather.Sum = codes "sum"

abbrev pub link_sign : Link → List ℕ
link_sign Times = codes "*"
link_sign And = codes "&&"
link_sign Or = codes "||"

abbrev pub comparison_sign : Comparison → List ℕ
comparison_sign Equal = codes "=="
comparison_sign NotEqual = codes "!="
comparison_sign AtMost = codes "<="
comparison_sign AtLeast = codes ">="
comparison_sign Below = codes "<"
comparison_sign Above = codes ">"

-- a later operand of a sum: `+` stands before it, unless its own minus does
abbrev pub joined : List Word → List Word
joined [] = []
joined (w ∷ ws) = if is_sign (codes "-") w then w ∷ ws else sign (codes "+") ∷ w ∷ ws

abbrev pub all_joined : List (List Word) → List Word
all_joined [] = []
all_joined (x ∷ xs) = joined x ++ all_joined xs

abbrev pub sum_words : List (List Word) → List Word
sum_words [] = []
sum_words (x ∷ xs) = x ++ all_joined xs

abbrev pub logic_step : Logic-F (List Word) → List Word
logic_step (Lit n) = size_word n ∷ []
logic_step (Group e) = round e
logic_step (PresenceOf a) = call (codes "presenceOf") (name_words a ∷ [])
logic_step (Measured m a d) = call (measure_word m) (name_words a ∷ int_items d)
logic_step (Gathered g es) = call (gather_word g) (square es ∷ [])
logic_step (Linked l es) = between (link_sign l) es
logic_step (Neg e) = sign (codes "-") ∷ e
logic_step (Sum es) = sum_words es
logic_step (Compare op a b) = a ++ sign (comparison_sign op) ∷ b
logic_step (Not e) = sign (codes "!") ∷ e
logic_step (Implies a b) = a ++ sign (codes "=>") ∷ b

abbrev pub logic_words : Logic → List Word
logic_words = fold-Logic (List Word) logic_step

-- How tightly an expression holds together, and that each operand holds tightly enough; None where some operand needs brackets.
-- 0 is an implication, 1 `||`, 2 `&&`, 3 a comparison or `!`, 4 a sum, 5 a product under a minus, 6 a product, 7 the rest.
abbrev pub at_least : ℕ → Option ℕ → Bool
at_least n None = false
at_least n (Some m) = nat_le n m

abbrev pub all_at_least : ℕ → List (Option ℕ) → Bool
all_at_least n ls = list_all (at_least n) ls

abbrev pub if_so : Bool → ℕ → Option ℕ
if_so b n = if b then Some n else None

abbrev pub are_many : {X : Type 0} → List X → Bool
are_many xs = nat_le 2 (length xs)

abbrev pub link_level : Link → ℕ
link_level Times = 6
link_level And = 2
link_level Or = 1

-- a sum of none is written, a greatest or least of none isn't
abbrev pub gathers : {X : Type 0} → Gather → List X → Bool
gathers gather.Sum xs = true
gathers g xs = nat_le 1 (length xs)

abbrev pub level_step : Logic-F (Option ℕ) → Option ℕ
level_step (Lit n) = Some 7
level_step (Group l) = if_so (at_least 0 l) 7
level_step (PresenceOf a) = Some 7
level_step (Measured m a d) = Some 7
level_step (Gathered g ls) = if_so (gathers g ls && all_at_least 0 ls) 7
level_step (Linked k ls) = if_so (are_many ls && all_at_least (suc (link_level k)) ls) (link_level k)
level_step (Neg l) = if_so (at_least 6 l) 5
level_step (Sum ls) = if_so (are_many ls && all_at_least 5 ls) 4
level_step (Compare op l k) = if_so (at_least 4 l && at_least 4 k) 3
level_step (Not l) = if_so (at_least 3 l) 3
level_step (Implies l k) = if_so (at_least 1 l && at_least 0 k) 0

abbrev pub level : Logic → Option ℕ
level = fold-Logic (Option ℕ) level_step

abbrev pub is_logic : Logic → Bool
is_logic e = at_least 0 (level e)

-- one at least, each an expression
abbrev pub are_logics : List Logic → Bool
are_logics es = nat_le 1 (length es) && all_at_least 0 (map level es)
