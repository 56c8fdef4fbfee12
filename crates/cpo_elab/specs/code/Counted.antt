-- The nodes that the expression of a tree has, as far as the code counts: brackets are none.
use Rattle.std.specs.Prelude.{ℕ, fold}
use Rattle.cpo_text.specs.declared.expression.Logic.{Logic}
use Rattle.cpo_text.specs.declared.expression.Logic.TheOpen.{Logic-F}
use Rattle.cpo_text.specs.declared.expression.Logic.TheOpen.Logic-F.{Lit, Group, PresenceOf, Measured, Gathered, Linked, Neg, Sum, Compare, Not, Implies}
use Rattle.cpo_text.specs.declared.expression.Logic.TheFolds.{fold-Logic}
use Rattle.cpo_elab.specs.code.Drafts.{plus}

abbrev pub counted_step : Logic-F ℕ → ℕ
counted_step (Lit n) = 1
counted_step (Group k) = k
counted_step (PresenceOf a) = 1
counted_step (Measured how a d) = 1
counted_step (Gathered g ks) = fold plus 1 ks
counted_step (Linked l ks) = fold plus 1 ks
counted_step (Neg k) = plus 1 k
counted_step (Sum ks) = fold plus 1 ks
counted_step (Compare op j k) = plus (plus 1 j) k
counted_step (Not k) = plus 1 k
counted_step (Implies j k) = plus (plus 1 j) k

abbrev pub counted : Logic → ℕ
counted = fold-Logic ℕ counted_step
