-- Which expressions name an interval, and which multiply two that do.
use Rattle.std.specs.Prelude.{List, fold}
use Rattle.cpo_text.specs.declared.expression.Link.{Link}
use Rattle.cpo_text.specs.declared.expression.Link.TheVariants.{Times, And, Or}
use Rattle.cpo_text.specs.declared.expression.Logic.{Logic}
use Rattle.cpo_text.specs.declared.expression.Logic.TheOpen.{Logic-F}
use Rattle.cpo_text.specs.declared.expression.Logic.TheOpen.Logic-F.{Lit, Group, PresenceOf, Measured, Gathered, Linked, Neg, Sum, Compare, Not, Implies}
use Rattle.cpo_text.specs.declared.expression.Logic.TheFolds.{fold-Logic}
use Rattle.cpo_elab.specs.declared.factors.Factor.{Factor}
use Rattle.cpo_elab.specs.declared.factors.Factor.TheVariants.{Free, Named, Crowded}

-- of two expressions that stand beside one another
abbrev pub beside : Factor → Factor → Factor
beside Free y = y
beside Crowded y = Crowded
beside Named Crowded = Crowded
beside Named y = Named

-- of the product of two: it names an interval where one of them does
abbrev pub times : Factor → Factor → Factor
times Free y = y
times x Free = x
times x y = Crowded

abbrev pub all_beside : List Factor → Factor
all_beside = fold beside Free

abbrev pub linked : Link → List Factor → Factor
linked Times = fold times Free
linked And = all_beside
linked Or = all_beside

abbrev pub factor_step : Logic-F Factor → Factor
factor_step (Lit n) = Free
factor_step (Group x) = x
factor_step (PresenceOf a) = Named
factor_step (Measured how a d) = Named
factor_step (Gathered g xs) = all_beside xs
factor_step (Linked l xs) = linked l xs
factor_step (Neg x) = x
factor_step (Sum xs) = all_beside xs
factor_step (Compare op x y) = beside x y
factor_step (Not x) = x
factor_step (Implies x y) = beside x y

abbrev pub factor_of : Logic → Factor
factor_of = fold-Logic Factor factor_step
