-- What the grammar gives every tree of a text, and a tree that is made by hand may lack: the name that is defined is a name of the
-- language, an objective has an expression, and products, `&&`, `||`, `max` and `min` have operands.
use Rattle.std.specs.Prelude.{ℕ, Bool, true, false, not, ◌&&◌, List, [], ◌∷◌}
use Rattle.std.specs.List.{list_all}
use Rattle.sched_model.specs.Words.{is_empty, passes_if_any}
use Rattle.cpo_text.specs.Tokens.{is_letter, is_name_byte}
use Rattle.cpo_text.specs.declared.expression.Gather.{Gather}
use Rattle.cpo_text.specs.declared.expression.Gather.TheVariants as gather
use Rattle.cpo_text.specs.declared.expression.Logic.{Logic}
use Rattle.cpo_text.specs.declared.expression.Logic.TheOpen.{Logic-F}
use Rattle.cpo_text.specs.declared.expression.Logic.TheOpen.Logic-F.{Lit, Group, PresenceOf, Measured, Gathered, Linked, Neg, Sum, Compare, Not, Implies}
use Rattle.cpo_text.specs.declared.expression.Logic.TheFolds.{fold-Logic}
use Rattle.cpo_text.specs.declared.tree.Statement.{Statement}
use Rattle.cpo_text.specs.declared.tree.Statement.TheVariants.{Rank}
use Rattle.cpo_text.specs.declared.text.Form.{Form}
use Rattle.cpo_text.specs.declared.text.Form.TheVariants.{Tree as Parsed, Number}
use Rattle.cpo_text.specs.declared.text.Reading.{Reading}
use Rattle.cpo_elab.specs.Named.{name_defined}
use Rattle.cpo_elab.specs.Held.{logics_in}

abbrev pub is_spelt : List ℕ → Bool
is_spelt [] = false
is_spelt (c ∷ cs) = is_letter c && list_all is_name_byte cs

abbrev pub all_true : List Bool → Bool
all_true = list_all (λ b. b)

abbrev pub gathers_some : Gather → List Bool → Bool
gathers_some gather.Sum bs = true
gathers_some _ bs = not (is_empty bs)

abbrev pub operands_step : Logic-F Bool → Bool
operands_step (Lit n) = true
operands_step (Group b) = b
operands_step (PresenceOf a) = true
operands_step (Measured how a d) = true
operands_step (Gathered g bs) = gathers_some g bs && all_true bs
operands_step (Linked l bs) = not (is_empty bs) && all_true bs
operands_step (Neg b) = b
operands_step (Sum bs) = all_true bs
operands_step (Compare op b c) = b && c
operands_step (Not b) = b
operands_step (Implies b c) = b && c

abbrev pub has_operands : Logic → Bool
has_operands = fold-Logic Bool operands_step

abbrev pub aims_at_some : Statement → Bool
aims_at_some (Rank sense es) = not (is_empty es)
aims_at_some _ = true

abbrev pub is_shaped : Statement → Bool
is_shaped s = passes_if_any is_spelt (name_defined s) && (aims_at_some s && list_all has_operands (logics_in s))

abbrev pub is_shaped_form : Form → Bool
is_shaped_form (Parsed s) = is_shaped s
is_shaped_form (Number n) = true

abbrev pub are_shaped : List Reading → Bool
are_shaped xs = list_all (λ x. is_shaped_form x.form) xs
