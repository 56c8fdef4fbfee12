-- What a text asks of an assignment, by its statements: each constraint that it writes and each sentence of a calendar, in their order.
-- A calendar's sentence stands here by itself, without a word of the constraints that it becomes in the model.
use Rattle.std.specs.Prelude.{◌↔◌, List, [], ◌∷◌, ◌++◌, map, All, IsTrue}
use Rattle.sched_model.specs.declared.types.Assignment.{Assignment}
use Rattle.sched_model.specs.Data.{Data}
use Rattle.sched_model.specs.Domain.{is_in_domain}
use Rattle.sched_model.specs.Solution.{IsSolution}
use Rattle.calendar.specs.Sentence.{Sentence, Meets}
use Rattle.calendar.specs.Sentence.Sentence.{Plain, Calendar}
use Rattle.cpo_text.specs.declared.tree.Statement.{Statement}
use Rattle.cpo_text.specs.declared.tree.Statement.TheVariants.{Constrain, Forbid}
use Rattle.cpo_text.specs.declared.text.Form.{Form}
use Rattle.cpo_text.specs.declared.text.Form.TheVariants.{Tree as Parsed, Number}
use Rattle.cpo_text.specs.declared.text.Reading.{Reading}
use Rattle.cpo_elab.specs.Named.{itv_of}
use Rattle.cpo_elab.specs.Elaborated.{constraint_of}
use Rattle.cpo_elab.specs.NamedFirst.{sequence_place, cumul_place, renumbered}
use Rattle.cpo_elab.specs.Stages.{Stage, empty_stage, function_of, demand_of}
use Rattle.cpo_elab.specs.Answers.{after_form}

abbrev pub asked_by : Stage → Statement → List Sentence
asked_by st (Constrain c) = Plain (constraint_of st.model c) ∷ []
asked_by st (Forbid w a f) = Calendar (demand_of w) (itv_of st.model a) (function_of st f) ∷ []
asked_by st _ = []

abbrev pub asked_by_form : Stage → Form → List Sentence
asked_by_form st (Parsed s) = asked_by st s
asked_by_form st (Number n) = []

abbrev pub asked_by_all : Stage → List Reading → List Sentence
asked_by_all st [] = []
asked_by_all st (x ∷ xs) = asked_by_form st x.form ++ asked_by_all (after_form st x.form) xs

-- what stands behind all statements
abbrev pub last_stage : Stage → List Reading → Stage
last_stage st [] = st
last_stage st (x ∷ xs) = last_stage (after_form st x.form) xs

-- a constraint speaks of sequences and functions by the numbers that they have once those with names stand in front
abbrev pub placed : Data → Sentence → Sentence
placed m (Plain c) = Plain (renumbered (sequence_place m) (cumul_place m) c)
placed m (Calendar demand x ps) = Calendar demand x ps

abbrev pub asked : List Reading → List Sentence
asked xs = map (placed (last_stage empty_stage xs).model) (asked_by_all empty_stage xs)

-- an assignment in the domain of the model is a solution of it exactly where it does all that the text asks
abbrev pub MeansText : List Reading → Data → Type 0
MeansText xs m = (a : Assignment) → IsTrue (is_in_domain m a) → IsSolution m a ↔ All (Meets m a) (asked xs)
