-- Laws of what a statement that deserves no refusal does to a valid model.
use Rattle.std.specs.Prelude.{◌≡◌, ℕ, true, None, IsTrue}
use Rattle.sched_model.specs.Valid.{IsValid}
use Rattle.cpo_text.specs.declared.tree.Constrained.{Constrained}
use Rattle.cpo_text.specs.declared.tree.Statement.{Statement}
use Rattle.cpo_text.specs.declared.tree.Statement.TheVariants.{Constrain}
use Rattle.std.specs.List.{list_all}
use Rattle.calendar.specs.Steps.{are_steps}
use Rattle.cpo_elab.specs.Elaborated.{with_written}
use Rattle.cpo_elab.specs.Stages.{Stage, reached}
use Rattle.cpo_elab.specs.Judged.{number_in}
use Rattle.cpo_elab.specs.Shaped.{is_shaped}

-- the model is valid, and the step functions beside it are such
pub record IsStage (st : Stage) : Type 0 where
  pub valid : IsValid st.model
  pub steps : list_all (λ f. are_steps f.1) st.steps ≡ true

-- both stay so with the statement
abbrev pub StatementsKeepValid : Type 0
StatementsKeepValid = (st : Stage) (k : ℕ) (s : Statement) → IsStage st → IsTrue (is_shaped s) → number_in st k s ≡ None → IsStage (reached st s)

-- and already with what a constraint writes without a name
abbrev pub WrittenKeepsValid : Type 0
WrittenKeepsValid = (st : Stage) (k : ℕ) (c : Constrained) → IsValid st.model → number_in st k (Constrain c) ≡ None → IsValid (with_written st.model c)
