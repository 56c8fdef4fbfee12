-- The statements of a text one after another.
use Rattle.std.specs.Prelude.{◌≡◌, ℕ, ◌+◌, ◌≤◌, Option, Some, None, Result, Ok, Err, ⊤}
use Rattle.cpo_elab.specs.Stages.{Stage, empty_stage, reached}
use Rattle.cpo_text.specs.declared.text.Reading.{Reading}
use Rattle.cpo_text.specs.declared.text.ReadFault.{ReadFault}
use Rattle.cpo_text.specs.declared.text.ReadFault.TheVariants as fault
use Rattle.cpo_text.specs.declared.tree.Statement.{Statement}
use Rattle.cpo_elab.specs.Judged.{statement_limit, number_in}
use Rattle.cpo_elab.specs.Answers.{number_at, after_form}

-- what stands behind the statements read so far, and how many there are
pub record State : Type 0 where
  pub stage : Stage
  pub statements : ℕ

-- there are not too many statements
pub record IsInStep (e : State) : Type 0 where
  pub few : e.statements ≤ statement_limit

abbrev pub first_state : State
first_state = record { stage = empty_stage; statements = 0 }

-- the number that the next statement deserves
abbrev pub next_number : State → Reading → Option ℕ
next_number e x = number_at e.stage (e.statements + 1) x.form

abbrev pub next_state : State → Reading → State
next_state e x = record { stage = after_form e.stage x.form; statements = e.statements + 1 }

-- one statement more whose words alone deserve no number, or its refusal
abbrev pub TakesStatement : State → Statement → ℕ → Result State ReadFault → Type 0
TakesStatement e s at (Ok next) = (number_in e.stage (e.statements + 1) s ≡ None) × (next ≡ record { stage = reached e.stage s; statements = e.statements + 1 })
TakesStatement e s at (Err (fault.Refused r)) = (number_in e.stage (e.statements + 1) s ≡ Some r.number) × (r ≡ record { number = r.number; statement = e.statements + 1; at = at })
TakesStatement e s at (Err fault.NoMemory) = ⊤

-- one statement more, or its refusal
abbrev pub Takes : State → Reading → Result State ReadFault → Type 0
Takes e x (Ok next) = (next_number e x ≡ None) × (next ≡ next_state e x)
Takes e x (Err (fault.Refused r)) = (next_number e x ≡ Some r.number) × (r ≡ record { number = r.number; statement = e.statements + 1; at = x.at })
Takes e x (Err fault.NoMemory) = ⊤
