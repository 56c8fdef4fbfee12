use Rattle.logtext.specs.laws.Lifted.{same_step, same_steps, same_spelling, same_fit}
use Rattle.logtext.proofs.laws.plain_lines_stay.Goals as goal

pub returns-clause-step : goal.returns-clause-step
returns-clause-step c = same_step

pub returns-clause-steps : goal.returns-clause-steps
returns-clause-steps c = same_steps

pub returns-clause-spelling : goal.returns-clause-spelling
returns-clause-spelling c = same_spelling

pub returns-clause-fit : goal.returns-clause-fit
returns-clause-fit c = same_fit
