use Rattle.cpo_text.specs.Spelling.{step_words}
use Rattle.cpo_text.specs.code.Lists.{step_at}
use Rattle.cpo_text.proofs.listing.Listed.{step_spells, spells_later}
use Rattle.cpo_text.proofs.lists.StepReaderReader.read.Goals as goal

pub returns-clause-later : goal.returns-clause-later
returns-clause-later c = spells_later step_at step_words step_spells _ _ c.step.ensures
