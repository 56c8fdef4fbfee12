use Rattle.cpo_text.specs.Parts.{ints_words}
use Rattle.cpo_text.specs.code.Lists.{ints_at}
use Rattle.cpo_text.proofs.listing.Listed.{ints_spells, spells_later}
use Rattle.cpo_text.proofs.lists.RowReaderReader.read.Goals as goal

pub returns-clause-later : goal.returns-clause-later
returns-clause-later c = spells_later ints_at ints_words ints_spells _ _ c.ints.ensures
