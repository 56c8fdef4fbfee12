use Rattle.cpo_text.specs.Parts.{int_words}
use Rattle.cpo_text.specs.code.Rules.{int_at}
use Rattle.cpo_text.proofs.listing.Listed.{int_spells, spells_later}
use Rattle.cpo_text.proofs.lists.IntReaderReader.read.Goals as goal

pub returns-clause-later : goal.returns-clause-later
returns-clause-later c = spells_later int_at int_words int_spells _ _ c.int.ensures
