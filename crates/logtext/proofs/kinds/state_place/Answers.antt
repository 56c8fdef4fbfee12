use Rattle.logtext.specs.Spelling.{state_kinds}
use Rattle.logtext.proofs.Tables.{finds_word}
use Rattle.logtext.proofs.kinds.state_place.Goals as goal

pub returns : goal.returns
returns c = finds_word state_kinds c.args.word.now c.place_of.result c.place_of.ensures
