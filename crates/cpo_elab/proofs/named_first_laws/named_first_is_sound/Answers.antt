use Rattle.cpo_elab.proofs.named.InPlace.{nothing_moves}
use Rattle.cpo_elab.specs.NamedFirst.{is_named_sequence, is_named_cumul}
use Rattle.cpo_elab.proofs.named.NumberedValid.{sequence_stays, parts_stay, stays_valid}
use Rattle.cpo_elab.proofs.named_first_laws.named_first_is_sound.Goals as goal
use Rattle.cpo_elab.specs.lemmas.Parted.{at_new_place}

pub returns-clause-valid : goal.returns-clause-valid
returns-clause-valid c = stays_valid

pub returns-clause-sequences : goal.returns-clause-sequences
returns-clause-sequences c = λ m p. at_new_place is_named_sequence m.sequences p.0

pub returns-clause-cumuls : goal.returns-clause-cumuls
returns-clause-cumuls c = λ m f. at_new_place is_named_cumul m.cumuls f.0

pub returns-clause-members : goal.returns-clause-members
returns-clause-members c = sequence_stays

pub returns-clause-parts : goal.returns-clause-parts
returns-clause-parts c = parts_stay

pub returns-clause-nothing : goal.returns-clause-nothing
returns-clause-nothing c = nothing_moves
