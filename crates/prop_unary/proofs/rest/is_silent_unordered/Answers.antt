use Rattle.prop_unary.proofs.rest.is_silent_unordered.Goals as goal

pub returns : goal.returns
returns c = λ best silent. c.is_silent_open.ensures best silent c.requires.told
