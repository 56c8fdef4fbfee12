use Rattle.propagators.proofs.sets.FromLaterSetsPropagator.watches_best.Goals as goal

pub returns : goal.returns
returns c = λ m of. c.watches_best.ensures m
