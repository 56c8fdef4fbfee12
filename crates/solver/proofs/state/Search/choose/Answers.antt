use Rattle.solver.proofs.kept.Silent.{chosen_at_once}
use Rattle.solver.proofs.state.Search.choose.Goals as goal

pub choose_best-requires : goal.choose_best-requires
choose_best-requires g c = record { ready = c.requires.ready; quiet = c.requires.quiet c.if-is_quiet.true }

pub returns-clause-same : goal.returns-clause-same
returns-clause-same g c = chosen_at_once c.args.self.now c.choose_first.new.self c.choose_first.ensures.same
