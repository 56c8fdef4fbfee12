use Rattle.std.proofs.Common.{arith}
use Rattle.sched_model.specs.laws.Limits.{limits_of}
use Rattle.cpo_elab.proofs.draft.Draft.cells.Goals as goal

pub returns-clause-few : goal.returns-clause-few
returns-clause-few c = let limits = limits_of c.self.inside.model c.self.invariant.valid.limits in omega (arith, limits.cells, c.self.invariant.cell_sum)
