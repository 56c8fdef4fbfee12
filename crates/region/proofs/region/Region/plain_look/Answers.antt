use Rattle.region.proofs.Kept.{kept_pairs}
use Rattle.region.proofs.region.Region.plain_look.Goals as goal

pub returns-clause-pairs : goal.returns-clause-pairs
returns-clause-pairs c = rw (← c.self.view_is) (λ t admitted. kept_pairs c.self.inside.frame c.self.inside.cells.list t c.self.invariant.list admitted)
