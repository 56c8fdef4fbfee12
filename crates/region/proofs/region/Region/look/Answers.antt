use Rattle.region.specs.laws.Narrowing.{looked_allows, looked_stays}
use Rattle.region.proofs.region.Region.look.Goals as goal

pub returns-clause-allows : goal.returns-clause-allows
returns-clause-allows c = rw c.plain_look.ensures.value (looked_allows c.args.guess c.args.self.now.region c.requires)

pub returns-clause-of : goal.returns-clause-of
returns-clause-of c = rw c.plain_look.ensures.value (λ m of. looked_stays c.args.guess m c.args.self.now.region c.requires of)
