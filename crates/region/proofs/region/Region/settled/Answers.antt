use Rattle.std.proofs.Common.{sym, ◌∙◌}
use Rattle.region.specs.laws.Settling.{settled_slots_are}
use Rattle.region.proofs.region.Region.settled.Goals as goal

pub returns-clause-once : goal.returns-clause-once
returns-clause-once c = λ yes m a of domain allows. settled_slots_are m c.args.self.now.region a (sym c.plain_settled.ensures ∙ yes) of domain allows
