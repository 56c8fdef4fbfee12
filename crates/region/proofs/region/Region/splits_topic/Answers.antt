use Rattle.std.proofs.Common.{sym, ◌∙◌}
use Rattle.region.proofs.region.Region.splits_topic.Goals as goal

pub returns-then-admits_topic-clause-pairs : goal.returns-then-admits_topic-clause-pairs
returns-then-admits_topic-clause-pairs c = λ yes. c.plain_look-look.ensures.pairs c.args.t (sym c.admits_topic.ensures ∙ c.if-admits_topic.true)
