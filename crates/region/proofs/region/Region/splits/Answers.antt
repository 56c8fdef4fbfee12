use Rattle.std.specs.Prelude.{IsTrue, ◌&&◌}
use Rattle.std.proofs.Common.{sym, ◌∙◌, subst}
use Rattle.region.specs.Guesses.{admits_topic, is_ready}
use Rattle.region.specs.laws.Counts.{cut_splits}
use Rattle.region.specs.laws.Narrowing.{HasPairs}
use Rattle.region.proofs.region.Region.splits.Goals as goal

pub returns-clause-parts : goal.returns-clause-parts
returns-clause-parts c = λ yes. cut_splits c.args.self.now.region c.args.g (subst (HasPairs c.args.self.now.region) c.topic.ensures (c.splits_topic.ensures.pairs yes))
    (subst (λ t. IsTrue (admits_topic c.args.self.now.region t && is_ready c.args.self.now.region t)) c.topic.ensures (sym c.splits_topic.ensures.value ∙ yes))
