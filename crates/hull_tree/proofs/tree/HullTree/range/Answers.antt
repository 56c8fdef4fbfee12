use Rattle.std.proofs.Common.{◌∙◌}
use Rattle.hull_tree.proofs.Whole.{root_means}
use Rattle.region.specs.laws.Narrowing.{looked_stays}
use Rattle.region.specs.Guesses.{looked_at}
use Rattle.hull_tree.proofs.tree.HullTree.range.Goals as goal

pub returns : goal.returns
returns c = λ e tree some. c.narrowed.ensures ∙ root_means c.args.model.now c.args.self.now (looked_at c.args.guess c.args.region.now.region) e c.root_ends.result c.intervals.ensures.valid
    (looked_stays c.args.guess c.args.model.now c.args.region.now.region c.requires.admitted c.requires.of) some tree c.root_ends.ensures
