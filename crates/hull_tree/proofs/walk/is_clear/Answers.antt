use Rattle.hull_tree.proofs.Found.{clear_of_same}
use Rattle.hull_tree.proofs.walk.is_clear.Goals as goal

pub returns-then-walk : goal.returns-then-walk
returns-then-walk c = λ h. clear_of_same c.args.walk.now.atoms.now c.args.walk.now.x.interval c.args.walk.now.y.interval c.args.span c.if-walk.true (c.is_clear_of.ensures c.if-not-is_clear_of.false)

pub returns : goal.returns
returns c = λ h. (c.is_clear_of.ensures c.if-not-is_clear_of.false, c.is_clear_of-2.ensures h)
