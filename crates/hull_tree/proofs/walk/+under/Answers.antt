use Rattle.std.proofs.Common.{refl}
use Rattle.hull_tree.specs.laws.Skips.{skipped}
use Rattle.hull_tree.proofs.walk.+under.Goals as goal

pub under-returns-then-is_clear : goal.under-returns-then-is_clear
under-returns-then-is_clear t c =
    skipped c.args.model.now c.args.walk.now.nodes.now c.args.walk.now.spans.now c.args.walk.now.atoms.now c.args.walk.now.x.interval c.args.walk.now.y.interval c.args.walk.now.ends.now c.args.look.now.region c.args.i _
    c.requires.nodes c.requires.atoms c.requires.differ c.requires.within (c.is_clear.ensures c.if-is_clear.true) refl
