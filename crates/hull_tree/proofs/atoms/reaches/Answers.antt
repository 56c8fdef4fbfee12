use Rattle.hull_tree.proofs.Found.{clear_past}
use Rattle.hull_tree.proofs.atoms.reaches.Goals as goal

pub returns : goal.returns
returns c = clear_past c.args.atoms.now c.args.x c.args.span c.key_at.result c.count_below-i.result c.key_of.result c.key_at-2.result _ c.requires c.key_at.ensures c.count_below-i.ensures.point c.key_of.ensures c.key_at-2.ensures
