use Rattle.hull_tree.proofs.Whole.{tree_of}
use Rattle.hull_tree.proofs.tree.HullTree.new.Goals as goal

pub returns : goal.returns
returns c = tree_of c.build.new.nodes.items c.as_slice.result.now c.in_ok-atoms.atoms.items c.as_slice-2.result.now c.in_ok-intervals.intervals.items c.in_ok-root.root _ c.args.e.now c.as_slice.ensures.value c.as_slice-2.ensures.value
    c.in_ok-root.ensures.means c.in_ok-atoms.ensures c.in_ok-intervals.ensures
