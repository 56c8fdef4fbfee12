use Rattle.std.proofs.Common.{rules}
use Rattle.hull_tree.proofs.Found.{sorted_taken}
use Rattle.hull_tree.proofs.atoms.atoms_of.Goals as goal

pub returns : goal.returns
returns c = sorted_taken c.args.nodes.now c.in_ok-atoms.atoms.items c.sort.new.atoms _ c.in_ok-atoms.atoms.len (search rules) c.in_ok-atoms.ensures (search rules) c.sort.ensures.rising
