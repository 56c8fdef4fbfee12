use Rattle.hull_tree.specs.code.Atoms.{HasAtomsBelow}
use Rattle.hull_tree.proofs.atoms.find_atoms.Given as goal

abbrev pub invariant-loop-place : goal.invariant-loop-place
invariant-loop-place l = HasAtomsBelow l.nodes l.place l.atoms.items
