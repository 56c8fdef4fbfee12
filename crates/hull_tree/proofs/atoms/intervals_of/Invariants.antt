use Rattle.hull_tree.specs.code.Atoms.{HasIntervals}
use Rattle.hull_tree.proofs.atoms.intervals_of.Given as goal

abbrev pub invariant-loop-atom : goal.invariant-loop-atom
invariant-loop-atom l = HasIntervals l.atom-index l.atoms l.list.items
