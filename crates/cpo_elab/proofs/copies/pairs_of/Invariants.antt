use Rattle.std.proofs.Common.{◌≡◌, ◌++◌, drop}
use Rattle.cpo_elab.specs.Stages.{pairs_of}
use Rattle.cpo_elab.proofs.copies.pairs_of.Given as goal

abbrev pub invariant-loop-pair : goal.invariant-loop-pair
invariant-loop-pair l = l.found.items ++ pairs_of (drop l.pair-index l.pairs) ≡ pairs_of l.pairs
