use Rattle.std.proofs.Common.{◌≡◌, ◌++◌, drop}
use Rattle.cpo_elab.specs.Named.{itvs_of}
use Rattle.cpo_elab.proofs.copies.itvs_of.Given as goal

abbrev pub invariant-loop-name : goal.invariant-loop-name
invariant-loop-name l = l.found.items ++ itvs_of l.draft (drop l.name-index l.names) ≡ itvs_of l.draft l.names
