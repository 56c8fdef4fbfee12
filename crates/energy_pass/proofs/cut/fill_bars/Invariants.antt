use Rattle.std.proofs.Common.{◌≡◌, ◌++◌, map, drop}
use Rattle.energy_pass.specs.code.Trees.{bar_of}
use Rattle.energy_pass.proofs.cut.fill_bars.Given as goal

abbrev pub invariant-loop-row : goal.invariant-loop-row
invariant-loop-row l = (l.bars.items ++ map bar_of (drop l.row-index l.rows)) ≡ map bar_of l.rows
