use Rattle.std.specs.Prelude.{◌*◌, ◌+◌}
use Rattle.hull_tree.proofs.beside.+beside.Given as goal

abbrev pub decreases-beside : goal.decreases-beside
decreases-beside l = 2 * l.i + 1

abbrev pub decreases-visited : goal.decreases-visited
decreases-visited l = 2 * l.i
