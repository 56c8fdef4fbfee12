use Rattle.std.specs.Prelude.{◌*◌, ◌+◌}
use Rattle.hull_tree.proofs.walk.+under.Given as goal

abbrev pub decreases-under : goal.decreases-under
decreases-under l = 2 * l.i + 1

abbrev pub decreases-visited : goal.decreases-visited
decreases-visited l = 2 * l.i
