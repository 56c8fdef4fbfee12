use Rattle.std.proofs.Common.{◌≡◌, ◌++◌, drop}
use Rattle.model_copy.proofs.things.copy_list.Given as goal

abbrev pub invariant-loop-item : goal.invariant-loop-item
invariant-loop-item g l = l.found.items ++ drop l.item-index l.items ≡ l.items
