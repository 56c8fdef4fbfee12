use Rattle.std.proofs.Common.{◌≡◌, drop}
use Rattle.refute_state.specs.code.Groups.{absorbed}
use Rattle.refute_state.proofs.Steps.{taking}
use Rattle.refute_state.proofs.groups.absorbed.Given as goal

abbrev pub invariant-loop-g : goal.invariant-loop-g
invariant-loop-g l = taking l.d l.whole (drop l.g-index l.groups) ≡ absorbed l.d l.groups
