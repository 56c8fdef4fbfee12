use Rattle.std.proofs.Common.{◌≡◌, drop}
use Rattle.refute_state.specs.code.Groups.{groups_from, groups_of}
use Rattle.refute_state.proofs.groups.groups_of.Given as goal

abbrev pub invariant-loop-d : goal.invariant-loop-d
invariant-loop-d l = groups_from l.groups.items (drop l.d-index l.demands) ≡ groups_of l.demands
