use Rattle.std.proofs.Common.{◌≡◌, ◌++◌, take}
use Rattle.std.specs.List.{flat_map}
use Rattle.last_plan.specs.Texts.{found_line}
use Rattle.last_plan.proofs.texts.push_all_found.Given as goal

abbrev pub invariant-loop-one : goal.invariant-loop-one
invariant-loop-one l = l.bytes.items ≡ l.initial.bytes.items ++ flat_map (found_line l.model) (take l.one-index l.found)
