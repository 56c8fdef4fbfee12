use Rattle.std.proofs.Common.{◌≡◌, ◌++◌, drop}
use Rattle.std.specs.List.{filter}
use Rattle.prop_cumul.specs.code.Tables.{is_of}
use Rattle.prop_cumul.proofs.task.group.Given as goal

abbrev pub invariant-loop-part : goal.invariant-loop-part
invariant-loop-part l = l.list.items ++ filter (is_of l.x) (drop l.part-index l.parts) ≡ filter (is_of l.x) l.parts
