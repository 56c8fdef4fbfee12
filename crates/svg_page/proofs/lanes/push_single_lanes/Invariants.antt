use Rattle.std.proofs.Common.{◌≡◌, ◌++◌, drop}
use Rattle.svg_page.specs.Texts.{numbered}
use Rattle.svg_page.specs.Lanes.{single_lane}
use Rattle.svg_page.proofs.lanes.push_single_lanes.Given as goal

abbrev pub invariant-loop-i : goal.invariant-loop-i
invariant-loop-i l = l.lanes.items ++ numbered (single_lane l.defs) l.i (drop l.i l.slots) ≡ l.initial.lanes.items ++ numbered (single_lane l.defs) 0 l.slots
