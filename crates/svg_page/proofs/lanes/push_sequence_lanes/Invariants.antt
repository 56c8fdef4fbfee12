use Rattle.std.proofs.Common.{◌≡◌, ◌++◌, drop}
use Rattle.svg_page.specs.Texts.{numbered}
use Rattle.svg_page.specs.Lanes.{sequence_lane}
use Rattle.svg_page.proofs.lanes.push_sequence_lanes.Given as goal

abbrev pub invariant-loop-i : goal.invariant-loop-i
invariant-loop-i l = l.lanes.items ++ numbered sequence_lane l.i (drop l.i l.defs) ≡ l.initial.lanes.items ++ numbered sequence_lane 0 l.defs
