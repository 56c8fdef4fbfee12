use Rattle.std.proofs.Common.{◌≡◌, ◌++◌, drop}
use Rattle.std.specs.List.{flat_map}
use Rattle.svg_page.specs.States.{segment_name}
use Rattle.svg_page.proofs.states.push_segment_names.Given as goal

abbrev pub invariant-loop-s : goal.invariant-loop-s
invariant-loop-s l = l.page.items ++ flat_map (segment_name l.axis) (drop l.s-index l.segments) ≡ l.initial.page.items ++ flat_map (segment_name l.axis) l.segments
