use Rattle.std.proofs.Common.{◌≡◌, ◌++◌, drop}
use Rattle.svg_page.specs.Texts.{numbered}
use Rattle.svg_page.specs.Bars.{lane_label}
use Rattle.svg_page.proofs.labels.push_lane_labels.Given as goal

abbrev pub invariant-loop-k : goal.invariant-loop-k
invariant-loop-k l = l.page.items ++ numbered (lane_label l.model l.rows) l.k (drop l.k l.lanes) ≡ l.initial.page.items ++ numbered (lane_label l.model l.rows) 0 l.lanes
