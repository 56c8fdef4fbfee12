use Rattle.std.proofs.Common.{◌≡◌, ◌++◌, drop}
use Rattle.svg_page.specs.Texts.{numbered}
use Rattle.svg_page.specs.Bars.{lane_bar_names}
use Rattle.svg_page.proofs.labels.push_bar_names.Given as goal

abbrev pub invariant-loop-k : goal.invariant-loop-k
invariant-loop-k l = l.page.items ++ numbered (lane_bar_names l.model l.a l.frame.axis l.frame.rows) l.k (drop l.k l.lanes) ≡ l.initial.page.items ++ numbered (lane_bar_names l.model l.a l.frame.axis l.frame.rows) 0 l.lanes
