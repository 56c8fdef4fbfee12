use Rattle.std.proofs.Common.{◌≡◌, ◌++◌, drop}
use Rattle.svg_page.specs.Texts.{numbered}
use Rattle.svg_page.specs.Bars.{lane_bars}
use Rattle.svg_page.proofs.bars.push_bars.Given as goal

abbrev pub invariant-loop-k : goal.invariant-loop-k
invariant-loop-k l = l.page.items ++ numbered (lane_bars l.model l.a) l.k (drop l.k l.lanes) ≡ l.initial.page.items ++ numbered (lane_bars l.model l.a) 0 l.lanes
