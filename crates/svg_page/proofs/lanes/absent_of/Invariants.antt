use Rattle.std.proofs.Common.{◌≡◌, ◌++◌, drop}
use Rattle.svg_page.specs.Texts.{numbered}
use Rattle.svg_page.specs.Lanes.{absent_at}
use Rattle.svg_page.proofs.lanes.absent_of.Given as goal

abbrev pub invariant-loop-i : goal.invariant-loop-i
invariant-loop-i l = l.absent.items ++ numbered absent_at l.i (drop l.i l.slots) ≡ l.initial.absent.items ++ numbered absent_at 0 l.slots
