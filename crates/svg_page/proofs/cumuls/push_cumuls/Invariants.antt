use Rattle.std.proofs.Common.{◌≡◌, ◌++◌, drop}
use Rattle.svg_page.specs.Texts.{numbered}
use Rattle.svg_page.specs.Cumuls.{cumul}
use Rattle.svg_page.proofs.cumuls.push_cumuls.Given as goal

abbrev pub invariant-loop-k : goal.invariant-loop-k
invariant-loop-k l = l.page.items ++ numbered (cumul l.model l.a l.axis l.profiles) l.k (drop l.k l.defs) ≡ l.initial.page.items ++ numbered (cumul l.model l.a l.axis l.profiles) 0 l.defs
