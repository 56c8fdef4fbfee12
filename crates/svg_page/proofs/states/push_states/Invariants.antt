use Rattle.std.proofs.Common.{◌≡◌, ◌++◌, drop}
use Rattle.svg_page.specs.Texts.{numbered}
use Rattle.svg_page.specs.States.{state}
use Rattle.svg_page.proofs.states.push_states.Given as goal

abbrev pub invariant-loop-k : goal.invariant-loop-k
invariant-loop-k l = l.page.items ++ numbered (state l.a l.axis) l.k (drop l.k l.defs) ≡ l.initial.page.items ++ numbered (state l.a l.axis) 0 l.defs
