use Rattle.std.proofs.Common.{◌≡◌, ◌++◌, drop}
use Rattle.svg_page.specs.Texts.{numbered}
use Rattle.svg_page.specs.Bars.{absent_name}
use Rattle.svg_page.proofs.labels.push_absent_names.Given as goal

abbrev pub invariant-loop-k : goal.invariant-loop-k
invariant-loop-k l = l.page.items ++ numbered (absent_name l.model) l.k (drop l.k l.absent) ≡ l.initial.page.items ++ numbered (absent_name l.model) 0 l.absent
