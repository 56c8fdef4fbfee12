use Rattle.std.proofs.Common.{◌≡◌, ◌++◌, drop}
use Rattle.std.specs.List.{flat_map}
use Rattle.svg_page.specs.Cumuls.{step_text}
use Rattle.svg_page.proofs.cumuls.push_step_texts.Given as goal

abbrev pub invariant-loop-s : goal.invariant-loop-s
invariant-loop-s l = l.page.items ++ flat_map step_text (drop l.s-index l.steps) ≡ l.initial.page.items ++ flat_map step_text l.steps
