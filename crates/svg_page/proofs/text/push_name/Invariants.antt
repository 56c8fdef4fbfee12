use Rattle.std.proofs.Common.{◌≡◌, ◌++◌, drop}
use Rattle.std.specs.List.{flat_map}
use Rattle.svg_page.specs.Texts.{escaped_byte}
use Rattle.svg_page.proofs.text.push_name.Given as goal

abbrev pub invariant-loop-b : goal.invariant-loop-b
invariant-loop-b l = l.page.items ++ flat_map escaped_byte (drop l.b-index l.name) ≡ l.initial.page.items ++ flat_map escaped_byte l.name
