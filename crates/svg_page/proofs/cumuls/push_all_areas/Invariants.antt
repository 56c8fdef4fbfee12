use Rattle.std.proofs.Common.{◌≡◌, ◌++◌, drop}
use Rattle.std.specs.List.{flat_map}
use Rattle.svg_page.specs.Cumuls.{areas}
use Rattle.svg_page.proofs.cumuls.push_all_areas.Given as goal

abbrev pub invariant-loop-c : goal.invariant-loop-c
invariant-loop-c l = l.page.items ++ flat_map (areas l.axis l.a l.k l.r) (drop l.c-index l.constraints) ≡ l.initial.page.items ++ flat_map (areas l.axis l.a l.k l.r) l.constraints
