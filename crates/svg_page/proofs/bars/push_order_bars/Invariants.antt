use Rattle.std.proofs.Common.{◌≡◌, ◌++◌, drop}
use Rattle.std.specs.List.{flat_map}
use Rattle.svg_page.specs.Bars.{bar}
use Rattle.svg_page.specs.Shades.{shade_in}
use Rattle.svg_page.proofs.bars.push_order_bars.Given as goal

abbrev pub invariant-loop-x : goal.invariant-loop-x
invariant-loop-x l = l.page.items ++ flat_map (λ x. bar l.model l.a l.row (shade_in l.model l.p x.0) x.0) (drop l.x-index l.order) ≡ l.initial.page.items ++ flat_map (λ x. bar l.model l.a l.row (shade_in l.model l.p x.0) x.0) l.order
