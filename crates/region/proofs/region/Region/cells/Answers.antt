use Rattle.std.proofs.Common.{◌∙◌}
use Rattle.region.proofs.Shown.{cells_counted}
use Rattle.region.proofs.region.Region.cells.Goals as goal

pub returns : goal.returns
returns c = rw (← c.self.view_is) (c.len.ensures ∙ cells_counted c.self.inside.frame c.self.inside.cells.list c.self.invariant.list)
