use Rattle.std.proofs.Common.{sym, ◌∙◌}
use Rattle.region.proofs.Places.{look_length}
use Rattle.region.proofs.look.Look.len.Goals as goal

pub returns : goal.returns
returns c = rw (← c.self.view_is) (c.len.ensures ∙ sym (look_length c.self.inside.frame.now c.self.inside.cells.now c.self.inside.guess))
