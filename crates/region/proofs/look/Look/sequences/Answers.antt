use Rattle.std.proofs.Common.{sym, ◌∙◌}
use Rattle.region.proofs.Places.{look_sequences}
use Rattle.region.proofs.look.Look.sequences.Goals as goal

pub returns : goal.returns
returns c = record { value = rw (← c.self.view_is) (c.sequences.ensures.value ∙ sym (look_sequences c.self.inside.frame.now c.self.inside.cells.now c.self.inside.guess)); few = c.sequences.ensures.few }
