use Rattle.std.proofs.Common.{◌≡◌, ◌∙◌, length, arith}
use Rattle.region.proofs.Places.{look_sequences, look_members}
use Rattle.region.proofs.look.Look.members.Goals as goal

pub row-requires : goal.row-requires
row-requires c =
    let size : length c.args.self.now.region.orders ≡ length c.self.inside.frame.now.members = rw (← c.self.view_is) (look_sequences c.self.inside.frame.now c.self.inside.cells.now c.self.inside.guess) in
    omega (arith, size, c.requires)

pub returns : goal.returns
returns c = rw (← c.self.view_is) (c.as_slice.ensures ∙ c.row.ensures.members ∙ look_members c.self.inside.frame.now c.self.inside.cells.now c.self.inside.guess c.args.p)
