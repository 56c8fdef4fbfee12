use Rattle.std.proofs.Common.{ap, ◌∙◌}
use Rattle.std.specs.Prelude.{is_some}
use Rattle.region.specs.Cells.{cells_of}
use Rattle.region.proofs.Shown.{member_is}
use Rattle.region.proofs.look.Look.is_member.Goals as goal

pub returns : goal.returns
returns c = c.is_some.ensures ∙ ap is_some c.place.ensures ∙ member_is (cells_of c.args.self.now.region c.args.p).members c.args.x
