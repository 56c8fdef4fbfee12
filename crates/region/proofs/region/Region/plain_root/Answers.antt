use Rattle.std.proofs.Common.{◌∙◌}
use Rattle.region.proofs.Rooting.{first_kept, first_view}
use Rattle.region.proofs.region.Region.plain_root.Goals as goal

pub invariant_of-result : goal.invariant_of-result
invariant_of-result c = first_kept c.args.model.now c.in_ok-frame.frame c.as_slice.result.now c.in_ok-cells.cells _ c.in_ok-frame.ensures.valid c.in_ok-frame.ensures.frame (c.as_slice.ensures ∙ c.in_ok-frame.ensures.cells) c.in_ok-cells.ensures

pub returns-clause-value : goal.returns-clause-value
returns-clause-value c = first_view c.args.model.now c.in_ok-frame.frame c.as_slice.result.now c.in_ok-cells.cells _ c.in_ok-frame.ensures.frame (c.as_slice.ensures ∙ c.in_ok-frame.ensures.cells) c.in_ok-cells.ensures
