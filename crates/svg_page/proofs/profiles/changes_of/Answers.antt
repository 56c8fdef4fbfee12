use Rattle.std.proofs.Common.{◌++◌, refl, ap}
use Rattle.sched_model.specs.Changes.{changes_in, shape_changes}
use Rattle.svg_page.proofs.Rows.{item_more, items_end}
use Rattle.svg_page.proofs.profiles.changes_of.Goals as goal

pub loop-part-init : goal.loop-part-init
loop-part-init c = ap (λ v. v ++ changes_in c.args.a.now c.args.parts.now) c.new-changes.ensures.items

pub loop-part-preserved : goal.loop-part-preserved
loop-part-preserved c = item_more (λ i. shape_changes c.args.a.now i.minus i.shape) c.args.parts.now c.loop-part.part-index _ _ _ _ _ c.loop-part-test.true refl c.loop-part.invariant c.in_ok-add_part.ensures

pub returns : goal.returns
returns c = items_end (λ i. shape_changes c.args.a.now i.minus i.shape) c.args.parts.now c.loop-part.part-index _ _ c.loop-part-test.false c.loop-part.invariant
