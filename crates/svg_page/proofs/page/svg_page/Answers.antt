use Rattle.std.proofs.Common.{◌∙◌, ◌++◌, List, ap}
use Rattle.svg_page.specs.declared.axis.Axis.{Axis}
use Rattle.svg_page.specs.declared.profiles.Step.{Step}
use Rattle.svg_page.specs.Axis.{axis_of}
use Rattle.svg_page.specs.Lanes.{absent, lanes}
use Rattle.svg_page.specs.Page.{page_of}
use Rattle.svg_page.proofs.page.svg_page.Goals as goal

pub returns : goal.returns
returns c =
    let profiles : List (List Step) = c.in_ok-profiles.profiles.items in
    let axis : Axis = axis_of c.args.a.now.slots in (
      profiles,
      rw c.cumuls.ensures.list at c.in_ok-profiles.ensures,
      c.in_ok-push_page.ensures
          ∙ ap (λ v. v ++ page_of c.args.model.now c.args.a.now c.as_slice-2.result.now axis c.as_slice-3.result.now c.as_slice-4.result.now) c.new-page.ensures.items
          ∙ ap (λ p. page_of c.args.model.now c.args.a.now p axis c.as_slice-3.result.now c.as_slice-4.result.now) c.as_slice-2.ensures.value
          ∙ ap (λ ls. page_of c.args.model.now c.args.a.now profiles axis ls c.as_slice-4.result.now) (c.as_slice-3.ensures.value ∙ c.in_ok-lanes.ensures)
          ∙ ap (λ is. page_of c.args.model.now c.args.a.now profiles axis (lanes c.args.model.now c.args.a.now) is) (c.as_slice-4.ensures.value ∙ c.in_ok-absent.ensures ∙ ap absent c.as_slice.ensures),
    )
