use Rattle.std.proofs.Common.{◌≡◌, ◌∙◌, ◌++◌, OnOk, ap, subst}
use Rattle.svg_page.specs.Cumuls.{cumul_of, reach_of}
use Rattle.svg_page.proofs.Rows.{two}
use Rattle.svg_page.proofs.cumuls.push_cumul_of.Goals as goal

pub returns : goal.returns
returns c =
    let is : c.reach_of-r.result ≡ reach_of c.args.k c.args.model.now.constraints c.args.steps.now = c.reach_of-r.ensures ∙ ap (λ cs. reach_of c.args.k cs c.args.steps.now) c.constraints.ensures.list in
    subst (λ r. OnOk c.push_cumul_names.result (c.push_cumul_names.new.page.items ≡ c.args.page.now.items ++ cumul_of c.args.model.now c.args.a.now c.args.axis c.args.k c.args.d.now c.args.steps.now r)) is
    (two _ _ _ _ _ _ c.in_ok-push_cumul_drawing.ensures c.push_cumul_names.ensures)
