use Rattle.std.proofs.Common.{◌≡◌, ◌∙◌, ◌++◌, OnOk, ap, pos, subst}
use Rattle.svg_page.specs.Axis.{lasting, step_for, ticks_by}
use Rattle.svg_page.proofs.ticks.push_ticks.Goals as goal

pub returns : goal.returns
returns c =
    let is : c.step_for.result ≡ step_for (lasting c.args.axis.from c.args.axis.to) = c.step_for.ensures.value ∙ ap step_for c.axis_length.ensures in
    subst (λ k. OnOk c.push_ticks_by.result (c.push_ticks_by.new.page.items ≡ c.args.page.now.items ++ ticks_by c.args.axis c.args.height (pos k))) is c.push_ticks_by.ensures
