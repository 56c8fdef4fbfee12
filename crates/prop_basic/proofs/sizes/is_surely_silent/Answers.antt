use Rattle.std.proofs.Common.{rules, sym, ap, ◌∙◌, ◌≡◌, ◌<◌, true, length}
use Rattle.region.specs.Cells.{bounds_of}
use Rattle.prop_basic.specs.code.Fit.{are_fit}
use Rattle.prop_basic.specs.laws.Fit.{fit_silent}
use Rattle.prop_basic.proofs.sizes.is_surely_silent.Goals as goal

pub returns : goal.returns
returns c holds =
    let within : c.args.x < length c.args.region.now.region.bounds = search rules in
    let told : c.bounds.result ≡ bounds_of c.args.region.now.region (record { 0 = c.args.x }) = search rules in
    let fit : are_fit (bounds_of c.args.region.now.region (record { 0 = c.args.x })) ≡ true = ap are_fit (sym told) ∙ sym c.are_fit.ensures ∙ holds in
    fit_silent c.args.model.now c.args.region.now.region c.args.best c.args.x within fit
