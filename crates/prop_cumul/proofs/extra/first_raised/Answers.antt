use Rattle.std.proofs.Common.{◌≡◌, false, get_or, length, subst, rules}
use Rattle.std.specs.Prelude.{pos, IfNone}
use Rattle.sched_model.specs.declared.types.Part.{Part}
use Rattle.sched_model.specs.declared.types.Shape.TheVariants.{Pulse}
use Rattle.refute_cumul.specs.code.Loads.{bounded}
use Rattle.prop_cumul.specs.code.Extra.{gain, StaysLow}
use Rattle.prop_cumul.proofs.Raising.{alone_low, if_none_so}
use Rattle.prop_cumul.proofs.extra.first_raised.Goals as goal

pub returns-then-parts-eq1-clause-none : goal.returns-then-parts-eq1-clause-none
returns-then-parts-eq1-clause-none c =
    let ps = c.args.profile.now.levels in
    let r = c.args.plain.now.region in
    let q = c.args.under.now.region in
    let d : Part = record { minus = false; shape = Pulse (pos 0) (pos 0) (pos 0) } in
    let one : length c.args.parts.now ≡ 1 = search rules in
    let before : c.bounded.result ≡ bounded r c.args.below (get_or c.args.parts.now 0 d) = search rules in
    let now : c.bounded-then-parts-eq1.result ≡ bounded q c.args.below (get_or c.args.parts.now 0 d) = search rules in
    let none : IfNone c.raised_by.result (StaysLow ps (gain c.bounded.result c.bounded-then-parts-eq1.result) c.args.span.0 c.args.span.1 c.args.limit) = search rules in
    let low = subst (λ j. IfNone c.raised_by.result (StaysLow ps (gain (bounded r c.args.below (get_or c.args.parts.now 0 d)) j) c.args.span.0 c.args.span.1 c.args.limit)) now
    (subst (λ i. IfNone c.raised_by.result (StaysLow ps (gain i c.bounded-then-parts-eq1.result) c.args.span.0 c.args.span.1 c.args.limit)) before none) in
    if_none_so c.raised_by.result (λ h. alone_low ps r q c.args.below c.args.parts.now d c.args.span.0 c.args.span.1 c.args.limit one h) low
