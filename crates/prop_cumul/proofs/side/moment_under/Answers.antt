use Rattle.std.proofs.Common.{rules}
use Rattle.std.specs.Prelude.{IfNone, IfSome}
use Rattle.region.specs.Guesses.{looked_at}
use Rattle.prop_cumul.specs.declared.added.Raised.{Raised}
use Rattle.prop_cumul.specs.code.Extra.{extra, IsRaisedAbove, StaysLow}
use Rattle.prop_cumul.specs.laws.Asking.{low_never, raised_high}
use Rattle.prop_cumul.proofs.Raising.{if_none_so, if_some_so}
use Rattle.prop_cumul.proofs.side.moment_under.Goals as goal

pub returns-clause-none : goal.returns-clause-none
returns-clause-none c =
    let m = c.args.at.now.model.now in
    let r = c.args.at.now.region.now.region in
    let q = looked_at c.args.guess r in
    let b = c.args.at.now.bound in
    let low : IfNone c.first_raised.result (StaysLow c.args.at.now.profile.now.levels (extra r q c.args.at.now.below c.args.parts.now) c.window_of-span.result.0 c.window_of-span.result.1 c.limit_of-limit.result) = search rules in
    if_none_so c.first_raised.result (λ h. low_never m r q b c.args.at.now.below c.args.at.now.profile.now c.args.parts.now c.window_of-span.result c.limit_of-limit.result c.requires.ready.profile c.requires.tells (search rules) (search rules) h) low

pub returns-clause-some : goal.returns-clause-some
returns-clause-some c =
    let m = c.args.at.now.model.now in
    let r = c.args.at.now.region.now.region in
    let q = looked_at c.args.guess r in
    let b = c.args.at.now.bound in
    let high : IfSome c.first_raised.result (λ (x : Raised). IsRaisedAbove c.args.at.now.profile.now.levels (extra r q c.args.at.now.below c.args.parts.now) c.window_of-span.result.0 c.window_of-span.result.1 c.limit_of-limit.result x.t) = search rules in
    if_some_so c.first_raised.result (λ x h. raised_high m r q b c.args.at.now.below c.args.at.now.profile.now c.args.parts.now c.window_of-span.result c.limit_of-limit.result x.t c.requires.ready.profile c.requires.tells (search rules) (search rules) h) high
