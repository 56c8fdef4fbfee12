use Rattle.std.proofs.Common.{◌≡◌, ◌∙◌, ◌+ℤ◌, ◌<ℤ◌, false, true, pos, sym, rules, subst, to_z, of_z, w64}
use Rattle.std.specs.Prelude.{IfNone, IfSome, is_some}
use Rattle.region.specs.Guesses.{looked_at}
use Rattle.refute_cumul.specs.code.Loads.{is_from, limit_of, window_of}
use Rattle.refute_cumul.specs.code.Sides.{is_high}
use Rattle.prop_cumul.specs.declared.added.Raised.{Raised}
use Rattle.prop_cumul.specs.code.Extra.{extra, IsRaisedAbove, StaysLow}
use Rattle.prop_cumul.specs.laws.Asking.{high_at, low_at, outside_low}
use Rattle.prop_cumul.proofs.Raising.{decided, from_first, if_none_so, if_some_so, until_second}
use Rattle.prop_cumul.proofs.side.is_high_at.Goals as goal

pub returns-then-not-is_from : goal.returns-then-not-is_from
returns-then-not-is_from c =
    let q = looked_at c.args.guess c.args.at.now.region.now.region in
    let window : c.window_of-window.result ≡ window_of q c.args.at.now.bound.window = search rules in
    let off : is_from c.window_of-window.result.0 c.window_of-window.result.1 c.args.t ≡ false = search rules in
    sym (outside_low c.args.at.now.model.now q c.args.at.now.bound c.args.at.now.below c.window_of-window.result c.args.t window off)

pub behind-requires : goal.behind-requires
behind-requires c =
    let on : is_from c.window_of-window.result.0 c.window_of-window.result.1 c.args.t ≡ true = search rules in
    let first : to_z w64 (of_z w64 c.args.t) ≡ c.args.t = search rules in
    let last : to_z w64 (of_z w64 c.window_of-window.result.1) ≡ c.window_of-window.result.1 = search rules in
    subst (λ u. u <ℤ to_z w64 (of_z w64 c.window_of-window.result.1)) (sym first)
    (subst (λ v. c.args.t <ℤ v) (sym last) (until_second c.window_of-window.result.0 c.window_of-window.result.1 c.args.t on))

pub returns : goal.returns
returns c =
    let m = c.args.at.now.model.now in
    let r = c.args.at.now.region.now.region in
    let q = looked_at c.args.guess r in
    let b = c.args.at.now.bound in
    let below = c.args.at.now.below in
    let p = c.args.at.now.profile.now in
    let e = extra r q below c.args.parts.now in
    let t = c.args.t in
    let window : c.window_of-window.result ≡ window_of q b.window = search rules in
    let limit : c.limit_of-limit.result ≡ limit_of below b.lo b.hi = search rules in
    let on : is_from c.window_of-window.result.0 c.window_of-window.result.1 t ≡ true = search rules in
    let since = from_first c.window_of-window.result.0 c.window_of-window.result.1 t on in
    let until = until_second c.window_of-window.result.0 c.window_of-window.result.1 t on in
    let high : IfSome c.first_raised-found.result (λ (x : Raised). IsRaisedAbove p.levels e t (t +ℤ pos 1) c.limit_of-limit.result x.t) = search rules in
    let low : IfNone c.first_raised-found.result (StaysLow p.levels e t (t +ℤ pos 1) c.limit_of-limit.result) = search rules in
    let is : c.is_some.result ≡ is_some c.first_raised-found.result = search rules in
    is ∙ decided c.first_raised-found.result (is_high m q b below t)
    (if_some_so c.first_raised-found.result (λ (x : Raised) h. high_at m r q b below p c.args.parts.now c.window_of-window.result c.limit_of-limit.result t x.t c.requires.ready.profile c.requires.tells window limit since until h) high)
    (if_none_so c.first_raised-found.result (λ h. low_at m r q b below p c.args.parts.now c.window_of-window.result c.limit_of-limit.result t c.requires.ready.profile c.requires.tells window limit h) low)
