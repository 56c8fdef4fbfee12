use Rattle.std.proofs.Common.{◌≡◌, ◌-ℤ◌, refl, sym, subst, rules, to_z, of_z, w64}
use Rattle.std.specs.Int.{w128}
use Rattle.refute_cumul.specs.code.Profiles.{IsFirstAbove, StaysBelow}
use Rattle.prop_cumul.specs.code.Extra.{IsStill, IsRaisedAbove}
use Rattle.prop_cumul.proofs.Raising.{IsLowUntil, low_more, raised}
use Rattle.prop_cumul.proofs.added.raised_by.Goals as goal

pub returns-in-Some-clause-some : goal.returns-in-Some-clause-some
returns-in-Some-clause-some g c =
    let ps = c.args.profile.now.levels in
    let e = g.A.Added.added c.args.more.now in
    let from : to_z w64 (of_z w64 c.args.span.0) ≡ c.args.span.0 = search rules in
    let same : to_z w64 (of_z w64 c.in-Some.t) ≡ c.in-Some.t = search rules in
    let limit : to_z w128 (of_z w128 c.args.limit) ≡ c.args.limit = search rules in
    let a = to_z w64 c.loop-a.a-bits in
    let less = c.args.limit -ℤ c.at-added.result in
    let before : IsLowUntil ps e c.args.span.0 a c.args.limit = subst (λ z. IsLowUntil ps e z a c.args.limit) from (subst (λ z. IsLowUntil ps e (to_z w64 (of_z w64 c.args.span.0)) a z) limit c.loop-a.invariant) in
    let still : IsStill e a c.args.span.1 c.until-n.result = search rules in
    let value : c.at-added.result ≡ e a = search rules in
    let found : IsFirstAbove ps a c.until-n.result less c.in-Some.t = search rules in
    subst (λ t. IsRaisedAbove ps e c.args.span.0 c.args.span.1 c.args.limit t) (sym same)
    (raised ps e c.args.span.0 a c.args.span.1 c.until-n.result c.args.limit c.at-added.result less c.in-Some.t before still value refl found)

pub loop-a-preserved : goal.loop-a-preserved
loop-a-preserved g c =
    let ps = c.args.profile.now.levels in
    let e = g.A.Added.added c.args.more.now in
    let from = to_z w64 (of_z w64 c.args.span.0) in
    let limit = to_z w128 (of_z w128 c.args.limit) in
    let a = to_z w64 c.loop-a.a-bits in
    let n = to_z w64 (of_z w64 c.until-n.result) in
    let less = limit -ℤ c.at-added.result in
    let still : IsStill e a c.args.span.1 n = search rules in
    let value : c.at-added.result ≡ e a = search rules in
    let stays : StaysBelow ps a n less = search rules in
    low_more ps e from a c.args.span.1 n limit c.at-added.result less c.loop-a.invariant still value refl stays
