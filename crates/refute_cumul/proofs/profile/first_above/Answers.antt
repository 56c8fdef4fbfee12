use Rattle.std.proofs.Common.{◌≡◌, ◌≤ℤ◌, ◌<ℤ◌, get_or, pos, subst, sym, rules, to_z, of_z, w64}
use Rattle.refute_cumul.specs.declared.profile.Level.{Level}
use Rattle.refute_cumul.specs.code.Profiles.{IsPlaceOf, IsFirstAbove, IsAbove, IsNeverAbove}
use Rattle.refute_cumul.proofs.Placing.{above_first, above_later, stays_below, if_none_so}
use Rattle.refute_cumul.proofs.profile.first_above.Goals as goal

pub returns-then-limit-level_before-clause-some : goal.returns-then-limit-level_before-clause-some
returns-then-limit-level_before-clause-some c =
    let same : to_z w64 (of_z w64 c.args.from) ≡ c.args.from = search rules in
    let some : c.args.from <ℤ c.args.to = search rules in
    let at : IsPlaceOf c.args.levels.now c.args.from c.places_until-k.result = subst (λ z. IsPlaceOf c.args.levels.now z c.places_until-k.result) same c.places_until-k.ensures in
    let over : c.args.limit <ℤ c.level_before.result = search rules in
    subst (λ z. IsFirstAbove c.args.levels.now c.args.from c.args.to c.args.limit z) (sym same)
    (above_first c.args.levels.now c.args.from c.args.to c.args.limit c.places_until-k.result c.level_before.result some at c.level_before.ensures over)

pub returns-in_err-i-clause-none : goal.returns-in_err-i-clause-none
returns-in_err-i-clause-none c =
    let same : to_z w64 (of_z w64 c.args.from) ≡ c.args.from = search rules in
    let at : IsPlaceOf c.args.levels.now c.args.from c.places_until-k.result = subst (λ z. IsPlaceOf c.args.levels.now z c.places_until-k.result) same c.places_until-k.ensures in
    let low : c.level_before.result ≤ℤ c.args.limit = search rules in
    let never : IsNeverAbove c.args.levels.now c.places_until-k.result c.args.to c.args.limit = search rules in
    if_none_so c.from_residual.result (stays_below c.args.levels.now c.args.from c.args.to c.args.limit c.places_until-k.result c.level_before.result c.requires.rising at c.level_before.ensures low never)

pub returns-clause-some : goal.returns-clause-some
returns-clause-some c = let e : Level = record { t = pos 0; level = pos 0 } in
    let same : to_z w64 (of_z w64 c.args.from) ≡ c.args.from = search rules in
    let at : IsPlaceOf c.args.levels.now c.args.from c.places_until-k.result = subst (λ z. IsPlaceOf c.args.levels.now z c.places_until-k.result) same c.places_until-k.ensures in
    let above : IsAbove c.args.levels.now c.places_until-k.result c.args.to c.args.limit c.in_ok-i.i = search rules in
    let there : to_z w64 (of_z w64 (get_or c.args.levels.now c.in_ok-i.i e).t) ≡ (get_or c.args.levels.now c.in_ok-i.i e).t = search rules in
    subst (λ z. IsFirstAbove c.args.levels.now c.args.from c.args.to c.args.limit z) (sym there)
    (above_later c.args.levels.now c.args.from c.args.to c.args.limit c.places_until-k.result c.in_ok-i.i e c.requires.rising at above)
