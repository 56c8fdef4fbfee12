use Rattle.std.proofs.Common.{◌≡◌, ◌∙◌, ap, rules, to_z, of_z, w64}
use Rattle.look_hull.specs.LookHull.{unless_absent, start_look}
use Rattle.look_hull.proofs.Known.{look_listed}
use Rattle.look_hull.proofs.intervals.start_of.Goals as goal

pub returns-in-Some : goal.returns-in-Some
returns-in-Some c =
    let back : to_z w64 (of_z w64 c.args.d) ≡ c.args.d = search rules in
    c.unless_absent.ensures ∙ ap (λ z. unless_absent c.in-Some.c.presence z c.start_ends.result) back ∙ look_listed c.args.model.now c.args.look.now.region start_look c.args.x c.args.d c.in-Some.c c.start_ends.result c.in-Some.ensures.some c.start_ends.ensures
