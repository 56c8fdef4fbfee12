use Rattle.std.proofs.Common.{◌≡◌, to_z, of_z, w64, rules}
use Rattle.look_hull.specs.LookHull.{look_hull}
use Rattle.bound_report.specs.Bound.{better_end}
use Rattle.bound_report.proofs.Reached.{some_reach}
use Rattle.bound_report.proofs.best.front_reach.Goals as goal

pub returns-in-Some : goal.returns-in-Some
returns-in-Some c =
    let is : to_z w64 (of_z w64 c.better_end.result) ≡ better_end c.args.objective.now.sense (look_hull c.args.model.now c.in-Some.look.region c.args.objective.now.expr) = search rules in
    some_reach c.args.model.now c.args.objective.now c.args.regions.now c.in-Some.look _ c.in-Some.ensures.shows is
