use Rattle.std.proofs.Common.{◌≡◌, sym, subst, ◌∙◌, rules}
use Rattle.kernel.specs.code.Open.{AreOpenOf}
use Rattle.kernel.specs.laws.Open.{advanced_of}
use Rattle.bound_report.specs.code.Best.{with_one}
use Rattle.bound_report.proofs.Reached.{reached_more}
use Rattle.bound_report.proofs.best.best_over.Goals as goal

pub front_reach-requires-clause-of : goal.front_reach-requires-clause-of
front_reach-requires-clause-of c = subst (AreOpenOf c.args.model.now) (sym c.advance.ensures.next) (advanced_of c.args.model.now c.each.regions c.each.invariant.of)

pub each-preserved : goal.each-preserved
each-preserved c =
    let is : c.with_one-so_far.result ≡ with_one c.args.objective.now.sense c.each.so_far c.in-Some.z = search rules in
    record {
      of = subst (AreOpenOf c.args.model.now) (sym c.advance.ensures.next) (advanced_of c.args.model.now c.each.regions c.each.invariant.of);
      same = reached_more c.args.model.now c.args.objective.now c.each.regions c.advance.new.self c.each.so_far c.with_one-so_far.result c.in-Some.z c.advance.ensures.next c.in-Some.ensures is ∙ c.each.invariant.same;
    }
