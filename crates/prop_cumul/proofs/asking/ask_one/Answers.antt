use Rattle.std.proofs.Common.{◌≡◌, true, rules}
use Rattle.prop_cumul.specs.code.Silence.{is_out_of_reach}
use Rattle.prop_cumul.specs.laws.Silence.{out_of_reach}
use Rattle.prop_cumul.proofs.asking.ask_one.Goals as goal

pub returns-then-is_out_of_reach-clause-none : goal.returns-then-is_out_of_reach-clause-none
returns-then-is_out_of_reach-clause-none c =
    let far : is_out_of_reach c.args.model.now c.args.request.bound c.args.below ≡ true = search rules in
    out_of_reach c.args.model.now c.args.region.now.region c.args.request.bound c.args.below c.args.task.now.intervals c.requires.bound.valid far
