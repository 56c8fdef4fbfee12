use Rattle.std.proofs.Common.{false, rules}
use Rattle.prop_cumul.specs.code.Asking.{IsSideQuiet}
use Rattle.prop_cumul.specs.laws.Asking.{quiet_by}
use Rattle.prop_cumul.proofs.Raising.{if_none_so}
use Rattle.prop_cumul.proofs.asking.ask_bound.Goals as goal

pub returns-clause-none : goal.returns-clause-none
returns-clause-none c =
    let m = c.args.model.now in
    let r = c.args.region.now.region in
    let above : IsSideQuiet m r c.args.request.bound false c.args.task.now.intervals = search rules in
    if_none_so c.ask_one-2.result (λ h. quiet_by m c.args.request.c r c.args.request.best c.args.request.bound c.args.task.now c.requires.bound c.requires.task above h) c.ask_one-2.ensures.none
