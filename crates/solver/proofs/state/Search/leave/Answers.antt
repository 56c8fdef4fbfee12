use Rattle.std.proofs.Common.{ap, ◌∙◌}
use Rattle.region.specs.Looks.{Seen}
use Rattle.kernel.specs.Steps.{best_of}
use Rattle.solver.specs.code.Leaves.{settled_assignment}
use Rattle.solver.proofs.logged.Ending.{settled_closes}
use Rattle.solver.proofs.kept.Silent.{none_is}
use Rattle.solver.proofs.state.Search.leave.Goals as goal

pub returns-in_ok-settled_assignment-in-None-clause-line : goal.returns-in_ok-settled_assignment-in-None-clause-line
returns-in_ok-settled_assignment-in-None-clause-line g c =
    let m = c.args.model.now in
    let s = c.args.self.now in
    let choose = c.in_ok-guess.ensures in
    let settled = none_is c.in_ok-guess.guess _ choose.none c.in-None.is in
    settled_closes m s.region.region (best_of s.found) c.in_ok-settled_assignment-in-None.field-0 c.intervals.ensures.valid c.requires.ready.holding.of.region settled (c.requires.quiet settled)
    (c.in_ok-settled_assignment-in-None.ensures ∙ ap (λ (l : Seen). settled_assignment m l.region) c.look-look.ensures.value ∙ ap (λ u. settled_assignment m u.region.region) choose.same)
