use Rattle.std.proofs.Common.{◌≡◌, Some, None, subst}
use Rattle.region.specs.declared.types.Guess.{Guess as GuessData}
use Rattle.kernel.specs.declared.types.Line.TheVariants as line_is
use Rattle.kernel.specs.Steps.{best_of}
use Rattle.prop_energy.specs.Full.{HasNoOverload}
use Rattle.solver.specs.code.Searching.{AskedUnlessSettled}
use Rattle.solver.proofs.logged.Ending.{none_asked, of_each}
use Rattle.solver.proofs.state.Search.close_quiet.Goals as goal

pub returns-in-Some-clause-line : goal.returns-in-Some-clause-line
returns-in-Some-clause-line g c =
    let m = c.args.model.now in
    let s = c.args.self.now in
    let asked : AskedUnlessSettled m s.region.region (Some c.in-Some.w) = subst (AskedUnlessSettled m s.region.region) c.in-Some.is c.in_ok-w.ensures.found in
    asked (best_of s.found)

pub returns-clause-full : goal.returns-clause-full
returns-clause-full g c =
    let m = c.args.model.now in
    let s = c.args.self.now in
    let asked : AskedUnlessSettled m s.region.region None = subst (AskedUnlessSettled m s.region.region) c.in_default.is c.in_ok-w.ensures.found in
    let none = none_asked m s.region.region (best_of s.found) c.intervals.ensures.valid c.requires.ready.holding.of.region c.requires.quiet asked in
    of_each c.leave.result (λ line. (k : GuessData) → line ≡ line_is.Split k → HasNoOverload m s.region.region) (λ line k is. none)
