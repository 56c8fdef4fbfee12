use Rattle.std.specs.Prelude.{[]}
use Rattle.std.proofs.Common.{subst}
use Rattle.std.proofs.lemmas.List.{take_rest}
use Rattle.findings.specs.code.Reads.{AreUnrefuted}
use Rattle.prop_basic.proofs.Asked.{none_by, some_by}
use Rattle.prop_basic.proofs.Round.{unrefuted_round, busy_after, busy_before}
use Rattle.prop_basic.proofs.hulls.ask_round.Goals as goal

pub returns-in-Some-clause-busy : goal.returns-in-Some-clause-busy
returns-in-Some-clause-busy g c =
    let test = g.T.GuessTest.refuting c.args.test.now in
    let r = c.args.region.now.region in
    let xs = c.args.intervals.now in
    busy_after test r xs c.args.place (subst (λ ys. AreUnrefuted test r ys [] → ⊥) (take_rest xs c.args.place) c.in-Some.ensures.busy)

pub returns-clause-none : goal.returns-clause-none
returns-clause-none g c =
    let test = g.T.GuessTest.refuting c.args.test.now in
    let r = c.args.region.now.region in
    let xs = c.args.intervals.now in
    none_by c.ask_by-2.result (unrefuted_round test r xs c.args.place (subst (λ ys. AreUnrefuted test r ys []) (take_rest xs c.args.place) c.in_default.ensures.none)) c.ask_by-2.ensures.none

pub returns-clause-busy : goal.returns-clause-busy
returns-clause-busy g c =
    let test = g.T.GuessTest.refuting c.args.test.now in
    let r = c.args.region.now.region in
    let xs = c.args.intervals.now in
    some_by c.ask_by-2.result (λ guess busy. busy_before test r xs c.args.place busy) c.ask_by-2.ensures.busy
