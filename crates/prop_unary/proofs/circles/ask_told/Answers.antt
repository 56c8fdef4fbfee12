use Rattle.std.proofs.Common.{◌≡◌, ◌&&◌, Some, None, true, false, refl, rules}
use Rattle.region.specs.declared.types.Guess.TheVariants.{Present}
use Rattle.region.specs.Guesses.{admits}
use Rattle.region.specs.Looks.{seen_at}
use Rattle.refute_seq.specs.declared.witness.SeqWitness.TheVariants.{Triple}
use Rattle.refute_seq.specs.OnSequence.{refutes}
use Rattle.prop_unary.specs.laws.Circles.{forward_silent}
use Rattle.prop_unary.proofs.Asked.{busy_guess, busy_plain, listed_first, listed_third}
use Rattle.prop_unary.proofs.circles.ask_told.Goals as goal

pub returns-then-refutes-clause-busy : goal.returns-then-refutes-clause-busy
returns-then-refutes-clause-busy c =
    let test : refutes c.args.model.now (seen_at c.args.region.now.region c.args.best None) (Triple c.args.p.0 c.args.x.0 c.args.y.0 c.args.z.0) ≡ true = search rules in
    busy_plain c.args.model.now c.args.region.now.region c.args.best (Triple c.args.p.0 c.args.x.0 c.args.y.0 c.args.z.0) test

pub returns-then-refutes_open-clause-busy : goal.returns-then-refutes_open-clause-busy
returns-then-refutes_open-clause-busy c =
    let test : (admits c.args.region.now.region (Present c.args.x) && refutes c.args.model.now (seen_at c.args.region.now.region c.args.best (Some (Present c.args.x))) (Triple c.args.p.0 c.args.x.0 c.args.y.0 c.args.z.0)) ≡ true = search rules in
    busy_guess c.args.model.now c.args.region.now.region c.args.best (Triple c.args.p.0 c.args.x.0 c.args.y.0 c.args.z.0) (Present c.args.x) (listed_first c.args.model.now c.args.p c.args.x c.args.y c.args.z) refl test

pub returns-then-refutes_open-2-clause-busy : goal.returns-then-refutes_open-2-clause-busy
returns-then-refutes_open-2-clause-busy c =
    let test : (admits c.args.region.now.region (Present c.args.z) && refutes c.args.model.now (seen_at c.args.region.now.region c.args.best (Some (Present c.args.z))) (Triple c.args.p.0 c.args.x.0 c.args.y.0 c.args.z.0)) ≡ true = search rules in
    busy_guess c.args.model.now c.args.region.now.region c.args.best (Triple c.args.p.0 c.args.x.0 c.args.y.0 c.args.z.0) (Present c.args.z) (listed_third c.args.model.now c.args.p c.args.x c.args.y c.args.z) refl test

pub returns-clause-none : goal.returns-clause-none
returns-clause-none c =
    let plain : refutes c.args.model.now (seen_at c.args.region.now.region c.args.best None) (Triple c.args.p.0 c.args.x.0 c.args.y.0 c.args.z.0) ≡ false = search rules in
    let first : (admits c.args.region.now.region (Present c.args.x) && refutes c.args.model.now (seen_at c.args.region.now.region c.args.best (Some (Present c.args.x))) (Triple c.args.p.0 c.args.x.0 c.args.y.0 c.args.z.0)) ≡ false = search rules in
    let third : (admits c.args.region.now.region (Present c.args.z) && refutes c.args.model.now (seen_at c.args.region.now.region c.args.best (Some (Present c.args.z))) (Triple c.args.p.0 c.args.x.0 c.args.y.0 c.args.z.0)) ≡ false = search rules in
    forward_silent c.args.model.now c.args.region.now.region c.args.best c.args.p c.args.x c.args.y c.args.z c.requires.met c.requires.order plain first third
