use Rattle.std.proofs.Common.{◌≡◌, ◌&&◌, Some, true, false, refl, rules}
use Rattle.region.specs.declared.types.Guess.TheVariants.{Before}
use Rattle.region.specs.Guesses.{admits}
use Rattle.region.specs.Looks.{seen_at}
use Rattle.refute_seq.specs.declared.witness.SeqWitness.TheVariants.{Triple}
use Rattle.refute_seq.specs.OnSequence.{refutes}
use Rattle.prop_unary.specs.laws.Circles.{unknown_silent}
use Rattle.prop_unary.proofs.Asked.{busy_guess, listed_before}
use Rattle.prop_unary.proofs.circles.ask_open.Goals as goal

pub returns-then-refutes_open-clause-busy : goal.returns-then-refutes_open-clause-busy
returns-then-refutes_open-clause-busy c =
    let test : (admits c.args.region.now.region (Before c.args.p c.args.z c.args.x) && refutes c.args.model.now (seen_at c.args.region.now.region c.args.best (Some (Before c.args.p c.args.z c.args.x))) (Triple c.args.p.0 c.args.x.0 c.args.y.0 c.args.z.0)) ≡ true = search rules in
    busy_guess c.args.model.now c.args.region.now.region c.args.best (Triple c.args.p.0 c.args.x.0 c.args.y.0 c.args.z.0) (Before c.args.p c.args.z c.args.x) (listed_before c.args.model.now c.args.p c.args.x c.args.y c.args.z) refl test

pub returns-clause-none : goal.returns-clause-none
returns-clause-none c =
    let test : (admits c.args.region.now.region (Before c.args.p c.args.z c.args.x) && refutes c.args.model.now (seen_at c.args.region.now.region c.args.best (Some (Before c.args.p c.args.z c.args.x))) (Triple c.args.p.0 c.args.x.0 c.args.y.0 c.args.z.0)) ≡ false = search rules in
    unknown_silent c.args.model.now c.args.region.now.region c.args.best c.args.p c.args.x c.args.y c.args.z c.requires.of c.requires.order test
