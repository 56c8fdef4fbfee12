use Rattle.std.proofs.Common.{rules, arith}
use Rattle.prop_energy.proofs.Remembering.{all_same}
use Rattle.prop_energy.proofs.known.are_same.Goals as goal

pub returns : goal.returns
returns c = λ same. all_same c.args.old.now c.args.now.now c.loop-k.k (search rules) (omega (arith, c.loop-k-test.false)) c.loop-k.invariant
