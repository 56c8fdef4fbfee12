use Rattle.std.proofs.Common.{arith}
use Rattle.prop_energy.proofs.Bounding.{bound_at}
use Rattle.prop_energy.proofs.Finding.{nothing_found}
use Rattle.prop_energy.proofs.find.first_of.Goals as goal

pub found_by-requires-clause-bound : goal.found_by-requires-clause-bound
found_by-requires-clause-bound c = bound_at c.args.model.now c.args.bounds.now c.loop-k.k _ c.requires.bounds c.loop-k-test.true

pub returns : goal.returns
returns c = nothing_found c.args.model.now c.args.look.now c.args.bounds.now c.loop-k.k c.requires.bounds (omega (arith, c.loop-k-test.false)) c.loop-k.invariant
