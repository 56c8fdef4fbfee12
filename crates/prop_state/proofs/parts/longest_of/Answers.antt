use Rattle.std.proofs.Common.{refl, arith, to_z-of_z, rules}
use Rattle.std.proofs.lemmas.Int.{ints}
use Rattle.prop_state.specs.code.Silence.{IsCovered}
use Rattle.prop_state.proofs.Asked.{each_more, each_all, covered_more, covered_here}
use Rattle.prop_state.proofs.parts.longest_of.Goals as goal

pub loop-c-preserved : goal.loop-c-preserved
loop-c-preserved c =
    each_more (IsCovered c.args.model.now c.args.region.now.region _) c.args.cs.now c.loop-c.c-index _ 0 (search rules) refl
    (covered_more c.args.model.now c.args.region.now.region _ _ _ (grind (arith, ints, to_z-of_z)) c.loop-c.invariant)
    (covered_here c.args.model.now c.args.region.now.region _ _ _ (grind (arith, ints, to_z-of_z)) c.part_at.ensures)

pub returns : goal.returns
returns c = each_all (IsCovered c.args.model.now c.args.region.now.region _) c.args.cs.now c.loop-c.c-index c.loop-c-test.false c.loop-c.invariant
