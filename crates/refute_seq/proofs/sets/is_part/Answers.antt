use Rattle.std.proofs.Common.{◌≡◌, true, rules, arith, get_or}
use Rattle.std.specs.Prelude.{nat_eq, slice_get}
use Rattle.sched_model.specs.Words.{passes}
use Rattle.refute_seq.proofs.Walking.{take_step, at_within, part_ends}
use Rattle.refute_seq.proofs.sets.is_part.Goals as goal

pub loop-n-preserved : goal.loop-n-preserved
loop-n-preserved c =
    let here : true ≡ passes (λ p. nat_eq p (get_or c.args.set.now c.loop-n.n-index 0)) (slice_get c.args.part.now c.loop-n.found) = search rules in
    let within = at_within c.args.part.now (get_or c.args.set.now c.loop-n.n-index 0) c.loop-n.found here in
    record {
      rest = take_step c.args.set.now c.args.part.now _ c.loop-n.n-index c.loop-n.found c.loop-n.invariant.rest c.loop-n-test.true here;
      within = omega (arith, within);
    }

pub returns : goal.returns
returns c = part_ends c.args.set.now c.args.part.now _ c.loop-n.found c.requires.whole c.requires.part c.loop-n.invariant.rest (omega arith) c.loop-n.invariant.within
