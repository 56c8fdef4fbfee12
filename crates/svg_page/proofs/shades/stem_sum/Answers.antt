use Rattle.std.proofs.Common.{refl, ap, ◌+◌, arith}
use Rattle.svg_page.proofs.Shading.{stem_more, stem_end}
use Rattle.svg_page.proofs.shades.stem_sum.Goals as goal

pub loop-b-preserved : goal.loop-b-preserved
loop-b-preserved c = record {
  same = stem_more c.args.name.now c.loop-b.b-index _ _ _ _ _ _ _ c.loop-b-test.true refl c.found_at-found.ensures (ap (λ k. c.loop-b.total + k) c.from-total.ensures) c.loop-b.invariant.same;
  few = omega arith;
}

pub returns : goal.returns
returns c = stem_end c.args.name.now c.loop-b.b-index _ _ _ c.loop-b-test.false c.loop-b.invariant.same
