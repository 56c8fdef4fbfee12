use Rattle.std.proofs.Common.{refl, sym, arith, ◌∙◌}
use Rattle.cpo_text.specs.code.Places.{left}
use Rattle.cpo_text.proofs.pieces.Gaps.{gap_part, gap_step, gap_end}
use Rattle.cpo_text.proofs.place.Place.offset.Goals as goal

pub loop-at-init : goal.loop-at-init
unfolding left
loop-at-init c = record { same = refl; from = omega arith; to = omega arith }

pub overflow_add-at : goal.overflow_add-at
overflow_add-at c = let part = gap_part _ _ c.in-Some.ensures in omega arith

pub loop-at-smaller : goal.loop-at-smaller
loop-at-smaller c = let part = gap_part _ _ c.in-Some.ensures in omega arith

pub loop-at-preserved : goal.loop-at-preserved
unfolding left
loop-at-preserved c =
    let part = gap_part _ _ c.in-Some.ensures in
    record {
      same = sym (gap_step c.loop-at.at c.args.self.text.now _ _ c.split_at.ensures.back c.in-Some.ensures) ∙ c.loop-at.invariant.same;
      from = omega arith;
      to = omega arith;
    }

pub returns-clause-gap : goal.returns-clause-gap
returns-clause-gap c = gap_end c.loop-at.at c.args.self.text.now (omega (arith, c.loop-at-test.false))
