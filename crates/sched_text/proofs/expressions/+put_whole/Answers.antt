use Rattle.std.proofs.Common.{ap, codes, arith, refl, sym}
use Rattle.sched_text.specs.Pieces.{between, commas}
use Rattle.sched_text.specs.Shown.{shown}
use Rattle.sched_text.proofs.Printing.{both, «as», none_yet}
use Rattle.sched_text.proofs.Lists.{item_more, items_end}
use Rattle.sched_text.proofs.Terms.{composed_operand, plain_operand, term_more, terms_end, few_terms, many_terms, wholes_of, operands_of}
use Rattle.sched_text.proofs.expressions.+put_whole.Goals as goal

pub put_operand-returns-then-is_composed : goal.put_operand-returns-then-is_composed
put_operand-returns-then-is_composed g t c =
    «as» (both c.put_text.ensures (both c.put_whole.ensures c.put_text-then-is_composed.ensures))
    (composed_operand c.is_composed.result (shown c.args.model.now c.args.e.now) (c.is_composed.ensures c.args.model.now) c.if-is_composed.true)

pub put_operand-returns : goal.put_operand-returns
put_operand-returns g t c = «as» c.put_whole-2.ensures (plain_operand c.is_composed.result (shown c.args.model.now c.args.e.now) (c.is_composed.ensures c.args.model.now) c.if-is_composed.false)

pub put_operands-loop-x-init : goal.put_operands-loop-x-init
put_operands-loop-x-init g t c = none_yet (ap (λ ys. between c.args.sign.now ys) (sym (operands_of (shown c.args.model.now) c.args.xs.now)))

pub put_operands-loop-x-preserved : goal.put_operands-loop-x-preserved
put_operands-loop-x-preserved g t c =
    item_more (λ x. (shown c.args.model.now x).operand) c.args.sign.now c.args.xs.now c.loop-x.x-index c.x-item.result _ c.loop-x.is_first c.loop-x-test.true c.x-item.is c.loop-x.invariant (rw c.separator.ensures at c.put_text.ensures) c.put_operand.ensures

pub put_operands-returns : goal.put_operands-returns
put_operands-returns g t c = items_end (λ x. (shown c.args.model.now x).operand) c.args.sign.now c.args.xs.now c.loop-x.x-index c.loop-x.is_first c.loop-x-test.false c.loop-x.invariant

pub put_items-loop-x-init : goal.put_items-loop-x-init
put_items-loop-x-init g t c = none_yet (ap (λ ys. commas ys) (sym (wholes_of (shown c.args.model.now) c.args.xs.now)))

pub put_items-loop-x-preserved : goal.put_items-loop-x-preserved
put_items-loop-x-preserved g t c =
    item_more (λ x. (shown c.args.model.now x).whole) (codes ",") c.args.xs.now c.loop-x.x-index c.x-item.result _ c.loop-x.is_first c.loop-x-test.true c.x-item.is c.loop-x.invariant c.put_comma.ensures c.put_whole.ensures

pub put_items-returns : goal.put_items-returns
put_items-returns g t c = items_end (λ x. (shown c.args.model.now x).whole) (codes ",") c.args.xs.now c.loop-x.x-index c.loop-x.is_first c.loop-x-test.false c.loop-x.invariant

pub put_terms-loop-x-init : goal.put_terms-loop-x-init
put_terms-loop-x-init g t c = none_yet refl

pub put_terms-loop-x-preserved : goal.put_terms-loop-x-preserved
put_terms-loop-x-preserved g t c = term_more (shown c.args.model.now) c.args.xs.now c.loop-x.x-index c.x-item.result _ c.loop-x.is_first c.loop-x-test.true c.x-item.is c.loop-x.invariant c.put_term.ensures

pub put_terms-returns : goal.put_terms-returns
put_terms-returns g t c = terms_end (shown c.args.model.now) c.args.xs.now c.loop-x.x-index c.loop-x.is_first c.loop-x-test.false c.loop-x.invariant

pub put_sum-returns-then-xs-lt2 : goal.put_sum-returns-then-xs-lt2
put_sum-returns-then-xs-lt2 g t c = «as» c.put_gathered.ensures (few_terms (shown c.args.model.now) c.args.xs.now (omega arith))

pub put_sum-returns : goal.put_sum-returns
put_sum-returns g t c = «as» c.put_terms.ensures (many_terms (shown c.args.model.now) c.args.xs.now (omega arith))
