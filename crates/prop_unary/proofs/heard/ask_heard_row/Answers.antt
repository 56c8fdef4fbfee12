use Rattle.std.proofs.Common.{length}
use Rattle.region.specs.declared.types.OrderCell.TheVariants.{Forward, Unknown}
use Rattle.prop_unary.specs.code.Silence.{AreSilentWhere}
use Rattle.prop_unary.proofs.Hearing.{all_outside, less_outside, less_within}
use Rattle.prop_unary.proofs.heard.ask_heard_row.Goals as goal

pub loop-left-init : goal.loop-left-init
loop-left-init c = record {
  within = c.requires.heard.within;
  told = c.requires.heard.told c.args.view.now.best;
  free = λ closed. (closed, c.requires.heard.free c.args.view.now.best);
}

pub loop-left-preserved : goal.loop-left-preserved
loop-left-preserved c =
    let m = c.args.view.now.model.now in
    let r = c.args.view.now.region.now.region in
    let d = c.args.d.now in
    let a = c.args.first.member in
    let ms = c.args.members.now in
    record {
      within = less_within (length ms) c.loop-left.left c.without_bit-left.result c.first_bit-k.result c.without_bit-left.ensures.rest c.loop-left.invariant.within;
      told = less_outside (AreSilentWhere m r c.args.view.now.best d Forward a) ms (length ms) c.loop-left.left c.without_bit-left.result c.first_bit-k.result c.without_bit-left.ensures.rest c.in_default.ensures.none c.loop-left.invariant.told;
      free = λ closed. let two = c.in_default.ensures.free closed in let before = c.loop-left.invariant.free two.0 in
          (before.0, less_outside (AreSilentWhere m r c.args.view.now.best d Unknown a) ms (length ms) c.loop-left.left c.without_bit-left.result c.first_bit-k.result c.without_bit-left.ensures.rest two.1 before.1);
    }

pub returns-clause-none : goal.returns-clause-none
returns-clause-none c = all_outside (AreSilentWhere c.args.view.now.model.now c.args.view.now.region.now.region c.args.view.now.best c.args.d.now Forward c.args.first.member) c.args.members.now c.loop-left.left c.loop-left-test.false c.loop-left.invariant.told

pub returns-clause-free : goal.returns-clause-free
returns-clause-free c = λ closed. let before = c.loop-left.invariant.free closed in (before.0, all_outside (AreSilentWhere c.args.view.now.model.now c.args.view.now.region.now.region c.args.view.now.best c.args.d.now Unknown c.args.first.member) c.args.members.now c.loop-left.left c.loop-left-test.false before.1)
