use Rattle.region.specs.declared.types.OrderCell.TheVariants.{Forward, Unknown}
use Rattle.prop_unary.specs.code.Silence.{AreSilentWhere}
use Rattle.prop_unary.proofs.Walks.{between_on, each_between}
use Rattle.prop_unary.proofs.Asked.{silent_told, open_told}
use Rattle.prop_unary.proofs.pairs.ask_told_row.Goals as goal

pub loop-k-init : goal.loop-k-init
loop-k-init c = record {
  within = c.next_told-k.ensures.within;
  at = c.next_told-k.ensures.at;
  told = c.next_told-k.ensures.told c.args.best;
  free = c.next_told-k.ensures.free c.args.best;
}

pub loop-k-preserved : goal.loop-k-preserved
loop-k-preserved c =
    let m = c.args.model.now in
    let r = c.args.region.now.region in
    let d = c.args.d.now in
    let a = c.args.first.member in
    let ms = c.args.members.now in
    record {
      within = c.next_told-k-in-loop-k.ensures.within;
      at = c.next_told-k-in-loop-k.ensures.at;
      told = between_on (AreSilentWhere m r c.args.best d Forward a) ms c.loop-k.k c.next_told-k-in-loop-k.result c.loop-k.invariant.told (silent_told m r c.args.best d a _ c.in_default.ensures.none) (c.next_told-k-in-loop-k.ensures.told c.args.best);
      free = λ closed. let two = c.next_told-k-in-loop-k.ensures.free c.args.best closed in let before = c.loop-k.invariant.free two.0 in
          (before.0, between_on (AreSilentWhere m r c.args.best d Unknown a) ms c.loop-k.k c.next_told-k-in-loop-k.result before.1 (open_told m r c.args.best d a _ (c.loop-k.invariant.at c.loop-k-test.true)) two.1);
    }

pub returns-clause-none : goal.returns-clause-none
returns-clause-none c = each_between (AreSilentWhere c.args.model.now c.args.region.now.region c.args.best c.args.d.now Forward c.args.first.member) c.args.members.now c.loop-k.k c.loop-k-test.false c.loop-k.invariant.told

pub returns-clause-free : goal.returns-clause-free
returns-clause-free c = λ closed. let before = c.loop-k.invariant.free closed in (before.0, each_between (AreSilentWhere c.args.model.now c.args.region.now.region c.args.best c.args.d.now Unknown c.args.first.member) c.args.members.now c.loop-k.k c.loop-k-test.false before.1)
