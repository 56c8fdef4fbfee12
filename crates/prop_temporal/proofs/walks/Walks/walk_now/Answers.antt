use Rattle.std.proofs.Common.{◌≡◌, true, None, length, refl, subst, ap, arith, rules}
use Rattle.region.specs.Looks.{Seen, seen_at}
use Rattle.refute_basic.specs.laws.Walks.{AllLose}
use Rattle.prop_temporal.specs.code.Heights.{Kept, height_in}
use Rattle.prop_temporal.specs.laws.Collecting.{lose_refute_none}
use Rattle.prop_temporal.specs.laws.Ready.{made_ready}
use Rattle.prop_temporal.proofs.walks.Walks.walk_now.Goals as goal

pub returns-then-self-clause-none : goal.returns-then-self-clause-none
returns-then-self-clause-none c =
    let yes : c.in_ok-self-inside.field-0 ≡ true = search rules in
    lose_refute_none c.args.model.now (seen_at c.args.region.now.region c.args.best None) (height_in c.settle.new.heights.items)
    (subst (λ (l : Seen). AllLose c.args.model.now l.region (height_in c.settle.new.heights.items)) c.look-look.ensures.value (c.in_ok-self-inside.ensures.fall yes))

pub returns-clause-ready : goal.returns-clause-ready
returns-clause-ready c =
    let r = c.args.region.now.region in
    let size : length c.self-2.inside.heights.items ≡ length c.search_all.new.self.heights = ap (λ (w : Kept). length w.heights) c.self-2.view_is in
    let bounds : length c.look-look.result.region.bounds ≡ length r.bounds = ap (λ (l : Seen). length l.region.bounds) c.look-look.ensures.value in
    made_ready c.args.model.now r c.look-look.result (seen_at r c.args.best None) c.self-2.inside.heights.items c.deref.result.now c.all_fall-self-inside.result
    (omega (arith, c.in_ok-walk.ensures.size, size, bounds, c.in_ok-self-inside.ensures.size)) c.deref.ensures.value c.look-look.ensures.value refl c.all_fall-self-inside.ensures
