use Rattle.std.proofs.Common.{Some, refl, ap, ◌∙◌, arith}
use Rattle.prop_state.proofs.Remembering.{fresh_known, fresh_more}
use Rattle.prop_state.proofs.known.note_fresh.Goals as goal

pub loop-i-preserved-then-is_remembered : goal.loop-i-preserved-then-is_remembered
loop-i-preserved-then-is_remembered c =
    let below = c.loop-i-test.true in
    let room = c.requires.room in
    fresh_known c.args.model.now c.args.region.now.region c.args.k c.args.cs.now c.args.notes.now c.args.known.now c.loop-i.i c.loop-i.fresh.items c.loop-i.others.items _ (omega (arith, below, room))
    (c.is_remembered.ensures c.if-is_remembered.true ∙ ap Some c.bounds_in.ensures) c.loop-i.invariant

pub loop-i-preserved : goal.loop-i-preserved
loop-i-preserved c =
    let below = c.loop-i-test.true in
    let room = c.requires.room in
    rw (c.in_ok-push.ensures.items, c.in_ok-push-2.ensures.items)
    (fresh_more c.args.model.now c.args.region.now.region c.args.k c.args.cs.now c.args.notes.now c.args.known.now c.loop-i.i c.loop-i.fresh.items c.loop-i.others.items _ 0 _ _ below (omega (arith, below, room)) refl refl c.requires.noted c.loop-i.invariant)
