use Rattle.std.proofs.Common.{arith, ◌+◌, ◌<◌, length, length-drop, get_or}
use Rattle.std.proofs.lemmas.List.{get_or_default, take_all}
use Rattle.solver.proofs.cutting.OpenOrders.{later_of}
use Rattle.solver.proofs.order.cut_members.Goals as goal

pub cut_with-requires : goal.cut_with-requires
cut_with-requires c =
    let within : c.loop-i.i < length c.args.members.now = omega arith in
    later_of c.args.look.now.region c.args.p c.args.members.now c.loop-i.i (get_or c.args.members.now c.loop-i.i (record { 0 = 0 })) _ c.requires within
    (get_or_default c.args.members.now c.loop-i.i _ _ within) (take_all _ _ (omega (arith, length-drop (c.loop-i.i + 1) c.args.members.now)))
