use Rattle.std.proofs.Common.{arith, take, drop, length, ◌/◌, ◌-◌, refl}
use Rattle.std.proofs.lemmas.List.{take_rest}
use Rattle.hull_tree.proofs.Placing.{joined_halves, are_halves}
use Rattle.hull_tree.proofs.put.+join.Goals as goal

pub returns-clause-joined : goal.returns-clause-joined
returns-clause-joined t c =
    let list = c.args.list.now in
    let right = take_rest list (length list / 2) in
    let sizes = are_halves list (take (length list - length list / 2) (drop (length list / 2) list)) (omega arith) (omega arith) right in
    joined_halves c.args.op c.join.new.nodes.items c.join-2.new.nodes.items c.put_pair.new.nodes.items
    (take (length list / 2) list) (take (length list - length list / 2) (drop (length list / 2) list)) list (length list / 2)
    c.in_ok-a.a c.in_ok-b.b c.in_ok-i.i c.requires.joins refl right sizes.some sizes.others sizes.few sizes.less
    c.in_ok-a.ensures.joined c.in_ok-b.ensures.grown c.in_ok-b.ensures.joined c.in_ok-i.ensures.grown c.in_ok-i.ensures.at
