use Rattle.std.proofs.Common.{rules, sym, subst}
use Rattle.solver.specs.code.Searching.{AreMembers}
use Rattle.solver.proofs.cutting.OpenOrders.{members_of_region}
use Rattle.solver.proofs.order.cut_orders.Goals as goal

pub cut_members-requires : goal.cut_members-requires
cut_members-requires c = subst (AreMembers c.args.look.now.region (record { 0 = c.loop-p.p })) (sym c.as_slice.ensures)
    (members_of_region c.args.model.now c.args.look.now.region c.sequences-sequences.result.now c.loop-p.p c.index-sequences-p.result
    c.sequences-sequences.ensures.valid c.requires c.sequences-sequences.ensures.list (search rules))
