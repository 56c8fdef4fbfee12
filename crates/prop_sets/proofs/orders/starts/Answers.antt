use Rattle.std.proofs.Common.{rules, ◌+◌, List, subst, sym}
use Rattle.prop_sets.specs.declared.orders.Keyed.{Keyed}
use Rattle.prop_sets.specs.code.Rows.{side_of}
use Rattle.prop_sets.specs.code.Orders.{AreStarts}
use Rattle.prop_sets.proofs.Ordering.{more_starts}
use Rattle.prop_sets.proofs.orders.starts.Goals as goal

pub loop-k-preserved : goal.loop-k-preserved
loop-k-preserved c = subst (λ (ks : List Keyed). AreStarts (side_of c.args.back) c.args.region.now.region c.args.members.now (c.loop-k.k + 1) ks) (sym c.in_ok-push.ensures.items)
    (more_starts (side_of c.args.back) c.args.region.now.region c.args.members.now c.loop-k.k c.loop-k.keyed.items c.entry.result (search rules) (search rules) c.loop-k.invariant)
