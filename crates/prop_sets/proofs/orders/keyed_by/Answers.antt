use Rattle.std.proofs.Common.{rules, ◌+◌, List, subst, sym}
use Rattle.prop_sets.specs.declared.orders.Keyed.{Keyed}
use Rattle.prop_sets.specs.code.Orders.{AreKeyed, on_by, key_by}
use Rattle.prop_sets.proofs.Ordering.{one_keyed}
use Rattle.prop_sets.proofs.orders.keyed_by.Goals as goal

pub loop-k-preserved : goal.loop-k-preserved
loop-k-preserved c = subst (λ (ks : List Keyed). AreKeyed (on_by c.args.by c.args.rows.now) (key_by c.args.by c.args.rows.now) (c.loop-k.k + 1) ks) (sym c.in_ok-push.ensures.items)
    (one_keyed (on_by c.args.by c.args.rows.now) (key_by c.args.by c.args.rows.now) c.loop-k.k c.loop-k.keyed.items c.entry.result (search rules) (search rules) (search rules) c.loop-k.invariant)
