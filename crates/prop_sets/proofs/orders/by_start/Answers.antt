use Rattle.std.proofs.Common.{List, ℕ, ◌<◌, subst, length, sym}
use Rattle.prop_sets.specs.declared.orders.Keyed.{Keyed}
use Rattle.prop_sets.specs.code.Rows.{side_of}
use Rattle.prop_sets.specs.code.Orders.{AreNamed, keyed_at}
use Rattle.prop_sets.proofs.Ordering.{starts_low, in_start_order, by_start, numbers_along}
use Rattle.prop_sets.proofs.orders.by_start.Goals as goal

pub named-requires : goal.named-requires
named-requires c = subst (λ (ks : List Keyed). (k : ℕ) → k < length ks → (keyed_at ks k).place < length c.args.members.now) (sym c.deref.ensures.value)
    (starts_low (side_of c.args.back) c.args.region.now.region c.args.members.now c.starts.new.keyed.items c.sort_all.new.keyed.items c.in_ok-starts.ensures c.sort_all.ensures.moved)

pub returns-clause-moved : goal.returns-clause-moved
returns-clause-moved c =
    in_start_order (side_of c.args.back) c.args.region.now.region c.args.members.now c.starts.new.keyed.items c.sort_all.new.keyed.items c.named.new.list.items c.in_ok-starts.ensures c.sort_all.ensures.moved
    (subst (λ (ks : List Keyed). AreNamed c.args.members.now ks (length ks) c.named.new.list.items) c.deref.ensures.value c.in_ok-named.ensures)

pub returns-clause-sorted : goal.returns-clause-sorted
returns-clause-sorted c =
    by_start (side_of c.args.back) c.args.region.now.region c.args.members.now c.starts.new.keyed.items c.sort_all.new.keyed.items c.named.new.list.items c.in_ok-starts.ensures c.sort_all.ensures.moved c.sort_all.ensures.rises
    (subst (λ (ks : List Keyed). AreNamed c.args.members.now ks (length ks) c.named.new.list.items) c.deref.ensures.value c.in_ok-named.ensures)

pub returns-clause-numbers : goal.returns-clause-numbers
returns-clause-numbers c =
    numbers_along c.args.region.now.region c.args.members.now c.args.numbers.now c.sort_all.new.keyed.items c.named.new.list.items
    (starts_low (side_of c.args.back) c.args.region.now.region c.args.members.now c.starts.new.keyed.items c.sort_all.new.keyed.items c.in_ok-starts.ensures c.sort_all.ensures.moved)
    c.requires.are
    (subst (λ (ks : List Keyed). AreNamed c.args.members.now ks (length ks) c.named.new.list.items) c.deref.ensures.value c.in_ok-named.ensures)
