use Rattle.std.proofs.Common.{◌≡◌, ◌++◌, not, length}
use Rattle.std.specs.List.{filter}
use Rattle.std.specs.Vec.Iter.{into_iter_items, into_iter_len}
use Rattle.cpo_elab.specs.NamedFirst.{parted}
use Rattle.cpo_elab.proofs.named_first.parted.Given as goal

abbrev pub invariant-loop-item : goal.invariant-loop-item
invariant-loop-item g l = record {
  count : into_iter_len l.item-iterator ≡ length (into_iter_items l.item-iterator);
  named : l.named ++ filter g.T.MayHaveName.is_named (into_iter_items l.item-iterator) ≡ filter g.T.MayHaveName.is_named l.fn.items;
  others : l.others ++ filter (λ x. not (g.T.MayHaveName.is_named x)) (into_iter_items l.item-iterator) ≡ filter (λ x. not (g.T.MayHaveName.is_named x)) l.fn.items;
}

abbrev pub invariant-loop-item-2 : goal.invariant-loop-item-2
invariant-loop-item-2 g l = record {
  count : into_iter_len l.item-iterator ≡ length (into_iter_items l.item-iterator);
  all : l.named ++ into_iter_items l.item-iterator ≡ parted g.T.MayHaveName.is_named l.fn.items;
}
