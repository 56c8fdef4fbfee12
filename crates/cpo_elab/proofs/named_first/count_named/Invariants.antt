use Rattle.std.proofs.Common.{◌≡◌, ◌≤◌, take}
use Rattle.std.specs.List.{count_by}
use Rattle.cpo_elab.proofs.named_first.count_named.Given as goal

abbrev pub invariant-loop-item : goal.invariant-loop-item
invariant-loop-item g l = record {
  count : l.count ≡ count_by g.T.MayHaveName.is_named (take l.item-index l.items);
  few : l.count ≤ l.item-index;
}
