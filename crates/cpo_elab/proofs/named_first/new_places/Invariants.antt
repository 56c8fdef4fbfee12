use Rattle.std.proofs.Common.{◌≡◌, ◌+◌, ◌<◌, ℕ, not, take, length, get_or}
use Rattle.std.specs.List.{count_by}
use Rattle.cpo_elab.specs.NamedFirst.{new_place}
use Rattle.cpo_elab.proofs.named_first.new_places.Given as goal

abbrev pub invariant-loop-item : goal.invariant-loop-item
invariant-loop-item g l = record {
  named : l.named ≡ count_by g.T.MayHaveName.is_named (take l.item-index l.items);
  others : l.others ≡ count_by g.T.MayHaveName.is_named l.items + count_by (λ x. not (g.T.MayHaveName.is_named x)) (take l.item-index l.items);
  long : length l.places ≡ l.item-index;
  same : (i : ℕ) → i < l.item-index → get_or l.places i 0 ≡ new_place g.T.MayHaveName.is_named l.items i;
}
