use Rattle.std.proofs.Common.{◌≡◌, ◌++◌, map, length, slice_index}
use Rattle.std.specs.Vec.Iter.{into_iter_items, into_iter_len}
use Rattle.cpo_elab.specs.NamedFirst.{renumbered}
use Rattle.cpo_elab.proofs.named_first.all_renumbered.Given as goal

abbrev pub invariant-loop-c : goal.invariant-loop-c
invariant-loop-c l = record {
  count : into_iter_len l.c-iterator ≡ length (into_iter_items l.c-iterator);
  all : l.changed ++ map (renumbered (slice_index l.sequences) (slice_index l.cumuls)) (into_iter_items l.c-iterator) ≡ map (renumbered (slice_index l.sequences) (slice_index l.cumuls)) l.fn.constraints;
}
