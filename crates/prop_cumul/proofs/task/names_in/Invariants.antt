use Rattle.std.proofs.Common.{◌≡◌, ◌||◌, drop}
use Rattle.std.specs.List.{flat_map}
use Rattle.sched_base.specs.declared.ids.Itv.{Itv}
use Rattle.sched_model.specs.Data.{has}
use Rattle.refute_cumul.specs.Listed.{shape_names, names_in}
use Rattle.prop_cumul.proofs.task.names_in.Given as goal

abbrev pub invariant-loop-part : goal.invariant-loop-part
invariant-loop-part l = (y : Itv) → (has l.names.items y || has (flat_map (λ i. shape_names i.shape) (drop l.part-index l.parts)) y) ≡ has (names_in l.parts l.fn.window) y
