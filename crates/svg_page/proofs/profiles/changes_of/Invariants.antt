use Rattle.std.proofs.Common.{◌≡◌, ◌++◌, drop}
use Rattle.std.specs.List.{flat_map}
use Rattle.sched_model.specs.Changes.{changes_in, shape_changes}
use Rattle.svg_page.proofs.profiles.changes_of.Given as goal

abbrev pub invariant-loop-part : goal.invariant-loop-part
invariant-loop-part l = l.changes.items ++ flat_map (λ i. shape_changes l.a i.minus i.shape) (drop l.part-index l.parts) ≡ changes_in l.a l.parts
