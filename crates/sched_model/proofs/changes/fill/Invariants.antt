use Rattle.std.proofs.Common.{◌≡◌, ◌++◌, drop}
use Rattle.sched_model.specs.Changes.{changes_in, changes_inside}
use Rattle.sched_model.proofs.changes.fill.Given as goal

abbrev pub invariant-loop-part : goal.invariant-loop-part
invariant-loop-part l = l.changes.items ++ changes_inside l.span (changes_in l.a (drop l.part-index l.parts)) ≡ changes_inside l.span (changes_in l.a l.parts)
