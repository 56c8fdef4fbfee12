use Rattle.std.proofs.Common.{◌≡◌, ◌+◌, ℕ, drop, sum_by}
use Rattle.sched_model.specs.Valid.{node_count}
use Rattle.cpo_elab.specs.code.Drafts.{capped}
use Rattle.cpo_elab.proofs.counts.nodes_together.Given as goal

abbrev pub invariant-loop-e : goal.invariant-loop-e
invariant-loop-e l = (x : ℕ) × (l.total ≡ capped x) × (x + sum_by node_count (drop l.e-index l.es) ≡ sum_by node_count l.es)
