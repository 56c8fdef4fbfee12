use Rattle.std.proofs.Common.{◌≡◌, ◌+◌, ℕ, map, sum}
use Rattle.sched_model.specs.Valid.{node_count}
use Rattle.cpo_elab.specs.code.Drafts.{capped}
use Rattle.cpo_elab.proofs.adding.Capped.{total_from}
use Rattle.cpo_elab.proofs.counts.+nodes.Given as goal

abbrev pub invariant-list_nodes-loop-part : goal.invariant-list_nodes-loop-part
invariant-list_nodes-loop-part l = (x : ℕ) × (l.total ≡ capped x) × (x + total_from node_count l.parts l.part-index ≡ 1 + sum (map node_count l.parts))
