use Rattle.std.proofs.Common.{◌+◌, ap, ◌∙◌, refl, arith}
use Rattle.sched_model.specs.Valid.{node_count}
use Rattle.cpo_elab.specs.code.Drafts.{capped}
use Rattle.cpo_elab.proofs.adding.Capped.{one_capped, plus_more, compare_nodes, implies_nodes, sum_turn, sum_end}
use Rattle.cpo_elab.proofs.counts.+nodes.Goals as goal

pub list_nodes-loop-part-init : goal.list_nodes-loop-part-init
list_nodes-loop-part-init t c = (1, one_capped, refl)

pub list_nodes-loop-part-preserved : goal.list_nodes-loop-part-preserved
list_nodes-loop-part-preserved t c =
    let turn = sum_turn node_count c.args.parts.now c.loop-part.part-index c.part-item.result c.loop-part-test.true c.part-item.is in (
      c.loop-part.invariant.0 + node_count c.part-item.result,
      plus_more _ _ c.loop-part.invariant.0 (node_count c.part-item.result) _ c.loop-part.invariant.1 c.nodes.ensures c.plus-total.ensures,
      omega (arith, c.loop-part.invariant.2, turn),
    )

pub list_nodes-returns : goal.list_nodes-returns
list_nodes-returns t c =
    let end = sum_end node_count c.args.parts.now c.loop-part.part-index c.loop-part-test.false in
    c.loop-part.invariant.1 ∙ ap capped (omega (arith, c.loop-part.invariant.2, end))

pub nodes-returns-in-Compare : goal.nodes-returns-in-Compare
nodes-returns-in-Compare t c =
    compare_nodes c.args.e.now c.in-Compare.a c.in-Compare.b _ _ c.in-Compare.field-0 _ _ _ c.in-Compare.is c.get-in-Compare.ensures c.get-in-Compare-2.ensures c.nodes_over-a.ensures c.nodes-b.ensures c.plus.ensures

pub nodes-returns-in-Implies : goal.nodes-returns-in-Implies
nodes-returns-in-Implies t c =
    implies_nodes c.args.e.now c.in-Implies.a c.in-Implies.b _ _ _ _ _ c.in-Implies.is c.get-in-Implies.ensures c.get-in-Implies-2.ensures c.nodes_over-a-in-Implies.ensures c.nodes-b-in-Implies.ensures c.plus-in-Implies.ensures
