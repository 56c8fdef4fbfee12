use Rattle.std.proofs.Common.{◌+◌, ap, ◌∙◌, arith}
use Rattle.sched_model.specs.Valid.{node_count}
use Rattle.cpo_elab.specs.code.Drafts.{capped}
use Rattle.cpo_elab.proofs.adding.Capped.{plus_more, by_none, by_turn, by_end}
use Rattle.cpo_elab.proofs.counts.nodes_together.Goals as goal

pub loop-e-init : goal.loop-e-init
loop-e-init c = (0, c.none-total.ensures, by_none node_count c.args.es.now)

pub loop-e-preserved : goal.loop-e-preserved
loop-e-preserved c =
    let turn = by_turn node_count c.args.es.now c.loop-e.e-index c.e-item.result c.loop-e-test.true c.e-item.is in (
      c.loop-e.invariant.0 + node_count c.e-item.result,
      plus_more _ _ c.loop-e.invariant.0 (node_count c.e-item.result) _ c.loop-e.invariant.1 c.nodes.ensures c.plus-total.ensures,
      omega (arith, c.loop-e.invariant.2, turn),
    )

pub returns : goal.returns
returns c =
    let end = by_end node_count c.args.es.now c.loop-e.e-index c.loop-e-test.false in
    c.loop-e.invariant.1 ∙ ap capped (omega (arith, c.loop-e.invariant.2, end))
