use Rattle.std.proofs.Common.{sym, ◌∙◌}
use Rattle.refute_seq.proofs.Rowing.{place_here, place_step}
use Rattle.refute_seq.proofs.order.place_in.Goals as goal

pub returns-then-precedes-clause-place : goal.returns-then-precedes-clause-place
returns-then-precedes-clause-place c = place_here c.args.look.now.region c.args.p c.args.x _ c.args.row.now c.loop-n.n _ c.loop-n.invariant c.loop-n-test.true (sym c.if-precedes.true ∙ c.precedes.ensures)

pub loop-n-preserved : goal.loop-n-preserved
loop-n-preserved c = place_step c.args.look.now.region c.args.p c.args.x _ c.args.row.now c.loop-n.n _ c.loop-n.invariant c.loop-n-test.true (sym c.if-precedes.false ∙ c.precedes.ensures)
