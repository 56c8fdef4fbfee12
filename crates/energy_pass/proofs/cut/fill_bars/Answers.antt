use Rattle.std.proofs.Common.{rules}
use Rattle.energy_pass.proofs.Bars.{one_made, all_made}
use Rattle.energy_pass.proofs.cut.fill_bars.Goals as goal

pub loop-row-preserved : goal.loop-row-preserved
loop-row-preserved c = one_made c.args.rows.now c.loop-row.bars.items c.push.new.self.items c.loop-row.row-index (search rules) c.loop-row.invariant c.loop-row-test.true

pub returns : goal.returns
returns c = all_made c.args.rows.now c.loop-row.bars.items c.loop-row.row-index c.loop-row.invariant (search rules)
