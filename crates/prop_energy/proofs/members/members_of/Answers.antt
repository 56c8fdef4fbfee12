use Rattle.std.proofs.Common.{arith, length}
use Rattle.prop_energy.specs.code.Rows.{is_in_at}
use Rattle.prop_energy.proofs.Keeping.{all_kept}
use Rattle.prop_energy.proofs.members.members_of.Goals as goal

pub returns : goal.returns
returns c = all_kept (is_in_at c.args.look.now.region c.args.parts.now c.args.cut.start c.args.cut.end) (length c.args.parts.now) c.loop-k.k c.loop-k.set.items _ (omega (arith, c.loop-k-test.false)) c.loop-k.invariant
