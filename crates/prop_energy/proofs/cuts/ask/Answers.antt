use Rattle.std.proofs.Common.{rules}
use Rattle.prop_energy.proofs.Remembering.{quiet_as, still_of}
use Rattle.prop_energy.proofs.cuts.ask.Goals as goal

pub returns-then-is_known : goal.returns-then-is_known
returns-then-is_known c = quiet_as c.args.rows.now _ c.args.capacity (c.is_known.ensures c.if-is_known.true) (search rules)

pub remember-requires : goal.remember-requires
remember-requires c = still_of c.args.rows.now _ _ c.in_ok-cut.cut c.in_ok-cut.ensures (search rules) (search rules)
