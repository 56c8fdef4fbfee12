use Rattle.std.proofs.Common.{None}
use Rattle.reasons.proofs.Told.{print_told, not_told, within_printed}
use Rattle.reasons.proofs.explaining.explain_alone.Goals as goal

pub returns-in-Ok-clause-tries : goal.returns-in-Ok-clause-tries
returns-in-Ok-clause-tries g c =
    print_told c.args.name.now None (g.D.Desk.state c.args.desk.now) (g.D.Desk.state c.explained_alone.new.desk) c.in-Ok.ensures.only c.in-Ok.told c.print.result (g.D.Desk.state c.print.new.desk) c.in-Ok.ensures.tried c.print.ensures

pub returns-in-Ok-clause-within : goal.returns-in-Ok-clause-within
returns-in-Ok-clause-within g c =
    within_printed c.args.name.now None c.in-Ok.told c.print.result (g.D.Desk.state c.args.desk.now) (g.D.Desk.state c.explained_alone.new.desk) (g.D.Desk.state c.print.new.desk) c.in-Ok.ensures.within c.print.ensures

pub returns-in-Err-clause-tries : goal.returns-in-Err-clause-tries
returns-in-Err-clause-tries g c = not_told c.args.name.now None (g.D.Desk.state c.args.desk.now) (g.D.Desk.state c.explained_alone.new.desk) c.in-Err.ensures.only c.in-Err.stop c.in-Err.ensures.tried

pub returns-in-Err-clause-within : goal.returns-in-Err-clause-within
returns-in-Err-clause-within g c = c.in-Err.ensures.within
