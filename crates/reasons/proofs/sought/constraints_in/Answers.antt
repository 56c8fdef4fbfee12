use Rattle.reasons.proofs.sought.constraints_in.Goals as goal

pub returns-in-Ok : goal.returns-in-Ok
returns-in-Ok c = (c.in-Ok.model, c.in-Ok.ensures, c.count_in-n.ensures)
