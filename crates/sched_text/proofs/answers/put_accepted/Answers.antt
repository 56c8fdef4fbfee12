use Rattle.sched_text.proofs.Accepted.{accepted_line}
use Rattle.sched_text.proofs.Printing.{«as», both, three}
use Rattle.sched_text.proofs.answers.put_accepted.Goals as goal

pub returns : goal.returns
returns g c = three («as» (both c.put_text.ensures c.put_verdict.ensures) (accepted_line c.args.model.now c.args.verdict)) c.put_nodes.ensures c.put_end.ensures
