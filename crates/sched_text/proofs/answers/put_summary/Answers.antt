use Rattle.std.proofs.Common.{ap}
use Rattle.textline.specs.Lines.{line}
use Rattle.sched_text.specs.Answers.{verdict_words}
use Rattle.sched_text.proofs.Printing.{«as», three}
use Rattle.sched_text.proofs.answers.put_summary.Goals as goal

pub returns : goal.returns
returns g c = three («as» c.put_verdict.ensures (ap (λ v. line (verdict_words c.args.model.now v)) c.verdict_of.ensures)) c.put_nodes.ensures c.put_end.ensures
