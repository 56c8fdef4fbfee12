use Rattle.std.proofs.Common.{[]}
use Rattle.sched_text.proofs.Printing.{begins}
use Rattle.sched_text.proofs.answers.write_accepted.Goals as goal

pub returns : goal.returns
returns g c = c.finish.ensures _ _ (c.put_accepted.ensures.leaves _ _ [] (begins _ c.new_page-page.ensures.waiting c.new_page-page.ensures.failed))
