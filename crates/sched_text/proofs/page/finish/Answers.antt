use Rattle.sched_text.proofs.Printing.{printed, half_printed}
use Rattle.sched_text.proofs.page.finish.Goals as goal

pub returns-then-page : goal.returns-then-page
returns-then-page g c = λ start whole is. half_printed _ c.if-page.true is

pub returns : goal.returns
returns g c = λ start whole is. printed _ c.if-page.false is c.flush.ensures.gathers c.flush.ensures.none
