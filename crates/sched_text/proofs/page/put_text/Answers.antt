use Rattle.std.proofs.Common.{refl}
use Rattle.sched_text.proofs.Printing.{cut_off, gathered, passes_over}
use Rattle.sched_text.proofs.page.put_text.Goals as goal

pub returns-then-page : goal.returns-then-page
returns-then-page g c = passes_over c.if-page.true c.if-page.true

pub returns-in-Ok : goal.returns-in-Ok
returns-in-Ok g c = gathered c.if-page.false c.if-page.false c.in-Ok.ensures

pub returns-in-Err : goal.returns-in-Err
returns-in-Err g c = cut_off c.if-page.false refl c.in-Err.ensures
