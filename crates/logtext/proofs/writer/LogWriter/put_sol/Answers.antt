use Rattle.logtext.specs.Spelling.{assignment_words}
use Rattle.logtext.proofs.Spaced.{ends_line, no_letter, no_words}
use Rattle.logtext.proofs.writer.LogWriter.put_sol.Goals as goal

pub returns-in_err-put : goal.returns-in_err-put
returns-in_err-put g c = no_letter (assignment_words c.args.a.now) c.from_residual.ensures.0 c.in_err-put.ensures

pub returns-in_err-put_assignment : goal.returns-in_err-put_assignment
returns-in_err-put_assignment g c = no_words (assignment_words c.args.a.now) c.from_residual-in_err-put_assignment.ensures.0 c.in_ok-put.ensures c.in_err-put_assignment.ensures

pub returns : goal.returns
returns g c = ends_line (assignment_words c.args.a.now) c.in_ok-put.ensures c.in_ok-put_assignment.ensures c.put-2.ensures
