use Rattle.given_files.proofs.Tested.{tested}
use Rattle.given_files.proofs.testing.test_file.Goals as goal

pub returns-in-Ok-clause-tests : goal.returns-in-Ok-clause-tests
returns-in-Ok-clause-tests g c = tested c.args.model.now c.args.schedule.now c.in-Ok.bytes c.read_solution.result (g.D.Desk.state c.args.desk.now) (g.D.Desk.state c.fetch.new.desk) c.in-Ok.ensures.fetches (rw c.as_slice.ensures at c.read_solution.ensures)
