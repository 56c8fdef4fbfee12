use Rattle.solver.proofs.cutting.Sifting.{leaves_by}
use Rattle.solver.proofs.open_intervals.OpenIntervals.leave.Goals as goal

pub returns : goal.returns
returns c = leaves_by c.args.self.now c.self.inside.list.items c.self.inside.count c.args.i c.swap.new.self.items c.self.view_is c.swap.ensures.items c.requires.place c.requires.within
