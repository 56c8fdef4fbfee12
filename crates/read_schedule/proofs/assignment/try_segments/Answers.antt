use Rattle.read_schedule.proofs.given.Assignments.{segments_tested}
use Rattle.read_schedule.proofs.assignment.try_segments.Goals as goal

pub returns : goal.returns
returns c = segments_tested c.args.model.now c.args.a c.args.i c.args.segments c.exchange-segs.result.0 c.exchange-segs-2.result.0 c.exchange-segs.result.1 c.exchange-segs-2.result.1 c.in_domain-fits.result c.requires.domain c.requires.within c.exchange-segs.ensures c.exchange-segs-2.ensures c.in_domain-fits.ensures
