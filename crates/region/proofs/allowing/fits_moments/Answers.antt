use Rattle.std.proofs.Common.{not, rules}
use Rattle.sched_model.specs.Words.{is_between}
use Rattle.region.specs.Cells.{says_absent}
use Rattle.region.proofs.allowing.fits_moments.Goals as goal
use Rattle.base_laws.specs.laws.Truth.{third_decides}

pub returns : goal.returns
returns c = third_decides (not (says_absent c.args.c.presence)) (is_between c.args.c.smin c.args.c.smax c.args.s) (is_between c.args.c.emin c.args.c.emax c.args.e) c.is_between-2.result (search rules) (search rules) (search rules)
