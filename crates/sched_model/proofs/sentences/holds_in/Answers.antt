use Rattle.sched_model.proofs.rows.Behind.{apart_in_domain}
use Rattle.sched_model.proofs.rows.Neighbours.{runs_forward}
use Rattle.sched_model.proofs.sentences.holds_in.Goals as goal

pub has_no_overlap-requires : goal.has_no_overlap-requires
has_no_overlap-requires c = runs_forward c.args.model.now c.args.a.now c.requires.model c.requires.domain

pub has_state-requires : goal.has_state-requires
has_state-requires c = apart_in_domain c.args.model.now c.args.a.now _ c.requires.model c.requires.domain

pub has_no_state-requires : goal.has_no_state-requires
has_no_state-requires c = apart_in_domain c.args.model.now c.args.a.now _ c.requires.model c.requires.domain
