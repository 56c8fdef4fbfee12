use Rattle.std.proofs.Common.{subst}
use Rattle.sched_model.specs.Valid.{IsValid}
use Rattle.calendar.specs.Rules.{rules_of, with_constraints}
use Rattle.cpo_elab.specs.Stages.{demand_of}
use Rattle.cpo_elab.proofs.draft.add_calendar.Goals as goal

pub forbid_start-requires-clause-valid : goal.forbid_start-requires-clause-valid
forbid_start-requires-clause-valid c = subst (λ w. IsValid (with_constraints (rules_of (demand_of w) c.args.a c.args.f.now.pairs) c.args.model.now)) c.in-Start.is c.requires.valid

pub forbid_extent-requires-clause-valid : goal.forbid_extent-requires-clause-valid
forbid_extent-requires-clause-valid c = subst (λ w. IsValid (with_constraints (rules_of (demand_of w) c.args.a c.args.f.now.pairs) c.args.model.now)) c.in-Extent.is c.requires.valid
