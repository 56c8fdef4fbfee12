use Rattle.std.proofs.Common.{sym, ap, subst, ◌∙◌}
use Rattle.sched_model.specs.Data.{with_objective}
use Rattle.sched_model.specs.Valid.{IsValid}
use Rattle.cpo_elab.proofs.judging.Written.{several_aim}
use Rattle.cpo_elab.proofs.build.with_criteria.Goals as goal

pub with_objective-requires-clause-valid : goal.with_objective-requires-clause-valid
with_objective-requires-clause-valid c =
    subst IsValid
    (several_aim c.args.draft c.args.s.now c.in-Rank.sense _ c.args.criteria c.args.rank c.in-Some.expr c.in-Rank.is c.requires.held c.in-Some.is
    ∙ ap (λ w. with_objective (record { sense = w; expr = c.in-Some.expr; criteria = c.args.criteria }) c.args.draft) (sym c.sense_of.ensures))
    c.requires.after
