use Rattle.std.proofs.Common.{◌∙◌, sym}
use Rattle.cpo_elab.proofs.judging.Stepped.{can_step, first_aim, hull_there}
use Rattle.cpo_elab.proofs.judging.Written.{holds_none, one_held, many_criteria, rank_some}
use Rattle.cpo_elab.proofs.build.with_statement.Goals as goal

pub with_plain-requires-clause-plain : goal.with_plain-requires-clause-plain
with_plain-requires-clause-plain c = holds_none c.args.draft c.args.s.now c.args.written c.in-Nothing.is c.requires.written

pub with_expr-requires-clause-after : goal.with_expr-requires-clause-after
with_expr-requires-clause-after c = can_step c.args.draft c.args.s.now c.requires.valid c.requires.shaped c.requires.clear

pub with_expr-requires-clause-single : goal.with_expr-requires-clause-single
with_expr-requires-clause-single c = first_aim c.args.draft c.args.s.now c.requires.valid c.requires.clear

pub with_expr-requires-clause-held : goal.with_expr-requires-clause-held
with_expr-requires-clause-held c = one_held c.args.draft c.args.s.now c.in-One.expr c.args.written c.in-One.is c.requires.written

pub with_criteria-requires-clause-held : goal.with_criteria-requires-clause-held
with_criteria-requires-clause-held c = sym c.requires.written ∙ c.in-Several.is

pub with_criteria-requires-clause-many : goal.with_criteria-requires-clause-many
with_criteria-requires-clause-many c = many_criteria c.args.draft c.args.s.now c.in-Several.criteria c.in-Several.rank (sym c.requires.written ∙ c.in-Several.is)

pub with_criteria-requires-clause-rank : goal.with_criteria-requires-clause-rank
with_criteria-requires-clause-rank c = rank_some c.args.draft c.args.s.now c.in-Several.criteria c.in-Several.rank (sym c.requires.written ∙ c.in-Several.is) (hull_there c.args.draft c.args.s.now c.requires.valid c.requires.clear)

pub with_criteria-requires-clause-after : goal.with_criteria-requires-clause-after
with_criteria-requires-clause-after c = can_step c.args.draft c.args.s.now c.requires.valid c.requires.shaped c.requires.clear

pub with_criteria-requires-clause-single : goal.with_criteria-requires-clause-single
with_criteria-requires-clause-single c = first_aim c.args.draft c.args.s.now c.requires.valid c.requires.clear
