use Rattle.std.proofs.Common.{sym, ◌∙◌}
use Rattle.prop_hier.proofs.Silence.{silent_looked}
use Rattle.prop_hier.proofs.relations.ask_member.Goals as goal

pub returns-then-not-may_break-clause-none : goal.returns-then-not-may_break-clause-none
returns-then-not-may_break-clause-none c =
    silent_looked c.args.model.now c.args.region.now.region c.args.best c.args.c c.args.relation.now c.args.x c.look.result c.requires.of c.requires.is c.look.ensures.value
    (sym c.may_break.ensures ∙ c.if-not-may_break.true)
