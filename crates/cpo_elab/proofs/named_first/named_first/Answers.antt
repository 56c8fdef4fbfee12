use Rattle.std.proofs.Common.{sym, ap, subst, ◌∙◌}
use Rattle.sched_model.specs.Valid.{IsValid}
use Rattle.cpo_elab.specs.NamedFirst.{named_first}
use Rattle.cpo_elab.proofs.named.NumberedValid.{stays_valid}
use Rattle.cpo_elab.proofs.named_first.named_first.Goals as goal

pub of-requires : goal.of-requires
of-requires c = subst IsValid (sym (c.in_ok-renumber.ensures ∙ ap named_first c.into_parts-parts.ensures.parts)) (stays_valid c.args.model c.into_parts-parts.ensures.valid)

pub returns : goal.returns
returns c = c.of.ensures ∙ c.in_ok-renumber.ensures ∙ ap named_first c.into_parts-parts.ensures.parts
