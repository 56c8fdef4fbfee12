use Rattle.std.proofs.Common.{sym, ap, ◌∙◌}
use Rattle.cpo_elab.specs.Named.{number_of}
use Rattle.cpo_elab.specs.code.Drafts.{number_if}
use Rattle.cpo_elab.proofs.named.Meanings.{number_when, none_when}
use Rattle.cpo_elab.proofs.draft.Draft.number_of.Goals as goal

pub returns-in-None : goal.returns-in-None
returns-in-None c = ap (number_if c.args.sort) c.in-None.ensures ∙ c.self.invariant.names c.args.sort c.args.name.now ∙ ap (λ m. number_of m c.args.sort c.args.name.now) c.self.view_is

pub returns-then-same_sort : goal.returns-then-same_sort
returns-then-same_sort c =
    number_when c.in-Some.meaning c.args.sort (sym c.if-same_sort.ensures)
    ∙ ap (number_if c.args.sort) c.in-Some.ensures ∙ c.self.invariant.names c.args.sort c.args.name.now ∙ ap (λ m. number_of m c.args.sort c.args.name.now) c.self.view_is

pub returns-else-same_sort : goal.returns-else-same_sort
returns-else-same_sort c =
    none_when c.in-Some.meaning c.args.sort (sym c.if-same_sort.ensures)
    ∙ ap (number_if c.args.sort) c.in-Some.ensures ∙ c.self.invariant.names c.args.sort c.args.name.now ∙ ap (λ m. number_of m c.args.sort c.args.name.now) c.self.view_is
