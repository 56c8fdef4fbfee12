use Rattle.std.proofs.Common.{ap, ◌∙◌, is_some}
use Rattle.cpo_elab.specs.Named.{is_defined}
use Rattle.cpo_elab.proofs.named.Meanings.{defined_by_name}
use Rattle.cpo_elab.proofs.draft.Draft.is_defined.Goals as goal

pub returns : goal.returns
returns c =
    c.is_some.ensures ∙ ap is_some c.find.ensures
    ∙ defined_by_name c.self.inside.model c.self.inside.names c.args.name.now c.self.invariant.names
    ∙ ap (λ m. is_defined m c.args.name.now) c.self.view_is
