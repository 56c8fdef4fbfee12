use Rattle.std.proofs.Common.{ap, ◌∙◌, ◌++◌, ◌∷◌, [], map}
use Rattle.std.specs.Str.{bytes_eq}
use Rattle.std.specs.Map.{lookup}
use Rattle.cpo_elab.proofs.named.Meanings.{pushed_entry}
use Rattle.cpo_elab.proofs.steps.Steps.push.Goals as goal

pub returns : goal.returns
returns c =
    ap (map (λ e. (e.0.items, e.1))) c.in_ok-insert.ensures.entries
    ∙ pushed_entry (λ v. v.items) c.self.inside.functions.entries c.args.name c.args.calendar (ap (lookup (bytes_eq c.args.name.items)) c.self.view_is ∙ c.requires)
    ∙ ap (λ es. es ++ (c.args.name.items, c.args.calendar) ∷ []) c.self.view_is
