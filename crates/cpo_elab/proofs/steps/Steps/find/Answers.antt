use Rattle.std.proofs.Common.{sym, ap, ◌∙◌}
use Rattle.std.specs.Str.{bytes_eq}
use Rattle.std.specs.Map.{lookup}
use Rattle.cpo_elab.proofs.named.Meanings.{lookup_in_map}
use Rattle.cpo_elab.proofs.steps.Steps.find.Goals as goal

pub returns : goal.returns
returns c = c.get.ensures.value ∙ sym (lookup_in_map (λ v. v.items) c.args.name.now c.self.inside.functions.entries) ∙ ap (lookup (bytes_eq c.args.name.now)) c.self.view_is
