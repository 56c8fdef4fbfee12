use Rattle.std.proofs.Common.{sym, ap, ◌∙◌}
use Rattle.std.specs.Str.{bytes_eq}
use Rattle.std.specs.Map.{lookup}
use Rattle.cpo_elab.proofs.named.Meanings.{lookup_in_map}
use Rattle.cpo_elab.proofs.names.Names.find.Goals as goal

pub returns-in-None : goal.returns-in-None
returns-in-None c = c.in-None.ensures.value ∙ sym (lookup_in_map (λ v. v.items) c.args.name.now c.self.inside.names.entries) ∙ ap (lookup (bytes_eq c.args.name.now)) c.self.view_is

pub returns-in-Some : goal.returns-in-Some
returns-in-Some c = c.in-Some.ensures.value ∙ sym (lookup_in_map (λ v. v.items) c.args.name.now c.self.inside.names.entries) ∙ ap (lookup (bytes_eq c.args.name.now)) c.self.view_is
