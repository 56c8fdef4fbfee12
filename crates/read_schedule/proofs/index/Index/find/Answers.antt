use Rattle.std.proofs.Common.{sym, ap, ◌∙◌}
use Rattle.std.specs.Str.{bytes_eq}
use Rattle.std.specs.Map.{lookup}
use Rattle.read_schedule.proofs.spelling.Names.{lookup_in_map}
use Rattle.read_schedule.proofs.index.Index.find.Goals as goal

pub returns-in-None : goal.returns-in-None
returns-in-None c = c.in-None.ensures.value ∙ sym (lookup_in_map (λ v. v.items) c.args.name.now c.self.inside.names.entries) ∙ ap (lookup (bytes_eq c.args.name.now)) c.self.view_is

pub returns-in-Some : goal.returns-in-Some
returns-in-Some c = c.in-Some.ensures.value ∙ sym (lookup_in_map (λ v. v.items) c.args.name.now c.self.inside.names.entries) ∙ ap (lookup (bytes_eq c.args.name.now)) c.self.view_is
