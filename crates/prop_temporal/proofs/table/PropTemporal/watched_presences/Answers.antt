use Rattle.std.proofs.Common.{ap, ◌∙◌}
use Rattle.prop_temporal.proofs.Watching.{presences_watched}
use Rattle.prop_temporal.proofs.table.PropTemporal.watched_presences.Goals as goal

pub returns-then-k-eq0 : goal.returns-then-k-eq0
returns-then-k-eq0 c = λ m for_it x. presences_watched m c.args.self.now c.args.k c.deref.result.now c.if-k-eq0.true (c.deref.ensures.value ∙ ap (λ t. t.optionals) c.self.view_is) for_it x
