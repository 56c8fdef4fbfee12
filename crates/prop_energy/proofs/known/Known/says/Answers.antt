use Rattle.std.proofs.Common.{rules, sym, ◌∙◌}
use Rattle.prop_energy.proofs.Remembering.{still_as}
use Rattle.prop_energy.proofs.known.Known.says.Goals as goal

pub returns-then-self-capacity : goal.returns-then-self-capacity
returns-then-self-capacity c = λ same. still_as c.self.inside.rows.items c.args.rows.now _ _ c.self.invariant (search rules) (sym c.deref.ensures.value ∙ c.are_same.ensures same)
