use Rattle.std.proofs.Common.{subst, sym, true, false}
use Rattle.theta_passes.specs.code.Over.{NoOverloads}
use Rattle.prop_sets.proofs.Turning.{none_turned}
use Rattle.prop_sets.proofs.sides.ask_edges.Goals as goal

pub edge_of-requires-clause-overloads : goal.edge_of-requires-clause-overloads
edge_of-requires-clause-overloads c = subst NoOverloads (sym c.as_slice-rows.ensures.value) (none_turned _ _ _ _ _ _ _ _ true true false _ c.requires.same c.requires.is c.requires.before c.in_ok-rows_for.ensures.rowed)
