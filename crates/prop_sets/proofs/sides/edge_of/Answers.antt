use Rattle.std.proofs.Common.{subst}
use Rattle.std.specs.Prelude.{IfSome}
use Rattle.prop_sets.specs.code.Busy.{IsEdgeFound}
use Rattle.prop_sets.proofs.Asking.{busy_edge}
use Rattle.prop_sets.proofs.sides.edge_of.Goals as goal

pub answer_edge-requires-clause-busy : goal.answer_edge-requires-clause-busy
answer_edge-requires-clause-busy c =
    let found = subst (λ o. IfSome o (λ b. IsEdgeFound c.args.rows.now b.place b.s.items b.u.items b.v.items)) c.in-Some.is c.in_ok-found.ensures.some in
    busy_edge _ _ _ _ _ _ _ _ _ _ _ _ c.requires.rowed found
