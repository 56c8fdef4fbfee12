use Rattle.std.proofs.Common.{◌≡◌, rules, sym, subst, length, to_z, of_z, ℤ}
use Rattle.std.specs.Int.{w128}
use Rattle.theta_passes.specs.code.Edge.{AreOver}
use Rattle.theta_passes.proofs.scans.Overs.{nobody}
use Rattle.theta_passes.proofs.scan.edge_scan.Goals as goal

pub edge_before-requires-clause-over : goal.edge_before-requires-clause-over
edge_before-requires-clause-over c =
    let same : to_z w128 (of_z w128 c.last_end.result) ≡ c.last_end.result = search rules in
    subst (λ (z : ℤ). AreOver c.args.rows.now (length c.args.rows.now) z) (sym same) c.last_end.ensures

pub returns-in-None : goal.returns-in-None
returns-in-None c = nobody c.args.rows.now c.in-None.ensures
