use Rattle.std.proofs.Common.{◌≡◌, IfOk, rules, subst, to_z, of_z, w64}
use Rattle.energy_pass.specs.code.Rows.{GivesOver}
use Rattle.lock_props.proofs.of_energy.overfull.Goals as goal

pub returns : goal.returns
returns c =
    let same : to_z w64 (of_z w64 c.args.capacity) ≡ c.args.capacity = search rules in
    subst (λ z. IfOk c.overfull.result (GivesOver c.args.rows.now z)) same c.overfull.ensures
