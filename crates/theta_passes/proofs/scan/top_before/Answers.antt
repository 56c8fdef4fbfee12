use Rattle.std.proofs.Common.{◌≡◌, rules, subst, to_z, of_z, w64, ℤ}
use Rattle.theta_passes.specs.declared.parts.Part.TheVariants.{Before}
use Rattle.theta_passes.specs.code.Rows.{row_at}
use Rattle.theta_passes.specs.code.Parts.{part_has, GivesTop}
use Rattle.theta_passes.proofs.scan.top_before.Goals as goal

pub returns : goal.returns
returns c = let same : to_z w64 (of_z w64 (row_at c.args.rows.now c.args.i).reach) ≡ (row_at c.args.rows.now c.args.i).reach = search rules in
    subst (λ (z : ℤ). GivesTop c.args.rows.now (part_has c.args.rows.now (Before c.args.i z)) 0 c.top_of.result) same c.top_of.ensures
