use Rattle.std.proofs.Common.{◌≡◌, rules, subst, to_z, of_z, w64, ℤ}
use Rattle.theta_passes.specs.declared.parts.Part.TheVariants.{Cut}
use Rattle.theta_passes.specs.code.Parts.{part_has, GivesTop}
use Rattle.theta_passes.proofs.witnesses.cut_top.Goals as goal

pub returns : goal.returns
returns c = let same : to_z w64 (of_z w64 c.args.end) ≡ c.args.end = search rules in
    subst (λ (z : ℤ). GivesTop c.args.rows.now (part_has c.args.rows.now (Cut c.args.with z)) 0 c.top_of.result) same c.top_of.ensures
