use Rattle.std.proofs.Common.{◌≡◌, ◌-ℤ◌, to_z, of_z, w64, ap, ◌∙◌, rules}
use Rattle.std.specs.Int.{int_min}
use Rattle.prop_temporal.proofs.silence.least_start.Goals as goal

pub returns-clause-value : goal.returns-clause-value
returns-clause-value c =
    let start : c.smaller-start.result ≡ int_min c.args.c.smin c.args.c.smax = search rules in
    let end : c.smaller-end.result ≡ int_min c.args.c.emin c.args.c.emax = search rules in
    let value : c.min_difference.result ≡ int_min c.smaller-start.result (c.smaller-end.result -ℤ c.args.c.pmin) = search rules in
    let same : to_z w64 (of_z w64 c.min_difference.result) ≡ c.min_difference.result = search rules in
    same ∙ value ∙ ap (λ v. int_min v (c.smaller-end.result -ℤ c.args.c.pmin)) start ∙ ap (λ v. int_min (int_min c.args.c.smin c.args.c.smax) (v -ℤ c.args.c.pmin)) end
