use Rattle.std.proofs.Common.{◌≡◌, ◌+ℤ◌, to_z, of_z, w64, ap, ◌∙◌, rules}
use Rattle.std.specs.Int.{int_max}
use Rattle.prop_temporal.proofs.silence.greatest_end.Goals as goal

pub returns-clause-value : goal.returns-clause-value
returns-clause-value c =
    let end : c.greater-end.result ≡ int_max c.args.c.emin c.args.c.emax = search rules in
    let start : c.greater-start.result ≡ int_max c.args.c.smin c.args.c.smax = search rules in
    let value : c.max_sum.result ≡ int_max c.greater-end.result (c.greater-start.result +ℤ c.args.c.pmin) = search rules in
    let same : to_z w64 (of_z w64 c.max_sum.result) ≡ c.max_sum.result = search rules in
    same ∙ value ∙ ap (λ v. int_max v (c.greater-start.result +ℤ c.args.c.pmin)) end ∙ ap (λ v. int_max (int_max c.args.c.emin c.args.c.emax) (v +ℤ c.args.c.pmin)) start
