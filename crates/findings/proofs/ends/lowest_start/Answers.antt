use Rattle.std.specs.Int.{int_min}
use Rattle.std.proofs.Common.{◌≡◌, ◌-ℤ◌, to_z, of_z, w64, rules}
use Rattle.findings.proofs.Noted.{lowest_start_is}
use Rattle.findings.proofs.ends.lowest_start.Goals as goal

pub returns-clause-value : goal.returns-clause-value
returns-clause-value c =
    let end : c.sooner-end.result ≡ int_min c.args.c.emin c.args.c.emax = search rules in
    let start : c.sooner-start.result ≡ int_min c.args.c.smin c.args.c.smax = search rules in
    let is : to_z w64 (of_z w64 c.min_difference.result) ≡ int_min c.sooner-start.result (c.sooner-end.result -ℤ c.args.c.pmin) = search rules in
    lowest_start_is c.args.c _ _ _ end start is
