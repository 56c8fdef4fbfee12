use Rattle.std.specs.Int.{int_max}
use Rattle.std.proofs.Common.{◌≡◌, ◌+ℤ◌, to_z, of_z, w64, rules}
use Rattle.findings.proofs.Noted.{highest_end_is}
use Rattle.findings.proofs.ends.highest_end.Goals as goal

pub returns-clause-value : goal.returns-clause-value
returns-clause-value c =
    let end : c.later-end.result ≡ int_max c.args.c.emin c.args.c.emax = search rules in
    let start : c.later-start.result ≡ int_max c.args.c.smin c.args.c.smax = search rules in
    let is : to_z w64 (of_z w64 c.max_sum.result) ≡ int_max c.later-end.result (c.later-start.result +ℤ c.args.c.pmin) = search rules in
    highest_end_is c.args.c _ _ _ end start is
