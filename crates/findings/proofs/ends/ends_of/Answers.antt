use Rattle.std.proofs.Common.{rules}
use Rattle.findings.proofs.Noted.{ends_are}
use Rattle.findings.proofs.ends.ends_of.Goals as goal

pub returns-clause-value : goal.returns-clause-value
returns-clause-value c = ends_are c.args.c _ _ _ _ (search rules) (search rules) (search rules) (search rules)
