use Rattle.std.proofs.Common.{◌≡◌, drop}
use Rattle.cpo_elab.specs.Elaborated.{with_ivargs, plain_interval}
use Rattle.cpo_elab.proofs.interval.interval_of.Given as goal

abbrev pub invariant-loop-a : goal.invariant-loop-a
invariant-loop-a l = with_ivargs l.def (drop l.a-index l.args) ≡ with_ivargs (plain_interval l.name) l.args
