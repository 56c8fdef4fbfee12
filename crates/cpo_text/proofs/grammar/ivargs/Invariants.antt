use Rattle.std.proofs.Common.{◌≡◌, length, []}
use Rattle.cpo_text.specs.code.Rules.{ivargs_at}
use Rattle.cpo_text.specs.code.Gives.{ahead}
use Rattle.cpo_text.proofs.grammar.ivargs.Given as goal

abbrev pub invariant-loop-args : goal.invariant-loop-args
invariant-loop-args l = ivargs_at l.args (ahead l.here) ≡ ivargs_at [] (ahead l.fn.place)

abbrev pub decreases-loop-args : goal.decreases-loop-args
decreases-loop-args l = length (ahead l.here)
