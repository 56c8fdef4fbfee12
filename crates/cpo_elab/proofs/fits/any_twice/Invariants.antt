use Rattle.std.proofs.Common.{◌≡◌, ◌++◌, true, drop}
use Rattle.sched_model.specs.Valid.{are_distinct}
use Rattle.cpo_elab.specs.Named.{itvs_of}
use Rattle.cpo_elab.proofs.named.Distinct.{itvs}
use Rattle.cpo_elab.proofs.fits.any_twice.Given as goal

abbrev pub invariant-loop-name : goal.invariant-loop-name
invariant-loop-name l = record {
  distinct : are_distinct (itvs l.seen.keys) ≡ true;
  same : itvs l.seen.keys ++ itvs_of l.draft (drop l.name-index l.names) ≡ itvs_of l.draft l.names;
}
