use Rattle.std.proofs.Common.{◌≡◌, sym, subst, rules}
use Rattle.sched_model.specs.Valid.{IsValid}
use Rattle.sched_model.specs.code.Model.{data_of}
use Rattle.model_copy.specs.code.Reduced.{reduced}
use Rattle.model_copy.specs.laws.Valid.{reduced_valid}
use Rattle.model_copy.proofs.Together.{meets_kept}
use Rattle.model_copy.proofs.reducing.reduce.Goals as goal

pub of-requires : goal.of-requires
of-requires c =
    let is : data_of c.in_ok-parts.parts ≡ reduced c.args.model.now c.args.keep.now = search rules in
    subst IsValid (sym is) (reduced_valid c.args.model.now c.args.keep.now c.intervals.ensures.valid c.requires)

pub returns-clause-meets : goal.returns-clause-meets
returns-clause-meets c =
    let is : c.of.result ≡ reduced c.args.model.now c.args.keep.now = search rules in
    meets_kept c.args.model.now c.of.result c.args.keep.now is
