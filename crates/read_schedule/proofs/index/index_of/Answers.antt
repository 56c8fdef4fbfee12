use Rattle.std.proofs.Common.{ap, ◌∙◌, ◌≤◌, length, sym, subst}
use Rattle.sched_model.specs.laws.Limits.{limits_of}
use Rattle.sched_model.specs.Words.{pairwise}
use Rattle.sched_text.specs.laws.Names.{names_of}
use Rattle.read_schedule.specs.code.Reads.{differ, names_in}
use Rattle.read_schedule.proofs.index.index_of.Goals as goal

pub index_all-requires-clause-distinct : goal.index_all-requires-clause-distinct
index_all-requires-clause-distinct c = ap (λ ds. pairwise differ (names_in ds)) c.intervals.ensures.list ∙ (names_of c.args.model.now c.intervals.ensures.valid).distinct

pub index_all-requires-clause-few : goal.index_all-requires-clause-few
index_all-requires-clause-few c = subst (λ ds. length ds ≤ 2000) (sym c.intervals.ensures.list) (limits_of c.args.model.now c.intervals.ensures.valid.limits).intervals
