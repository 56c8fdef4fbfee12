-- How a run ended, from what it has told.
use Rattle.std.proofs.Common.{◌≡◌, ◌≤◌, ◌+◌, Some, None, Ok, Err, refl, sym, ap, subst, ◌∙◌, inl, inr, arith}
use Rattle.std.specs.Prelude.{Bool}
use Rattle.sched_base.specs.State.{State, Place}
use Rattle.sched_base.specs.Calls.{ReadsAtMost}
use Rattle.sched_model.specs.declared.types.Answer.{Answer}
use Rattle.sched_model.specs.declared.types.Answer.TheVariants as answer
use Rattle.textline.specs.Lines.{Bytes}
use Rattle.logtext.specs.Judgement.{log_limit}
use Rattle.given_files.specs.declared.stop.GivenStop.TheVariants as given
use Rattle.given_files.specs.Files.{ReadsModel, WithinModel, file_of}
use Rattle.given_files.specs.Told.{Reports, fault_line, memory_line, refusal_line}
use Rattle.given_files.specs.laws.Endings.{OnlyTold, tells_on, out_told}
use Rattle.last_plan.specs.declared.ended.Ended.{Ended}
use Rattle.last_plan.specs.declared.ended.Ended.TheVariants as end
use Rattle.last_plan.specs.declared.stop.PlanStop.{PlanStop}
use Rattle.last_plan.specs.declared.stop.PlanStop.TheVariants as stop
use Rattle.last_plan.specs.Runs.{PlanPromise, PlanEnds, PrintsPart, ReadsLog, WithinLog, IsTold, ending_of}
use Rattle.last_plan.specs.Told.{log_line, too_long_line}
use Rattle.last_plan.specs.code.Ended.{EndsStopped}
use Rattle.last_plan.specs.code.Tries.{TriesPlan}

abbrev OnlyEnds : State → State → Type 0
OnlyEnds old s = s ≡ record old { model = s.model; log = s.log; out = s.out; faults = s.faults }

err_of : (old s : State) → OnlyEnds old s → s.err ≡ old.err
err_of old s is = ap (λ (x : State). x.err) is

whole_only : (old s new : State) → OnlyEnds old s → OnlyTold s new → new ≡ record old { model = new.model; log = new.log; out = new.out; err = new.err; faults = new.faults }
whole_only old s new first told =
    let is : new ≡ record old { model = s.model; log = s.log; out = s.out; err = new.err; faults = new.faults } = told ∙ ap (λ (x : State). record x { err = new.err; faults = new.faults }) first in
    subst (λ (x : State). x ≡ record old { model = x.model; log = x.log; out = x.out; err = x.err; faults = x.faults }) (sym is) refl

model_read : (model : Bytes) (old s new : State) → ReadsModel model old s → OnlyTold s new → ReadsModel model old new
model_read model old s new far told = subst (λ (p : Place). ReadsAtMost 16777217 (file_of old model) p.left) (sym (ap (λ (x : State). x.model) told)) far

log_read : (log : Bytes) (old s new : State) → ReadsLog log old s → OnlyTold s new → ReadsLog log old new
log_read log old s new far told = subst (λ (p : Place). ReadsAtMost (log_limit + 1) (file_of old log) p.left) (sym (ap (λ (x : State). x.log) told)) far

-- Told.

by_answer : (a : Answer) (is_count : Bool) (model log : Bytes) (ended : Ended) (old new : State) → ended ≡ ending_of a → IsTold is_count model log ended old new → PlanEnds is_count model log ended old new
by_answer (answer.Optimal v a) is_count model log ended old new is told = subst (λ e. PlanEnds is_count model log e old new) (sym is) (subst (λ e. IsTold is_count model log e old new) is told)
by_answer (answer.Feasible a) is_count model log ended old new is told = subst (λ e. PlanEnds is_count model log e old new) (sym is) (subst (λ e. IsTold is_count model log e old new) is told)
by_answer answer.Infeasible is_count model log ended old new is told = subst (λ e. PlanEnds is_count model log e old new) (sym is) (subst (λ e. IsTold is_count model log e old new) is told)
by_answer (answer.Unfinished (Some va)) is_count model log ended old new is told = subst (λ e. PlanEnds is_count model log e old new) (sym is) (subst (λ e. IsTold is_count model log e old new) is told)
by_answer (answer.Unfinished None) is_count model log ended old new is told = subst (λ e. PlanEnds is_count model log e old new) (sym is) (subst (λ e. IsTold is_count model log e old new) is told)

pub ended : (is_count : Bool) (model log : Bytes) (e : Ended) (old new : State) → TriesPlan is_count model log (Ok e) old new → WithinModel model old new × WithinLog log old new → PlanPromise is_count model log e old new
ended is_count model log e old new tries within = record {
  only = subst (λ (x : State). x ≡ record old { model = x.model; log = x.log; out = x.out; err = x.err; faults = x.faults }) (sym tries.only) refl;
  within = within;
  ends = by_answer tries.tried.1.plan.solved.answer is_count model log e old new tries.tried.1.ending (tries.tried.0, err_of old new tries.only, tries.tried.1, tries.tried.2, tries.tried.3);
}

-- Stopped.

part_same : (is_count : Bool) (model log : Bytes) (old s new : State) → new.out ≡ s.out → PrintsPart is_count model log old s → PrintsPart is_count model log old new
part_same is_count model log old s new out part = elim part as (λ w. PrintsPart is_count model log old new) [
  | inl none ↦ inl (out ∙ none)
  | inr some ↦ inr (some.0, some.1, some.2, (some.3.0, some.3.1, out ∙ some.3.2))
]

no_memory : (is_count : Bool) (model log : Bytes) (old s new : State) → WithinModel model old new × WithinLog log old new → OnlyEnds old s → old.faults ≤ s.faults → s.out ≡ old.out → Reports memory_line s new → PlanPromise is_count model log end.NoMemory old new
no_memory is_count model log old s new within first later out told = record {
  only = whole_only old s new first told.only;
  within = within;
  ends = (out_told s new told.only ∙ out, tells_on memory_line old s new (err_of old s first) later told);
}

ended_as : (is_count : Bool) (model log : Bytes) (e ended : Ended) (old new : State) → ended ≡ e → PlanPromise is_count model log e old new → PlanPromise is_count model log ended old new
ended_as is_count model log e ended old new is promise = subst (λ x. PlanPromise is_count model log x old new) (sym is) promise

pub stopped : (is_count : Bool) (model log : Bytes) (why : PlanStop) (ended : Ended) (old s new : State) → WithinModel model old new × WithinLog log old new → TriesPlan is_count model log (Err why) old s → EndsStopped why ended s new → PlanPromise is_count model log ended old new
stopped is_count model log (stop.Given given.Fault) ended old s new within tries ends = ended_as is_count model log end.Fault ended old new ends.0 (record {
  only = whole_only old s new tries.only ends.1.only;
  within = within;
  ends = (
    (let rose = tries.tried.0 in let later = ends.1.later in omega (arith, rose, later)),
    tries.tried.1,
    part_same is_count model log old s new (out_told s new ends.1.only) tries.tried.2,
    tells_on fault_line old s new (err_of old s tries.only) tries.later ends.1,
  );
})
stopped is_count model log (stop.Given given.NoMemory) ended old s new within tries ends = ended_as is_count model log end.NoMemory ended old new ends.0 (no_memory is_count model log old s new within tries.only tries.later tries.tried ends.1)
stopped is_count model log (stop.Given (given.ModelRefused r)) ended old s new within tries ends = elim ends as (λ w. PlanPromise is_count model log ended old new) [
  | inl told ↦ ended_as is_count model log end.ModelRefused ended old new told.0 (record {
    only = whole_only old s new tries.only told.1.only;
    within = within;
    ends = (out_told s new told.1.only ∙ tries.tried.0, model_read model old s new tries.tried.2 told.1.only, (r, tries.tried.1, tells_on (refusal_line r) old s new (err_of old s tries.only) tries.later told.1));
  })
  | inr none ↦ ended_as is_count model log end.NoMemory ended old new none.0 (no_memory is_count model log old s new within tries.only tries.later tries.tried.0 none.1)
]
stopped is_count model log (stop.Given (given.ScheduleRefused r)) ended old s new within tries ends = absurd tries.tried
stopped is_count model log (stop.Refused k at) ended old s new within tries ends = elim ends as (λ w. PlanPromise is_count model log ended old new) [
  | inl told ↦ ended_as is_count model log end.LogRefused ended old new told.0 (record {
    only = whole_only old s new tries.only told.1.only;
    within = within;
    ends = (
      out_told s new told.1.only ∙ tries.tried.0,
      model_read model old s new tries.tried.2 told.1.only,
      log_read log old s new tries.tried.3 told.1.only,
      inl (k, at, tries.tried.1, tells_on (log_line k at) old s new (err_of old s tries.only) tries.later told.1),
    );
  })
  | inr none ↦ ended_as is_count model log end.NoMemory ended old new none.0 (no_memory is_count model log old s new within tries.only tries.later tries.tried.0 none.1)
]
stopped is_count model log stop.TooLong ended old s new within tries ends = ended_as is_count model log end.LogRefused ended old new ends.0 (record {
  only = whole_only old s new tries.only ends.1.only;
  within = within;
  ends = (
    out_told s new ends.1.only ∙ tries.tried.0,
    model_read model old s new tries.tried.2 ends.1.only,
    log_read log old s new tries.tried.3 ends.1.only,
    inr (tries.tried.1, tells_on too_long_line old s new (err_of old s tries.only) tries.later ends.1),
  );
})
