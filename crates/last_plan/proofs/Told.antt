-- What a run has told of a log, from what its steps did.
use Rattle.std.proofs.Common.{◌≡◌, ◌≤◌, ℕ, List, Option, Some, None, Ok, Err, take, refl, sym, ap, subst, ◌∙◌, inl, inr, arith}
use Rattle.std.specs.Prelude.{◌⊎◌, ◌+◌, Bool, IfSome, option_and_then}
use Rattle.sched_base.specs.declared.desk.Failed.{Failed}
use Rattle.sched_base.specs.declared.desk.File.{File}
use Rattle.sched_base.specs.declared.desk.Inlet.TheVariants.{Log}
use Rattle.sched_base.specs.declared.desk.Port.TheVariants.{Out}
use Rattle.sched_base.specs.State.{State, bytes_of, left_in}
use Rattle.sched_base.specs.Calls.{Opens, ReadsAtMost, Rose, Writes, appended}
use Rattle.sched_model.specs.Answers.{verdict_in}
use Rattle.sched_model.specs.Data.{Data}
use Rattle.sched_model.specs.Solution.{IsSolution, objective_of}
use Rattle.cpo_elab.specs.Answers.Answer.{Accepted}
use Rattle.textline.specs.Lines.{Bytes}
use Rattle.kernel.specs.Promises.{Means, Ready}
use Rattle.kernel.specs.Refuting.{refutes_with}
use Rattle.kernel.specs.Steps.{LogState, opening, verdict_of}
use Rattle.logtext.specs.Extra.{log_refutes, log_numbers, log_valid}
use Rattle.logtext.specs.Judgement.{log_bytes, log_limit}
use Rattle.logtext.specs.Logs.{MayHold}
use Rattle.logtext.specs.declared.version.Version.{Version}
use Rattle.replay.specs.declared.fault.ReplayFault.{ReplayFault}
use Rattle.replay.specs.declared.fault.ReplayFault.TheVariants as fault
use Rattle.replay.specs.LastSchedule.{found_schedule}
use Rattle.replay.specs.Replaying.{ReplaysFront, JudgesFront, IsReplayed, IsWhole, IsCut, BeginsAt}
use Rattle.replay.specs.lemmas.LastSchedule.{last_shown}
use Rattle.replay.specs.lemmas.Told.{each, both}
use Rattle.given_files.specs.declared.stop.GivenStop.TheVariants as given
use Rattle.given_files.specs.Files.{IfFile, FileDeserves, ReadsModel}
use Rattle.given_files.specs.code.Reading.{OnlyReads}
use Rattle.last_plan.specs.declared.counts.Counts.{Counts}
use Rattle.last_plan.specs.declared.ended.Ended.{Ended}
use Rattle.last_plan.specs.declared.plans.Plan.{Plan}
use Rattle.last_plan.specs.declared.stop.PlanStop.{PlanStop}
use Rattle.last_plan.specs.declared.stop.PlanStop.TheVariants as stop
use Rattle.last_plan.specs.Counted.{Tallied, counted, start}
use Rattle.last_plan.specs.Plans.{IsFront, ShowsPlan, PlanMeans, schedule_shown, value_beside}
use Rattle.last_plan.specs.Runs.{TellsPlan, ReadsLog, HasNoEnd, HasWrongLine, ending_of}
use Rattle.last_plan.specs.Texts.{plan_text}
use Rattle.last_plan.specs.code.Answers.{IsPlanOf}
use Rattle.last_plan.specs.code.Stops.{stop_of_replay}
use Rattle.last_plan.specs.code.Tries.{OnlyReplays, PlansFile, PrintsText, TriesPlan}
use Rattle.last_plan.proofs.Answered.{says_verdict, says_schedule, says_solution, keeps_values, opening_values}

-- A log that was opened behind a model that was read.

in_files : (name : Bytes) (P : Bytes → Type 0) (files : Option (List File)) → IfSome (option_and_then (λ fs. bytes_of fs name) files) P → IfSome files (λ fs. IfSome (bytes_of fs name) P)
in_files name P None is = tt
in_files name P (Some fs) is = is

judged_file : (log : Bytes) (P : Bytes → Type 0) (u : Unit {0}) (s o : State) → Opens Log log (Ok u) s o → IfSome (left_in Log o) P → IfFile s log P
judged_file log P u s o opens is = (opens.there, in_files log P s.files (subst (λ left. IfSome left P) (ap (λ (x : State). left_in Log x) opens.opened) is))

log_read : (log : Bytes) (u : Unit {0}) (s o t : State) → Opens Log log (Ok u) s o → ReadsAtMost (log_limit + 1) (left_in Log o) (left_in Log t) → ReadsLog log s t
log_read log u s o t opens reads = subst (λ left. ReadsAtMost (log_limit + 1) left t.log.left) (ap (λ (x : State). left_in Log x) opens.opened) reads

both_only : (old s t : State) → OnlyReads old s → OnlyReplays s t → t ≡ record old { model = s.model; log = t.log; faults = t.faults }
both_only old s t reads judged = judged.only ∙ ap (λ (x : State). record x { log = t.log; faults = t.faults }) reads.only

log_read_behind : (log : Bytes) (old s t : State) → OnlyReads old s → ReadsLog log s t → ReadsLog log old t
log_read_behind log old s t reads far = subst (λ (files : Option (List File)). ReadsLog log (record old { files = files }) t) (ap (λ (x : State). x.files) reads.only) far

-- The log was read, and shows this plan.

shows : (m : Data) (bytes : Bytes) (s : LogState) (p : Plan) (after : Tallied) (version : Version) → IsPlanOf s after.counts p → (r : IsReplayed log_refutes log_numbers log_valid counted m s (start m) after) → MayHold version r.lines → IsFront version r.lines bytes → ShowsPlan m bytes p
shows m bytes s p after version is r suits front = record {
  version = version;
  lines = r.lines;
  suits = suits;
  state = s;
  log = r.log;
  front = front;
  verdict = ap verdict_in is.answer ∙ says_verdict s;
  nodes = is.nodes;
  schedule = ap schedule_shown is.answer ∙ says_schedule s (keeps_values (refutes_with log_refutes) m r.log.steps (opening_values m)) ∙ sym (last_shown (refutes_with log_refutes) m r.lines (opening m) s (found_schedule s.found) r.log.steps refl refl);
  counts = is.counts_same ∙ ap (λ (t : Tallied). t.counts) r.watched;
}

shows_front : (m : Data) (bytes : Bytes) (s : LogState) (p : Plan) (after : Tallied) → IsPlanOf s after.counts p
    → IsWhole log_refutes log_numbers log_valid counted m bytes s (start m) after ⊎ IsCut log_refutes log_numbers log_valid counted m bytes s (start m) after → ShowsPlan m bytes p
shows_front m bytes s p after is front = elim front as (λ w. ShowsPlan m bytes p) [
  | inl whole ↦ shows m bytes s p after whole.version is whole.replayed whole.suits (inl whole.text)
  | inr cut ↦ shows m bytes s p after cut.version is cut.replayed cut.suits (inr (cut.rest, cut.text, cut.open_line))
]

pub plan_means : (m : Data) (s : LogState) (p : Plan) (counts : Counts) → Ready m s → Means m (verdict_of s) → IsPlanOf s counts p → PlanMeans m p
plan_means m s p counts ready means is = record {
  verdict = subst (Means m) (sym (ap verdict_in is.answer ∙ says_verdict s)) means;
  solution = subst (λ a. IfSome (schedule_shown a) (λ b. IsSolution m b × (objective_of m b ≡ value_beside (verdict_in a)))) (sym is.answer) (says_solution m s ready.loses_nothing.found_is);
}

pub planned : (m : Data) (log : Bytes) (p : Plan) (u : Unit {0}) (s o t : State) (k : LogState) (after : Tallied) → Opens Log log (Ok u) s o → ReplaysFront log_refutes log_numbers log_valid counted m (Ok k) (start m) after o t → IsPlanOf k after.counts p → PlanMeans m p
    → PlansFile m log (Ok p) s t
planned m log p u s o t k after opens replays is means = (
  replays.counts ∙ ap (λ (x : State). x.faults) opens.opened,
  judged_file log (λ bytes. ShowsPlan m (log_bytes bytes) p × (HasNoEnd m (log_bytes bytes) → ⊥)) u s o opens (each (left_in Log o) _ _ (λ bs judged. (shows_front m (log_bytes bs) k p after is judged.0, judged.1)) replays.judgement),
  means,
  log_read log u s o t opens replays.reads,
)

pub not_planned : (m : Data) (log : Bytes) (e : ReplayFault) (u : Unit {0}) (s o t : State) (before after : Tallied) → Opens Log log (Ok u) s o → ReplaysFront log_refutes log_numbers log_valid counted m (Err e) before after o t → PlansFile m log (Err (stop_of_replay e)) s t
not_planned m log (fault.Refused k at) u s o t before after opens replays = (
  judged_file log (λ bytes. HasWrongLine m bytes k at) u s o opens (each (left_in Log o) _ _ (λ bs is. (is.0.0, is.0.1, is.0.2, is.1)) (both (left_in Log o) (λ bs. JudgesFront log_refutes log_numbers log_valid counted m (log_bytes bs) (Err (fault.Refused k at)) before after) (BeginsAt k at) replays.judgement replays.place)),
  log_read log u s o t opens replays.reads,
)
not_planned m log fault.TooLong u s o t before after opens replays = (judged_file log (λ bytes. HasNoEnd m (log_bytes bytes)) u s o opens replays.judgement, log_read log u s o t opens replays.reads)
not_planned m log fault.Fault u s o t before after opens replays = record {
  rose = subst (λ n. Rose n t.faults) (ap (λ (x : State). x.faults) opens.opened) replays.counts.0;
  calm = λ calm there. replays.counts.1 (ap (λ (x : State). x.calm) opens.opened ∙ calm);
}
not_planned m log fault.NoMemory u s o t before after opens replays = tt

-- What was read was told.

files_as : (log : Bytes) (P : Bytes → Type 0) (old s : State) → OnlyReads old s → IfFile s log P → IfFile old log P
files_as log P old s reads is = subst (λ (files : Option (List File)). IfFile (record old { files = files }) log P) (ap (λ (x : State). x.files) reads.only) is

module _ (is_count : Bool) (m : Data) (model log : Bytes) (old s t : State) (reads : OnlyReads old s) (kept : s.faults ≡ old.faults) (deserved : FileDeserves old model (Accepted m)) (far : ReadsModel model old s) (judged : OnlyReplays s t) where
  tells : (p : Plan) → PlansFile m log (Ok p) s t → TellsPlan model log m p old
  tells p plans = record { deserved = deserved; shows = files_as log (λ bytes. ShowsPlan m (log_bytes bytes) p × (HasNoEnd m (log_bytes bytes) → ⊥)) old s reads plans.1; means = plans.2 }

  pub printed : (p : Plan) (ended : Ended) (u : Unit {0}) (w : State) → PlansFile m log (Ok p) s t → Writes Out (plan_text is_count m p) (Ok u) t w → ended ≡ ending_of p.solved.answer → TriesPlan is_count model log (Ok ended) old w
  printed p ended u w plans writes ends =
      let faults : t.faults ≡ old.faults = plans.0 ∙ kept in
      let is : w ≡ record old { model = s.model; log = t.log; out = appended (plan_text is_count m p) old.out; faults = t.faults } =
      writes.written ∙ ap (λ (x : State). record x { out = appended (plan_text is_count m p) x.out }) (both_only old s t reads judged) in
      subst (TriesPlan is_count model log (Ok ended) old) (sym is) (record {
        only = refl;
        later = subst (λ n. old.faults ≤ n) (sym faults) (omega arith);
        tried = (faults, record { m = m; plan = p; tells = tells p plans; printed = refl; ending = ends }, far, log_read_behind log old s t reads plans.3);
      })

  pub half_printed : (p : Plan) (e : Failed) (w : State) → PlansFile m log (Ok p) s t → Writes Out (plan_text is_count m p) (Err e) t w → TriesPlan is_count model log (Err (stop.Given given.Fault)) old w
  half_printed p e w plans writes =
      let n : ℕ = writes.failed.0 in
      let here = both_only old s t reads judged in
      let faults : t.faults ≡ old.faults = plans.0 ∙ kept in
      let is : w ≡ record old { model = s.model; log = t.log; out = appended (take n (plan_text is_count m p)) old.out; faults = w.faults } =
      writes.failed.2 ∙ ap (λ (x : State). record x { out = appended (take n (plan_text is_count m p)) x.out; faults = w.faults }) here in
      subst (TriesPlan is_count model log (Err (stop.Given given.Fault)) old) (sym is) (record {
        only = refl;
        later = subst (λ k. k ≤ w.faults) faults writes.count.later;
        tried = (
          subst (λ k. Rose k w.faults) faults writes.count.failed,
          (λ calm model_there log_there. let ok = writes.calm (ap (λ (x : State). x.calm) here ∙ calm) in cc),
          inr (m, p, tells p plans, (n, writes.failed.1, refl)),
        );
      })

  abbrev Here : State
  Here = record old { model = s.model; log = t.log; faults = t.faults }

  here : t ≡ Here
  here = both_only old s t reads judged

  later : old.faults ≤ t.faults
  later = subst (λ k. k ≤ t.faults) kept judged.later

  pub not_told : (why : PlanStop) → PlansFile m log (Err why) s t → TriesPlan is_count model log (Err why) old t
  not_told (stop.Refused k at) plans = subst (TriesPlan is_count model log (Err (stop.Refused k at)) old) (sym here) (record { only = refl; later = later; tried = (refl, (m, deserved, files_as log (λ bytes. HasWrongLine m bytes k at) old s reads plans.0), far, log_read_behind log old s t reads plans.1) })
  not_told stop.TooLong plans = subst (TriesPlan is_count model log (Err stop.TooLong) old) (sym here) (record { only = refl; later = later; tried = (refl, (m, deserved, files_as log (λ bytes. HasNoEnd m (log_bytes bytes)) old s reads plans.0), far, log_read_behind log old s t reads plans.1) })
  not_told (stop.Given given.Fault) plans = subst (TriesPlan is_count model log (Err (stop.Given given.Fault)) old) (sym here) (record {
    only = refl;
    later = later;
    tried = (
      subst (λ k. Rose k t.faults) kept plans.rose,
      (λ calm model_there log_there. plans.calm (ap (λ (x : State). x.calm) reads.only ∙ calm) (log_there.0, ap (λ (x : State). x.files) reads.only ∙ log_there.1, log_there.2)),
      inl refl,
    );
  })
  not_told (stop.Given given.NoMemory) plans = subst (TriesPlan is_count model log (Err (stop.Given given.NoMemory)) old) (sym here) (record { only = refl; later = later; tried = refl })
  not_told (stop.Given (given.ModelRefused e)) plans = absurd plans
  not_told (stop.Given (given.ScheduleRefused e)) plans = absurd plans

  pub not_written : (w : State) → w ≡ t → TriesPlan is_count model log (Err (stop.Given given.NoMemory)) old w
  not_written w is = subst (TriesPlan is_count model log (Err (stop.Given given.NoMemory)) old) (sym (is ∙ here)) (record { only = refl; later = later; tried = refl })

  -- only a front part of it was printed, or nothing
  pub told_short : (p : Plan) (why : PlanStop) (w : State) → PlansFile m log (Ok p) s t → PrintsText (plan_text is_count m p) (Err why) t w → TriesPlan is_count model log (Err why) old w
  told_short p (stop.Given given.Fault) w plans prints = half_printed p prints.0 w plans prints.1
  told_short p (stop.Given given.NoMemory) w plans prints = not_written w prints
  told_short p (stop.Given (given.ModelRefused e)) w plans prints = absurd prints
  told_short p (stop.Given (given.ScheduleRefused e)) w plans prints = absurd prints
  told_short p (stop.Refused k at) w plans prints = absurd prints
  told_short p stop.TooLong w plans prints = absurd prints
