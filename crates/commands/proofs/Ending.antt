-- The promise of a command, by how it ended.
use Rattle.std.specs.Prelude.{⊤}
use Rattle.std.proofs.Common.{◌≡◌, ◌≤◌, ◌+◌, true, false, Option, Some, None, Ok, Err, refl, sym, ap, subst, ◌∙◌, inl, inr, arith}
use Rattle.sched_base.specs.State.{State, Place}
use Rattle.sched_base.specs.Calls.{Rose, ReadsAtMost, AppendedFrom}
use Rattle.sched_model.specs.declared.types.Answer.{Answer}
use Rattle.sched_model.specs.declared.types.Answer.TheVariants as answer
use Rattle.cpo_text.specs.declared.text.Refusal.{Refusal}
use Rattle.command_line.specs.declared.shop.Shop.{Shop}
use Rattle.restart_rules.specs.Restarts.{Limits}
use Rattle.command_line.specs.Commands.{Command, Solve, Check, Verify, Show, Gen, Trial, Bound, Core}
use Rattle.textline.specs.Lines.{Bytes}
use Rattle.logtext.specs.Judgement.{log_limit}
use Rattle.given_files.specs.declared.stop.GivenStop.TheVariants as given
use Rattle.given_files.specs.Files.{HasFile, file_of, schedule_limit, ReadsModel, ReadsSchedule}
use Rattle.given_files.specs.Told.{Reports, fault_line, memory_line, refusal_line, unfit_line}
use Rattle.given_files.specs.code.Reading.{OnlyReads}
use Rattle.given_files.specs.laws.Endings.{tells_on}
use Rattle.commands.specs.declared.ended.Ended.{Ended}
use Rattle.commands.specs.declared.ended.Ended.TheVariants as end
use Rattle.commands.specs.declared.stop.RunStop.{RunStop}
use Rattle.commands.specs.declared.stop.RunStop.TheVariants as stop
use Rattle.sched_text.specs.Canonical.{canonical_text}
use Rattle.log_reports.specs.declared.stop.LogStop.{LogStop}
use Rattle.log_reports.specs.declared.stop.LogStop.TheVariants as why
use Rattle.log_reports.specs.Reports.{Report, PrintsReport, PrintsPart, ReadsLog, check_report, bound_report, core_report}
use Rattle.log_reports.specs.code.Tries.{TriesReport}
use Rattle.commands.specs.code.Stops.{stop_of_report}
use Rattle.commands.specs.Ended.{is_success}
use Rattle.commands.specs.Told.{log_line, too_long_line}
use Rattle.commands.specs.Runs.{Source, SourceDeserves, HasSource, ReadsSource, IsUnread, SolvePromise, shop_text, told_text, RunPromise, NeverRefused, EveryRun, CommandPromise, HasFiles, RefusesModel, ShowsPart, LogPromise, HoldsBegunLog, CutShort, AnswerPromise, ReportEnds, ReportPromise, ReadsBoth, ReadsFiles, ending_of, SolveEnds, VerifiesPart}
use Rattle.commands.specs.VerifyText.{verify_text}
use Rattle.commands.specs.Runs.Source.{file, generated}
use Rattle.commands.specs.Runs.CutShort.{before_log, in_log, in_answer}
use Rattle.cpo_elab.specs.Answers.Answer.{Refused}
use Rattle.commands.specs.Runs.RefusesLog.{at_line, too_long}
use Rattle.commands.proofs.Solved.{unread_on}
use Rattle.commands.specs.code.Tries.{TriesSolve, TriesVerify, TriesShow, TriesGen, EndsStopped}

-- What every run promises, by its ending.

not_so : (e f : Ended) → is_success f ≡ false → is_success e ≡ true → e ≡ f → ⊥
not_so e f other won is = let both : true ≡ false = sym won ∙ ap is_success is ∙ other in cc

succeeded : (k : Command) (e : Ended) (old new : State) → is_success e ≡ true → new.faults ≡ old.faults → new.err ≡ old.err → EveryRun (Some k) e old new
succeeded k e old new won kept err = record {
  later = subst (λ n. old.faults ≤ n) (sym kept) (omega arith);
  usage = λ enough. (λ h. absurd (not_so e end.Usage refl won h), λ h. cc);
  unopened = λ h. absurd (not_so e end.Usage refl won h);
  fault = λ h. absurd (not_so e end.Fault refl won h);
  calm = λ calm there h. not_so e end.Fault refl won h;
  kept = λ h. (kept, err);
  quiet = λ other h. let both : true ≡ false = sym won ∙ other in cc;
  fault_told = λ h. absurd (not_so e end.Fault refl won h);
  memory_told = λ h. absurd (not_so e end.NoMemory refl won h);
}

faulted : (k : Command) (old s new : State) → s.err ≡ old.err → old.faults ≤ s.faults → Rose old.faults s.faults → (old.calm ≡ true → HasFiles (Some k) old → ⊥) → Reports fault_line s new → EveryRun (Some k) end.Fault old new
faulted k old s new err later rose calm reports = record {
  later = omega (arith, later, reports.later);
  usage = λ enough. (λ h. cc, λ h. cc);
  unopened = λ h. cc;
  fault = λ h. omega (arith, rose, reports.later);
  calm = λ is there h. calm is there;
  kept = λ h. cc;
  quiet = λ h other. absurd (other refl);
  fault_told = λ h. tells_on fault_line old s new err later reports;
  memory_told = λ h. cc;
}

no_memory : (k : Command) (old s new : State) → s.err ≡ old.err → s.out ≡ old.out → old.faults ≤ s.faults → Reports memory_line s new → EveryRun (Some k) end.NoMemory old new
no_memory k old s new err out later reports = record {
  later = omega (arith, later, reports.later);
  usage = λ enough. (λ h. cc, λ h. cc);
  unopened = λ h. cc;
  fault = λ h. cc;
  calm = λ is there h. cc;
  kept = λ h. cc;
  quiet = λ h other. ap (λ (x : State). x.out) reports.only ∙ out;
  fault_told = λ h. cc;
  memory_told = λ h. tells_on memory_line old s new err later reports;
}

model_refused : (k : Command) (text : Bytes) (old s new : State) → s.out ≡ old.out → old.faults ≤ s.faults → Reports text s new → EveryRun (Some k) end.ModelRefused old new
model_refused k text old s new out later reports = record {
  later = omega (arith, later, reports.later);
  usage = λ enough. (λ h. cc, λ h. cc);
  unopened = λ h. cc;
  fault = λ h. cc;
  calm = λ is there h. cc;
  kept = λ h. cc;
  quiet = λ h other. ap (λ (x : State). x.out) reports.only ∙ out;
  fault_told = λ h. cc;
  memory_told = λ h. cc;
}

log_refused : (k : Command) (text : Bytes) (old s new : State) → s.out ≡ old.out → old.faults ≤ s.faults → Reports text s new → EveryRun (Some k) end.LogRefused old new
log_refused k text old s new out later reports = record {
  later = omega (arith, later, reports.later);
  usage = λ enough. (λ h. cc, λ h. cc);
  unopened = λ h. cc;
  fault = λ h. cc;
  calm = λ is there h. cc;
  kept = λ h. cc;
  quiet = λ h other. ap (λ (x : State). x.out) reports.only ∙ out;
  fault_told = λ h. cc;
  memory_told = λ h. cc;
}

schedule_refused : (k : Command) (text : Bytes) (old s new : State) → s.out ≡ old.out → old.faults ≤ s.faults → Reports text s new → EveryRun (Some k) end.ScheduleRefused old new
schedule_refused k text old s new out later reports = record {
  later = omega (arith, later, reports.later);
  usage = λ enough. (λ h. cc, λ h. cc);
  unopened = λ h. cc;
  fault = λ h. cc;
  calm = λ is there h. cc;
  kept = λ h. cc;
  quiet = λ h other. ap (λ (x : State). x.out) reports.only ∙ out;
  fault_told = λ h. cc;
  memory_told = λ h. cc;
}

-- What only some of a desk has changed, after the line too.

abbrev pub OnlySolves : State → State → Type 0
OnlySolves old new = new ≡ record old { model = new.model; out = new.out; err = new.err; logged = new.logged; created = new.created; logs = new.logs; faults = new.faults }

abbrev pub OnlyChecks : State → State → Type 0
OnlyChecks old new = new ≡ record old { model = new.model; log = new.log; out = new.out; err = new.err; faults = new.faults }

abbrev pub OnlyRefuses : State → State → Type 0
OnlyRefuses old new = new ≡ record old { model = new.model; err = new.err; faults = new.faults }

solve_only : (text : Bytes) (old s new : State) → s ≡ record old { model = s.model; out = s.out; logged = s.logged; created = s.created; logs = s.logs; faults = s.faults } → Reports text s new → OnlySolves old new
solve_only text old s new only reports =
    subst (OnlySolves old) (sym (reports.only ∙ ap (λ (x : State). record x { err = new.err; faults = new.faults }) only)) refl

check_only : (text : Bytes) (old s new : State) → s ≡ record old { model = s.model; log = s.log; out = s.out; faults = s.faults } → Reports text s new → OnlyChecks old new
check_only text old s new only reports =
    subst (OnlyChecks old) (sym (reports.only ∙ ap (λ (x : State). record x { err = new.err; faults = new.faults }) only)) refl

refused_only : (text : Bytes) (old s new : State) → OnlyReads old s → Reports text s new → OnlyRefuses old new
refused_only text old s new reads reports =
    subst (OnlyRefuses old) (sym (reports.only ∙ ap (λ (x : State). record x { err = new.err; faults = new.faults }) reads.only)) refl

cut_told : (model : Source) (log : Bytes) (limits : Limits) (text : Bytes) (old s new : State) → CutShort model log limits old s → Reports text s new → CutShort model log limits old new
cut_told model log limits text old s new (before_log only) reports =
    before_log (subst (OnlyRefuses old) (sym (reports.only ∙ ap (λ (x : State). record x { err = new.err; faults = new.faults }) only)) refl)
cut_told model log limits text old s new (in_log m deserved created holds out) reports =
    in_log m deserved (ap (λ (x : State). x.created) reports.only ∙ created.0, ap (λ (x : State). x.logs) reports.only ∙ created.1) (subst (λ b. HoldsBegunLog m limits old.logged b) (sym (ap (λ (x : State). x.logged) reports.only)) holds)
    (ap (λ (x : State). x.out) reports.only ∙ out)
cut_told model log limits text old s new (in_answer m solved deserved answer created written part) reports =
    in_answer m solved deserved answer (ap (λ (x : State). x.created) reports.only ∙ created.0, ap (λ (x : State). x.logs) reports.only ∙ created.1) (subst (λ b. LogPromise m limits solved old.logged b) (sym (ap (λ (x : State). x.logged) reports.only)) written)
    (subst (λ b. AppendedFrom (told_text model m solved) old.out b) (sym (ap (λ (x : State). x.out) reports.only)) part)

-- how far the files were read, after the line too
model_read : (model text : Bytes) (old s new : State) → ReadsModel model old s → Reports text s new → ReadsModel model old new
model_read model text old s new far reports = subst (λ (p : Place). ReadsAtMost 16777217 (file_of old model) p.left) (sym (ap (λ (x : State). x.model) reports.only)) far

log_read : (log text : Bytes) (old s new : State) → ReadsLog log old s → Reports text s new → ReadsLog log old new
log_read log text old s new far reports = subst (λ (p : Place). ReadsAtMost (log_limit + 1) (file_of old log) p.left) (sym (ap (λ (x : State). x.log) reports.only)) far

refuses : (model : Source) (old s new : State) → OnlyReads old s → (r : Refusal) → SourceDeserves old model (Refused r) → Reports (refusal_line r) s new → RefusesModel model old new
refuses model old s new reads r due reports = record {
  refusal = r;
  due = due;
  told = tells_on (refusal_line r) old s new (ap (λ (x : State). x.err) reads.only) reads.later reports;
  only = refused_only (refusal_line r) old s new reads reports;
}

-- `solve` and `trial`.

-- the command that solves a model from there
abbrev pub solving : Source → Bytes → Limits → Command
solving (file model) log limits = Solve model log limits.nodes limits.restarts
solving (generated shop) log limits = Trial shop log limits.nodes limits.restarts

source_there : (model : Source) (log : Bytes) (limits : Limits) (old : State) → HasFiles (Some (solving model log limits)) old → HasSource old model
source_there (file name) log limits old there = there
source_there (generated shop) log limits old there = tt

-- a generated text isn't refused
abbrev pub IsTaken : Source → Ended → Type 0
IsTaken (file name) e = ⊤
IsTaken (generated shop) e = NeverRefused e

taken : (model : Source) (e : Ended) → NeverRefused e → IsTaken model e
taken (file name) e never = tt
taken (generated shop) e never = never

success_taken : (model : Source) (e : Ended) → is_success e ≡ true → IsTaken model e
success_taken model end.Done won = taken model end.Done (λ is. cc)
success_taken model end.Infeasible won = taken model end.Infeasible (λ is. cc)
success_taken model end.Unfinished won = taken model end.Unfinished (λ is. cc)
success_taken model end.Accepted won = taken model end.Accepted (λ is. cc)
success_taken model end.Usage won = cc
success_taken model end.ModelRefused won = absurd cc
success_taken model end.Fault won = absurd cc
success_taken model end.LogRefused won = cc
success_taken model end.ScheduleRefused won = cc
success_taken model end.NoMemory won = absurd cc

as_run : (model : Source) (log : Bytes) (limits : Limits) (e : Ended) (old new : State) → EveryRun (Some (solving model log limits)) e old new → SolvePromise model log limits e old new → IsTaken model e
    → ((e ≡ end.Fault → ⊥) → (e ≡ end.NoMemory → ⊥) → ReadsSource model old new) → RunPromise (Some (solving model log limits)) e old new
as_run (file name) log limits e old new every promise is reads = record { every = every; its_own = promise; reads = reads }
as_run (generated shop) log limits e old new every promise never reads = record { every = every; its_own = (promise, never); reads = λ no_fault enough. tt }

source_read : (model : Source) (text : Bytes) (old s new : State) → ReadsSource model old s → Reports text s new → ReadsSource model old new
source_read (file name) text old s new far reports = model_read name text old s new far reports
source_read (generated shop) text old s new far reports = tt

unread_told : (model : Source) (text : Bytes) (old s new : State) → IsUnread model old s → Reports text s new → IsUnread model old new
unread_told model text old s new unread reports = unread_on model old s new unread (ap (λ (x : State). x.model) reports.only)

never_accepted : (a : Answer) → end.Accepted ≡ ending_of a → ⊥
never_accepted (answer.Optimal v a) is = cc
never_accepted (answer.Feasible a) is = cc
never_accepted answer.Infeasible is = cc
never_accepted (answer.Unfinished found) is = cc

solve_ends : (model : Source) (log : Bytes) (limits : Limits) (e : Ended) (old new : State) → is_success e ≡ true → AnswerPromise model log limits e old new → SolveEnds model log limits e old new
solve_ends model log limits end.Done old new won promise = promise
solve_ends model log limits end.Infeasible old new won promise = promise
solve_ends model log limits end.Unfinished old new won promise = promise
solve_ends model log limits end.Accepted old new won promise = never_accepted promise.solved.answer promise.ending
solve_ends model log limits end.Usage old new won promise = cc
solve_ends model log limits end.ModelRefused old new won promise = absurd cc
solve_ends model log limits end.Fault old new won promise = absurd cc
solve_ends model log limits end.LogRefused old new won promise = cc
solve_ends model log limits end.ScheduleRefused old new won promise = cc
solve_ends model log limits end.NoMemory old new won promise = absurd cc

pub solved : (model : Source) (log : Bytes) (limits : Limits) (e : Ended) (old new : State) → TriesSolve model log limits (Ok e) old new → RunPromise (Some (solving model log limits)) e old new
solved model log limits e old new tries = as_run model log limits e old new (succeeded (solving model log limits) e old new tries.tried.1 tries.tried.0 (ap (λ (x : State). x.err) tries.only)) (record {
  only = subst (OnlySolves old) (sym tries.only) refl;
  unread = tries.unread;
  ends = solve_ends model log limits e old new tries.tried.1 tries.tried.2;
}) (success_taken model e tries.tried.1) (λ no_fault enough. tries.tried.3)

solve_no_memory : (model : Source) (log : Bytes) (limits : Limits) (old s new : State) → s ≡ record old { model = s.model; out = s.out; logged = s.logged; created = s.created; logs = s.logs; faults = s.faults } → IsUnread model old s → old.faults ≤ s.faults → s.out ≡ old.out → CutShort model log limits old s
    → Reports memory_line s new → RunPromise (Some (solving model log limits)) end.NoMemory old new
solve_no_memory model log limits old s new only unread later out cut reports = as_run model log limits end.NoMemory old new (no_memory (solving model log limits) old s new (ap (λ (x : State). x.err) only) out later reports) (record {
  only = solve_only memory_line old s new only reports;
  unread = unread_told model memory_line old s new unread reports;
  ends = cut_told model log limits memory_line old s new cut reports;
}) (taken model end.NoMemory (λ is. cc)) (λ no_fault enough. absurd (enough refl))

pub solve_stopped : (model : Source) (log : Bytes) (limits : Limits) (e : RunStop) (ended : Ended) (old s new : State) → ((r : Refusal) → SourceDeserves old model (Refused r) → IsTaken model end.ModelRefused) → TriesSolve model log limits (Err e) old s → EndsStopped e ended s new → RunPromise (Some (solving model log limits)) ended old new
solve_stopped model log limits (stop.Given given.Fault) ended old s new due tries ends = subst (λ x. RunPromise (Some (solving model log limits)) x old new) (sym ends.0)
    (as_run model log limits end.Fault old new
    (faulted (solving model log limits) old s new (ap (λ (x : State). x.err) tries.only) tries.later tries.tried.0 (λ calm there. tries.tried.1 calm (source_there model log limits old there)) ends.1) (record {
      only = solve_only fault_line old s new tries.only ends.1;
      unread = unread_told model fault_line old s new tries.unread ends.1;
      ends = cut_told model log limits fault_line old s new tries.tried.2 ends.1;
    }) (taken model end.Fault (λ is. cc)) (λ no_fault enough. absurd (no_fault refl)))
solve_stopped model log limits (stop.Given given.NoMemory) ended old s new due tries ends = subst (λ x. RunPromise (Some (solving model log limits)) x old new) (sym ends.0)
    (solve_no_memory model log limits old s new tries.only tries.unread tries.later tries.tried.0 tries.tried.1 ends.1)
solve_stopped model log limits (stop.Given (given.ModelRefused r)) ended old s new due tries (inl ends) =
    let reads = tries.tried.0 in
    subst (λ x. RunPromise (Some (solving model log limits)) x old new) (sym ends.0)
    (as_run model log limits end.ModelRefused old new
    (model_refused (solving model log limits) (refusal_line r) old s new (ap (λ (x : State). x.out) reads.only) reads.later ends.1) (record {
      only = solve_only (refusal_line r) old s new tries.only ends.1;
      unread = unread_told model (refusal_line r) old s new tries.unread ends.1;
      ends = refuses model old s new reads r tries.tried.2 ends.1;
    }) (due r tries.tried.2) (λ no_fault enough. source_read model (refusal_line r) old s new tries.tried.3 ends.1))
solve_stopped model log limits (stop.Given (given.ModelRefused r)) ended old s new due tries (inr ends) =
    let reads = tries.tried.0 in
    subst (λ x. RunPromise (Some (solving model log limits)) x old new) (sym ends.0)
    (solve_no_memory model log limits old s new tries.only tries.unread tries.later (ap (λ (x : State). x.out) reads.only) (before_log (subst (OnlyRefuses old) (sym reads.only) refl)) ends.1)
solve_stopped model log limits (stop.LogRefused k) ended old s new due tries ends = absurd tries.tried
solve_stopped model log limits stop.LogTooLong ended old s new due tries ends = absurd tries.tried
solve_stopped model log limits (stop.Given (given.ScheduleRefused r)) ended old s new due tries ends = absurd tries.tried

-- `check`, `bound` and `core`.

-- the command reports this of a log, and a success ends so
pub record IsReport {V : Type 0} (r : Report V) (success : Ended) (model log : Bytes) (k : Command) : Type 0 where
  pub won : is_success success ≡ true
  pub files : (s : State) → HasFiles (Some k) s → HasFile s model × HasFile s log
  pub promise : (e : Ended) (old new : State) → ReportPromise r success model log e old new → CommandPromise (Some k) e old new
  pub reads : (e : Ended) (old new : State) → ReadsBoth model log e old new → ReadsFiles (Some k) e old new

module _ {V : Type 0} (r : Report V) (success : Ended) (model log : Bytes) (k : Command) (is : IsReport r success model log k) where
  run_of : (e : Ended) (old new : State) → EveryRun (Some k) e old new → ReportPromise r success model log e old new → ((e ≡ end.Fault → ⊥) → (e ≡ end.NoMemory → ⊥) → ReadsBoth model log e old new) → RunPromise (Some k) e old new
  run_of e old new every promise reads = record { every = every; its_own = is.promise e old new promise; reads = λ no_fault enough. is.reads e old new (reads no_fault enough) }

  report_ends : (e : Ended) (old new : State) → is_success e ≡ true → e ≡ success → PrintsReport r model log old new → ReportEnds r success model log e old new
  report_ends end.Done old new won so prints = (so, prints)
  report_ends end.Accepted old new won so prints = (so, prints)
  report_ends end.Infeasible old new won so prints = (so, prints)
  report_ends end.Unfinished old new won so prints = (so, prints)
  report_ends end.Usage old new won so prints = (so, prints)
  report_ends end.ModelRefused old new won so prints = absurd cc
  report_ends end.Fault old new won so prints = absurd cc
  report_ends end.LogRefused old new won so prints = absurd cc
  report_ends end.ScheduleRefused old new won so prints = (so, prints)
  report_ends end.NoMemory old new won so prints = absurd cc

  pub reported : (u : Unit {0}) (old new : State) → TriesReport r model log (Ok u) old new → RunPromise (Some k) success old new
  reported u old new tries = run_of success old new (succeeded k success old new is.won tries.tried.0 (ap (λ (x : State). x.err) tries.only)) (record {
    only = subst (OnlyChecks old) (sym tries.only) refl;
    ends = report_ends success old new is.won refl tries.tried.1;
  }) (λ no_fault enough. (tries.tried.2, λ served. tries.tried.3))

  part_told : (text : Bytes) (old s new : State) → PrintsPart r model log old s → Reports text s new → PrintsPart r model log old new
  part_told text old s new (inl out) reports = inl (ap (λ (x : State). x.out) reports.only ∙ out)
  part_told text old s new (inr part) reports = inr (part.0, part.1, subst (λ b. AppendedFrom (r.text part.1.m part.0) old.out b) (sym (ap (λ (x : State). x.out) reports.only)) part.2)

  report_no_memory : (old s new : State) → s ≡ record old { model = s.model; log = s.log; out = s.out; faults = s.faults } → old.faults ≤ s.faults → s.out ≡ old.out → Reports memory_line s new → RunPromise (Some k) end.NoMemory old new
  report_no_memory old s new only later out reports = run_of end.NoMemory old new (no_memory k old s new (ap (λ (x : State). x.err) only) out later reports) (record {
    only = check_only memory_line old s new only reports;
    ends = ap (λ (x : State). x.out) reports.only ∙ out;
  }) (λ no_fault enough. absurd (enough refl))

  pub report_stopped : (e : LogStop) (ended : Ended) (old s new : State) → TriesReport r model log (Err e) old s → EndsStopped (stop_of_report e) ended s new → RunPromise (Some k) ended old new
  report_stopped (why.Given given.Fault) ended old s new tries ends = subst (λ x. RunPromise (Some k) x old new) (sym ends.0)
      (run_of end.Fault old new (faulted k old s new (ap (λ (x : State). x.err) tries.only) tries.later tries.tried.0 (λ calm there. let both = is.files old there in tries.tried.1 calm both.0 both.1) ends.1) (record {
        only = check_only fault_line old s new tries.only ends.1;
        ends = part_told fault_line old s new tries.tried.2 ends.1;
      }) (λ no_fault enough. absurd (no_fault refl)))
  report_stopped (why.Given given.NoMemory) ended old s new tries ends = subst (λ x. RunPromise (Some k) x old new) (sym ends.0) (report_no_memory old s new tries.only tries.later tries.tried ends.1)
  report_stopped (why.Given (given.ModelRefused e)) ended old s new tries (inl ends) =
      let reads = tries.tried.0 in
      subst (λ x. RunPromise (Some k) x old new) (sym ends.0) (run_of end.ModelRefused old new (model_refused k (refusal_line e) old s new (ap (λ (x : State). x.out) reads.only) reads.later ends.1) (record {
        only = check_only (refusal_line e) old s new tries.only ends.1;
        ends = refuses (file model) old s new reads e tries.tried.2 ends.1;
      }) (λ no_fault enough. (model_read model (refusal_line e) old s new tries.tried.3 ends.1, λ served. absurd (served refl))))
  report_stopped (why.Given (given.ModelRefused e)) ended old s new tries (inr ends) = subst (λ x. RunPromise (Some k) x old new) (sym ends.0)
      (report_no_memory old s new tries.only tries.later (ap (λ (x : State). x.out) tries.tried.0.only) ends.1)
  report_stopped (why.Refused n) ended old s new tries (inl ends) = subst (λ x. RunPromise (Some k) x old new) (sym ends.0)
      (run_of end.LogRefused old new (log_refused k (log_line n) old s new tries.tried.0 tries.later ends.1) (record {
        only = check_only (log_line n) old s new tries.only ends.1;
        ends = at_line n tries.tried.1 (tells_on (log_line n) old s new (ap (λ (x : State). x.err) tries.only) tries.later ends.1);
      }) (λ no_fault enough. (model_read model (log_line n) old s new tries.tried.2 ends.1, λ served. log_read log (log_line n) old s new tries.tried.3 ends.1)))
  report_stopped (why.Refused n) ended old s new tries (inr ends) = subst (λ x. RunPromise (Some k) x old new) (sym ends.0) (report_no_memory old s new tries.only tries.later tries.tried.0 ends.1)
  report_stopped why.TooLong ended old s new tries ends = subst (λ x. RunPromise (Some k) x old new) (sym ends.0)
      (run_of end.LogRefused old new (log_refused k too_long_line old s new tries.tried.0 tries.later ends.1) (record {
        only = check_only too_long_line old s new tries.only ends.1;
        ends = too_long tries.tried.1 (tells_on too_long_line old s new (ap (λ (x : State). x.err) tries.only) tries.later ends.1);
      }) (λ no_fault enough. (model_read model too_long_line old s new tries.tried.2 ends.1, λ served. log_read log too_long_line old s new tries.tried.3 ends.1)))
  report_stopped (why.Given (given.ScheduleRefused e)) ended old s new tries ends = absurd tries.tried

pub check_reports : (model log : Bytes) → IsReport check_report end.Accepted model log (Check model log)
check_reports model log = record { won = refl; files = λ s there. there; promise = λ e old new promise. promise; reads = λ e old new reads. reads }

pub bound_reports : (model log : Bytes) → IsReport bound_report end.Done model log (Bound model log)
bound_reports model log = record { won = refl; files = λ s there. there; promise = λ e old new promise. promise; reads = λ e old new reads. reads }

pub core_reports : (model log : Bytes) → IsReport core_report end.Done model log (Core model log)
core_reports model log = record { won = refl; files = λ s there. there; promise = λ e old new promise. promise; reads = λ e old new reads. reads }

-- `verify`.

abbrev pub OnlyVerifies : State → State → Type 0
OnlyVerifies old new = new ≡ record old { model = new.model; schedule = new.schedule; out = new.out; err = new.err; faults = new.faults }

verify_only : (text : Bytes) (old s new : State) → s ≡ record old { model = s.model; schedule = s.schedule; out = s.out; faults = s.faults } → Reports text s new → OnlyVerifies old new
verify_only text old s new only reports =
    subst (OnlyVerifies old) (sym (reports.only ∙ ap (λ (x : State). record x { err = new.err; faults = new.faults }) only)) refl

schedule_read : (schedule text : Bytes) (old s new : State) → ReadsSchedule schedule old s → Reports text s new → ReadsSchedule schedule old new
schedule_read schedule text old s new far reports = subst (λ (p : Place). ReadsAtMost (schedule_limit + 1) (file_of old schedule) p.left) (sym (ap (λ (x : State). x.schedule) reports.only)) far

verified_told : (model schedule text : Bytes) (old s new : State) → VerifiesPart model schedule old s → Reports text s new → VerifiesPart model schedule old new
verified_told model schedule text old s new (inl out) reports = inl (ap (λ (x : State). x.out) reports.only ∙ out)
verified_told model schedule text old s new (inr part) reports = inr (part.0, part.1, part.2, subst (λ b. AppendedFrom (verify_text part.0 part.1) old.out b) (sym (ap (λ (x : State). x.out) reports.only)) part.3)

pub verified : (model schedule : Bytes) (e : Ended) (old new : State) → TriesVerify model schedule (Ok e) old new → RunPromise (Some (Verify model schedule)) e old new
verified model schedule e old new tries = subst (λ x. RunPromise (Some (Verify model schedule)) x old new) (sym tries.tried.1) (record {
  every = succeeded (Verify model schedule) end.Done old new refl tries.tried.0 (ap (λ (x : State). x.err) tries.only);
  its_own = record { only = subst (OnlyVerifies old) (sym tries.only) refl; ends = tries.tried.2 };
  reads = λ no_fault enough. (tries.tried.3, λ read. tries.tried.4);
})

verify_no_memory : (model schedule : Bytes) (old s new : State) → s ≡ record old { model = s.model; schedule = s.schedule; out = s.out; faults = s.faults } → old.faults ≤ s.faults → s.out ≡ old.out
    → Reports memory_line s new → RunPromise (Some (Verify model schedule)) end.NoMemory old new
verify_no_memory model schedule old s new only later out reports = record {
  every = no_memory (Verify model schedule) old s new (ap (λ (x : State). x.err) only) out later reports;
  its_own = record { only = verify_only memory_line old s new only reports; ends = ap (λ (x : State). x.out) reports.only ∙ out };
  reads = λ no_fault enough. absurd (enough refl);
}

pub verify_stopped : (model schedule : Bytes) (e : RunStop) (ended : Ended) (old s new : State) → TriesVerify model schedule (Err e) old s → EndsStopped e ended s new → RunPromise (Some (Verify model schedule)) ended old new
verify_stopped model schedule (stop.Given given.Fault) ended old s new tries ends = subst (λ x. RunPromise (Some (Verify model schedule)) x old new) (sym ends.0) (record {
  every = faulted (Verify model schedule) old s new (ap (λ (x : State). x.err) tries.only) tries.later tries.tried.0 (λ calm there. tries.tried.1 calm there.0 there.1) ends.1;
  its_own = record { only = verify_only fault_line old s new tries.only ends.1; ends = verified_told model schedule fault_line old s new tries.tried.2 ends.1 };
  reads = λ no_fault enough. absurd (no_fault refl);
})
verify_stopped model schedule (stop.Given given.NoMemory) ended old s new tries ends = subst (λ x. RunPromise (Some (Verify model schedule)) x old new) (sym ends.0)
    (verify_no_memory model schedule old s new tries.only tries.later tries.tried ends.1)
verify_stopped model schedule (stop.Given (given.ModelRefused r)) ended old s new tries (inl ends) =
    let reads = tries.tried.0 in
    subst (λ x. RunPromise (Some (Verify model schedule)) x old new) (sym ends.0) (record {
      every = model_refused (Verify model schedule) (refusal_line r) old s new (ap (λ (x : State). x.out) reads.only) reads.later ends.1;
      its_own = record { only = verify_only (refusal_line r) old s new tries.only ends.1; ends = refuses (file model) old s new reads r tries.tried.2 ends.1 };
      reads = λ no_fault enough. (model_read model (refusal_line r) old s new tries.tried.3 ends.1, λ read. absurd (read refl));
    })
verify_stopped model schedule (stop.Given (given.ModelRefused r)) ended old s new tries (inr ends) = subst (λ x. RunPromise (Some (Verify model schedule)) x old new) (sym ends.0)
    (verify_no_memory model schedule old s new tries.only tries.later (ap (λ (x : State). x.out) tries.tried.0.only) ends.1)
verify_stopped model schedule (stop.Given (given.ScheduleRefused r)) ended old s new tries (inl ends) = subst (λ x. RunPromise (Some (Verify model schedule)) x old new) (sym ends.0) (record {
  every = schedule_refused (Verify model schedule) (unfit_line r) old s new tries.tried.0 tries.later ends.1;
  its_own = record {
    only = verify_only (unfit_line r) old s new tries.only ends.1;
    ends = record { refusal = r; due = tries.tried.1; told = tells_on (unfit_line r) old s new (ap (λ (x : State). x.err) tries.only) tries.later ends.1 };
  };
  reads = λ no_fault enough. (model_read model (unfit_line r) old s new tries.tried.2 ends.1, λ read. schedule_read schedule (unfit_line r) old s new tries.tried.3 ends.1);
})
verify_stopped model schedule (stop.Given (given.ScheduleRefused r)) ended old s new tries (inr ends) = subst (λ x. RunPromise (Some (Verify model schedule)) x old new) (sym ends.0)
    (verify_no_memory model schedule old s new tries.only tries.later tries.tried.0 ends.1)
verify_stopped model schedule (stop.LogRefused k) ended old s new tries ends = absurd tries.tried
verify_stopped model schedule stop.LogTooLong ended old s new tries ends = absurd tries.tried

-- `show`.

abbrev pub OnlyShows : State → State → Type 0
OnlyShows old new = new ≡ record old { model = new.model; out = new.out; err = new.err; faults = new.faults }

show_only : (text : Bytes) (old s new : State) → s ≡ record old { model = s.model; out = s.out; faults = s.faults } → Reports text s new → OnlyShows old new
show_only text old s new only reports =
    subst (OnlyShows old) (sym (reports.only ∙ ap (λ (x : State). record x { err = new.err; faults = new.faults }) only)) refl

shown_told : (model text : Bytes) (old s new : State) → ShowsPart model old s → Reports text s new → ShowsPart model old new
shown_told model text old s new (inl out) reports = inl (ap (λ (x : State). x.out) reports.only ∙ out)
shown_told model text old s new (inr part) reports = inr (part.0, part.1, subst (λ b. AppendedFrom (canonical_text part.0) old.out b) (sym (ap (λ (x : State). x.out) reports.only)) part.2)

pub shown : (model : Bytes) (e : Ended) (old new : State) → TriesShow model (Ok e) old new → RunPromise (Some (Show model)) e old new
shown model e old new tries = subst (λ x. RunPromise (Some (Show model)) x old new) (sym tries.tried.1) (record {
  every = succeeded (Show model) end.Done old new refl tries.tried.0 (ap (λ (x : State). x.err) tries.only);
  its_own = record { only = subst (OnlyShows old) (sym tries.only) refl; ends = tries.tried.2 };
  reads = λ no_fault enough. tries.tried.3;
})

show_no_memory : (model : Bytes) (old s new : State) → s ≡ record old { model = s.model; out = s.out; faults = s.faults } → old.faults ≤ s.faults → s.out ≡ old.out
    → Reports memory_line s new → RunPromise (Some (Show model)) end.NoMemory old new
show_no_memory model old s new only later out reports = record {
  every = no_memory (Show model) old s new (ap (λ (x : State). x.err) only) out later reports;
  its_own = record { only = show_only memory_line old s new only reports; ends = ap (λ (x : State). x.out) reports.only ∙ out };
  reads = λ no_fault enough. absurd (enough refl);
}

pub show_stopped : (model : Bytes) (e : RunStop) (ended : Ended) (old s new : State) → TriesShow model (Err e) old s → EndsStopped e ended s new → RunPromise (Some (Show model)) ended old new
show_stopped model (stop.Given given.Fault) ended old s new tries ends = subst (λ x. RunPromise (Some (Show model)) x old new) (sym ends.0) (record {
  every = faulted (Show model) old s new (ap (λ (x : State). x.err) tries.only) tries.later tries.tried.0.rose tries.tried.0.calm ends.1;
  its_own = record { only = show_only fault_line old s new tries.only ends.1; ends = shown_told model fault_line old s new tries.tried.1 ends.1 };
  reads = λ no_fault enough. absurd (no_fault refl);
})
show_stopped model (stop.Given given.NoMemory) ended old s new tries ends = subst (λ x. RunPromise (Some (Show model)) x old new) (sym ends.0)
    (show_no_memory model old s new tries.only tries.later tries.tried ends.1)
show_stopped model (stop.Given (given.ModelRefused r)) ended old s new tries (inl ends) =
    let reads = tries.tried.0 in
    subst (λ x. RunPromise (Some (Show model)) x old new) (sym ends.0) (record {
      every = model_refused (Show model) (refusal_line r) old s new (ap (λ (x : State). x.out) reads.only) reads.later ends.1;
      its_own = record { only = show_only (refusal_line r) old s new tries.only ends.1; ends = refuses (file model) old s new reads r tries.tried.2 ends.1 };
      reads = λ no_fault enough. model_read model (refusal_line r) old s new tries.tried.3 ends.1;
    })
show_stopped model (stop.Given (given.ModelRefused r)) ended old s new tries (inr ends) = subst (λ x. RunPromise (Some (Show model)) x old new) (sym ends.0)
    (show_no_memory model old s new tries.only tries.later (ap (λ (x : State). x.out) tries.tried.0.only) ends.1)
show_stopped model (stop.LogRefused k) ended old s new tries ends = absurd tries.tried
show_stopped model stop.LogTooLong ended old s new tries ends = absurd tries.tried
show_stopped model (stop.Given (given.ScheduleRefused r)) ended old s new tries ends = absurd tries.tried

-- `gen`.

abbrev pub OnlyPrints : State → State → Type 0
OnlyPrints old new = new ≡ record old { out = new.out; err = new.err; faults = new.faults }

prints_only : (text : Bytes) (old s new : State) → s ≡ record old { out = s.out; faults = s.faults } → Reports text s new → OnlyPrints old new
prints_only text old s new only reports =
    subst (OnlyPrints old) (sym (reports.only ∙ ap (λ (x : State). record x { err = new.err; faults = new.faults }) only)) refl

pub generated_shop : (shop : Shop) (e : Ended) (old new : State) → TriesGen shop (Ok e) old new → RunPromise (Some (Gen shop)) e old new
generated_shop shop e old new tries = subst (λ x. RunPromise (Some (Gen shop)) x old new) (sym tries.tried.1) (record {
  every = succeeded (Gen shop) end.Done old new refl tries.tried.0 (ap (λ (x : State). x.err) tries.only);
  its_own = record { only = subst (OnlyPrints old) (sym tries.only) refl; ends = tries.tried.2 };
  reads = λ no_fault enough. tt;
})

pub gen_stopped : (shop : Shop) (e : RunStop) (ended : Ended) (old s new : State) → TriesGen shop (Err e) old s → EndsStopped e ended s new → RunPromise (Some (Gen shop)) ended old new
gen_stopped shop (stop.Given given.Fault) ended old s new tries ends = subst (λ x. RunPromise (Some (Gen shop)) x old new) (sym ends.0) (record {
  every = faulted (Gen shop) old s new (ap (λ (x : State). x.err) tries.only) tries.later tries.tried.0 (λ calm there. tries.tried.1 calm) ends.1;
  its_own = record { only = prints_only fault_line old s new tries.only ends.1; ends = subst (λ b. AppendedFrom (shop_text shop) old.out b) (sym (ap (λ (x : State). x.out) ends.1.only)) tries.tried.2 };
  reads = λ no_fault enough. tt;
})
gen_stopped shop (stop.Given given.NoMemory) ended old s new tries ends = subst (λ x. RunPromise (Some (Gen shop)) x old new) (sym ends.0) (record {
  every = no_memory (Gen shop) old s new (ap (λ (x : State). x.err) tries.only) tries.tried tries.later ends.1;
  its_own = record { only = prints_only memory_line old s new tries.only ends.1; ends = ap (λ (x : State). x.out) ends.1.only ∙ tries.tried };
  reads = λ no_fault enough. tt;
})
gen_stopped shop (stop.Given (given.ModelRefused r)) ended old s new tries ends = absurd tries.tried
gen_stopped shop (stop.LogRefused k) ended old s new tries ends = absurd tries.tried
gen_stopped shop stop.LogTooLong ended old s new tries ends = absurd tries.tried
gen_stopped shop (stop.Given (given.ScheduleRefused r)) ended old s new tries ends = absurd tries.tried

-- Words that are no command, and words for which memory was refused.

unread : (command : Option Command) (old new : State) → Reports memory_line old new → EveryRun command end.NoMemory old new
unread command old new reports = record {
  later = reports.later;
  usage = λ enough. absurd (enough refl);
  unopened = λ h. cc;
  fault = λ h. cc;
  calm = λ is there h. cc;
  kept = λ h. cc;
  quiet = λ h other. ap (λ (x : State). x.out) reports.only;
  fault_told = λ h. cc;
  memory_told = λ h. reports.tells;
}

unreported : {V : Type 0} (r : Report V) (success : Ended) (model log : Bytes) (old new : State) → Reports memory_line old new → ReportPromise r success model log end.NoMemory old new
unreported r success model log old new reports = record {
  only = subst (OnlyChecks old) (sym reports.only) refl;
  ends = ap (λ (x : State). x.out) reports.only;
}

unread_own : (command : Option Command) (old new : State) → Reports memory_line old new → CommandPromise command end.NoMemory old new
unread_own None old new reports = reports
unread_own (Some (Solve model log nodes restarts)) old new reports = record {
  only = subst (OnlySolves old) (sym reports.only) refl;
  unread = tt;
  ends = before_log (subst (OnlyRefuses old) (sym reports.only) refl);
}
unread_own (Some (Check model log)) old new reports = unreported check_report end.Accepted model log old new reports
unread_own (Some (Verify model schedule)) old new reports = record {
  only = subst (OnlyVerifies old) (sym reports.only) refl;
  ends = ap (λ (x : State). x.out) reports.only;
}
unread_own (Some (Show model)) old new reports = record {
  only = subst (OnlyShows old) (sym reports.only) refl;
  ends = ap (λ (x : State). x.out) reports.only;
}
unread_own (Some (Gen shop)) old new reports = record {
  only = subst (OnlyPrints old) (sym reports.only) refl;
  ends = ap (λ (x : State). x.out) reports.only;
}
unread_own (Some (Trial shop log nodes restarts)) old new reports = (
  record {
    only = subst (OnlySolves old) (sym reports.only) refl;
    unread = ap (λ (x : State). x.model) reports.only;
    ends = before_log (subst (OnlyRefuses old) (sym reports.only) refl);
  },
  λ is. cc,
)
unread_own (Some (Bound model log)) old new reports = unreported bound_report end.Done model log old new reports
unread_own (Some (Core model log)) old new reports = unreported core_report end.Done model log old new reports

pub words_unread : (command : Option Command) (old new : State) → Reports memory_line old new → RunPromise command end.NoMemory old new
words_unread command old new reports = record { every = unread command old new reports; its_own = unread_own command old new reports; reads = λ no_fault enough. absurd (enough refl) }
