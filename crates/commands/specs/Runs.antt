-- What a run promises: which ending it has, and what it has done to the desk by then.
use Rattle.std.specs.Prelude.{◌≡◌, ◌↔◌, ◌⊎◌, ℕ, ◌+◌, ◌*◌, ◌≤◌, true, false, List, [], Option, Some, None, option_map, ⊤}
use Rattle.sched_base.specs.State.{State, with_log}
use Rattle.sched_base.specs.Calls.{Rose, appended, AppendedFrom}
use Rattle.region.specs.Points.{budget_of}
use Rattle.sched_model.specs.declared.types.Answer.{Answer as Printed}
use Rattle.sched_model.specs.declared.types.Answer.TheVariants as answer
use Rattle.sched_model.specs.declared.types.Solved.{Solved}
use Rattle.sched_model.specs.declared.types.Assignment.{Assignment}
use Rattle.sched_model.specs.Words.{is_empty}
use Rattle.sched_model.specs.Data.{Data}
use Rattle.sched_model.specs.Solution.{criteria_values}
use Rattle.cpo_text.specs.declared.text.Refusal.{Refusal}
use Rattle.cpo_elab.specs.Answers.{Answer}
use Rattle.cpo_elab.specs.Answers.Answer.{Accepted, Refused}
use Rattle.cpo_elab.specs.Deserves.{Deserves}
use Rattle.kernel.specs.Steps.{LogState}
use Rattle.command_line.specs.declared.shop.Shop.{Shop}
use Rattle.command_line.specs.Commands.{Command, Solve, Check, Verify, Show, Gen, Trial, Bound, Core, command_of}
use Rattle.modelgen.specs.Generated.{generated_text}
use Rattle.textline.specs.Lines.{Bytes}
use Rattle.sched_text.specs.Answers.{numbers_word, values_word, answer_text, summary_text}
use Rattle.sched_text.specs.Canonical.{canonical_text}
use Rattle.logtext.specs.Logs.{PlainLine, plain_log}
use Rattle.checker.specs.Judgement.{IsAccepted}
use Rattle.restart_rules.specs.Restarts.{Limits, limits_of}
use Rattle.solver.specs.Versions.{version_of}
use Rattle.solver.specs.Written.{IsWritten}
use Rattle.sched_model.specs.Answers.{verdict_in}
use Rattle.solver.specs.Answers.{IsAnswer, shown_in, is_unfinished}
use Rattle.given_files.specs.declared.stop.ScheduleRefusal.{ScheduleRefusal}
use Rattle.given_files.specs.Files.{HasFile, FileDeserves, ReadsModel, ReadsSchedule, WithinModel, WithinSchedule}
use Rattle.given_files.specs.Schedules.{IsVerified, RefusalDue}
use Rattle.given_files.specs.Told.{Tells, Reports, fault_line, memory_line, refusal_line, unfit_line}
use Rattle.log_reports.specs.Reports.{Report, PrintsReport, PrintsPart, IsRefusedAt, IsFoundTooLong, ReadsLog, WithinLog, check_report, bound_report, core_report}
use Rattle.commands.specs.declared.ended.Ended.{Ended}
use Rattle.commands.specs.declared.ended.Ended.TheVariants as end
use Rattle.commands.specs.Ended.{is_success}
use Rattle.replay.specs.LastSchedule.{last_schedule}
use Rattle.commands.specs.Told.{usage_line, log_line, too_long_line}
use Rattle.commands.specs.VerifyText.{verify_text}

-- The files of a desk.

-- the desk tells its files, and each that the command reads is there
abbrev pub HasFiles : Option Command → State → Type 0
HasFiles None s = ⊤
HasFiles (Some (Solve model log nodes restarts)) s = HasFile s model
HasFiles (Some (Check model log)) s = HasFile s model × HasFile s log
HasFiles (Some (Verify model schedule)) s = HasFile s model × HasFile s schedule
HasFiles (Some (Show model)) s = HasFile s model
HasFiles (Some (Gen shop)) s = ⊤
HasFiles (Some (Trial shop log nodes restarts)) s = ⊤
HasFiles (Some (Bound model log)) s = HasFile s model × HasFile s log
HasFiles (Some (Core model log)) s = HasFile s model × HasFile s log

-- Where a model comes from.

-- the file of this name, or a generated job shop
pub data Source : Type 0 where
  file : Bytes → Source
  generated : Shop → Source

abbrev pub shop_text : Shop → Bytes
shop_text s = generated_text s.seed s.jobs s.machines

-- the text there deserves this
abbrev pub SourceDeserves : State → Source → Answer → Type 0
SourceDeserves s (file name) answer = FileDeserves s name answer
SourceDeserves s (generated shop) answer = Deserves (shop_text shop) answer

abbrev pub HasSource : State → Source → Type 0
HasSource s (file name) = HasFile s name
HasSource s (generated shop) = ⊤

-- how far its file was read
abbrev pub ReadsSource : Source → State → State → Type 0
ReadsSource (file name) old new = ReadsModel name old new
ReadsSource (generated shop) old new = ⊤

-- a generated model is in no file
abbrev pub IsUnread : Source → State → State → Type 0
IsUnread (file name) old new = ⊤
IsUnread (generated shop) old new = new.model ≡ old.model

-- what is printed of an answer: its text, for a generated model without the lines of its schedule
abbrev pub told_text : Source → Data → Solved → Bytes
told_text (file name) m solved = answer_text m solved
told_text (generated shop) m solved = summary_text m solved

-- What every run promises.

pub record EveryRun (command : Option Command) (result : Ended) (old new : State) : Type 0 where
  -- the count of faults never falls
  pub later : old.faults ≤ new.faults
  -- `Usage` comes exactly where the words are no command, want of memory aside; then standard error got its line, and
  -- nothing else has changed
  pub usage : (result ≡ end.NoMemory → ⊥) → (result ≡ end.Usage) ↔ (command ≡ None)
  pub unopened : result ≡ end.Usage → Reports usage_line old new
  -- `Fault` comes only where the count rose, and never over a calm desk that has the files which the command reads
  pub fault : result ≡ end.Fault → Rose old.faults new.faults
  pub calm : old.calm ≡ true → HasFiles command old → result ≡ end.Fault → ⊥
  -- a success comes only where the count is what it was; then standard error is as it was
  pub kept : is_success result ≡ true → (new.faults ≡ old.faults) × (new.err ≡ old.err)
  -- with every ending but a success and `Fault` standard output is as it was
  pub quiet : is_success result ≡ false → (result ≡ end.Fault → ⊥) → new.out ≡ old.out
  -- `Fault` and `NoMemory` have their lines on standard error
  pub fault_told : result ≡ end.Fault → Tells fault_line old new
  pub memory_told : result ≡ end.NoMemory → Tells memory_line old new

-- The refusal that the text of the model's file, or the generated text, deserves is told. Nothing else was opened, and no log
-- was created.
pub record RefusesModel (model : Source) (old new : State) : Type 0 where
  pub refusal : Refusal
  pub due : SourceDeserves old model (Refused refusal)
  pub told : Tells (refusal_line refusal) old new
  pub only : new ≡ record old { model = new.model; err = new.err; faults = new.faults }

-- What `solve` and `trial` promise.

-- one log was created, and it has this name
abbrev pub CreatesLog : Bytes → State → State → Type 0
CreatesLog log old new = (new.created ≡ true) × (new.logs ≡ with_log log old.logs)

-- The log behind an answer, by the command's limits on nodes and restarts, from what stood on the port of the log before to
-- what stands there after.
pub record LogPromise (m : Data) (limits : Limits) (solved : Solved) (before after : Option Bytes) : Type 0 where
  pub lines : List PlainLine
  pub state : LogState
  -- a search may have written these lines by these limits: they step one after another from the opening state of the model to
  -- this one, no more nodes were opened than the limit, no node has more lines that derive than may, each split on a bound cuts
  -- at the middle of what is open of it, and comes where nothing is left to derive, or where as many lines derived as may; and
  -- they begin anew exactly where the restart rule says
  pub written : IsWritten m limits lines state
  -- the log was created empty, and its bytes are exactly the text of these lines, of version 1 where there are no restarts
  pub bytes : after ≡ option_map (λ bytes. plain_log (version_of limits.restarts) lines) before
  -- the judgement of those bytes is that they are accepted, with the printed verdict and the printed count of nodes
  pub accepted : IsAccepted m (plain_log (version_of limits.restarts) lines) (verdict_in solved.answer) solved.nodes
  -- the printed schedule is that of the last solution in the log
  pub schedule : last_schedule lines ≡ shown_in solved.answer
  -- unfinished comes only once exactly as many nodes were opened as the limit says, where no region is current and one waits
  pub limited : is_unfinished solved.answer ≡ true → (solved.nodes ≡ limits.nodes) × (state.current ≡ None) × (is_empty state.waiting ≡ false)
  -- and it never comes where the limit is the budget or more: twice the number of points of the root, as often as the search
  -- may begin
  pub enough : (limits.restarts + 1) * budget_of m ≤ limits.nodes → is_unfinished solved.answer ≡ false

abbrev pub ending_of : Printed → Ended
ending_of (answer.Optimal v a) = end.Done
ending_of (answer.Feasible a) = end.Done
ending_of answer.Infeasible = end.Infeasible
ending_of (answer.Unfinished found) = end.Unfinished

-- what is printed of a value is the word of the values that the criteria of the objective have at the schedule beside it
abbrev pub TellsValues : Data → Printed → Type 0
TellsValues m (answer.Optimal v a) = values_word m v ≡ numbers_word (criteria_values m a)
TellsValues m (answer.Unfinished (Some va)) = values_word m va.0 ≡ numbers_word (criteria_values m va.1)
TellsValues m _ = ⊤

-- The main promise.
pub record AnswerPromise (model : Source) (log : Bytes) (limits : Limits) (result : Ended) (old new : State) : Type 0 where
  pub m : Data
  pub solved : Solved
  -- the text of the model's file, or the generated text, deserves this model
  pub deserved : SourceDeserves old model (Accepted m)
  -- the answer is so. Optimal: the schedule is a solution of this exact value, and no solution is better. Feasible: it is a
  -- solution. Infeasible: there is none. Unfinished: the schedule, if there is one, is a solution of this exact value
  pub answer : IsAnswer m solved.answer
  -- and the values that are printed are those of the criteria at that schedule
  pub values : TellsValues m solved.answer
  -- the ending is that of the answer, whose whole text was printed
  pub ending : result ≡ ending_of solved.answer
  -- with the budget or more as the limit the run is done, or there is no solution
  pub enough : (limits.restarts + 1) * budget_of m ≤ limits.nodes → result ≡ end.Unfinished → ⊥
  pub printed : new.out ≡ appended (told_text model m solved) old.out
  -- the whole log was written under the name that the words give, and it is accepted
  pub created : CreatesLog log old new
  pub written : LogPromise m limits solved old.logged new.logged

-- The log holds a front part of the text of lines that a search may have written by these limits.
pub record HoldsBegunLog (m : Data) (limits : Limits) (before after : Option Bytes) : Type 0 where
  pub lines : List PlainLine
  pub state : LogState
  pub written : IsWritten m limits lines state
  pub part : AppendedFrom (plain_log (version_of limits.restarts) lines) (option_map (λ bytes. []) before) after

-- How far it came where it was cut short by a fault or for want of memory.
pub data CutShort (model : Source) (log : Bytes) (limits : Limits) (old new : State) : Type 0 where
  -- no log was created, and nothing was printed
  before_log : new ≡ record old { model = new.model; err = new.err; faults = new.faults } → CutShort model log limits old new
  -- the log of the model that the text deserves was begun, and nothing was printed
  in_log : (m : Data) → SourceDeserves old model (Accepted m) → CreatesLog log old new → HoldsBegunLog m limits old.logged new.logged → new.out ≡ old.out → CutShort model log limits old new
  -- the log is whole, and a front part of the answer's text was printed
  in_answer : (m : Data) (solved : Solved) → SourceDeserves old model (Accepted m) → IsAnswer m solved.answer → CreatesLog log old new → LogPromise m limits solved old.logged new.logged
      → AppendedFrom (told_text model m solved) old.out new.out → CutShort model log limits old new

-- by its ending; no other comes
abbrev pub SolveEnds : Source → Bytes → Limits → Ended → State → State → Type 0
SolveEnds model log limits end.Done old new = AnswerPromise model log limits end.Done old new
SolveEnds model log limits end.Infeasible old new = AnswerPromise model log limits end.Infeasible old new
SolveEnds model log limits end.Unfinished old new = AnswerPromise model log limits end.Unfinished old new
SolveEnds model log limits end.ModelRefused old new = RefusesModel model old new
SolveEnds model log limits end.Fault old new = CutShort model log limits old new
SolveEnds model log limits end.NoMemory old new = CutShort model log limits old new
SolveEnds model log limits _ old new = ⊥

pub record SolvePromise (model : Source) (log : Bytes) (limits : Limits) (result : Ended) (old new : State) : Type 0 where
  -- nothing but these has changed
  pub only : new ≡ record old { model = new.model; out = new.out; err = new.err; logged = new.logged; created = new.created; logs = new.logs; faults = new.faults }
  -- and for a generated model not the slot of the model either
  pub unread : IsUnread model old new
  pub ends : SolveEnds model log limits result old new

-- What `check`, `bound` and `core` promise.

-- the log is refused at the first line that is wrong or missing, or is too long without one; this is told
pub data RefusesLog (model log : Bytes) (old new : State) : Type 0 where
  at_line : (k : ℕ) → IsRefusedAt model log k old → Tells (log_line k) old new → RefusesLog model log old new
  too_long : IsFoundTooLong model log old → Tells too_long_line old new → RefusesLog model log old new

-- by its ending; a success ends so, and no other comes
abbrev pub ReportEnds : {V : Type 0} → Report V → Ended → Bytes → Bytes → Ended → State → State → Type 0
ReportEnds r success model log end.ModelRefused old new = RefusesModel (file model) old new
ReportEnds r success model log end.LogRefused old new = RefusesLog model log old new
ReportEnds r success model log end.Fault old new = PrintsPart r model log old new
ReportEnds r success model log end.NoMemory old new = new.out ≡ old.out
ReportEnds r success model log ended old new = (ended ≡ success) × PrintsReport r model log old new

pub record ReportPromise {V : Type 0} (r : Report V) (success : Ended) (model log : Bytes) (result : Ended) (old new : State) : Type 0 where
  -- nothing but these has changed; no log is created
  pub only : new ≡ record old { model = new.model; log = new.log; out = new.out; err = new.err; faults = new.faults }
  pub ends : ReportEnds r success model log result old new

-- What `verify` promises.

-- the schedule's file holds a solution of the model that the text of the model's file deserves, and exactly the text that says
-- so, with the values of its criteria where the model has an objective, was printed
pub record VerifiesSchedule (model schedule : Bytes) (old new : State) : Type 0 where
  pub m : Data
  pub a : Assignment
  pub verified : IsVerified model schedule m a old
  pub printed : new.out ≡ appended (verify_text m a) old.out

-- this refusal of the schedule's file is due, and is told
pub record RefusesSchedule (model schedule : Bytes) (old new : State) : Type 0 where
  pub refusal : ScheduleRefusal
  pub due : RefusalDue model schedule refusal old
  pub told : Tells (unfit_line refusal) old new

-- after a fault nothing was printed, or a front part of the text of a schedule that is a solution
abbrev pub VerifiesPart : Bytes → Bytes → State → State → Type 0
VerifiesPart model schedule old new =
    (new.out ≡ old.out) ⊎ ((m : Data) × (a : Assignment) × IsVerified model schedule m a old × AppendedFrom (verify_text m a) old.out new.out)

-- by its ending; no other comes
abbrev pub VerifyEnds : Bytes → Bytes → Ended → State → State → Type 0
VerifyEnds model schedule end.Done old new = VerifiesSchedule model schedule old new
VerifyEnds model schedule end.ModelRefused old new = RefusesModel (file model) old new
VerifyEnds model schedule end.ScheduleRefused old new = RefusesSchedule model schedule old new
VerifyEnds model schedule end.Fault old new = VerifiesPart model schedule old new
VerifyEnds model schedule end.NoMemory old new = new.out ≡ old.out
VerifyEnds model schedule _ old new = ⊥

pub record VerifyPromise (model schedule : Bytes) (result : Ended) (old new : State) : Type 0 where
  -- nothing but these has changed; no log is opened or created
  pub only : new ≡ record old { model = new.model; schedule = new.schedule; out = new.out; err = new.err; faults = new.faults }
  pub ends : VerifyEnds model schedule result old new

-- What `show` promises.

-- the text of the model's file deserves this model, and exactly its canonical text was printed
pub record ShowsModel (model : Bytes) (old new : State) : Type 0 where
  pub m : Data
  pub deserved : FileDeserves old model (Accepted m)
  pub printed : new.out ≡ appended (canonical_text m) old.out

-- after a fault nothing was printed, or a front part of that text
abbrev pub ShowsPart : Bytes → State → State → Type 0
ShowsPart model old new = (new.out ≡ old.out) ⊎ ((m : Data) × FileDeserves old model (Accepted m) × AppendedFrom (canonical_text m) old.out new.out)

-- by its ending; no other comes
abbrev pub ShowEnds : Bytes → Ended → State → State → Type 0
ShowEnds model end.Done old new = ShowsModel model old new
ShowEnds model end.ModelRefused old new = RefusesModel (file model) old new
ShowEnds model end.Fault old new = ShowsPart model old new
ShowEnds model end.NoMemory old new = new.out ≡ old.out
ShowEnds model _ old new = ⊥

pub record ShowPromise (model : Bytes) (result : Ended) (old new : State) : Type 0 where
  -- nothing but these has changed; no log is opened or created
  pub only : new ≡ record old { model = new.model; out = new.out; err = new.err; faults = new.faults }
  pub ends : ShowEnds model result old new

-- What `gen` promises.

-- by its ending; no other comes. Exactly the generated text was printed, and after a fault a front part of it
abbrev pub GenEnds : Shop → Ended → State → State → Type 0
GenEnds shop end.Done old new = new.out ≡ appended (shop_text shop) old.out
GenEnds shop end.Fault old new = AppendedFrom (shop_text shop) old.out new.out
GenEnds shop end.NoMemory old new = new.out ≡ old.out
GenEnds shop _ old new = ⊥

pub record GenPromise (shop : Shop) (result : Ended) (old new : State) : Type 0 where
  -- nothing but these has changed; nothing is opened, and no log is created
  pub only : new ≡ record old { out = new.out; err = new.err; faults = new.faults }
  pub ends : GenEnds shop result old new

-- The promise of a run.

-- what words that are no command end in; nothing but the line on standard error has changed
abbrev pub NoCommandEnds : Ended → State → State → Type 0
NoCommandEnds end.Usage old new = Reports usage_line old new
NoCommandEnds end.NoMemory old new = Reports memory_line old new
NoCommandEnds _ old new = ⊥

-- the program doesn't refuse its own text
abbrev pub NeverRefused : Ended → Type 0
NeverRefused result = result ≡ end.ModelRefused → ⊥

abbrev pub CommandPromise : Option Command → Ended → State → State → Type 0
CommandPromise None result old new = NoCommandEnds result old new
CommandPromise (Some (Solve model log nodes restarts)) result old new = SolvePromise (file model) log (limits_of nodes restarts) result old new
CommandPromise (Some (Check model log)) result old new = ReportPromise check_report end.Accepted model log result old new
CommandPromise (Some (Verify model schedule)) result old new = VerifyPromise model schedule result old new
CommandPromise (Some (Show model)) result old new = ShowPromise model result old new
CommandPromise (Some (Gen shop)) result old new = GenPromise shop result old new
CommandPromise (Some (Trial shop log nodes restarts)) result old new = SolvePromise (generated shop) log (limits_of nodes restarts) result old new × NeverRefused result
CommandPromise (Some (Bound model log)) result old new = ReportPromise bound_report end.Done model log result old new
CommandPromise (Some (Core model log)) result old new = ReportPromise core_report end.Done model log result old new

-- how far a command reads its files; the second is opened only where the model isn't refused
abbrev pub ReadsBoth : Bytes → Bytes → Ended → State → State → Type 0
ReadsBoth model log result old new = ReadsModel model old new × ((result ≡ end.ModelRefused → ⊥) → ReadsLog log old new)

abbrev pub ReadsFiles : Option Command → Ended → State → State → Type 0
ReadsFiles None result old new = ⊤
ReadsFiles (Some (Solve model log nodes restarts)) result old new = ReadsModel model old new
ReadsFiles (Some (Check model log)) result old new = ReadsBoth model log result old new
ReadsFiles (Some (Verify model schedule)) result old new = ReadsModel model old new × ((result ≡ end.ModelRefused → ⊥) → ReadsSchedule schedule old new)
ReadsFiles (Some (Show model)) result old new = ReadsModel model old new
ReadsFiles (Some (Gen shop)) result old new = ⊤
ReadsFiles (Some (Trial shop log nodes restarts)) result old new = ⊤
ReadsFiles (Some (Bound model log)) result old new = ReadsBoth model log result old new
ReadsFiles (Some (Core model log)) result old new = ReadsBoth model log result old new

pub record RunPromise (command : Option Command) (result : Ended) (old new : State) : Type 0 where
  pub every : EveryRun command result old new
  pub its_own : CommandPromise command result old new
  -- with every ending but `Fault` and `NoMemory` no file was read further than it decides
  pub reads : (result ≡ end.Fault → ⊥) → (result ≡ end.NoMemory → ⊥) → ReadsFiles command result old new

-- that of the command that the words are
abbrev pub Runs : List Bytes → Ended → State → State → Type 0
Runs words result old new = RunPromise (command_of words) result old new

-- however a run ends, no file was read beyond its bound
abbrev pub WithinFiles : Option Command → State → State → Type 0
WithinFiles None old new = ⊤
WithinFiles (Some (Solve model log nodes restarts)) old new = WithinModel model old new
WithinFiles (Some (Check model log)) old new = WithinModel model old new × WithinLog log old new
WithinFiles (Some (Verify model schedule)) old new = WithinModel model old new × WithinSchedule schedule old new
WithinFiles (Some (Show model)) old new = WithinModel model old new
WithinFiles (Some (Gen shop)) old new = ⊤
WithinFiles (Some (Trial shop log nodes restarts)) old new = ⊤
WithinFiles (Some (Bound model log)) old new = WithinModel model old new × WithinLog log old new
WithinFiles (Some (Core model log)) old new = WithinModel model old new × WithinLog log old new

abbrev pub RunsWithin : List Bytes → State → State → Type 0
RunsWithin words old new = WithinFiles (command_of words) old new
