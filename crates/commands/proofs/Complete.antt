-- Each ending but the one that a run comes to is excluded by what its promise says of it.
use Rattle.std.proofs.Common.{get_or, ◌≡◌, ◌≤◌, ◌<◌, ◌+◌, ◌*◌, ℕ, true, Option, Some, None, List, length, ◌⊎◌, ◌∙◌, refl, sym, subst, inl, inr, arith}
use Rattle.std.specs.Option.{IfSome}
use Rattle.std.specs.List.{All, slice_get}
use Rattle.std.proofs.lemmas.List.{take_all}
use Rattle.std.proofs.lemmas.Option.{slice_get_cases, get_or_from_slice_get}
use Rattle.std.proofs.Math.Nat.{lt_of_not-le}
use Rattle.sched_base.specs.declared.desk.File.{File}
use Rattle.sched_base.specs.State.{State, bytes_of}
use Rattle.sched_base.specs.Calls.{Rose}
use Rattle.region.specs.Points.{budget_of}
use Rattle.sched_model.specs.declared.types.Assignment.{Assignment}
use Rattle.sched_model.specs.declared.types.Verdict.{Verdict}
use Rattle.sched_model.specs.Data.{Data}
use Rattle.sched_model.specs.Sentences.{Holds}
use Rattle.sched_model.specs.Solution.{IsSolution}
use Rattle.sched_model.specs.Valid.{IsValid}
use Rattle.cpo_elab.specs.Answers.{Answer}
use Rattle.cpo_elab.specs.Answers.Answer.{Accepted, Refused}
use Rattle.cpo_elab.specs.Deserves.{Deserves}
use Rattle.cpo_elab.specs.Laws.{AtMostOneAnswer}
use Rattle.read_back.specs.Laws.{DeservedAreWritten}
use Rattle.read_schedule.specs.Promises.{SchedulesAreTold}
use Rattle.checker.specs.Laws.{NotBoth, NeverTooLong}
use Rattle.checker.specs.Judgement.{IsAccepted, IsRefused, IsTooLong}
use Rattle.logtext.specs.Judgement.{log_limit, log_bytes}
use Rattle.command_line.specs.declared.shop.Shop.{Shop}
use Rattle.command_line.specs.Commands.{Command, Solve, Check, Verify, Show, Gen, Trial, Bound, Core, command_of}
use Rattle.textline.specs.Lines.{Bytes}
use Rattle.restart_rules.specs.Restarts.{Limits, limits_of}
use Rattle.given_files.specs.declared.stop.ScheduleRefusal.{ScheduleRefusal}
use Rattle.given_files.specs.declared.stop.ScheduleRefusal.TheVariants.{TooLong, Line, Constraint}
use Rattle.given_files.specs.Files.{IfFile, model_bytes}
use Rattle.given_files.specs.Schedules.{SpellsWithin, IsUnfit}
use Rattle.log_reports.specs.Reports.{Report, check_report, bound_report, core_report}
use Rattle.commands.specs.declared.ended.Ended.{Ended}
use Rattle.commands.specs.declared.ended.Ended.TheVariants as end
use Rattle.commands.specs.Runs.{Source, SourceDeserves, SolveEnds, HasFiles, RefusesModel, RefusesLog, RefusesSchedule, ReportEnds, VerifyEnds, ShowEnds, GenEnds, EveryRun, CommandPromise, NoCommandEnds, shop_text}
use Rattle.commands.specs.Runs.Source.{file, generated}
use Rattle.commands.specs.Runs.RefusesLog.{at_line, too_long}
use Rattle.commands.specs.Complete.{GoesWell, HasBytes, HasModel, HasWholeLog, HasSchedule, IsAnswered, Completes, RunsAreComplete}
use Rattle.commands.specs.Complete.IsAnswered.{done, infeasible, unfinished}

-- Laws of the layers below.
pub record Told : Type 0 where
  pub one_answer : AtMostOneAnswer
  pub written : DeservedAreWritten
  pub one_schedule : SchedulesAreTold
  pub not_both : NotBoth
  pub never_too_long : NeverTooLong

-- what is said of a file holds of the bytes that are there
of_file : {R : Type 0} (s : State) (name : Bytes) (P Q : Bytes → Type 0) → HasBytes s name P → IfFile s name Q → ((bytes : Bytes) → P bytes → Q bytes → R) → R
of_file s name P Q has q f =
    f has.bytes has.holds (subst (λ (o : Option Bytes). IfSome o Q) has.there (subst (λ (o : Option (List File)). IfSome o (λ files. IfSome (bytes_of files name) Q)) has.told q.1))

same_answer : Told → (s : State) (model : Source) (m : Data) (b : Answer) → HasModel s model m → SourceDeserves s model b → Accepted m ≡ b
same_answer told s (file name) m b has deserved =
    of_file s name (λ bytes. Deserves (model_bytes bytes) (Accepted m)) (λ bytes. Deserves (model_bytes bytes) b) has deserved (λ bytes x y. told.one_answer (model_bytes bytes) (Accepted m) b x y)
same_answer told s (generated shop) m b has deserved = told.one_answer (shop_text shop) (Accepted m) b has deserved

same_model : Told → (s : State) (model : Source) (m n : Data) → HasModel s model m → SourceDeserves s model (Accepted n) → m ≡ n
same_model told s model m n has deserved = let same : Accepted m ≡ Accepted n = same_answer told s model m (Accepted n) has deserved in cc

not_refused : Told → (s new : State) (model : Source) (m : Data) → HasModel s model m → RefusesModel model s new → ⊥
not_refused told s new model m has refuses = let same : Accepted m ≡ Refused refuses.refusal = same_answer told s model m (Refused refuses.refusal) has refuses.due in cc

valid_of : Told → (s : State) (name : Bytes) (m : Data) → HasModel s (file name) m → IsValid m
valid_of told s name m has = (told.written (model_bytes has.bytes) m has.holds).0

-- no line of a whole log is refused, and it is not too long

log_stands : Told → (m : Data) (bytes : Bytes) (v : Verdict) (n k : ℕ) → length bytes ≤ log_limit → IsAccepted m bytes v n → IsRefused m (log_bytes bytes) k → ⊥
log_stands told m bytes v n k few accepted refused =
    told.not_both m (log_bytes bytes) v n k (subst (λ bs. IsAccepted m bs v n) (sym (take_all (log_limit + 1) bytes (omega (arith, few)))) accepted) refused

log_fits : Told → (m : Data) (bytes : Bytes) (v : Verdict) (n : ℕ) → length bytes ≤ log_limit → IsAccepted m bytes v n → IsTooLong m (log_bytes bytes) → ⊥
log_fits told m bytes v n few accepted long =
    told.never_too_long m bytes v n few accepted (subst (IsTooLong m) (take_all (log_limit + 1) bytes (omega (arith, few))) long)

log_taken : Told → (s new : State) (model log : Bytes) (m : Data) → HasModel s (file model) m → HasWholeLog s log m → RefusesLog model log s new → ⊥
log_taken told s new model log m has whole (at_line k refused tells) =
    let same = same_model told s (file model) m refused.0 has refused.1 in
    of_file s log (λ bytes. (length bytes ≤ log_limit) × IsAccepted m bytes whole.verdict whole.nodes) (λ bytes. IsRefused refused.0 (log_bytes bytes) k × (IsTooLong refused.0 (log_bytes bytes) → ⊥)) whole.there refused.2
    (λ bytes x y. log_stands told m bytes whole.verdict whole.nodes k x.0 x.1 (subst (λ d. IsRefused d (log_bytes bytes) k) (sym same) y.0))
log_taken told s new model log m has whole (too_long found tells) =
    let same = same_model told s (file model) m found.0 has found.1 in
    of_file s log (λ bytes. (length bytes ≤ log_limit) × IsAccepted m bytes whole.verdict whole.nodes) (λ bytes. IsTooLong found.0 (log_bytes bytes)) whole.there found.2
    (λ bytes x y. log_fits told m bytes whole.verdict whole.nodes x.0 x.1 (subst (λ d. IsTooLong d (log_bytes bytes)) (sym same) y))

-- no refusal is due of a schedule text that spells a solution

below : {X : Type 0} (xs : List X) (i : ℕ) (y : X) → slice_get xs i ≡ Some y → (((x : X) × (i < length xs) × (slice_get xs i ≡ Some x) × (get_or xs i x ≡ x)) ⊎ ((length xs ≤ i) × (slice_get xs i ≡ None))) → i < length xs
below xs i y is (inl found) = found.1
below xs i y is (inr past) = absurd (let both : Some y ≡ None = sym is ∙ past.1 in cc)

at_place : {X : Type 0} (P : X → Type 0) (xs : List X) (i : ℕ) (x : X) → All P xs → slice_get xs i ≡ Some x → P x
at_place P xs i x all is = subst P (get_or_from_slice_get xs i x x is) (all i x (below xs i x is (slice_get_cases xs i).1))

schedule_stands : Told → (m : Data) (bytes : Bytes) (a : Assignment) (r : ScheduleRefusal) → IsValid m → IsSolution m a → SpellsWithin m bytes a → IsUnfit m bytes r → ⊥
schedule_stands told m bytes a TooLong valid solves spells unfit = omega (arith, spells.0, unfit)
schedule_stands told m bytes a (Line k) valid solves spells unfit = unfit.1.none a spells.1
schedule_stands told m bytes a (Constraint c) valid solves spells unfit =
    let same = told.one_schedule m bytes a unfit.0 valid spells.1 unfit.1.1 in
    unfit.2.fails (subst (λ b. Holds m b unfit.2.sentence) same (at_place (Holds m a) m.constraints c unfit.2.sentence solves.holds unfit.2.there))

schedule_taken : Told → (s new : State) (model schedule : Bytes) (m : Data) → HasModel s (file model) m → HasSchedule s schedule m → RefusesSchedule model schedule s new → ⊥
schedule_taken told s new model schedule m has there refuses =
    let due = refuses.due in
    let same = same_model told s (file model) m due.m has due.deserved in
    of_file s schedule (λ bytes. SpellsWithin m bytes there.spelled) (λ bytes. IsUnfit due.m bytes refuses.refusal) there.there due.unfit
    (λ bytes x y. schedule_stands told m bytes there.spelled refuses.refusal (valid_of told s model m has) there.solves x (subst (λ d. IsUnfit d bytes refuses.refusal) (sym same) y))

-- By the ending of a command.

-- neither of these two comes
record Goes (e : Ended) : Type 0 where
  fault : e ≡ end.Fault → ⊥
  memory : e ≡ end.NoMemory → ⊥

faultless : (c : Option Command) (e : Ended) (old new : State) → EveryRun c e old new → (Rose old.faults new.faults → ⊥) ⊎ ((old.calm ≡ true) × HasFiles c old) → e ≡ end.Fault → ⊥
faultless c e old new every (inl stays) is = stays (every.fault is)
faultless c e old new every (inr calm) is = every.calm calm.0 calm.1 is

goes : (c : Option Command) (e : Ended) (old new : State) → EveryRun c e old new → GoesWell c e old new → Goes e
goes c e old new every well = record { fault = faultless c e old new every well.outside; memory = well.memory }

of_no_command : (e : Ended) (old new : State) → Goes e → NoCommandEnds e old new → e ≡ end.Usage
of_no_command end.Usage old new well ends = refl
of_no_command end.NoMemory old new well ends = absurd (well.memory refl)
of_no_command end.Done old new well ends = absurd ends
of_no_command end.Accepted old new well ends = absurd ends
of_no_command end.Infeasible old new well ends = absurd ends
of_no_command end.Unfinished old new well ends = absurd ends
of_no_command end.ModelRefused old new well ends = absurd ends
of_no_command end.Fault old new well ends = absurd ends
of_no_command end.LogRefused old new well ends = absurd ends
of_no_command end.ScheduleRefused old new well ends = absurd ends

of_solve : Told → (model : Source) (log : Bytes) (limits : Limits) (e : Ended) (old new : State) → Goes e → SolveEnds model log limits e old new → (m : Data) → HasModel old model m → IsAnswered m limits e
of_solve told model log limits end.Done old new well ends m has = done refl
of_solve told model log limits end.Infeasible old new well ends m has = infeasible refl
of_solve told model log limits end.Unfinished old new well ends m has =
    let same = same_model told old model m ends.m has ends.deserved in
    unfinished refl (lt_of_not-le (λ enough. ends.enough (subst (λ d. (limits.restarts + 1) * budget_of d ≤ limits.nodes) same enough) refl))
of_solve told model log limits end.ModelRefused old new well ends m has = absurd (not_refused told old new model m has ends)
of_solve told model log limits end.Fault old new well ends m has = absurd (well.fault refl)
of_solve told model log limits end.NoMemory old new well ends m has = absurd (well.memory refl)
of_solve told model log limits end.Accepted old new well ends m has = absurd ends
of_solve told model log limits end.Usage old new well ends m has = absurd ends
of_solve told model log limits end.LogRefused old new well ends m has = absurd ends
of_solve told model log limits end.ScheduleRefused old new well ends m has = absurd ends

of_report : {V : Type 0} (r : Report V) (success : Ended) → Told → (model log : Bytes) (e : Ended) (old new : State) → Goes e → ReportEnds r success model log e old new → (m : Data) → HasModel old (file model) m → HasWholeLog old log m → e ≡ success
of_report r success told model log end.ModelRefused old new well ends m has whole = absurd (not_refused told old new (file model) m has ends)
of_report r success told model log end.LogRefused old new well ends m has whole = absurd (log_taken told old new model log m has whole ends)
of_report r success told model log end.Fault old new well ends m has whole = absurd (well.fault refl)
of_report r success told model log end.NoMemory old new well ends m has whole = absurd (well.memory refl)
of_report r success told model log end.Done old new well ends m has whole = ends.0
of_report r success told model log end.Accepted old new well ends m has whole = ends.0
of_report r success told model log end.Infeasible old new well ends m has whole = ends.0
of_report r success told model log end.Unfinished old new well ends m has whole = ends.0
of_report r success told model log end.Usage old new well ends m has whole = ends.0
of_report r success told model log end.ScheduleRefused old new well ends m has whole = ends.0

of_verify : Told → (model schedule : Bytes) (e : Ended) (old new : State) → Goes e → VerifyEnds model schedule e old new → (m : Data) → HasModel old (file model) m → HasSchedule old schedule m → e ≡ end.Done
of_verify told model schedule end.Done old new well ends m has there = refl
of_verify told model schedule end.ModelRefused old new well ends m has there = absurd (not_refused told old new (file model) m has ends)
of_verify told model schedule end.ScheduleRefused old new well ends m has there = absurd (schedule_taken told old new model schedule m has there ends)
of_verify told model schedule end.Fault old new well ends m has there = absurd (well.fault refl)
of_verify told model schedule end.NoMemory old new well ends m has there = absurd (well.memory refl)
of_verify told model schedule end.Accepted old new well ends m has there = absurd ends
of_verify told model schedule end.Infeasible old new well ends m has there = absurd ends
of_verify told model schedule end.Unfinished old new well ends m has there = absurd ends
of_verify told model schedule end.Usage old new well ends m has there = absurd ends
of_verify told model schedule end.LogRefused old new well ends m has there = absurd ends

of_show : Told → (model : Bytes) (e : Ended) (old new : State) → Goes e → ShowEnds model e old new → (m : Data) → HasModel old (file model) m → e ≡ end.Done
of_show told model end.Done old new well ends m has = refl
of_show told model end.ModelRefused old new well ends m has = absurd (not_refused told old new (file model) m has ends)
of_show told model end.Fault old new well ends m has = absurd (well.fault refl)
of_show told model end.NoMemory old new well ends m has = absurd (well.memory refl)
of_show told model end.Accepted old new well ends m has = absurd ends
of_show told model end.Infeasible old new well ends m has = absurd ends
of_show told model end.Unfinished old new well ends m has = absurd ends
of_show told model end.Usage old new well ends m has = absurd ends
of_show told model end.LogRefused old new well ends m has = absurd ends
of_show told model end.ScheduleRefused old new well ends m has = absurd ends

of_gen : (shop : Shop) (e : Ended) (old new : State) → Goes e → GenEnds shop e old new → e ≡ end.Done
of_gen shop end.Done old new well ends = refl
of_gen shop end.Fault old new well ends = absurd (well.fault refl)
of_gen shop end.NoMemory old new well ends = absurd (well.memory refl)
of_gen shop end.ModelRefused old new well ends = absurd ends
of_gen shop end.Accepted old new well ends = absurd ends
of_gen shop end.Infeasible old new well ends = absurd ends
of_gen shop end.Unfinished old new well ends = absurd ends
of_gen shop end.Usage old new well ends = absurd ends
of_gen shop end.LogRefused old new well ends = absurd ends
of_gen shop end.ScheduleRefused old new well ends = absurd ends

completes : Told → (c : Option Command) (e : Ended) (old new : State) → Goes e → CommandPromise c e old new → Completes c e old
completes told None e old new well its_own = of_no_command e old new well its_own
completes told (Some (Solve model log nodes restarts)) e old new well its_own = of_solve told (file model) log (limits_of nodes restarts) e old new well its_own.ends
completes told (Some (Trial shop log nodes restarts)) e old new well its_own = of_solve told (generated shop) log (limits_of nodes restarts) e old new well its_own.0.ends
completes told (Some (Check model log)) e old new well its_own = of_report check_report end.Accepted told model log e old new well its_own.ends
completes told (Some (Bound model log)) e old new well its_own = of_report bound_report end.Done told model log e old new well its_own.ends
completes told (Some (Core model log)) e old new well its_own = of_report core_report end.Done told model log e old new well its_own.ends
completes told (Some (Verify model schedule)) e old new well its_own = of_verify told model schedule e old new well its_own.ends
completes told (Some (Show model)) e old new well its_own = of_show told model e old new well its_own.ends
completes told (Some (Gen shop)) e old new well its_own = of_gen shop e old new well its_own.ends

pub runs_are_complete : Told → RunsAreComplete
runs_are_complete told words e old new runs well = completes told (command_of words) e old new (goes (command_of words) e old new runs.every well) runs.its_own
