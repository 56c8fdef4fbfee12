-- What reporting a log has done, from what its steps did.
use Rattle.std.proofs.Common.{◌≡◌, ◌≤◌, ◌+◌, ℕ, List, Option, Some, None, Ok, Err, length, take, Result, refl, sym, ap, subst, ◌∙◌, ◌⊎◌, inl, inr}
use Rattle.std.specs.Prelude.{IfSome, option_and_then}
use Rattle.sched_base.specs.declared.desk.Failed.{Failed}
use Rattle.sched_base.specs.declared.desk.File.{File}
use Rattle.sched_base.specs.declared.desk.Inlet.TheVariants.{Log}
use Rattle.sched_base.specs.declared.desk.Port.TheVariants.{Out}
use Rattle.sched_base.specs.State.{State, bytes_of, left_in}
use Rattle.sched_base.specs.Calls.{Opens, Rose, Writes, appended, AppendedFrom, ReadsAtMost}
use Rattle.sched_model.specs.Data.{Data}
use Rattle.cpo_elab.specs.Answers.Answer.{Accepted}
use Rattle.textline.specs.Lines.{Bytes}
use Rattle.logtext.specs.Judgement.{log_limit, log_bytes}
use Rattle.checker.specs.declared.judging.CheckFault.{CheckFault}
use Rattle.checker.specs.declared.judging.CheckFault.TheVariants as fault
use Rattle.checker.specs.Checking.{ChecksBy, JudgesBy}
use Rattle.checker.specs.Judgement.{IsRefused, IsTooLong}
use Rattle.given_files.specs.declared.stop.GivenStop.TheVariants as given
use Rattle.given_files.specs.Files.{IfFile, HasFile, FileDeserves}
use Rattle.given_files.specs.code.Reading.{OnlyReads, Reads}
use Rattle.log_reports.specs.declared.stop.LogStop.{LogStop}
use Rattle.log_reports.specs.declared.stop.LogStop.TheVariants as stop
use Rattle.log_reports.specs.Reports.{Report, TellsOfLog, PrintsPart, ReadsLog}
use Rattle.log_reports.specs.code.Stops.{stop_of_check}
use Rattle.log_reports.specs.code.Tries.{OnlyJudges, JudgesFile, Said, LogTold, TellsLog, ReportTried, TriesReport}

in_file : (files : Option (List File)) (name : Bytes) (P : Bytes → Type 0) → IfSome (option_and_then (λ fs. bytes_of fs name) files) P → IfSome files (λ fs. IfSome (bytes_of fs name) P)
in_file None name P is = tt
in_file (Some fs) name P is = is

judged_file : (s o : State) (log : Bytes) (u : Unit {0}) (P : Bytes → Type 0) → Opens Log log (Ok u) s o → IfSome (left_in Log o) P → IfFile s log P
judged_file s o log u P opens is = (opens.there, in_file s.files log P (subst (λ left. IfSome left P) (ap (λ (x : State). left_in Log x) opens.opened) is))

-- how far the log was read, from its first byte on
log_read : (s o t : State) (log : Bytes) (u : Unit {0}) → Opens Log log (Ok u) s o → ReadsAtMost (log_limit + 1) (left_in Log o) (left_in Log t) → ReadsLog log s t
log_read s o t log u opens reads = subst (λ left. ReadsAtMost (log_limit + 1) left t.log.left) (ap (λ (x : State). left_in Log x) opens.opened) reads

log_read_behind : (log : Bytes) (old s t : State) → OnlyReads old s → ReadsLog log s t → ReadsLog log old t
log_read_behind log old s t reads far = subst (λ (files : Option (List File)). ReadsLog log (record old { files = files }) t) (ap (λ (x : State). x.files) reads.only) far

file_behind : (old s : State) (log : Bytes) (P : Bytes → Type 0) → OnlyReads old s → IfFile s log P → IfFile old log P
file_behind old s log P reads is = subst (λ (files : Option (List File)). IfFile (record old { files = files }) log P) (ap (λ (x : State). x.files) reads.only) is

module _ {V : Type 0} (r : Report V) where
  pub told_file : (m : Data) (log : Bytes) (v : V) (u : Unit {0}) (s o t : State) → Opens Log log (Ok u) s o → ChecksBy r.says m (Ok v) o t → r.means m v → JudgesFile r m log (Ok v) s t
  told_file m log v u s o t opens checks means = (
    checks.counts ∙ ap (λ (x : State). x.faults) opens.opened,
    judged_file s o log u (λ bytes. JudgesBy r.says m (log_bytes bytes) (Ok v)) opens checks.judgement,
    means,
    log_read s o t log u opens checks.reads,
  )

  pub not_told : (m : Data) (log : Bytes) (e : CheckFault) (u : Unit {0}) (s o t : State) → Opens Log log (Ok u) s o → ChecksBy r.says m (Err e) o t → JudgesFile r m log (Err (stop_of_check e)) s t
  not_told m log (fault.Refused k) u s o t opens checks = (judged_file s o log u (λ bytes. JudgesBy r.says m (log_bytes bytes) (Err (fault.Refused k))) opens checks.judgement, log_read s o t log u opens checks.reads)
  not_told m log fault.TooLong u s o t opens checks = (judged_file s o log u (λ bytes. JudgesBy r.says m (log_bytes bytes) (Err fault.TooLong)) opens checks.judgement, log_read s o t log u opens checks.reads)
  not_told m log fault.Fault u s o t opens checks = record {
    rose = subst (λ n. Rose n t.faults) (ap (λ (x : State). x.faults) opens.opened) checks.counts.0;
    calm = λ calm there. checks.counts.1 (ap (λ (x : State). x.calm) opens.opened ∙ calm);
  }
  not_told m log fault.NoMemory u s o t opens checks = tt

  said : (m : Data) (log : Bytes) (v : V) (s t : State) → JudgesFile r m log (Ok v) s t → Said r m log v s
  said m log v s t judges = record { judged = judges.1; means = judges.2 }

  -- where judging ends in a stop, or memory is wanting behind it, nothing is printed

  quiet : (s t : State) → OnlyJudges s t → t ≡ record s { log = t.log; out = t.out; faults = t.faults }
  quiet s t judged = judged.only ∙ ap (λ o. record s { log = t.log; out = o; faults = t.faults }) (sym (ap (λ (x : State). x.out) judged.only))

  pub stopped : (m : Data) (log : Bytes) (e : LogStop) (s t : State) → OnlyJudges s t → JudgesFile r m log (Err e) s t → TellsLog r m log (Err e) s t
  stopped m log e s t judged judges = record { only = quiet s t judged; later = judged.later; told = ended e judges }
    where
      out : t.out ≡ s.out
      out = ap (λ (x : State). x.out) judged.only

      ended : (e : LogStop) → JudgesFile r m log (Err e) s t → LogTold r m log (Err e) s t
      ended (stop.Given given.Fault) judges = (judges, inl out)
      ended (stop.Given given.NoMemory) judges = out
      ended (stop.Given (given.ModelRefused x)) judges = absurd judges
      ended (stop.Given (given.ScheduleRefused x)) judges = absurd judges
      ended (stop.Refused k) (refused, far) = (out, refused, far)
      ended stop.TooLong (long, far) = (out, long, far)

  pub untold : (m : Data) (log : Bytes) (s t : State) → OnlyJudges s t → TellsLog r m log (Err (stop.Given given.NoMemory)) s t
  untold m log s t judged = record { only = quiet s t judged; later = judged.later; told = ap (λ (x : State). x.out) judged.only }

  -- the text that says so was printed
  pub printed : (m : Data) (log text : Bytes) (v : V) (u : Unit {0}) (s t w : State) → OnlyJudges s t → JudgesFile r m log (Ok v) s t → text ≡ r.text m v → Writes Out text (Ok u) t w → TellsLog r m log (Ok u) s w
  printed m log text v u s t w judged judges spelt writes =
      let is : w ≡ record s { log = t.log; out = appended (r.text m v) s.out; faults = t.faults } =
      writes.written
      ∙ ap (λ bs. record t { out = appended bs t.out }) spelt
      ∙ ap (λ (x : State). record x { out = appended (r.text m v) x.out }) judged.only in
      subst (TellsLog r m log (Ok u) s) (sym is) (record {
        only = refl;
        later = judged.later;
        told = (judges.0, (v, said m log v s t judges, refl), judges.3);
      })

  -- or a front part of it
  pub half_printed : (m : Data) (log text : Bytes) (v : V) (e : Failed) (s t w : State) → OnlyJudges s t → JudgesFile r m log (Ok v) s t → text ≡ r.text m v → Writes Out text (Err e) t w
      → TellsLog r m log (Err (stop.Given given.Fault)) s w
  half_printed m log text v e s t w judged judges spelt writes =
      let n : ℕ = writes.failed.0 in
      let is : w ≡ record s { log = t.log; out = appended (take n (r.text m v)) s.out; faults = w.faults } =
      writes.failed.2
      ∙ ap (λ bs. record t { out = appended (take n bs) t.out; faults = w.faults }) spelt
      ∙ ap (λ (x : State). record x { out = appended (take n (r.text m v)) x.out; faults = w.faults }) judged.only in
      subst (TellsLog r m log (Err (stop.Given given.Fault)) s) (sym is) (record {
        only = refl;
        later = subst (λ k. k ≤ w.faults) judges.0 writes.count.later;
        told = (
          record {
            rose = subst (λ k. Rose k w.faults) judges.0 writes.count.failed;
            calm = λ calm there. let ok = writes.calm (ap (λ (x : State). x.calm) judged.only ∙ calm) in cc;
          },
          inr (v, said m log v s t judges, (n, subst (λ bs. n ≤ length bs) spelt writes.failed.1, refl)),
        );
      })

  -- what is told of the log of a model that was read before

  tells : (m : Data) (model log : Bytes) (v : V) (old s : State) → OnlyReads old s → FileDeserves old model (Accepted m) → Said r m log v s → TellsOfLog r model log v old
  tells m model log v old s reads deserved said = record { m = m; deserved = deserved; judged = file_behind old s log (λ bytes. r.says m (log_bytes bytes) v × (IsTooLong m (log_bytes bytes) → ⊥)) reads said.judged; means = said.means }

  pub tried : (m : Data) (model log : Bytes) (result : Result (Unit {0}) LogStop) (old s w : State) → OnlyReads old s → Reads model (Ok m) old s → TellsLog r m log result s w → TriesReport r model log result old w
  unfolding tells
  tried m model log result old s w reads read told =
      let is : w ≡ record old { model = s.model; log = w.log; out = w.out; faults = w.faults } = told.only ∙ ap (λ (x : State). record x { log = w.log; out = w.out; faults = w.faults }) reads.only in
      subst (TriesReport r model log result old) (sym is) (record { only = refl; later = subst (λ n. n ≤ w.faults) read.0 told.later; tried = behind result told.told })
    where
      now : State
      now = record old { model = s.model; log = w.log; out = w.out; faults = w.faults }

      out : s.out ≡ old.out
      out = ap (λ (x : State). x.out) reads.only

      part : ((w.out ≡ s.out) ⊎ ((v : V) × Said r m log v s × AppendedFrom (r.text m v) s.out w.out)) → PrintsPart r model log old now
      part (inl none) = inl (none ∙ out)
      part (inr (v, said, more)) = inr (v, tells m model log v old s reads read.1 said, subst (λ o. AppendedFrom (r.text m v) o w.out) out more)

      behind : (result : Result (Unit {0}) LogStop) → LogTold r m log result s w → ReportTried r model log result old now
      behind (Ok u) (faults, (v, said, text), far) =
          (faults ∙ read.0, record { said = v; tells = tells m model log v old s reads read.1 said; printed = text ∙ ap (appended (r.text m v)) out }, read.2, log_read_behind log old s w reads far)
      behind (Err (stop.Given given.Fault)) (fault, some) = (
        subst (λ k. Rose k w.faults) read.0 fault.rose,
        (λ calm model_there log_there. fault.calm (ap (λ (x : State). x.calm) reads.only ∙ calm) (subst (λ (files : Option (List File)). HasFile (record old { files = files }) log) (sym (ap (λ (x : State). x.files) reads.only)) log_there)),
        part some,
      )
      behind (Err (stop.Given given.NoMemory)) none = none ∙ out
      behind (Err (stop.Given (given.ModelRefused x))) none = absurd none
      behind (Err (stop.Given (given.ScheduleRefused x))) none = absurd none
      behind (Err (stop.Refused k)) (none, refused, far) =
          (none ∙ out, (m, read.1, file_behind old s log (λ bytes. IsRefused m (log_bytes bytes) k × (IsTooLong m (log_bytes bytes) → ⊥)) reads refused), read.2, log_read_behind log old s w reads far)
      behind (Err stop.TooLong) (none, long, far) =
          (none ∙ out, (m, read.1, file_behind old s log (λ bytes. IsTooLong m (log_bytes bytes)) reads long), read.2, log_read_behind log old s w reads far)
