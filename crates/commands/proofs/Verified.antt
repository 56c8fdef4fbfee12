-- What verifying a schedule has done, from what its steps did.
use Rattle.std.proofs.Common.{◌≡◌, ◌≤◌, ℕ, List, Option, Ok, Err, length, take, refl, sym, ap, subst, ◌∙◌, inr, arith}
use Rattle.sched_base.specs.declared.desk.File.{File}
use Rattle.sched_base.specs.declared.desk.Failed.{Failed}
use Rattle.sched_base.specs.declared.desk.Port.TheVariants.{Out}
use Rattle.sched_base.specs.State.{State}
use Rattle.sched_base.specs.Calls.{Rose, Writes, appended}
use Rattle.sched_model.specs.declared.types.Assignment.{Assignment}
use Rattle.sched_model.specs.Data.{Data}
use Rattle.cpo_elab.specs.Answers.Answer.{Accepted}
use Rattle.textline.specs.Lines.{Bytes}
use Rattle.given_files.specs.declared.stop.GivenStop.TheVariants as given
use Rattle.given_files.specs.Files.{FileDeserves, ReadsModel, ReadsSchedule}
use Rattle.given_files.specs.code.Reading.{OnlyReads}
use Rattle.given_files.specs.code.Testing.{OnlyTests, TestsFile}
use Rattle.given_files.specs.laws.Verified.{both_only, verifies}
use Rattle.commands.specs.declared.ended.Ended.TheVariants as end
use Rattle.commands.specs.declared.stop.RunStop.TheVariants as stop
use Rattle.commands.specs.VerifyText.{verify_text}
use Rattle.commands.specs.code.Tries.{TriesVerify}

-- how far the schedule was read, from before the model was
read_behind : (schedule : Bytes) (old s t : State) → OnlyReads old s → ReadsSchedule schedule s t → ReadsSchedule schedule old t
read_behind schedule old s t reads far = subst (λ (files : Option (List File)). ReadsSchedule schedule (record old { files = files }) t) (ap (λ (x : State). x.files) reads.only) far

-- the text that says so was printed
pub verify_printed : (m : Data) (model schedule bytes : Bytes) (a : Assignment) (u : Unit {0}) (old s t w : State) → OnlyReads old s → s.faults ≡ old.faults → FileDeserves old model (Accepted m) → ReadsModel model old s → OnlyTests s t → TestsFile m schedule (Ok a) s t
    → bytes ≡ verify_text m a → Writes Out bytes (Ok u) t w → TriesVerify model schedule (Ok end.Done) old w
verify_printed m model schedule bytes a u old s t w reads kept deserved far tested tests spelt writes =
    let text : Bytes = verify_text m a in
    let faults : t.faults ≡ old.faults = tests.0 ∙ kept in
    let is : w ≡ record old { model = s.model; schedule = t.schedule; out = appended text old.out; faults = t.faults } =
    writes.written
    ∙ ap (λ bs. record t { out = appended bs t.out }) spelt
    ∙ ap (λ (x : State). record x { out = appended text x.out }) (both_only old s t reads tested) in
    subst (TriesVerify model schedule (Ok end.Done) old) (sym is) (record {
      only = refl;
      later = subst (λ n. old.faults ≤ n) (sym faults) (omega arith);
      tried = (faults, refl, record { m = m; a = a; verified = verifies m model schedule a old s t reads deserved tests; printed = refl }, far, read_behind schedule old s t reads tests.3);
    })

-- or a front part of it
pub verify_half_printed : (m : Data) (model schedule bytes : Bytes) (a : Assignment) (e : Failed) (old s t w : State) → OnlyReads old s → s.faults ≡ old.faults → FileDeserves old model (Accepted m) → OnlyTests s t → TestsFile m schedule (Ok a) s t
    → bytes ≡ verify_text m a → Writes Out bytes (Err e) t w → TriesVerify model schedule (Err (stop.Given given.Fault)) old w
verify_half_printed m model schedule bytes a e old s t w reads kept deserved tested tests spelt writes =
    let text : Bytes = verify_text m a in
    let n : ℕ = writes.failed.0 in
    let here = both_only old s t reads tested in
    let faults : t.faults ≡ old.faults = tests.0 ∙ kept in
    let is : w ≡ record old { model = s.model; schedule = t.schedule; out = appended (take n text) old.out; faults = w.faults } =
    writes.failed.2
    ∙ ap (λ bs. record t { out = appended (take n bs) t.out; faults = w.faults }) spelt
    ∙ ap (λ (x : State). record x { out = appended (take n text) x.out; faults = w.faults }) here in
    subst (TriesVerify model schedule (Err (stop.Given given.Fault)) old) (sym is) (record {
      only = refl;
      later = subst (λ k. k ≤ w.faults) faults writes.count.later;
      tried = (
        subst (λ k. Rose k w.faults) faults writes.count.failed,
        (λ calm model_there schedule_there. let ok = writes.calm (ap (λ (x : State). x.calm) here ∙ calm) in cc),
        inr (m, a, verifies m model schedule a old s t reads deserved tests, (n, subst (λ bs. n ≤ length bs) spelt writes.failed.1, refl)),
      );
    })
