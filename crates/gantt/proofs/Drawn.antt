-- What drawing a schedule has done, from what its steps did.
use Rattle.std.specs.Result.{IsErrAnd}
use Rattle.std.proofs.Common.{Result, ◌≡◌, ◌≤◌, ℕ, Ok, Err, take, refl, sym, ap, subst, ◌∙◌, inl, inr, arith}
use Rattle.sched_base.specs.declared.desk.Failed.{Failed}
use Rattle.sched_base.specs.declared.desk.Port.TheVariants.{Out}
use Rattle.sched_base.specs.State.{State}
use Rattle.sched_base.specs.Calls.{Rose, Writes, appended}
use Rattle.sched_model.specs.declared.types.Assignment.{Assignment}
use Rattle.sched_model.specs.Data.{Data}
use Rattle.cpo_elab.specs.Answers.Answer.{Accepted}
use Rattle.textline.specs.Lines.{Bytes}
use Rattle.svg_page.specs.Page.{IsPage}
use Rattle.given_files.specs.declared.stop.GivenStop.{GivenStop}
use Rattle.given_files.specs.declared.stop.GivenStop.TheVariants as stop
use Rattle.given_files.specs.Files.{FileDeserves, WithinBoth}
use Rattle.given_files.specs.Told.{Reports, fault_line, memory_line, refusal_line, unfit_line}
use Rattle.given_files.specs.code.Reading.{OnlyReads}
use Rattle.given_files.specs.code.Telling.{EndsStopped}
use Rattle.given_files.specs.code.Testing.{OnlyTests, TestsFile}
use Rattle.given_files.specs.laws.Endings.{tells_on, OnlyEnds, out_told, err_of, ended_only, whole_only}
use Rattle.given_files.specs.laws.Verified.{both_only, verifies}
use Rattle.gantt.specs.declared.ended.Ended.{Ended}
use Rattle.gantt.specs.declared.ended.Ended.TheVariants as end
use Rattle.gantt.specs.Runs.{DrawPromise, DrawsPart}
use Rattle.gantt.specs.code.Ended.{ending_of_stop}
use Rattle.gantt.specs.code.Tries.{TriesDraw}

-- The model and a schedule were read, and the schedule is a solution: its page was printed
pub page_printed : (m : Data) (model schedule page : Bytes) (a : Assignment) (u v : Unit {0}) (old s t w : State) → OnlyReads old s → s.faults ≡ old.faults → FileDeserves old model (Accepted m) → OnlyTests s t → TestsFile m schedule (Ok a) s t
    → IsPage m a page → Writes Out page (Ok u) t w → TriesDraw model schedule (Ok v) old w
page_printed m model schedule page a u v old s t w reads kept deserved tested tests drawn writes =
    let faults : t.faults ≡ old.faults = tests.0 ∙ kept in
    let is : w ≡ record old { model = s.model; schedule = t.schedule; out = appended page old.out; faults = t.faults } =
    writes.written ∙ ap (λ (x : State). record x { out = appended page x.out }) (both_only old s t reads tested) in
    subst (TriesDraw model schedule (Ok v) old) (sym is) (record {
      only = refl;
      later = subst (λ n. old.faults ≤ n) (sym faults) (omega arith);
      tried = (faults, record { m = m; a = a; page = page; verified = verifies m model schedule a old s t reads deserved tests; drawn = drawn; printed = refl });
    })

-- or a front part of it
pub page_half_printed : (m : Data) (model schedule page : Bytes) (a : Assignment) (e : Failed) (old s t w : State) → OnlyReads old s → s.faults ≡ old.faults → FileDeserves old model (Accepted m) → OnlyTests s t → TestsFile m schedule (Ok a) s t
    → IsPage m a page → Writes Out page (Err e) t w → TriesDraw model schedule (Err stop.Fault) old w
page_half_printed m model schedule page a e old s t w reads kept deserved tested tests drawn writes =
    let n : ℕ = writes.failed.0 in
    let here = both_only old s t reads tested in
    let faults : t.faults ≡ old.faults = tests.0 ∙ kept in
    let is : w ≡ record old { model = s.model; schedule = t.schedule; out = appended (take n page) old.out; faults = w.faults } =
    writes.failed.2 ∙ ap (λ (x : State). record x { out = appended (take n page) x.out; faults = w.faults }) here in
    subst (TriesDraw model schedule (Err stop.Fault) old) (sym is) (record {
      only = refl;
      later = subst (λ k. k ≤ w.faults) faults writes.count.later;
      tried = (
        subst (λ k. Rose k w.faults) faults writes.count.failed,
        (λ calm model_there schedule_there. let ok = writes.calm (ap (λ (x : State). x.calm) here ∙ calm) in cc),
        inr (m, a, page, verifies m model schedule a old s t reads deserved tests, drawn, (n, writes.failed.1, refl)),
      );
    })

-- or memory was refused for it
pub page_refused : (r : Result (Unit {0}) GivenStop) (model schedule : Bytes) (old s t : State) → IsErrAnd r (λ e. e ≡ stop.NoMemory) → OnlyReads old s → s.faults ≡ old.faults → OnlyTests s t → TriesDraw model schedule r old t
page_refused (Ok u) model schedule old s t refused reads kept tested = absurd refused
page_refused (Err e) model schedule old s t refused reads kept tested = subst (λ (x : GivenStop). TriesDraw model schedule (Err x) old t) (sym refused)
    (subst (TriesDraw model schedule (Err stop.NoMemory) old) (sym (both_only old s t reads tested)) (record { only = refl; later = subst (λ k. k ≤ t.faults) kept tested.later; tried = refl }))

-- How a run ended.

pub drawn : (model schedule : Bytes) (u : Unit {0}) (old new : State) → TriesDraw model schedule (Ok u) old new → WithinBoth model schedule old new → DrawPromise model schedule end.Done old new
drawn model schedule u old new tries within = record {
  only = ended_only old new tries.only;
  within = within;
  ends = (tries.tried.0, err_of old new tries.only, tries.tried.1);
}

part_same : (model schedule : Bytes) (old s new : State) → new.out ≡ s.out → DrawsPart model schedule old s → DrawsPart model schedule old new
part_same model schedule old s new out part = elim part as (λ w. DrawsPart model schedule old new) [
  | inl none ↦ inl (out ∙ none)
  | inr some ↦ inr (some.0, some.1, some.2, some.3, some.4, (some.5.0, some.5.1, out ∙ some.5.2))
]

no_memory : (model schedule : Bytes) (old s new : State) → WithinBoth model schedule old new → OnlyEnds old s → old.faults ≤ s.faults → s.out ≡ old.out → Reports memory_line s new → DrawPromise model schedule end.NoMemory old new
no_memory model schedule old s new within first later out told = record {
  only = whole_only old s new first told.only;
  within = within;
  ends = (out_told s new told.only ∙ out, tells_on memory_line old s new (err_of old s first) later told);
}

ended_as : (model schedule : Bytes) (e ended : Ended) (old new : State) → ended ≡ e → DrawPromise model schedule e old new → DrawPromise model schedule ended old new
ended_as model schedule e ended old new is promise = subst (λ x. DrawPromise model schedule x old new) (sym is) promise

pub stopped : (model schedule : Bytes) (why : GivenStop) (ended : Ended) (old s new : State) → WithinBoth model schedule old new → TriesDraw model schedule (Err why) old s → EndsStopped ending_of_stop why ended s new → DrawPromise model schedule ended old new
stopped model schedule stop.Fault ended old s new within tries ends = ended_as model schedule end.Fault ended old new ends.0 (record {
  only = whole_only old s new tries.only ends.1.only;
  within = within;
  ends = (
    (let rose = tries.tried.0 in let later = ends.1.later in omega (arith, rose, later)),
    tries.tried.1,
    part_same model schedule old s new (out_told s new ends.1.only) tries.tried.2,
    tells_on fault_line old s new (err_of old s tries.only) tries.later ends.1,
  );
})
stopped model schedule stop.NoMemory ended old s new within tries ends = ended_as model schedule end.NoMemory ended old new ends.0 (no_memory model schedule old s new within tries.only tries.later tries.tried ends.1)
stopped model schedule (stop.ModelRefused r) ended old s new within tries ends = elim ends as (λ w. DrawPromise model schedule ended old new) [
  | inl told ↦ ended_as model schedule end.ModelRefused ended old new told.0 (record {
    only = whole_only old s new tries.only told.1.only;
    within = within;
    ends = (out_told s new told.1.only ∙ tries.tried.0, (r, tries.tried.1, tells_on (refusal_line r) old s new (err_of old s tries.only) tries.later told.1));
  })
  | inr none ↦ ended_as model schedule end.NoMemory ended old new none.0 (no_memory model schedule old s new within tries.only tries.later tries.tried.0 none.1)
]
stopped model schedule (stop.ScheduleRefused r) ended old s new within tries ends = elim ends as (λ w. DrawPromise model schedule ended old new) [
  | inl told ↦ ended_as model schedule end.ScheduleRefused ended old new told.0 (record {
    only = whole_only old s new tries.only told.1.only;
    within = within;
    ends = (out_told s new told.1.only ∙ tries.tried.0, (r, tries.tried.1, tells_on (unfit_line r) old s new (err_of old s tries.only) tries.later told.1));
  })
  | inr none ↦ ended_as model schedule end.NoMemory ended old new none.0 (no_memory model schedule old s new within tries.only tries.later tries.tried.0 none.1)
]
