-- What a run has told, from what its steps did.
use Rattle.std.proofs.Common.{Result, ◌≡◌, ◌≤◌, ℕ, List, Option, Some, None, Ok, Err, take, refl, sym, ap, subst, ◌∙◌, inl, inr, arith}
use Rattle.std.specs.Prelude.{IfSome}
use Rattle.sched_base.specs.declared.desk.Failed.{Failed}
use Rattle.sched_base.specs.declared.desk.File.{File}
use Rattle.sched_base.specs.declared.desk.Port.TheVariants.{Out}
use Rattle.sched_base.specs.State.{State, bytes_of}
use Rattle.sched_base.specs.Calls.{Rose, Writes, appended}
use Rattle.sched_model.specs.declared.types.Assignment.{Assignment}
use Rattle.sched_model.specs.Data.{Data}
use Rattle.cpo_text.specs.declared.text.Refusal.{Refusal}
use Rattle.cpo_elab.specs.Answers.{Answer}
use Rattle.cpo_elab.specs.Answers.Answer.{Accepted, Refused}
use Rattle.cpo_elab.specs.Deserves.{Deserves}
use Rattle.textline.specs.Lines.{Bytes}
use Rattle.given_files.specs.declared.stop.ScheduleRefusal.{ScheduleRefusal}
use Rattle.given_files.specs.declared.stop.GivenStop.{GivenStop}
use Rattle.given_files.specs.declared.stop.GivenStop.TheVariants as stop
use Rattle.given_files.specs.Files.{IfFile, FileDeserves}
use Rattle.given_files.specs.Schedules.{SpellsWithin, IsUnfit}
use Rattle.given_files.specs.Told.{fault_line, memory_line}
use Rattle.given_files.specs.code.Reading.{OnlyReads}
use Rattle.given_files.specs.code.Telling.{EndsStopped}
use Rattle.given_files.specs.code.Testing.{TestsFile}
use Rattle.given_files.specs.laws.Endings.{tells_on, err_of, ended_only, whole_only}
use Rattle.given_files.specs.laws.Within.{SameSlots, written_slots, model_on, schedule_on, told_slots}
use Rattle.reasons.specs.declared.ended.Ended.{Ended}
use Rattle.reasons.specs.declared.ended.Ended.TheVariants as end
use Rattle.reasons.specs.declared.explaining.Explained.{Explained}
use Rattle.reasons.specs.Runs.{HoldsText, Explains, WhyEnds, WhyPromise, WithinFiles, TellsPart}
use Rattle.reasons.specs.Texts.{right_text}
use Rattle.reasons.specs.code.Ended.{ending_of_stop}
use Rattle.reasons.specs.code.Tries.{ExplainTried, FetchesText, FindsOf, OfModel, OfRight, OfSchedule, OfStop, OnlyLooks, PrintsIt, Tested, TriesWhy, WhyTried}

-- What a file's bytes are, and what follows of them.

file_map : (name : Bytes) (P Q : Bytes → Type 0) → ((bs : Bytes) → P bs → Q bs) → (s : State) → IfFile s name P → IfFile s name Q
file_map name P Q f s is = (is.0, in_files s.files is.1)
  where
    in_bytes : (o : Option Bytes) → IfSome o P → IfSome o Q
    in_bytes None is = tt
    in_bytes (Some bs) is = f bs is

    in_files : (files : Option (List File)) → IfSome files (λ fs. IfSome (bytes_of fs name) P) → IfSome files (λ fs. IfSome (bytes_of fs name) Q)
    in_files None is = tt
    in_files (Some fs) is = in_bytes (bytes_of fs name) is

deserved : (model text : Bytes) (answer : Answer) (s : State) → HoldsText model text s → Deserves text answer → FileDeserves s model answer
deserved model text answer s holds due = file_map model _ _ (λ bs is. subst (λ t. Deserves t answer) is due) s holds

-- Why something is refused, or that nothing is.

pub alone_right : (model text : Bytes) (m : Data) (x : Explained) (old : State) → HoldsText model text old → Deserves text (Accepted m) → x.ended ≡ end.Done → x.text ≡ right_text → Explains model None x.ended x.text old
alone_right model text m x old holds due ended is = subst (λ e. Explains model None e x.text old) (sym ended) ((m, deserved model text (Accepted m) old holds due), is)

pub refused : (model : Bytes) (schedule : Option Bytes) (text : Bytes) (r : Refusal) (x : Explained) (old : State) → HoldsText model text old → Deserves text (Refused r) → OfModel text r (Ok x) → Explains model schedule x.ended x.text old
refused model schedule text r x old holds due of =
    subst (λ e. Explains model schedule e x.text old) (sym of.0)
    (record { refusal = r; due = deserved model text (Refused r) old holds due; text = text; holds = holds; stuck = of.1.0; there = of.1.1; is = of.1.2 })

read_behind : (old s : State) (schedule : Bytes) (P : Bytes → Type 0) → OnlyReads old s → IfFile s schedule P → IfFile old schedule P
read_behind old s schedule P reads is = subst (λ (files : Option (List File)). IfFile (record old { files = files }) schedule P) (ap (λ (x : State). x.files) reads.only) is

pub found : (model schedule text : Bytes) (m : Data) (x : Explained) (old s : State) → OnlyReads old s → HoldsText model text old → Deserves text (Accepted m) → FindsOf m text schedule x s → Explains model (Some schedule) x.ended x.text old
found model schedule text m x old s reads holds due finds = elim finds as (λ w. Explains model (Some schedule) x.ended x.text old) [
  | inl right ↦ subst (λ e. Explains model (Some schedule) e x.text old) (sym right.0)
      ((m, right.2.0, record { deserved = deserved model text (Accepted m) old holds due; spells = read_behind old s schedule (λ bytes. SpellsWithin m bytes right.2.0) reads right.2.1; solves = right.2.2 }), right.1)
  | inr unfit ↦ subst (λ e. Explains model (Some schedule) e x.text old) (sym unfit.0)
      (record {
        refusal = unfit.1.0;
        due = record { m = m; deserved = deserved model text (Accepted m) old holds due; unfit = read_behind old s schedule (λ bytes. IsUnfit m bytes unfit.1.0) reads unfit.1.2 };
        text = text;
        holds = holds;
        part = unfit.1.1;
        there = unfit.1.3;
        is = unfit.1.4;
      })
]

-- What a schedule in a file is found to be.

pub tested_right : (m : Data) (text schedule : Bytes) (a : Assignment) (r : Result Explained GivenStop) (old s : State) → TestsFile m schedule (Ok a) old s → OfRight r → Tested m text schedule r old s
tested_right m text schedule a (Ok x) old s tests right = (tests.0, inl (right.0, right.1, (a, tests.1, tests.2)))
tested_right m text schedule a (Err stop.NoMemory) old s tests right = tt
tested_right m text schedule a (Err stop.Fault) old s tests right = absurd right
tested_right m text schedule a (Err (stop.ModelRefused e)) old s tests right = absurd right
tested_right m text schedule a (Err (stop.ScheduleRefused e)) old s tests right = absurd right

tested_unfit : (m : Data) (text schedule : Bytes) (e : ScheduleRefusal) (r : Result Explained GivenStop) (old s : State) → TestsFile m schedule (Err (stop.ScheduleRefused e)) old s → OfSchedule text e r → Tested m text schedule r old s
tested_unfit m text schedule e (Ok x) old s tests of = (tests.2, inr (of.0, (e, of.1.0, tests.0, of.1.1, of.1.2)))
tested_unfit m text schedule e (Err stop.NoMemory) old s tests of = tt
tested_unfit m text schedule e (Err stop.Fault) old s tests of = absurd of
tested_unfit m text schedule e (Err (stop.ModelRefused f)) old s tests of = absurd of
tested_unfit m text schedule e (Err (stop.ScheduleRefused f)) old s tests of = absurd of

pub tested_stopped : (m : Data) (text schedule : Bytes) (why : GivenStop) (r : Result Explained GivenStop) (old s : State) → TestsFile m schedule (Err why) old s → OfStop text why r → Tested m text schedule r old s
tested_stopped m text schedule (stop.ScheduleRefused e) r old s tests of = tested_unfit m text schedule e r old s tests of
tested_stopped m text schedule stop.Fault r old s tests of = subst (λ x. Tested m text schedule x old s) (sym of) tests
tested_stopped m text schedule stop.NoMemory r old s tests of = subst (λ x. Tested m text schedule x old s) (sym of) tt
tested_stopped m text schedule (stop.ModelRefused e) r old s tests of = absurd tests

-- What is told of a model, and of a schedule with it.

pub not_fetched : (model : Bytes) (schedule : Option Bytes) (why : GivenStop) (old s : State) → FetchesText model (Err why) old s → ExplainTried model schedule (Err why) old s
not_fetched model schedule stop.Fault old s fault = (fault.rose, λ calm model_there schedule_there. fault.calm calm model_there)
not_fetched model schedule stop.NoMemory old s fault = tt
not_fetched model schedule (stop.ModelRefused e) old s fault = absurd fault
not_fetched model schedule (stop.ScheduleRefused e) old s fault = absurd fault

pub alone_told : (model text : Bytes) (m : Data) (r : Result Explained GivenStop) (old s : State) → s.faults ≡ old.faults → HoldsText model text old → Deserves text (Accepted m) → OfRight r → ExplainTried model None r old s
alone_told model text m (Ok x) old s kept holds due right = (kept, alone_right model text m x old holds due right.0 right.1)
alone_told model text m (Err stop.NoMemory) old s kept holds due right = tt
alone_told model text m (Err stop.Fault) old s kept holds due right = absurd right
alone_told model text m (Err (stop.ModelRefused e)) old s kept holds due right = absurd right
alone_told model text m (Err (stop.ScheduleRefused e)) old s kept holds due right = absurd right

pub both_told : (model schedule text : Bytes) (m : Data) (r : Result Explained GivenStop) (old s t : State) → OnlyReads old s → s.faults ≡ old.faults → HoldsText model text old → Deserves text (Accepted m) → Tested m text schedule r s t → ExplainTried model (Some schedule) r old t
both_told model schedule text m (Ok x) old s t reads kept holds due tests = (tests.0 ∙ kept, found model schedule text m x old s reads holds due tests.1)
both_told model schedule text m (Err stop.Fault) old s t reads kept holds due tests = (
  subst (λ k. Rose k t.faults) kept tests.rose,
  λ calm model_there schedule_there. tests.calm (ap (λ (x : State). x.calm) reads.only ∙ calm) (schedule_there.0, ap (λ (x : State). x.files) reads.only ∙ schedule_there.1, schedule_there.2),
)
both_told model schedule text m (Err stop.NoMemory) old s t reads kept holds due tests = tt
both_told model schedule text m (Err (stop.ModelRefused e)) old s t reads kept holds due tests = absurd tests
both_told model schedule text m (Err (stop.ScheduleRefused e)) old s t reads kept holds due tests = absurd tests

-- It was told.

module _ (model : Bytes) (schedule : Option Bytes) (old t : State) (looks : OnlyLooks old t) where
  pub printed : (x : Explained) (e : Ended) (u : Unit {0}) (w : State) → ExplainTried model schedule (Ok x) old t → e ≡ x.ended → Writes Out x.text (Ok u) t w → TriesWhy model schedule (Ok e) old w
  printed x e u w tried same writes =
      let is : w ≡ record old { model = t.model; schedule = t.schedule; out = appended x.text old.out; faults = t.faults } = writes.written ∙ ap (λ (y : State). record y { out = appended x.text y.out }) looks.only in
      subst (TriesWhy model schedule (Ok e) old) (sym is) (record {
        only = refl;
        later = looks.later;
        tried = (tried.0, (x.text, subst (λ k. Explains model schedule k x.text old) (sym same) tried.1, refl));
      })

  pub half_printed : (x : Explained) (f : Failed) (w : State) → ExplainTried model schedule (Ok x) old t → Writes Out x.text (Err f) t w → TriesWhy model schedule (Err stop.Fault) old w
  half_printed x f w tried writes =
      let n : ℕ = writes.failed.0 in
      let is : w ≡ record old { model = t.model; schedule = t.schedule; out = appended (take n x.text) old.out; faults = w.faults } =
      writes.failed.2 ∙ ap (λ (y : State). record y { out = appended (take n x.text) y.out; faults = w.faults }) looks.only in
      subst (TriesWhy model schedule (Err stop.Fault) old) (sym is) (record {
        only = refl;
        later = subst (λ k. k ≤ w.faults) tried.0 writes.count.later;
        tried = (
          subst (λ k. Rose k w.faults) tried.0 writes.count.failed,
          (λ calm model_there schedule_there. let ok = writes.calm (ap (λ (y : State). y.calm) looks.only ∙ calm) in cc),
          inr (x.ended, x.text, tried.1, (n, writes.failed.1, refl)),
        );
      })

  out_same : t.out ≡ old.out
  out_same = ap (λ (y : State). y.out) looks.only

  only_out : t ≡ record old { model = t.model; schedule = t.schedule; out = t.out; faults = t.faults }
  only_out = subst (λ (x : State). x ≡ record old { model = x.model; schedule = x.schedule; out = x.out; faults = x.faults }) (sym looks.only) refl

  pub not_told : (why : GivenStop) → ExplainTried model schedule (Err why) old t → TriesWhy model schedule (Err why) old t
  not_told stop.Fault tried = record { only = only_out; later = looks.later; tried = (tried.0, tried.1, inl out_same) }
  not_told stop.NoMemory tried = record { only = only_out; later = looks.later; tried = out_same }
  not_told (stop.ModelRefused r) tried = absurd tried
  not_told (stop.ScheduleRefused r) tried = absurd tried

  pub print_told : (x : Explained) (r : Result Ended GivenStop) (w : State) → ExplainTried model schedule (Ok x) old t → PrintsIt x r t w → TriesWhy model schedule r old w
  print_told x (Ok e) w tried prints = printed x e prints.1.0 w tried prints.0 prints.1.1
  print_told x (Err stop.Fault) w tried prints = half_printed x prints.0 w tried prints.1
  print_told x (Err stop.NoMemory) w tried prints = absurd prints
  print_told x (Err (stop.ModelRefused r)) w tried prints = absurd prints
  print_told x (Err (stop.ScheduleRefused r)) w tried prints = absurd prints

-- What was read stays within its bounds.

print_slots : (x : Explained) (r : Result Ended GivenStop) (t w : State) → PrintsIt x r t w → SameSlots t w
print_slots x (Ok e) t w prints = written_slots x.text (Ok prints.1.0) t w prints.1.1
print_slots x (Err stop.Fault) t w prints = written_slots x.text (Err prints.0) t w prints.1
print_slots x (Err stop.NoMemory) t w prints = absurd prints
print_slots x (Err (stop.ModelRefused r)) t w prints = absurd prints
print_slots x (Err (stop.ScheduleRefused r)) t w prints = absurd prints

within_on : (model : Bytes) (schedule : Option Bytes) (old t w : State) → SameSlots t w → WithinFiles model schedule old t → WithinFiles model schedule old w
within_on model None old t w same within = model_on model old t w same.model within
within_on model (Some schedule) old t w same within = (model_on model old t w same.model within.0, schedule_on schedule old t w same.schedule within.1)

pub within_printed : (model : Bytes) (schedule : Option Bytes) (x : Explained) (r : Result Ended GivenStop) (old t w : State) → WithinFiles model schedule old t → PrintsIt x r t w → WithinFiles model schedule old w
within_printed model schedule x r old t w within prints = within_on model schedule old t w (print_slots x r t w prints) within

pub within_told : (model : Bytes) (schedule : Option Bytes) (why : GivenStop) (ended : Ended) (old s new : State) → WithinFiles model schedule old s → EndsStopped ending_of_stop why ended s new → WithinFiles model schedule old new
within_told model schedule why ended old s new within ends = within_on model schedule old s new (told_slots ending_of_stop why ended s new ends) within

-- How a run ended.

module _ (model : Bytes) (schedule : Option Bytes) where
  by_ending : (e : Ended) (old new : State) → new.err ≡ old.err → WhyTried model schedule (Ok e) old new → WhyEnds model schedule e old new
  by_ending end.Done old new err tried = (tried.0, err, tried.1)
  by_ending end.ModelRefused old new err tried = (tried.0, err, tried.1)
  by_ending end.ScheduleRefused old new err tried = (tried.0, err, tried.1)
  by_ending end.Usage old new err tried = absurd tried.1.1
  by_ending end.Fault old new err tried = absurd tried.1.1
  by_ending end.NoMemory old new err tried = absurd tried.1.1

  pub told : (e : Ended) (old new : State) → TriesWhy model schedule (Ok e) old new → WithinFiles model schedule old new → WhyPromise model schedule e old new
  told e old new tries within = record {
    only = ended_only old new tries.only;
    within = within;
    ends = by_ending e old new (err_of old new tries.only) tries.tried;
  }

  part_kept : (old s new : State) → new.out ≡ s.out → TellsPart model schedule old s → TellsPart model schedule old new
  part_kept old s new out part = elim part as (λ w. TellsPart model schedule old new) [
    | inl none ↦ inl (out ∙ none)
    | inr some ↦ inr (some.0, some.1, some.2, (some.3.0, some.3.1, out ∙ some.3.2))
  ]

  as_told : (e ended : Ended) (old new : State) → ended ≡ e → WhyPromise model schedule e old new → WhyPromise model schedule ended old new
  as_told e ended old new is promise = subst (λ x. WhyPromise model schedule x old new) (sym is) promise

  pub stopped : (why : GivenStop) (ended : Ended) (old s new : State) → WithinFiles model schedule old new → TriesWhy model schedule (Err why) old s → EndsStopped ending_of_stop why ended s new → WhyPromise model schedule ended old new
  stopped stop.Fault ended old s new within tries ends = as_told end.Fault ended old new ends.0 (record {
    only = whole_only old s new tries.only ends.1.only;
    within = within;
    ends = (
      (let rose = tries.tried.0 in let later = ends.1.later in omega (arith, rose, later)),
      tries.tried.1,
      part_kept old s new (ap (λ (x : State). x.out) ends.1.only) tries.tried.2,
      tells_on fault_line old s new (err_of old s tries.only) tries.later ends.1,
    );
  })
  stopped stop.NoMemory ended old s new within tries ends = as_told end.NoMemory ended old new ends.0 (record {
    only = whole_only old s new tries.only ends.1.only;
    within = within;
    ends = (ap (λ (x : State). x.out) ends.1.only ∙ tries.tried, tells_on memory_line old s new (err_of old s tries.only) tries.later ends.1);
  })
  stopped (stop.ModelRefused r) ended old s new within tries ends = absurd tries.tried
  stopped (stop.ScheduleRefused r) ended old s new within tries ends = absurd tries.tried
