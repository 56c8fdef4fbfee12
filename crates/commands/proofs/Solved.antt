-- What solving a file has done, from what its steps did.
use Rattle.std.proofs.Common.{◌≡◌, ◌≤◌, ℕ, true, false, Ok, Err, take, refl, sym, ap, subst, ◌∙◌, inl, inr, arith}
use Rattle.sched_base.specs.declared.desk.Failed.{Failed}
use Rattle.sched_base.specs.declared.desk.Port.TheVariants.{Out}
use Rattle.sched_base.specs.State.{State, with_log}
use Rattle.sched_base.specs.Calls.{Writes, Rose, appended}
use Rattle.sched_model.specs.declared.types.Answer.{Answer}
use Rattle.sched_model.specs.declared.types.Answer.TheVariants.{Optimal, Feasible, Infeasible, Unfinished}
use Rattle.sched_model.specs.declared.types.Solved.{Solved}
use Rattle.sched_model.specs.Data.{Data}
use Rattle.textline.specs.Lines.{Bytes}
use Rattle.command_line.specs.declared.shop.Shop.{Shop}
use Rattle.cpo_elab.specs.Answers.Answer.{Accepted}
use Rattle.given_files.specs.declared.stop.GivenStop.{GivenStop}
use Rattle.given_files.specs.declared.stop.GivenStop.TheVariants as given
use Rattle.given_files.specs.code.Reading.{OnlyReads}
use Rattle.commands.specs.declared.ended.Ended.{Ended}
use Rattle.commands.specs.declared.ended.Ended.TheVariants as end
use Rattle.restart_rules.specs.Restarts.{Limits}
use Rattle.solver.specs.Answers.{is_unfinished}
use Rattle.commands.specs.declared.stop.RunStop.{RunStop}
use Rattle.commands.specs.declared.stop.RunStop.TheVariants as stop
use Rattle.commands.specs.Ended.{is_success}
use Rattle.commands.specs.Runs.{Source, SourceDeserves, ReadsSource, IsUnread, told_text, LogPromise, HoldsBegunLog, CutShort, ending_of}
use Rattle.commands.specs.Runs.Source.{file, generated}
use Rattle.commands.specs.Runs.CutShort.{before_log, in_log, in_answer}
use Rattle.commands.specs.code.Tries.{BeginsSearch, Searches, MakesModel, TriesSolve}

-- where nothing is read
pub nothing_read : (s : State) → OnlyReads s s
nothing_read s = record { only = refl; later = omega arith }

-- the slot of a generated model
pub unread_on : (model : Source) (old s t : State) → IsUnread model old s → t.model ≡ s.model → IsUnread model old t
unread_on (file name) old s t unread same = tt
unread_on (generated shop) old s t unread same = same ∙ unread

begun_model : (m : Data) (log : Bytes) (limits : Limits) (s t : State) → BeginsSearch m log limits s t → t.model ≡ s.model
begun_model m log limits s t (inl same) = ap (λ (x : State). x.model) same
begun_model m log limits s t (inr begun) = ap (λ (x : State). x.model) begun.1

-- the search has begun behind the reading of the model
pub begun_only : (m : Data) (log : Bytes) (limits : Limits) (old s t : State) → OnlyReads old s → BeginsSearch m log limits s t → t ≡ record old { model = t.model; out = t.out; logged = t.logged; created = t.created; logs = t.logs; faults = t.faults }
begun_only m log limits old s t reads (inl same) =
    let is : t ≡ record old { model = s.model; faults = t.faults } = same ∙ ap (λ (x : State). record x { faults = t.faults }) reads.only in
    subst (λ x. x ≡ record old { model = x.model; out = x.out; logged = x.logged; created = x.created; logs = x.logs; faults = x.faults }) (sym is) refl
begun_only m log limits old s t reads (inr begun) =
    let is : t ≡ record old { model = s.model; logged = t.logged; created = true; logs = with_log log old.logs; faults = t.faults } = begun.1 ∙ ap (λ (x : State). record x { logged = t.logged; created = true; logs = with_log log x.logs; faults = t.faults }) reads.only in
    subst (λ x. x ≡ record old { model = x.model; out = x.out; logged = x.logged; created = x.created; logs = x.logs; faults = x.faults }) (sym is) refl

pub begun_out : (m : Data) (log : Bytes) (limits : Limits) (old s t : State) → OnlyReads old s → BeginsSearch m log limits s t → t.out ≡ old.out
begun_out m log limits old s t reads (inl same) = ap (λ (x : State). x.out) same ∙ ap (λ (x : State). x.out) reads.only
begun_out m log limits old s t reads (inr begun) = ap (λ (x : State). x.out) begun.1 ∙ ap (λ (x : State). x.out) reads.only

pub begun_cut : (m : Data) (limits : Limits) (model : Source) (log : Bytes) (old s t : State) → OnlyReads old s → SourceDeserves old model (Accepted m) → BeginsSearch m log limits s t → CutShort model log limits old t
begun_cut m limits model log old s t reads deserved (inl same) =
    let is : t ≡ record old { model = s.model; faults = t.faults } = same ∙ ap (λ (x : State). record x { faults = t.faults }) reads.only in
    subst (CutShort model log limits old) (sym is) (before_log refl)
begun_cut m limits model log old s t reads deserved (inr begun) =
    in_log m deserved (ap (λ (x : State). x.created) begun.1, ap (λ (x : State). x.logs) begun.1 ∙ ap (λ (x : State). with_log log x.logs) reads.only) (subst (λ b. HoldsBegunLog m limits b t.logged) (ap (λ (x : State). x.logged) reads.only) begun.0)
    (begun_out m log limits old s t reads (inr begun))

-- the search came to no answer
pub stopped : (m : Data) (limits : Limits) (model : Source) (log : Bytes) (e : RunStop) (old s t : State) → OnlyReads old s → IsUnread model old s → s.faults ≡ old.faults → SourceDeserves old model (Accepted m) → Searches m log limits (Err e) s t → TriesSolve model log limits (Err e) old t
stopped m limits model log (stop.Given given.Fault) old s t reads unread kept deserved says = record {
  only = begun_only m log limits old s t reads says.3;
  unread = unread_on model old s t unread (begun_model m log limits s t says.3);
  later = omega (arith, reads.later, says.2);
  tried = (
    subst (λ n. Rose n t.faults) kept says.0,
    (λ calm there. says.1 (ap (λ (x : State). x.calm) reads.only ∙ calm)),
    begun_cut m limits model log old s t reads deserved says.3,
  );
}
stopped m limits model log (stop.Given given.NoMemory) old s t reads unread kept deserved says = record {
  only = begun_only m log limits old s t reads says.1;
  unread = unread_on model old s t unread (begun_model m log limits s t says.1);
  later = omega (arith, reads.later, says.0);
  tried = (begun_out m log limits old s t reads says.1, begun_cut m limits model log old s t reads deserved says.1);
}
stopped m limits model log (stop.Given (given.ModelRefused r)) old s t reads unread kept deserved says = absurd says
stopped m limits model log (stop.LogRefused k) old s t reads unread kept deserved says = absurd says
stopped m limits model log stop.LogTooLong old s t reads unread kept deserved says = absurd says
stopped m limits model log (stop.Given (given.ScheduleRefused r)) old s t reads unread kept deserved says = absurd says

-- a job shop's text came to no model
pub unmade : (shop : Shop) (log : Bytes) (limits : Limits) (e : GivenStop) (old : State) → MakesModel shop (Err e) → TriesSolve (generated shop) log limits (Err (stop.Given e)) old old
unmade shop log limits given.NoMemory old makes = record { only = refl; unread = refl; later = omega arith; tried = (refl, before_log refl) }
unmade shop log limits (given.ModelRefused r) old makes = record { only = refl; unread = refl; later = omega arith; tried = (nothing_read old, refl, makes, tt) }
unmade shop log limits given.Fault old makes = absurd makes
unmade shop log limits (given.ScheduleRefused r) old makes = absurd makes

-- the answer is there: what stands on the desk by then
answered : (m : Data) (log : Bytes) (limits : Limits) (solved : Solved) (old s t : State) → OnlyReads old s → Searches m log limits (Ok solved) s t → t ≡ record old { model = s.model; logged = t.logged; created = true; logs = with_log log old.logs; faults = s.faults }
answered m log limits solved old s t reads says = says.2 ∙ ap (λ (x : State). record x { logged = t.logged; created = true; logs = with_log log x.logs }) reads.only

answered_log : (m : Data) (log : Bytes) (limits : Limits) (solved : Solved) (old s t : State) → OnlyReads old s → Searches m log limits (Ok solved) s t → LogPromise m limits solved old.logged t.logged
answered_log m log limits solved old s t reads says = subst (λ b. LogPromise m limits solved b t.logged) (ap (λ (x : State). x.logged) reads.only) says.0

-- an answer that isn't unfinished doesn't end so
never_ends : (a : Answer) → is_unfinished a ≡ false → ending_of a ≡ end.Unfinished → ⊥
never_ends (Optimal v b) h is = cc
never_ends (Feasible b) h is = cc
never_ends Infeasible h is = cc
never_ends (Unfinished found) h is = cc

-- it was printed
pub printed : (m : Data) (limits : Limits) (solved : Solved) (model : Source) (log : Bytes) (ended : Ended) (u : Unit {0}) (old s t w : State) → OnlyReads old s → IsUnread model old s → s.faults ≡ old.faults → SourceDeserves old model (Accepted m) → ((x : State) → x.model ≡ s.model → ReadsSource model old x) → Searches m log limits (Ok solved) s t
    → Writes Out (told_text model m solved) (Ok u) t w → ended ≡ ending_of solved.answer → is_success ended ≡ true → TriesSolve model log limits (Ok ended) old w
printed m limits solved model log ended u old s t w reads unread kept deserved far says writes ending success =
    let text : Bytes = told_text model m solved in
    let is : w ≡ record old { model = s.model; out = appended text old.out; logged = t.logged; created = true; logs = with_log log old.logs; faults = s.faults } =
    writes.written
    ∙ ap (λ (x : State). record x { out = appended text x.out }) (answered m log limits solved old s t reads says) in
    subst (TriesSolve model log limits (Ok ended) old) (sym is) (record {
      only = refl;
      unread = unread_on model old s _ unread refl;
      later = reads.later;
      tried = (
        kept,
        success,
        record { m = m; solved = solved; deserved = deserved; answer = says.1; values = says.3; ending = ending; enough = λ h is. never_ends solved.answer (says.0.enough h) (sym ending ∙ is); printed = refl; created = (refl, refl); written = answered_log m log limits solved old s t reads says },
        far _ refl,
      );
    })

-- or a front part of it
pub half_printed : (m : Data) (limits : Limits) (solved : Solved) (model : Source) (log : Bytes) (e : Failed) (old s t w : State) → OnlyReads old s → IsUnread model old s → s.faults ≡ old.faults → SourceDeserves old model (Accepted m) → Searches m log limits (Ok solved) s t
    → Writes Out (told_text model m solved) (Err e) t w → TriesSolve model log limits (Err (stop.Given given.Fault)) old w
half_printed m limits solved model log e old s t w reads unread kept deserved says writes =
    let text : Bytes = told_text model m solved in
    let n : ℕ = writes.failed.0 in
    let here = answered m log limits solved old s t reads says in
    let faults : t.faults ≡ old.faults = ap (λ (x : State). x.faults) here ∙ kept in
    let is : w ≡ record old { model = s.model; out = appended (take n text) old.out; logged = t.logged; created = true; logs = with_log log old.logs; faults = w.faults } =
    writes.failed.2
    ∙ ap (λ (x : State). record x { out = appended (take n text) x.out; faults = w.faults }) here in
    subst (TriesSolve model log limits (Err (stop.Given given.Fault)) old) (sym is) (record {
      only = refl;
      unread = unread_on model old s _ unread refl;
      later = subst (λ k. k ≤ w.faults) faults writes.count.later;
      tried = (
        subst (λ k. Rose k w.faults) faults writes.count.failed,
        (λ calm there. let ok = writes.calm (ap (λ (x : State). x.calm) here ∙ calm) in cc),
        in_answer m solved deserved says.1 (refl, refl) (answered_log m log limits solved old s t reads says) (n, writes.failed.1, refl),
      );
    })
