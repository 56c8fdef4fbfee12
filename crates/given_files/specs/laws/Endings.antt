-- A line that is told behind other steps, and the ending of a stop that was told.
use Rattle.std.proofs.Common.{◌≡◌, ◌≤◌, refl, sym, ap, subst, ◌∙◌, inl, inr, arith}
use Rattle.sched_base.specs.State.{State}
use Rattle.sched_base.specs.Calls.{appended, AppendedFrom}
use Rattle.textline.specs.Lines.{Bytes}
use Rattle.given_files.specs.declared.stop.GivenStop.{GivenStop}
use Rattle.given_files.specs.declared.stop.GivenStop.TheVariants as stop
use Rattle.given_files.specs.Told.{Tells, Reports}
use Rattle.given_files.specs.code.Telling.{EndsStopped, IsTold}

-- steps that told nothing stand before the line
pub tells_on : (text : Bytes) (old s new : State) → s.err ≡ old.err → old.faults ≤ s.faults → Reports text s new → Tells text old new
tells_on text old s new err later reports = record {
  part = subst (λ e. AppendedFrom text e new.err) err reports.tells.part;
  whole = elim reports.tells.whole [
    | inl rose ↦ inl (omega (arith, rose, later))
    | inr is ↦ inr (subst (λ e. new.err ≡ appended text e) err is)
  ];
}

-- where the ending is that of the stop which was told
pub told_ends : {E : Type 0} (ending : GivenStop → E) (why told : GivenStop) (old new : State) → IsTold why told old new → EndsStopped ending why (ending told) old new
told_ends ending stop.Fault told old new is = (ap ending is.0, is.1)
told_ends ending stop.NoMemory told old new is = (ap ending is.0, is.1)
told_ends ending (stop.ModelRefused r) told old new (inl is) = inl (ap ending is.0, is.1)
told_ends ending (stop.ModelRefused r) told old new (inr is) = inr (ap ending is.0, is.1)
told_ends ending (stop.ScheduleRefused r) told old new (inl is) = inl (ap ending is.0, is.1)
told_ends ending (stop.ScheduleRefused r) told old new (inr is) = inr (ap ending is.0, is.1)

-- Where only files were read and something was printed, and then a line was told.

abbrev pub OnlyEnds : State → State → Type 0
OnlyEnds old s = s ≡ record old { model = s.model; schedule = s.schedule; out = s.out; faults = s.faults }

abbrev pub OnlyTold : State → State → Type 0
OnlyTold s new = new ≡ record s { err = new.err; faults = new.faults }

pub out_told : (s new : State) → OnlyTold s new → new.out ≡ s.out
out_told s new told = ap (λ (x : State). x.out) told

pub err_of : (old s : State) → OnlyEnds old s → s.err ≡ old.err
err_of old s is = ap (λ (x : State). x.err) is

pub ended_only : (old s : State) → OnlyEnds old s → s ≡ record old { model = s.model; schedule = s.schedule; out = s.out; err = s.err; faults = s.faults }
ended_only old s is = subst (λ (x : State). x ≡ record old { model = x.model; schedule = x.schedule; out = x.out; err = x.err; faults = x.faults }) (sym is) refl

pub whole_only : (old s new : State) → OnlyEnds old s → OnlyTold s new → new ≡ record old { model = new.model; schedule = new.schedule; out = new.out; err = new.err; faults = new.faults }
whole_only old s new first told =
    let is : new ≡ record old { model = s.model; schedule = s.schedule; out = s.out; err = new.err; faults = new.faults } = told ∙ ap (λ (x : State). record x { err = new.err; faults = new.faults }) first in
    subst (λ (x : State). x ≡ record old { model = x.model; schedule = x.schedule; out = x.out; err = x.err; faults = x.faults }) (sym is) refl
