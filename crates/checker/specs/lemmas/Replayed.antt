-- What a replay says of the judgement of a log, for whoever says something of a whole one.
use Rattle.std.specs.Prelude.{Option, Some, None, Ok, Err, IfSome}
use Rattle.sched_base.specs.declared.desk.Inlet.TheVariants.{Log}
use Rattle.sched_base.specs.State.{State, left_in}
use Rattle.sched_model.specs.Data.{Data}
use Rattle.textline.specs.Lines.{Bytes}
use Rattle.kernel.specs.Steps.{LogState}
use Rattle.logtext.specs.Logs.{PlainLine}
use Rattle.logtext.specs.Extra.{log_refutes, log_numbers, log_valid}
use Rattle.logtext.specs.Judgement.{log_bytes}
use Rattle.replay.specs.declared.fault.ReplayFault.{ReplayFault}
use Rattle.replay.specs.declared.fault.ReplayFault.TheVariants.{Refused, TooLong, Fault, NoMemory}
use Rattle.replay.specs.Replaying.{Replays, IsWhole}
use Rattle.checker.specs.Checking.{ChecksBy}
use Rattle.checker.specs.code.Faults.{fault_of}

module _ {S V : Type 0} (Says : Data → Bytes → V → Type 0) (noted : S → PlainLine → S) (before after : S) where
  each : (o : Option Bytes) (P Q : Bytes → Type 0) → ((bs : Bytes) → P bs → Q bs) → IfSome o P → IfSome o Q
  each None P Q f is = tt
  each (Some bs) P Q f is = f bs is

  -- the log was refused, or not read to its end
  pub falls_short : (m : Data) (e : ReplayFault) (old new : State) → Replays log_refutes log_numbers log_valid noted m (Err e) before after old new → ChecksBy Says m (Err (fault_of e)) old new
  falls_short m (Refused k at) old new replays = record { judgement = replays.judgement; counts = replays.counts; reads = replays.reads; stops = replays.stops; only = replays.only; later = replays.later }
  falls_short m TooLong old new replays = record { judgement = replays.judgement; counts = replays.counts; reads = replays.reads; stops = tt; only = replays.only; later = replays.later }
  falls_short m Fault old new replays = record { judgement = replays.judgement; counts = replays.counts; reads = replays.reads; stops = tt; only = replays.only; later = replays.later }
  falls_short m NoMemory old new replays = record { judgement = replays.judgement; counts = replays.counts; reads = replays.reads; stops = tt; only = replays.only; later = replays.later }

  -- the log is whole, and what is said of it is so
  pub tells : (m : Data) (s : LogState) (v : V) (old new : State) → ((bytes : Bytes) → IsWhole log_refutes log_numbers log_valid noted m bytes s before after → Says m bytes v)
      → Replays log_refutes log_numbers log_valid noted m (Ok s) before after old new → ChecksBy Says m (Ok v) old new
  tells m s v old new says replays = record {
    judgement = each (left_in Log old) _ _ (λ bs judged. (says (log_bytes bs) judged.0, judged.1)) replays.judgement;
    counts = replays.counts;
    reads = replays.reads;
    stops = tt;
    only = replays.only;
    later = replays.later;
  }
