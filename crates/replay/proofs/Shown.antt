-- What showing and stepping a line says of the log.
use Rattle.std.proofs.Common.{ℕ, ℤ, Bool, List, Result, Ok, Err}
use Rattle.sched_base.specs.declared.reading.ReadError.{ReadError}
use Rattle.sched_base.specs.declared.reading.ReadError.TheVariants.{Failed, NoMemory as Memory}
use Rattle.sched_base.specs.State.{State}
use Rattle.sched_model.specs.Data.{Data}
use Rattle.textline.specs.Lines.{Bytes}
use Rattle.region.specs.Looks.{Refuting}
use Rattle.kernel.specs.declared.types.Line.{Line}
use Rattle.kernel.specs.Steps.{LogState}
use Rattle.logtext.specs.declared.entry.Entry.TheVariants.{Step}
use Rattle.log_lines.specs.code.Pieces.{Fed}
use Rattle.replay.specs.declared.reading.NextLine.TheVariants as found
use Rattle.replay.specs.declared.replaying.Turn.{Turn}
use Rattle.replay.specs.declared.replaying.Turn.TheVariants.{Stepped, Ended, Wrong, Missing, Beyond}
use Rattle.logtext.specs.Judgement.{log_limit}
use Rattle.replay.specs.code.Pieces.{FindsLine}
use Rattle.replay.specs.code.Turns.{Shows, Turns}
use Rattle.replay.proofs.Spelt.{Spellings}
use Rattle.replay.proofs.Judged.{step_wrong}
use Rattle.replay.proofs.Feeding.{short_of}
use Rattle.logtext.specs.declared.version.Version.{Version}

module _ {W S : Type 0} (refutes : Refuting W) (numbers : W → List ℤ) (valid : W → Bool) (noted : S → Line W → S) where
  pub shown : Spellings numbers valid → (m : Data) (version : Version) (start now : State) (fed : Bytes) (place : ℕ) (lines : Fed) (s t : LogState) (before after : S) (l : Line W) (r : Result Turn ReadError) → FindsLine numbers valid start now fed place (Ok (found.Line (Step l))) lines
      → Shows refutes noted m version l r s t before after → Turns refutes numbers valid noted m version start now fed place r lines s t before after
  shown laws m version start now fed place lines s t before after l (Ok Stepped) at shows = (at.0, at.1, (at.2.0, l, at.2.1, shows.0, shows.1, shows.2, at.2.2))
  shown laws m version start now fed place lines s t before after l (Ok Wrong) at shows = (at.0, at.1, step_wrong refutes numbers valid laws m version s at.0 place at.2.0 l at.2.1 shows)
  shown laws m version start now fed place lines s t before after l (Ok Ended) at shows = absurd shows
  shown laws m version start now fed place lines s t before after l (Ok Missing) at shows = absurd shows
  shown laws m version start now fed place lines s t before after l (Ok Beyond) at shows = absurd shows
  shown laws m version start now fed place lines s t before after l (Err Failed) at shows = absurd shows
  shown laws m version start now fed place lines s t before after l (Err Memory) at shows = (short_of refutes numbers valid start now at.0 place log_limit at.1.reading at.1.few, at.1.reading.kept)
