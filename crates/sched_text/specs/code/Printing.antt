-- What the printing of a text does. The text is gathered on a page, which is written when it is full; a failure stays.
use Rattle.std.specs.Prelude.{◌≡◌, ℕ, ◌≤◌, true, false, [], ◌++◌, length, take}
use Rattle.sched_base.specs.declared.desk.Port.TheVariants.{Out}
use Rattle.sched_base.specs.State.{State, with_faults, with_held}
use Rattle.sched_base.specs.Calls.{Rose, appended}
use Rattle.textline.specs.Lines.{Bytes}
use Rattle.sched_text.specs.declared.page.Page.{Page}

-- a write failed, and by then a front part of the whole text stood on standard output
pub record IsCutOff (start : State) (whole : Bytes) (now : State) : Type 0 where
  pub part : (n : ℕ) × (n ≤ length whole) × (now ≡ with_faults now.faults (with_held Out (appended (take n whole) start.out) start))
  pub later : start.faults ≤ now.faults
  pub rose : Rose start.faults now.faults
  pub calm : start.calm ≡ true → ⊥

-- of the whole text some was written since the start, some waits on the page, and this is left; or a write of it failed
pub record IsPrinted (start : State) (whole left : Bytes) (page : Page) (now : State) : Type 0 where
  pub going : page.failed ≡ false → (written : Bytes) × (now ≡ with_held Out (appended written start.out) start) × (written ++ (page.waiting ++ left) ≡ whole)
  pub failed : page.failed ≡ true → IsCutOff start whole now

-- where this text was left to print, the second is left now
pub record Leaves (text left : Bytes) (old new : Page) (before after : State) : Type 0 where
  pub leaves : (start : State) (whole rest : Bytes) → IsPrinted start whole (text ++ rest) old before → IsPrinted start whole (left ++ rest) new after

-- the text was printed
abbrev pub Prints : Bytes → Page → Page → State → State → Type 0
Prints text old new before after = Leaves text [] old new before after
