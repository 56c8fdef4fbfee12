-- What the bytes of a schedule's file are, from the first of them.
use Rattle.std.proofs.Common.{◌≡◌, ◌≤◌, ◌+◌, List, Option, Some, None, Result, Ok, Err, length, length-take, take_all, ap, subst, ◌∙◌, arith}
use Rattle.std.specs.Prelude.{IfSome}
use Rattle.sched_base.specs.declared.desk.File.{File}
use Rattle.sched_base.specs.State.{State, bytes_of}
use Rattle.sched_model.specs.declared.types.Assignment.{Assignment}
use Rattle.sched_model.specs.Data.{Data}
use Rattle.textline.specs.Lines.{Bytes}
use Rattle.given_files.specs.declared.stop.ScheduleRefusal.{ScheduleRefusal}
use Rattle.given_files.specs.declared.stop.ScheduleRefusal.TheVariants.{TooLong, Line, Constraint}
use Rattle.given_files.specs.declared.stop.GivenStop.{GivenStop}
use Rattle.given_files.specs.declared.stop.GivenStop.TheVariants as stop
use Rattle.given_files.specs.Files.{IfFile, schedule_limit}
use Rattle.given_files.specs.Schedules.{SpellsWithin, IsUnfit}
use Rattle.given_files.specs.code.Testing.{schedule_bytes, FetchesSchedule, Tests, TestsFile}

if_bytes : (o : Option Bytes) (P Q : Bytes → Type 0) → ((bs : Bytes) → P bs → Q bs) → IfSome o P → IfSome o Q
if_bytes None P Q gives is = tt
if_bytes (Some bs) P Q gives is = gives bs is

if_there : (files : Option (List File)) (name : Bytes) (P Q : Bytes → Type 0) → ((bs : Bytes) → P bs → Q bs) → IfSome files (λ fs. IfSome (bytes_of fs name) P) → IfSome files (λ fs. IfSome (bytes_of fs name) Q)
if_there None name P Q gives is = tt
if_there (Some fs) name P Q gives is = if_bytes (bytes_of fs name) P Q gives is

if_file : (s : State) (name : Bytes) (P Q : Bytes → Type 0) → ((bs : Bytes) → P bs → Q bs) → IfFile s name P → IfFile s name Q
if_file s name P Q gives is = (is.0, if_there s.files name P Q gives is.1)

-- where the first 67,108,865 bytes are no more than the limit, they are all of the file
all_read : (b bs : Bytes) → b ≡ schedule_bytes bs → length b ≤ schedule_limit → b ≡ bs
all_read b bs is few = let size : length b ≡ length (schedule_bytes bs) = ap length is in
    is ∙ take_all (schedule_limit + 1) bs (omega (arith, few, size, length-take (schedule_limit + 1) bs))

spells_all : (m : Data) (a : Assignment) (b bs : Bytes) → b ≡ schedule_bytes bs → SpellsWithin m b a → SpellsWithin m bs a
spells_all m a b bs is spells = subst (λ x. SpellsWithin m x a) (all_read b bs is spells.0) spells

unfit_all : (m : Data) (r : ScheduleRefusal) (b bs : Bytes) → b ≡ schedule_bytes bs → IsUnfit m b r → IsUnfit m bs r
unfit_all m TooLong b bs is long = let size : length b ≡ length (schedule_bytes bs) = ap length is in omega (arith, long, size, length-take (schedule_limit + 1) bs)
unfit_all m (Line k) b bs is unfit = subst (λ x. IsUnfit m x (Line k)) (all_read b bs is unfit.0) unfit
unfit_all m (Constraint c) b bs is unfit = (unfit.0, spells_all m unfit.0 b bs is unfit.1, unfit.2)

pub tested : (m : Data) (name bytes : Bytes) (r : Result Assignment GivenStop) (old new : State) → FetchesSchedule name (Ok bytes) old new → Tests m bytes r → TestsFile m name r old new
tested m name bytes (Ok a) old new fetched tests = (
  fetched.0,
  if_file old name (λ bs. bytes ≡ schedule_bytes bs) (λ bs. SpellsWithin m bs a) (λ bs is. spells_all m a bytes bs is tests.0) fetched.1,
  tests.1,
  fetched.2,
)
tested m name bytes (Err (stop.ScheduleRefused r)) old new fetched tests = (if_file old name (λ bs. bytes ≡ schedule_bytes bs) (λ bs. IsUnfit m bs r) (λ bs is. unfit_all m r bytes bs is tests) fetched.1, fetched.2, fetched.0)
tested m name bytes (Err stop.NoMemory) old new fetched tests = tt
tested m name bytes (Err stop.Fault) old new fetched tests = absurd tests
tested m name bytes (Err (stop.ModelRefused r)) old new fetched tests = absurd tests
