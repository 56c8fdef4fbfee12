-- A model was read, and a schedule of it was tested.
use Rattle.std.proofs.Common.{◌≡◌, List, Option, Ok, ap, subst, ◌∙◌}
use Rattle.sched_base.specs.declared.desk.File.{File}
use Rattle.sched_base.specs.State.{State}
use Rattle.sched_model.specs.declared.types.Assignment.{Assignment}
use Rattle.sched_model.specs.Data.{Data}
use Rattle.cpo_elab.specs.Answers.Answer.{Accepted}
use Rattle.textline.specs.Lines.{Bytes}
use Rattle.given_files.specs.Files.{IfFile, FileDeserves}
use Rattle.given_files.specs.Schedules.{SpellsWithin, IsVerified}
use Rattle.given_files.specs.code.Reading.{OnlyReads}
use Rattle.given_files.specs.code.Testing.{OnlyTests, TestsFile}

pub both_only : (old s t : State) → OnlyReads old s → OnlyTests s t → t ≡ record old { model = s.model; schedule = t.schedule; faults = t.faults }
both_only old s t reads tested = tested.only ∙ ap (λ (x : State). record x { schedule = t.schedule; faults = t.faults }) reads.only

-- the schedule is a solution
pub verifies : (m : Data) (model schedule : Bytes) (a : Assignment) (old s t : State) → OnlyReads old s → FileDeserves old model (Accepted m) → TestsFile m schedule (Ok a) s t → IsVerified model schedule m a old
verifies m model schedule a old s t reads deserved tests = record {
  deserved = deserved;
  spells = subst (λ (files : Option (List File)). IfFile (record old { files = files }) schedule (λ bytes. SpellsWithin m bytes a)) (ap (λ (x : State). x.files) reads.only) tests.1;
  solves = tests.2;
}
