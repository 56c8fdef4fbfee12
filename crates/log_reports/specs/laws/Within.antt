-- What reads no further stays within the bound of the log's file.
use Rattle.std.proofs.Common.{◌≡◌, ◌+◌, List, Option, subst, sym, ◌∙◌, inl, inr}
use Rattle.std.specs.Prelude.{option_and_then}
use Rattle.sched_base.specs.declared.desk.File.{File}
use Rattle.sched_base.specs.State.{State, Place, bytes_of}
use Rattle.sched_base.specs.Calls.{ReadsAtMost}
use Rattle.textline.specs.Lines.{Bytes}
use Rattle.logtext.specs.Judgement.{log_limit}
use Rattle.given_files.specs.Files.{file_of}
use Rattle.log_reports.specs.Reports.{WithinLog}

pub log_on : (name : Bytes) (old s t : State) → t.log ≡ s.log → WithinLog name old s → WithinLog name old t
log_on name old s t is (inl none) = inl (is ∙ none)
log_on name old s t is (inr reads) = inr (subst (λ (p : Place). ReadsAtMost (log_limit + 1) (file_of old name) p.left) (sym is) reads)

pub log_behind : (name : Bytes) (old s t : State) → s.files ≡ old.files → s.log ≡ old.log → WithinLog name s t → WithinLog name old t
log_behind name old s t files log (inl none) = inl (none ∙ log)
log_behind name old s t files log (inr reads) = inr (subst (λ (fs : Option (List File)). ReadsAtMost (log_limit + 1) (option_and_then (λ gs. bytes_of gs name) fs) t.log.left) files reads)
