-- Which stop a fault of judging becomes.
use Rattle.checker.specs.declared.judging.CheckFault.{CheckFault}
use Rattle.checker.specs.declared.judging.CheckFault.TheVariants as check
use Rattle.given_files.specs.declared.stop.GivenStop.TheVariants as given
use Rattle.log_reports.specs.declared.stop.LogStop.{LogStop}
use Rattle.log_reports.specs.declared.stop.LogStop.TheVariants.{Given, Refused, TooLong}

abbrev pub stop_of_check : CheckFault → LogStop
stop_of_check (check.Refused k) = Refused k
stop_of_check check.TooLong = TooLong
stop_of_check check.Fault = Given given.Fault
stop_of_check check.NoMemory = Given given.NoMemory
