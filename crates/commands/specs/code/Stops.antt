-- Which stop an error below becomes, and the ending of each stop that given_files tells.
use Rattle.log_reports.specs.declared.stop.LogStop.{LogStop}
use Rattle.log_reports.specs.declared.stop.LogStop.TheVariants as why
use Rattle.solver.specs.declared.fault.SolveFault.{SolveFault}
use Rattle.solver.specs.declared.fault.SolveFault.TheVariants as solve
use Rattle.given_files.specs.declared.stop.GivenStop.{GivenStop}
use Rattle.given_files.specs.declared.stop.GivenStop.TheVariants as given
use Rattle.commands.specs.declared.ended.Ended.{Ended}
use Rattle.commands.specs.declared.ended.Ended.TheVariants as end
use Rattle.commands.specs.declared.stop.RunStop.{RunStop}
use Rattle.commands.specs.declared.stop.RunStop.TheVariants.{Given, LogRefused, LogTooLong}

abbrev pub stop_of_search : SolveFault → RunStop
stop_of_search solve.Fault = Given given.Fault
stop_of_search solve.NoMemory = Given given.NoMemory

abbrev pub stop_of_report : LogStop → RunStop
stop_of_report (why.Given s) = Given s
stop_of_report (why.Refused k) = LogRefused k
stop_of_report why.TooLong = LogTooLong

abbrev pub ending_of_stop : GivenStop → Ended
ending_of_stop given.Fault = end.Fault
ending_of_stop given.NoMemory = end.NoMemory
ending_of_stop (given.ModelRefused r) = end.ModelRefused
ending_of_stop (given.ScheduleRefused r) = end.ScheduleRefused
