-- Which stop an error below becomes.
use Rattle.sched_base.specs.declared.reading.ReadError.{ReadError}
use Rattle.sched_base.specs.declared.reading.ReadError.TheVariants as read
use Rattle.cpo_text.specs.declared.text.ReadFault.{ReadFault}
use Rattle.cpo_text.specs.declared.text.ReadFault.TheVariants as text
use Rattle.read_schedule.specs.declared.fault.ScheduleFault.{ScheduleFault}
use Rattle.read_schedule.specs.declared.fault.ScheduleFault.TheVariants as schedule
use Rattle.given_files.specs.declared.stop.GivenStop.{GivenStop}
use Rattle.given_files.specs.declared.stop.GivenStop.TheVariants.{Fault, NoMemory, ModelRefused, ScheduleRefused}
use Rattle.given_files.specs.declared.stop.ScheduleRefusal.TheVariants.{Line}

abbrev pub stop_of_read : ReadError → GivenStop
stop_of_read read.Failed = Fault
stop_of_read read.NoMemory = NoMemory

abbrev pub stop_of_text : ReadFault → GivenStop
stop_of_text (text.Refused r) = ModelRefused r
stop_of_text text.NoMemory = NoMemory

abbrev pub stop_of_schedule : ScheduleFault → GivenStop
stop_of_schedule (schedule.Refused k) = ScheduleRefused (Line k)
stop_of_schedule schedule.NoMemory = NoMemory
