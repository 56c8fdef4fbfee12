-- Which stop a fault of a replay becomes.
use Rattle.replay.specs.declared.fault.ReplayFault.{ReplayFault}
use Rattle.replay.specs.declared.fault.ReplayFault.TheVariants as replayed
use Rattle.given_files.specs.declared.stop.GivenStop.TheVariants as given
use Rattle.last_plan.specs.declared.stop.PlanStop.{PlanStop}
use Rattle.last_plan.specs.declared.stop.PlanStop.TheVariants.{Given, Refused, TooLong}

abbrev pub stop_of_replay : ReplayFault → PlanStop
stop_of_replay (replayed.Refused k at) = Refused k at
stop_of_replay replayed.TooLong = TooLong
stop_of_replay replayed.Fault = Given given.Fault
stop_of_replay replayed.NoMemory = Given given.NoMemory
