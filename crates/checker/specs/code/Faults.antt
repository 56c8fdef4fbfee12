-- Why a log isn't accepted, by why it isn't replayed to its end.
use Rattle.replay.specs.declared.fault.ReplayFault.{ReplayFault}
use Rattle.replay.specs.declared.fault.ReplayFault.TheVariants as replayed
use Rattle.checker.specs.declared.judging.CheckFault.{CheckFault}
use Rattle.checker.specs.declared.judging.CheckFault.TheVariants.{Refused, TooLong, Fault, NoMemory}

abbrev pub fault_of : ReplayFault → CheckFault
fault_of (replayed.Refused k at) = Refused k
fault_of replayed.TooLong = TooLong
fault_of replayed.Fault = Fault
fault_of replayed.NoMemory = NoMemory
