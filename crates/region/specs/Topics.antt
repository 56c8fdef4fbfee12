-- Which intervals a topic is on.
use Rattle.std.specs.Prelude.{Bool, false, List}
use Rattle.sched_base.specs.declared.ids.Itv.{Itv}
use Rattle.sched_model.specs.Data.{has}
use Rattle.region.specs.declared.types.Topic.{Topic}
use Rattle.region.specs.declared.types.Topic.TheVariants.{One, Two}

-- the presence or a bound of one of these intervals
abbrev pub asks_each : List Itv → Topic → Bool
asks_each xs (One x c) = has xs x
asks_each xs (Two p x y) = false
