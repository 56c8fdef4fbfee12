use Rattle.std.specs.Prelude.{◌≡◌, drop, int_lt, map}
use Rattle.std.specs.List.{list_all}
use Rattle.task_sets.specs.Times.{turned}
use Rattle.refute_seq.specs.Sets.{times_of}
use Rattle.refute_seq.proofs.detect.start_before.Given as goal

abbrev pub invariant-loop-n : goal.invariant-loop-n
invariant-loop-n l = list_all (λ j. int_lt j.lst l.moment) (map (turned l.side (times_of l.look.region)) (drop l.n-index l.set)) ≡ list_all (λ j. int_lt j.lst l.moment) (map (turned l.side (times_of l.look.region)) l.set)
