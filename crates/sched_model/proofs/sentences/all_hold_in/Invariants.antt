use Rattle.std.proofs.Common.{◌≡◌, drop}
use Rattle.std.specs.List.{list_all}
use Rattle.sched_model.specs.Sentences.{holds}
use Rattle.sched_model.proofs.sentences.all_hold_in.Given as goal

abbrev pub invariant-loop-c : goal.invariant-loop-c
invariant-loop-c l = list_all (holds l.model l.a) (drop l.c-index l.cs) ≡ list_all (holds l.model l.a) l.cs
