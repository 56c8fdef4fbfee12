use Rattle.std.proofs.Common.{◌≡◌, ◌++◌, drop}
use Rattle.conflict.specs.code.Marks.{listed_from}
use Rattle.conflict.proofs.used.Used.listed.Given as goal

abbrev pub invariant-loop-c : goal.invariant-loop-c
invariant-loop-c l = l.found.items ++ listed_from l.c (drop l.c l.self) ≡ listed_from 0 l.self
