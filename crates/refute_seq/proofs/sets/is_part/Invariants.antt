use Rattle.std.specs.Prelude.{◌≡◌, ◌≤◌, drop, length}
use Rattle.refute_seq.proofs.Walking.{left}
use Rattle.refute_seq.proofs.sets.is_part.Given as goal

abbrev pub invariant-loop-n : goal.invariant-loop-n
invariant-loop-n l = record {
  rest : left (drop l.n-index l.set) (drop l.found l.part) ≡ left l.set l.part;
  within : l.found ≤ length l.part;
}
