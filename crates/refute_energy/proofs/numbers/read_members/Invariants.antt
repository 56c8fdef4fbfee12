use Rattle.std.specs.Prelude.{◌≡◌, ◌++◌, pos, drop, map}
use Rattle.refute_energy.proofs.numbers.read_members.Given as goal

abbrev pub invariant-loop-member : goal.invariant-loop-member
invariant-loop-member l = map (λ n. pos n) l.set ++ drop l.member-index l.members ≡ l.members
