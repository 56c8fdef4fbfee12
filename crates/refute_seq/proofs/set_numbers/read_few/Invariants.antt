use Rattle.std.proofs.Common.{◌≡◌, true, pos, map, take}
use Rattle.std.specs.List.{list_all}
use Rattle.sched_model.specs.Bounds.{is_number}
use Rattle.refute_seq.proofs.set_numbers.read_few.Given as goal

abbrev pub invariant-loop-member : goal.invariant-loop-member
invariant-loop-member l = record {
  whole : map (λ n. pos n) l.set ≡ take l.member-index l.members;
  small : list_all is_number l.set ≡ true;
}
