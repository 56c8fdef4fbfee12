use Rattle.std.proofs.Common.{◌≡◌, ◌-◌, None}
use Rattle.std.specs.Prelude.{IfSome}
use Rattle.solver.specs.code.OpenIntervals.{IsOpenList, Sifts}
use Rattle.solver.specs.code.Searching.{CutsRegion}
use Rattle.solver.proofs.open_intervals.OpenIntervals.sift.Given as goal

abbrev pub invariant-places : goal.invariant-places
invariant-places l = record {
  is : IsOpenList l.look.region l.self;
  sifts : Sifts l.initial.self l.self;
  last : IfSome l.last (CutsRegion l.look.region);
  none : l.last ≡ None → l.i ≡ 0;
}

abbrev pub decreases-places : goal.decreases-places
decreases-places l = l.self.count - l.i
