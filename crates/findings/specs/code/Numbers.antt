-- The numbers of an interval that tell whether it can be too late for another, as it is told and under a guess.
use Rattle.std.specs.Prelude.{ℤ, ◌+ℤ◌, ◌-ℤ◌, IsTrue}
use Rattle.std.specs.Int.{int_max, int_min}
use Rattle.sched_base.specs.declared.ids.Itv.{Itv}
use Rattle.region.specs.declared.types.Bounds.{Bounds}
use Rattle.region.specs.Cells.{Region, bounds_of}
use Rattle.region.specs.Looks.{is_shifted, ect_in, lst_in}
use Rattle.findings.specs.declared.ends.Ends.{Ends}

-- the greatest earliest completion and the least latest start that a guess at the end of a cell can make
abbrev pub highest_end : Bounds → ℤ
highest_end c = int_max (int_max c.emin c.emax) (int_max c.smin c.smax +ℤ c.pmin)

abbrev pub lowest_start : Bounds → ℤ
lowest_start c = int_min (int_min c.smin c.smax) (int_min c.emin c.emax -ℤ c.pmin)

-- the numbers of an interval by which two are compared
abbrev pub ends_of : Bounds → Ends
ends_of c = record { presence = c.presence; ect = ect_in c; lst = lst_in c; highest_end = highest_end c; lowest_start = lowest_start c }

abbrev pub ends_in : Region → Itv → Ends
ends_in r x = ends_of (bounds_of r x)

-- each of them is the sum or the difference of a moment and a length
pub record HasShifts (e : Ends) : Type 0 where
  pub ect : IsTrue (is_shifted e.ect)
  pub lst : IsTrue (is_shifted e.lst)
  pub highest_end : IsTrue (is_shifted e.highest_end)
  pub lowest_start : IsTrue (is_shifted e.lowest_start)
