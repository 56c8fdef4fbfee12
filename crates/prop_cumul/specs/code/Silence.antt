-- A bound that is further away than all parts together can come: each is at most a million units high.
use Rattle.std.specs.Prelude.{◌*◌, pos, Bool, length, int_le}
use Rattle.sched_model.specs.Data.{Data, parts_of}
use Rattle.refute_cumul.specs.declared.bound.Bound.{Bound}
use Rattle.refute_cumul.specs.code.Loads.{limit_of}

abbrev pub is_out_of_reach : Data → Bound → Bool → Bool
is_out_of_reach m b below = int_le (pos (1000000 * length (parts_of m b.f))) (limit_of below b.lo b.hi)
