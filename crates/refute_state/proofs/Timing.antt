-- Of intervals that aren't there.
use Rattle.std.specs.Prelude.{◌≡◌, ◌≤◌, pos, false, length}
use Rattle.std.proofs.Common.{sym, ap}
use Rattle.std.proofs.lemmas.List.{get_or_past}
use Rattle.sched_base.specs.declared.ids.Itv.{Itv}
use Rattle.region.specs.Cells.{Region, unknown}
use Rattle.region.specs.Looks.{lst_in, lst_of}
use Rattle.refute_state.specs.Times.{is_long_in, is_long}

pub none_long : (r : Region) (x : Itv) → length r.bounds ≤ x.0 → false ≡ is_long r x
none_long r x beyond = sym (ap is_long_in (get_or_past r.bounds x.0 unknown beyond))

pub none_starts : (r : Region) (x : Itv) → length r.bounds ≤ x.0 → pos 0 ≡ lst_of r x
none_starts r x beyond = sym (ap lst_in (get_or_past r.bounds x.0 unknown beyond))
