-- What a region leaves possible of a relation of the members of a sequence.
use Rattle.std.specs.Prelude.{Bool, false, not, ◌&&◌, ◌||◌}
use Rattle.sched_base.specs.declared.ids.Itv.{Itv}
use Rattle.sched_base.specs.declared.ids.Seq.{Seq}
use Rattle.sched_model.specs.declared.types.Constraint.{Constraint}
use Rattle.sched_model.specs.declared.types.Constraint.TheVariants.{First, Last, Before, Prev}
use Rattle.sched_model.specs.Data.{same}
use Rattle.region.specs.Orders.{order_in, says_backward}
use Rattle.region.specs.Cells.{Region, cells_of}
use Rattle.refute_hier.specs.Parts.{is_away}

-- two members may be present, and the first may stand before the second
abbrev pub may_stand : Region → Seq → Itv → Itv → Bool
may_stand r p x y = not (is_away r x) && not (is_away r y) && not (says_backward (order_in (cells_of r p) x y))

-- x may stand where the relation has nobody
abbrev pub may_break : Region → Itv → Constraint → Bool
may_break r x (First p a) = may_stand r p x a
may_break r x (Last p a) = may_stand r p a x
may_break r x (Before p a b) = same x b && may_stand r p b a
may_break r x (Prev p a b) = (same x b && may_stand r p b a) || (may_stand r p a x && may_stand r p x b)
may_break r x _ = false
