-- A witness that names no constraint refutes nothing.
use Rattle.std.specs.Prelude.{◌≡◌, ◌≤◌, false, length}
use Rattle.base_laws.specs.laws.Truth.{never_both}
use Rattle.sched_model.specs.Data.{Data}
use Rattle.sched_model.specs.laws.Words.{none_past}
use Rattle.region.specs.Looks.{Seen}
use Rattle.refute_cumul.specs.declared.witness.CumulWitness.{CumulWitness}
use Rattle.refute_cumul.specs.declared.witness.CumulWitness.TheVariants.{Point}
use Rattle.refute_cumul.specs.Witness.{constraint_of, is_valid}
use Rattle.refute_cumul.specs.Point.{point_of, point_row}
use Rattle.refute_cumul.specs.OnCumul.{refutes}

pub names_nothing : (m : Data) (l : Seen) (w : CumulWitness) → length m.constraints ≤ constraint_of w → refutes m l w ≡ false
names_nothing m l (Point c t u) past = never_both (is_valid (Point c t u)) (point_row m l c t u) (none_past (point_of m l.region t u) m.constraints c past)
