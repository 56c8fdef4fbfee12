-- When the numbers of a constraint may be asked, about guesses on one of its intervals.
use Rattle.std.specs.Prelude.{◌≡◌, ◌<◌, ◌^◌, Bool, false, not, ◌&&◌, IsTrue, List, ◌∷◌, length}
use Rattle.sched_base.specs.declared.ids.Itv.{Itv}
use Rattle.sched_model.specs.Data.{same, has}
use Rattle.sched_model.specs.Valid.{are_distinct}
use Rattle.region.specs.declared.types.Topic.{Topic}
use Rattle.region.specs.declared.types.Topic.TheVariants.{One, Two}
use Rattle.region.specs.Cells.{Region}
use Rattle.refute_hier.specs.declared.family.Kind.{Kind}
use Rattle.prop_hier.specs.declared.counts.Counts.{Counts}
use Rattle.prop_hier.specs.code.Counts.{counts_of}

-- no part is listed twice, and the parts can be numbered
pub record AreParts (bs : List Itv) : Type 0 where
  pub distinct : IsTrue (are_distinct bs)
  pub few : length bs < 2 ^ 32

pub record IsReady (kind : Kind) (r : Region) (a : Itv) (bs : List Itv) (n : Counts) (x : Itv) : Type 0 where
  pub parts : AreParts bs
  pub counts : n ≡ counts_of kind r a bs
  pub member : IsTrue (has (a ∷ bs) x)

-- the guess is on this interval
abbrev pub is_about : Topic → Itv → Bool
is_about (One y c) x = same y x
is_about (Two p y z) x = false

-- it is, and the interval is a part and not the one that has the parts
abbrev pub is_quick : Itv → Itv → Topic → Bool
is_quick a x t = not (same x a) && is_about t x
