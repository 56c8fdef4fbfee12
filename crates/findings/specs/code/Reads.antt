-- What a witness reads of a region, and regions that are alike there.
use Rattle.std.specs.Prelude.{◌≡◌, ℤ, Bool, false, ◌&&◌, ◌||◌, IsTrue, List, Option, nat_eq}
use Rattle.std.specs.List.{list_any}
use Rattle.sched_base.specs.declared.ids.Itv.{Itv}
use Rattle.sched_base.specs.declared.ids.Seq.{Seq}
use Rattle.sched_model.specs.Data.{Data, same, has}
use Rattle.region.specs.declared.types.Topic.{Topic}
use Rattle.region.specs.declared.types.Topic.TheVariants.{One, Two}
use Rattle.region.specs.declared.types.Guess.{Guess}
use Rattle.region.specs.declared.types.CellName.{CellName}
use Rattle.region.specs.declared.types.CellName.TheVariants as cell
use Rattle.region.specs.Orders.{order_in}
use Rattle.region.specs.Cells.{Region, bounds_of, cells_of}
use Rattle.region.specs.Guesses.{topic}
use Rattle.region.specs.Looks.{Seen, Refuting, IsRegionOf, seen_at}
use Rattle.findings.specs.declared.finding.Pair.{Pair}
use Rattle.findings.specs.Ends.{is_asked}

-- the bounds of intervals, the orders of pairs of members, and perhaps the best value
pub record Reads : Type 0 where
  pub intervals : List Itv
  pub pairs : List Pair
  pub best : Bool

-- the pair is of these two, whichever is named first
abbrev pub is_pair : Seq → Itv → Itv → Pair → Bool
is_pair p x y q = nat_eq p.0 q.sequence.0 && ((same x q.first && same y q.second) || (same x q.second && same y q.first))

abbrev pub has_pair : List Pair → Seq → Itv → Itv → Bool
has_pair ps p x y = list_any (is_pair p x y) ps

-- the interval is one of a pair
abbrev pub is_paired : List Pair → Itv → Bool
is_paired ps x = list_any (λ q. same x q.first || same x q.second) ps

-- it is on one of these intervals, or on the order of one of these pairs
abbrev pub is_among : List Itv → List Pair → Topic → Bool
is_among xs ps (One x c) = has xs x
is_among xs ps (Two p x y) = has_pair ps p x y

-- the same bounds of each interval and the same order of each pair, and each one of a pair is as present
pub record AreAlike (reads : Reads) (r q : Region) : Type 0 where
  pub bounds : (x : Itv) → IsTrue (has reads.intervals x) → bounds_of r x ≡ bounds_of q x
  pub presences : (x : Itv) → IsTrue (is_paired reads.pairs x) → (bounds_of r x).presence ≡ (bounds_of q x).presence
  pub orders : (p : Seq) (x y : Itv) → IsTrue (has_pair reads.pairs p x y) → order_in (cells_of r p) x y ≡ order_in (cells_of q p) x y

-- the cells that tell all of this
abbrev pub reads_cell : Reads → CellName → Bool
reads_cell reads (cell.Presence x) = has reads.intervals x || is_paired reads.pairs x
reads_cell reads (cell.StartMin x) = has reads.intervals x
reads_cell reads (cell.StartMax x) = has reads.intervals x
reads_cell reads (cell.EndMin x) = has reads.intervals x
reads_cell reads (cell.EndMax x) = has reads.intervals x
reads_cell reads (cell.Order p x y) = has_pair reads.pairs p x y

-- whether the witness refutes a look at a region of the model depends on no more than this
abbrev pub LooksOnlyAt : {W : Type 0} → Refuting W → Data → W → Reads → Type 0
LooksOnlyAt refutes m w reads = (l k : Seen) → IsRegionOf m l.region → IsRegionOf m k.region → AreAlike reads l.region k.region → (IsTrue reads.best → l.best ≡ k.best) → refutes m l w ≡ refutes m k w

-- `test` tells whether the region is refuted under a guess: it isn't as it stands, nor under an open end guess on these
-- intervals and pairs
abbrev pub AreUnrefuted : (Option Guess → Bool) → Region → List Itv → List Pair → Type 0
AreUnrefuted test r xs ps = (guess : Option Guess) → IsTrue (is_asked (λ g. is_among xs ps (topic g)) r guess) → test guess ≡ false

-- the same of a witness
abbrev pub IsUnrefuted : {W : Type 0} → Refuting W → Data → Region → Option ℤ → W → List Itv → List Pair → Type 0
IsUnrefuted refutes m r best w xs ps = AreUnrefuted (λ guess. refutes m (seen_at r best guess) w) r xs ps
