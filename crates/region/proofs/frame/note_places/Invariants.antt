use Rattle.std.proofs.Common.{◌≡◌, ◌≤◌, length}
use Rattle.region.proofs.Frames.{AreNoted}
use Rattle.region.proofs.frame.note_places.Given as goal

abbrev pub invariant-loop-left : goal.invariant-loop-left
invariant-loop-left l = record {
  within : l.left ≤ length l.members;
  size : length l.places.items ≡ length l.initial.places.items;
  noted : AreNoted l.places.items l.members l.left;
}

abbrev pub decreases-loop-left : goal.decreases-loop-left
decreases-loop-left l = l.left
