use Rattle.std.proofs.Common.{◌≡◌, drop}
use Rattle.std.specs.List.{list_any}
use Rattle.refute_hier.specs.Parts.{plays_in, some_part}
use Rattle.refute_hier.proofs.witnesses.place.Given as goal

abbrev pub invariant-loop-i : goal.invariant-loop-i
invariant-loop-i l = list_any (plays_in l.look.region l.role l.a) (drop l.i l.parts) ≡ some_part l.look.region l.role l.a l.parts
