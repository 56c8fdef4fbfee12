use Rattle.std.proofs.Common.{take}
use Rattle.svg_page.specs.Profiles.{AreProfiles}
use Rattle.svg_page.proofs.profiles.profiles_of.Given as goal

abbrev pub invariant-loop-d : goal.invariant-loop-d
invariant-loop-d l = AreProfiles l.a (take l.d-index l.defs) l.profiles.items
