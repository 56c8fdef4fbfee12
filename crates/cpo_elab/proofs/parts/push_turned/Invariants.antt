use Rattle.std.proofs.Common.{◌≡◌, ◌++◌, map, drop}
use Rattle.cpo_elab.specs.Elaborated.{turned}
use Rattle.cpo_elab.proofs.parts.push_turned.Given as goal

abbrev pub invariant-loop-part : goal.invariant-loop-part
invariant-loop-part l = l.found.items ++ map (turned l.minus) (drop l.part-index l.parts) ≡ l.initial.found.items ++ map (turned l.minus) l.parts
