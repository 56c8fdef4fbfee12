use Rattle.std.proofs.Common.{◌≡◌, ◌++◌, flat_map, drop}
use Rattle.cpo_elab.specs.Elaborated.{parts_signed, parts_in}
use Rattle.cpo_elab.proofs.parts.parts_in.Given as goal

abbrev pub invariant-loop-s : goal.invariant-loop-s
invariant-loop-s l = l.found.items ++ flat_map (parts_signed l.draft) (drop l.s-index l.c.more) ≡ parts_in l.draft l.c
