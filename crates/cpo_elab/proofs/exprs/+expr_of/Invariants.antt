use Rattle.std.proofs.Common.{◌≡◌, ◌++◌, map, drop}
use Rattle.cpo_elab.specs.Elaborated.{expr_of}
use Rattle.cpo_elab.proofs.exprs.+expr_of.Given as goal

abbrev pub invariant-exprs_of-loop-part : goal.invariant-exprs_of-loop-part
invariant-exprs_of-loop-part l = l.found.items ++ map (expr_of l.draft) (drop l.part-index l.parts) ≡ map (expr_of l.draft) l.parts
