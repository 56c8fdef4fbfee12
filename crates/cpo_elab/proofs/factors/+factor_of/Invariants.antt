use Rattle.std.proofs.Common.{◌≡◌, map, fold, drop}
use Rattle.cpo_elab.specs.declared.factors.Factor.TheVariants as factor
use Rattle.cpo_elab.specs.Factors.{beside, times, all_beside, factor_of}
use Rattle.cpo_elab.proofs.factors.+factor_of.Given as goal

abbrev pub invariant-all_beside-loop-part : goal.invariant-all_beside-loop-part
invariant-all_beside-loop-part l = fold beside l.so_far (map factor_of (drop l.part-index l.parts)) ≡ all_beside (map factor_of l.parts)

abbrev pub invariant-product-loop-part : goal.invariant-product-loop-part
invariant-product-loop-part l = fold times l.so_far (map factor_of (drop l.part-index l.parts)) ≡ fold times factor.Free (map factor_of l.parts)
