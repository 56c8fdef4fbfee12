use Rattle.std.proofs.Common.{rules, subst, w64, to_z, of_z}
use Rattle.solver.specs.Cuts.{IsMiddle}
use Rattle.solver.proofs.cutting.Branching.{middle_at}
use Rattle.solver.proofs.branch.middle_end.Goals as goal

pub returns : goal.returns
returns c =
    let b = c.bounds-c.result in
    subst (λ d. IsMiddle d.emin d.emax (to_z w64 (of_z w64 c.middle.result))) c.bounds-c.ensures.value (middle_at b.emin b.emax c.middle.result (search rules) (search rules) (search rules) c.middle.ensures.middle)
