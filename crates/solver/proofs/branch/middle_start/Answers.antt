use Rattle.std.proofs.Common.{rules, subst, w64, to_z, of_z}
use Rattle.solver.specs.Cuts.{IsMiddle}
use Rattle.solver.proofs.cutting.Branching.{middle_at}
use Rattle.solver.proofs.branch.middle_start.Goals as goal

pub returns : goal.returns
returns c =
    let b = c.bounds-c.result in
    subst (λ d. IsMiddle d.smin d.smax (to_z w64 (of_z w64 c.middle.result))) c.bounds-c.ensures.value (middle_at b.smin b.smax c.middle.result (search rules) (search rules) (search rules) c.middle.ensures.middle)
