use Rattle.std.proofs.Common.{rules, subst, w64, to_z, of_z, pos, ◌+ℤ◌}
use Rattle.std.specs.Prelude.{◌-ℤ◌}
use Rattle.solver.specs.Cuts.{IsMiddle}
use Rattle.solver.proofs.cutting.Branching.{next_sum, next_middle}
use Rattle.solver.proofs.branch.next_start.Goals as goal

pub returns : goal.returns
returns c =
    let b = c.bounds-c.result in
    subst (λ d. IsMiddle d.smin d.smax (to_z w64 (of_z w64 (to_z w64 (of_z w64 c.middle.result) +ℤ pos 1)) -ℤ pos 1)) c.bounds-c.ensures.value
    (next_middle b.smin b.smax c.middle.result (search rules) (search rules) (search rules) c.middle.ensures.moment c.middle.ensures.middle)

pub overflow_add-result : goal.overflow_add-result
overflow_add-result c = next_sum c.middle.result (search rules) c.middle.ensures.moment
