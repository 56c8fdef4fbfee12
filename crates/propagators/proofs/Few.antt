-- A valid model has few propagators.
use Rattle.std.specs.Prelude.{ℕ, ◌+◌, ◌<◌, ◌≤◌, ◌^◌}
use Rattle.std.proofs.Common.{arith}
use Rattle.sched_model.specs.Data.{Data}
use Rattle.sched_model.specs.Valid.{IsValid}
use Rattle.sched_model.specs.laws.Limits.{limits_of}
use Rattle.prop_basic.specs.code.Tasks.{size_of}
use Rattle.prop_temporal.specs.code.Tasks.{size_of as size_of_temporal}
use Rattle.prop_hier.specs.code.Tasks.{size_of as size_of_hier}
use Rattle.prop_unary.specs.code.Tasks.{size_of as size_of_unary}
use Rattle.prop_sets.specs.code.Tasks.{size_of as size_of_sets}
use Rattle.prop_cumul.specs.code.Tasks.{size_of as size_of_cumul}
use Rattle.prop_state.specs.code.Tasks.{size_of as size_of_state}

pub few : (m : Data) → IsValid m → (n : ℕ) → n ≤ size_of m + (size_of_temporal m + (size_of_hier m + (size_of_unary m + (size_of_sets m + (size_of_sets m + (size_of_cumul m + size_of_state m)))))) → n < 2 ^ 32
few m valid n all =
    let limits = limits_of m valid.limits in
    let intervals = limits.intervals in
    let constraints = limits.constraints in
    let sequences = limits.sequences in
    let states = limits.states in
    omega (arith, all, intervals, constraints, sequences, states)
