use Rattle.std.specs.Prelude.{ℕ, ℤ, true, false, ◌+◌, ◌-◌, Option, nat_lt}
use Rattle.sched_model.specs.Data.{Data}
use Rattle.region.specs.Cells.{Region}
use Rattle.prop_basic.specs.code.Tasks.{size_of, quiet}
use Rattle.prop_temporal.specs.code.Tasks.{size_of as size_of_temporal, quiet as quiet_temporal}
use Rattle.prop_hier.specs.code.Tasks.{size_of as size_of_hier, quiet as quiet_hier}
use Rattle.prop_unary.specs.code.Tasks.{size_of as size_of_unary, quiet as quiet_unary}
use Rattle.prop_sets.specs.code.Tasks.{size_of as size_of_sets, quiet as quiet_sets}
use Rattle.prop_cumul.specs.code.Tasks.{size_of as size_of_cumul, quiet as quiet_cumul}
use Rattle.prop_state.specs.code.Tasks.{size_of as size_of_state, quiet as quiet_state}
use Rattle.engine.specs.code.Pairs.{chosen}
use Rattle.propagators.specs.laws.Covered.{covered, firsts, others}
use Rattle.propagators.proofs.all.covers.Goals as goal

-- the propagators behind those of a crate
abbrev functions : Data → Region → Option ℤ → ℕ → Type 0
functions m r best k = chosen (nat_lt k (size_of_cumul m)) (quiet_cumul m k r best) (quiet_state m (k - size_of_cumul m) r best)

abbrev later : Data → Region → Option ℤ → ℕ → Type 0
later m r best k = chosen (nat_lt k (size_of_sets m)) (quiet_sets true m k r best) (functions m r best (k - size_of_sets m))

abbrev many : Data → Region → Option ℤ → ℕ → Type 0
many m r best k = chosen (nat_lt k (size_of_sets m)) (quiet_sets false m k r best) (later m r best (k - size_of_sets m))

abbrev grouped : Data → Region → Option ℤ → ℕ → Type 0
grouped m r best k = chosen (nat_lt k (size_of_unary m)) (quiet_unary m k r best) (many m r best (k - size_of_unary m))

abbrev last : Data → Region → Option ℤ → ℕ → Type 0
last m r best k = chosen (nat_lt k (size_of_hier m)) (quiet_hier m k r best) (grouped m r best (k - size_of_hier m))

abbrev behind : Data → Region → Option ℤ → ℕ → Type 0
behind m r best k = chosen (nat_lt k (size_of_temporal m)) (quiet_temporal m k r best) (last m r best (k - size_of_temporal m))

pub returns : goal.returns
returns c = λ m r best valid of still.
    let two = size_of_cumul m + size_of_state m in
    let three = size_of_sets m + two in
    let four = size_of_sets m + three in
    let five = size_of_unary m + four in
    let six = size_of_hier m + five in
    let seven = size_of_temporal m + six in
    let rest = others (size_of m) seven (λ k. quiet m k r best) (behind m r best) still in
    let groups = others (size_of_temporal m) six (λ k. quiet_temporal m k r best) (last m r best) rest in
    let end = others (size_of_hier m) five (λ k. quiet_hier m k r best) (grouped m r best) groups in
    let by_sets = others (size_of_unary m) four (λ k. quiet_unary m k r best) (many m r best) end in
    let by_later = others (size_of_sets m) three (λ k. quiet_sets false m k r best) (later m r best) by_sets in
    let of_functions = others (size_of_sets m) two (λ k. quiet_sets true m k r best) (functions m r best) by_later in
    covered m r best valid of (record {
      basic = firsts (size_of m) seven (λ k. quiet m k r best) (behind m r best) still;
      temporal = firsts (size_of_temporal m) six (λ k. quiet_temporal m k r best) (last m r best) rest;
      hier = firsts (size_of_hier m) five (λ k. quiet_hier m k r best) (grouped m r best) groups;
      unary = firsts (size_of_unary m) four (λ k. quiet_unary m k r best) (many m r best) end;
      sets = firsts (size_of_sets m) three (λ k. quiet_sets false m k r best) (later m r best) by_sets;
      later_sets = firsts (size_of_sets m) two (λ k. quiet_sets true m k r best) (functions m r best) by_later;
      cumul = firsts (size_of_cumul m) (size_of_state m) (λ k. quiet_cumul m k r best) (λ k. quiet_state m k r best) of_functions;
      state = others (size_of_cumul m) (size_of_state m) (λ k. quiet_cumul m k r best) (λ k. quiet_state m k r best) of_functions;
    })
