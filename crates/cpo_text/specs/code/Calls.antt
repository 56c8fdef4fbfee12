-- Definitions and constraints that are calls, read from left to right from behind the call's word.
use Rattle.std.specs.Prelude.{ℕ, ◌==◌, Bool, true, false, if◌then◌else◌, nat_le, List, length, codes, bytes_eq, Option, Some, None}
use Rattle.cpo_text.specs.Words.{Word}
use Rattle.cpo_text.specs.code.Rules.{Found, bound, behind, if_behind, name_at, size_at, int_at, int_behind}
use Rattle.cpo_text.specs.code.Lists.{names_at, ints_at, rows_at, steps_at}
use Rattle.cpo_text.specs.declared.tree.Int.{Int}
use Rattle.cpo_text.specs.declared.tree.Definition.{Definition}
use Rattle.cpo_text.specs.declared.tree.Definition.TheVariants.{SequenceVar, TransitionMatrix, StateFunction, StepFunction}
use Rattle.cpo_text.specs.declared.tree.Hierarchy.{Hierarchy}
use Rattle.cpo_text.specs.declared.tree.Over.{Over}
use Rattle.cpo_text.specs.declared.tree.Over.TheVariants.{Named, Listed}
use Rattle.cpo_text.specs.declared.tree.Spaced.{Spaced}
use Rattle.cpo_text.specs.declared.tree.Extreme.{Extreme}
use Rattle.cpo_text.specs.declared.tree.Order.{Order}
use Rattle.cpo_text.specs.declared.tree.Constrained.{Constrained}
use Rattle.cpo_text.specs.declared.tree.Constrained.TheVariants as constrained

-- what stands behind a comma, or nothing
abbrev pub maybe_at : {X : Type 0} → (List Word → Found X) → List Word → Found (Option X)
maybe_at read ws = if_behind (behind (codes ",") ws) (λ r. bound (read r) (λ x r2. Some (Some x, r2))) (Some (None, ws))

abbrev pub flag_of : Option ℕ → List Word → Found Bool
flag_of None ws = None
flag_of (Some n) ws = if n == 0 then Some (false, ws) else (if n == 1 then Some (true, ws) else None)

-- a number that is 0 or 1
unfoldable pub flag_at : List Word → Found Bool
flag_at ws = bound (size_at ws) flag_of

-- definitions

unfoldable pub types_given_at : List Word → Found (List Int)
types_given_at ws = bound (name_at ws) (λ n r. if bytes_eq n (codes "types") then if_behind (behind (codes "=") r) ints_at None else None)

unfoldable pub types_at : List Word → Found (Option (List Int))
types_at = maybe_at types_given_at

unfoldable pub sequence_at : List Word → Found Definition
sequence_at ws = if_behind (behind (codes "(") ws) (λ r. bound (names_at r) (λ ns r2. bound (types_at r2) (λ ts r3. if_behind (behind (codes ")") r3) (λ r4. Some (SequenceVar ns ts, r4)) None))) None

unfoldable pub matrix_at : List Word → Found Definition
matrix_at ws = if_behind (behind (codes "(") ws) (λ r. bound (rows_at r) (λ rows r2. if_behind (behind (codes ")") r2) (λ r3. Some (TransitionMatrix rows, r3)) None)) None

unfoldable pub state_function_at : List Word → Found Definition
state_function_at ws = if_behind (behind (codes "(") ws) (λ r. if_behind (behind (codes ")") r) (λ r2. Some (StateFunction None, r2))
    (bound (name_at r) (λ m r2. if_behind (behind (codes ")") r2) (λ r3. Some (StateFunction (Some m), r3)) None))) None

-- one pair at least
unfoldable pub step_function_at : List Word → Found Definition
step_function_at ws = if_behind (behind (codes "(") ws) (λ r. bound (steps_at r) (λ ps r2. if nat_le 1 (length ps)
    then if_behind (behind (codes ")") r2) (λ r3. Some (StepFunction ps, r3)) None else None)) None

-- constraints

unfoldable pub parts_at : Hierarchy → List Word → Found Constrained
parts_at h ws = if_behind (behind (codes "(") ws) (λ r. bound (name_at r) (λ a r2. if_behind (behind (codes ",") r2) (λ r3. bound (names_at r3) (λ ns r4.
    if_behind (behind (codes ")") r4) (λ r5. Some (constrained.Parts h a ns, r5)) None)) None)) None

-- the parts and how many of them are chosen, where it is written
unfoldable pub alternative_at : List Word → Found Constrained
alternative_at ws = if_behind (behind (codes "(") ws) (λ r. bound (name_at r) (λ a r2. if_behind (behind (codes ",") r2) (λ r3. bound (names_at r3) (λ ns r4.
    bound (int_behind (codes ",") r4) (λ n r5. if_behind (behind (codes ")") r5) (λ r6. Some (constrained.Alternative a ns n, r6)) None))) None)) None

-- a list begins with its bracket
unfoldable pub over_at : List Word → Found Over
over_at ws = if_behind (behind (codes "[") ws) (λ r. bound (names_at ws) (λ ns r2. Some (Listed ns, r2))) (bound (name_at ws) (λ p r. Some (Named p, r)))

unfoldable pub direct_at : List Word → Found (Option Bool)
direct_at = maybe_at flag_at

unfoldable pub spaced_at : List Word → Found Spaced
spaced_at ws = bound (name_at ws) (λ m r. bound (direct_at r) (λ d r2. Some (record { matrix = m; direct = d }, r2)))

unfoldable pub spacing_at : List Word → Found (Option Spaced)
spacing_at = maybe_at spaced_at

unfoldable pub no_overlap_at : List Word → Found Constrained
no_overlap_at ws = if_behind (behind (codes "(") ws) (λ r. bound (over_at r) (λ p r2. bound (spacing_at r2) (λ s r3. if_behind (behind (codes ")") r3) (λ r4. Some (constrained.NoOverlap p s, r4)) None))) None

-- two names
unfoldable pub pair_at : List Word → Found (List ℕ × List ℕ)
pair_at ws = if_behind (behind (codes "(") ws) (λ r. bound (name_at r) (λ a r2. if_behind (behind (codes ",") r2) (λ r3. bound (name_at r3) (λ b r4.
    if_behind (behind (codes ")") r4) (λ r5. Some ((a, b), r5)) None)) None)) None

unfoldable pub extreme_at : Extreme → List Word → Found Constrained
extreme_at e ws = bound (pair_at ws) (λ p r. Some (constrained.Extreme e p.0 p.1, r))

unfoldable pub ordered_at : Order → List Word → Found Constrained
ordered_at o ws = if_behind (behind (codes "(") ws) (λ r. bound (name_at r) (λ p r2. if_behind (behind (codes ",") r2) (λ r3. bound (name_at r3) (λ a r4.
    if_behind (behind (codes ",") r4) (λ r5. bound (name_at r5) (λ b r6. if_behind (behind (codes ")") r6) (λ r7. Some (constrained.Ordered o p a b, r7)) None)) None)) None)) None

unfoldable pub flags_at : List Word → Found (Bool × Bool)
flags_at ws = bound (flag_at ws) (λ s r. if_behind (behind (codes ",") r) (λ r2. bound (flag_at r2) (λ e r3. Some ((s, e), r3))) None)

unfoldable pub aligned_at : List Word → Found (Option (Bool × Bool))
aligned_at = maybe_at flags_at

-- a state and whether the ends are aligned, up to the closing bracket
unfoldable pub state_at : List Word → Found (Int × Option (Bool × Bool))
state_at ws = bound (int_at ws) (λ v r. bound (aligned_at r) (λ ij r2. if_behind (behind (codes ")") r2) (λ r3. Some ((v, ij), r3)) None))

unfoldable pub always_equal_at : List Word → Found Constrained
always_equal_at ws = if_behind (behind (codes "(") ws) (λ r. bound (name_at r) (λ g r2. if_behind (behind (codes ",") r2) (λ r3. bound (name_at r3) (λ a r4.
    if_behind (behind (codes ",") r4) (λ r5. bound (int_at r5) (λ v r6. bound (aligned_at r6) (λ ij r7. if_behind (behind (codes ")") r7) (λ r8. Some (constrained.AlwaysEqual g a v ij, r8)) None))) None)) None)) None

unfoldable pub always_no_state_at : List Word → Found Constrained
always_no_state_at ws = bound (pair_at ws) (λ p r. Some (constrained.AlwaysNoState p.0 p.1, r))
