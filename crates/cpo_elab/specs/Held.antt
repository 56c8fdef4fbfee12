-- What a statement holds, by what is tested of it.
use Rattle.std.specs.Prelude.{ℕ, ℤ, Bool, false, ◌||◌, List, [], ◌∷◌, Option, Some, None, option_map, option_to_list}
use Rattle.std.specs.List.{list_any}
use Rattle.sched_model.specs.Words.{passes}
use Rattle.cpo_text.specs.declared.expression.Logic.{Logic}
use Rattle.cpo_text.specs.declared.tree.Int.{Int}
use Rattle.cpo_text.specs.declared.tree.Ivarg.{Ivarg}
use Rattle.cpo_text.specs.declared.tree.Ivarg.TheVariants.{Optional, Start, End, Size}
use Rattle.cpo_text.specs.declared.cumul.Cpart.{Cpart}
use Rattle.cpo_text.specs.declared.cumul.Cpart.TheVariants as cpart
use Rattle.cpo_text.specs.declared.cumul.Cumul.{Cumul}
use Rattle.cpo_text.specs.declared.tree.Definition.{Definition}
use Rattle.cpo_text.specs.declared.tree.Definition.TheVariants.{IntervalVar, SequenceVar, TransitionMatrix, StepFunction, Cumulative}
use Rattle.cpo_text.specs.declared.tree.Over.{Over}
use Rattle.cpo_text.specs.declared.tree.Over.TheVariants as over
use Rattle.cpo_text.specs.declared.tree.Moments.{Moments}
use Rattle.cpo_text.specs.declared.tree.Moments.TheVariants as moments
use Rattle.cpo_text.specs.declared.tree.Constrained.{Constrained}
use Rattle.cpo_text.specs.declared.tree.Constrained.TheVariants.{Parts, Alternative, NoOverlap, Ordered, Bounded, AlwaysIn, AlwaysEqual, Holds}
use Rattle.cpo_text.specs.declared.tree.Statement.{Statement}
use Rattle.cpo_text.specs.declared.tree.Statement.TheVariants.{Define, Constrain, Aim, Rank}
use Rattle.cpo_elab.specs.Named.{signed_parts}
use Rattle.cpo_elab.specs.Literals.{int_of, range_of}

-- Ranges, and pairs of moments.

-- the ends of the range of an argument
abbrev pub ivarg_range : Ivarg → Option (ℤ × ℤ)
ivarg_range Optional = None
ivarg_range (Start r) = Some (range_of r)
ivarg_range (End r) = Some (range_of r)
ivarg_range (Size r) = Some (range_of r)

-- a moment that stands alone is a pair with itself
abbrev pub cpart_moments : Cpart → Option (ℤ × ℤ)
cpart_moments (cpart.Pulse u v h) = Some (int_of u, int_of v)
cpart_moments (cpart.Step u h) = Some (int_of u, int_of u)
cpart_moments _ = None

abbrev pub window_moments : Moments → Option (ℤ × ℤ)
window_moments (moments.From u v) = Some (int_of u, int_of v)
window_moments (moments.During a) = None

abbrev pub some_range : (ℤ × ℤ → Bool) → List Ivarg → Bool
some_range test args = list_any (λ a. passes test (ivarg_range a)) args

abbrev pub some_moments : (ℤ × ℤ → Bool) → Cumul → Bool
some_moments test c = list_any (λ s. passes test (cpart_moments s.part)) (signed_parts c)

-- whether some range or pair of moments passes a test
abbrev pub some_bound : (ℤ × ℤ → Bool) → Statement → Bool
some_bound test (Define n (IntervalVar args)) = some_range test args
some_bound test (Define n (StepFunction ps)) = list_any (λ p. test (int_of p.moment, int_of p.moment)) ps
some_bound test (Define n (Cumulative c)) = some_moments test c
some_bound test (Constrain (Bounded f b c)) = some_moments test f
some_bound test (Constrain (AlwaysIn f w lo hi)) = passes test (window_moments w) || some_moments test f
some_bound test _ = false

-- the pair lo, hi
abbrev pub levels_in : Statement → Option (ℤ × ℤ)
levels_in (Constrain (AlwaysIn f w lo hi)) = Some (int_of lo, int_of hi)
levels_in _ = None

-- Sizes and counts of alternatives, and heights, types, distances, states and values.

abbrev pub least_size : Ivarg → Option ℤ
least_size (Size r) = Some (range_of r).0
least_size _ = None

abbrev pub some_size : (ℤ → Bool) → Statement → Bool
some_size test (Define n (IntervalVar args)) = list_any (λ a. passes test (least_size a)) args
some_size test (Constrain (Alternative a ns n)) = passes test (option_map int_of n)
some_size test _ = false

abbrev pub cpart_height : Cpart → Option ℤ
cpart_height (cpart.Named n) = None
cpart_height (cpart.Pulse u v h) = Some (int_of h)
cpart_height (cpart.PulseOf a h) = Some (int_of h)
cpart_height (cpart.Step u h) = Some (int_of h)
cpart_height (cpart.StepAtStart a h) = Some (int_of h)
cpart_height (cpart.StepAtEnd a h) = Some (int_of h)

abbrev pub some_height : (ℤ → Bool) → Cumul → Bool
some_height test c = list_any (λ s. passes test (cpart_height s.part)) (signed_parts c)

abbrev pub some_int : (ℤ → Bool) → List Int → Bool
some_int test is = list_any (λ i. test (int_of i)) is

abbrev pub some_in_rows : (ℤ → Bool) → List (List Int) → Bool
some_in_rows test rows = list_any (some_int test) rows

-- whether some height, type, distance, state or value of a step function passes a test
abbrev pub some_amount : (ℤ → Bool) → Statement → Bool
some_amount test (Define n (SequenceVar ns (Some types))) = some_int test types
some_amount test (Define n (TransitionMatrix rows)) = some_in_rows test rows
some_amount test (Define n (StepFunction ps)) = list_any (λ p. test (int_of p.value)) ps
some_amount test (Define n (Cumulative c)) = some_height test c
some_amount test (Constrain (Bounded f b c)) = some_height test f
some_amount test (Constrain (AlwaysIn f w lo hi)) = some_height test f
some_amount test (Constrain (AlwaysEqual g a v aligned)) = test (int_of v)
some_amount test _ = false

-- Lists.

abbrev pub listed_in : Over → List (List ℕ)
listed_in (over.Named p) = []
listed_in (over.Listed ns) = ns

-- the intervals of which none may stand twice
abbrev pub list_in_definition : Definition → List (List ℕ)
list_in_definition (SequenceVar ns types) = ns
list_in_definition _ = []

abbrev pub list_in_constraint : Constrained → List (List ℕ)
list_in_constraint (Parts h a ns) = ns
list_in_constraint (Alternative a ns n) = ns
list_in_constraint (NoOverlap p s) = listed_in p
list_in_constraint (Ordered o p a b) = a ∷ b ∷ []
list_in_constraint _ = []

abbrev pub list_in : Statement → List (List ℕ)
list_in (Define n d) = list_in_definition d
list_in (Constrain c) = list_in_constraint c
list_in _ = []

-- the members of a sequence that a statement writes
abbrev pub members_defined : Definition → List (List ℕ)
members_defined (SequenceVar ns types) = ns
members_defined _ = []

abbrev pub members_written : Constrained → List (List ℕ)
members_written (NoOverlap p s) = listed_in p
members_written _ = []

abbrev pub members_in : Statement → List (List ℕ)
members_in (Define n d) = members_defined d
members_in (Constrain c) = members_written c
members_in _ = []

abbrev pub rows_in : Statement → List (List Int)
rows_in (Define n (TransitionMatrix rows)) = rows
rows_in _ = []

abbrev pub logic_held : Constrained → Option Logic
logic_held (Holds e) = Some e
logic_held _ = None

-- the expressions that a statement holds: none, one, or those of an objective that has several
abbrev pub logics_in : Statement → List Logic
logics_in (Constrain c) = option_to_list (logic_held c)
logics_in (Aim sense e) = e ∷ []
logics_in (Rank sense es) = es
logics_in _ = []

-- those of an objective that has several
abbrev pub criteria_in : Statement → List Logic
criteria_in (Rank sense es) = es
criteria_in _ = []
