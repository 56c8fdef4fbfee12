-- Names: what a model defines, and what a statement defines and uses. But for step functions the model so far is the whole environment.
use Rattle.std.specs.Prelude.{ℕ, Bool, false, ◌||◌, List, [], ◌∷◌, map, Option, Some, None, is_some, unwrap_or, position}
use Rattle.std.specs.Str.{bytes_eq}
use Rattle.std.specs.List.{list_any}
use Rattle.sched_base.specs.declared.ids.Itv.{Itv}
use Rattle.sched_base.specs.declared.ids.Seq.{Seq}
use Rattle.sched_base.specs.declared.ids.Cum.{Cum}
use Rattle.sched_base.specs.declared.ids.Stf.{Stf}
use Rattle.sched_base.specs.declared.ids.Mat.{Mat}
use Rattle.sched_model.specs.Words.{passes}
use Rattle.sched_model.specs.Data.{Data}
use Rattle.cpo_text.specs.declared.expression.Logic.{Logic}
use Rattle.cpo_text.specs.declared.expression.Logic.TheOpen.{Logic-F}
use Rattle.cpo_text.specs.declared.expression.Logic.TheOpen.Logic-F.{Lit, Group, PresenceOf, Measured, Gathered, Linked, Neg, Sum, Compare, Not, Implies}
use Rattle.cpo_text.specs.declared.expression.Logic.TheFolds.{fold-Logic}
use Rattle.cpo_text.specs.declared.cumul.Cpart.{Cpart}
use Rattle.cpo_text.specs.declared.cumul.Cpart.TheVariants as cpart
use Rattle.cpo_text.specs.declared.cumul.Signed.{Signed}
use Rattle.cpo_text.specs.declared.cumul.Cumul.{Cumul}
use Rattle.cpo_text.specs.declared.tree.Definition.{Definition}
use Rattle.cpo_text.specs.declared.tree.Definition.TheVariants.{IntervalVar, SequenceVar, TransitionMatrix, StateFunction, StepFunction, Cumulative}
use Rattle.cpo_text.specs.declared.tree.Over.{Over}
use Rattle.cpo_text.specs.declared.tree.Over.TheVariants as over
use Rattle.cpo_text.specs.declared.tree.Moments.{Moments}
use Rattle.cpo_text.specs.declared.tree.Moments.TheVariants as moments
use Rattle.cpo_text.specs.declared.tree.Constrained.{Constrained}
use Rattle.cpo_text.specs.declared.tree.Constrained.TheVariants.{Between, Parts, Alternative, NoOverlap, Extreme, Ordered, Bounded, AlwaysIn, AlwaysEqual, AlwaysNoState, Holds}
use Rattle.cpo_text.specs.declared.tree.Statement.{Statement}
use Rattle.cpo_text.specs.declared.tree.Statement.TheVariants.{Empty, Define, Constrain, Forbid, Aim, Rank}
use Rattle.cpo_elab.specs.declared.names.Sort.{Sort}
use Rattle.cpo_elab.specs.declared.names.Sort.TheVariants.{Interval, Matrix, Sequence, Cumulated, State}

-- the names of a sort, in the order of their numbers; what stands in a constraint without a name has a number too
abbrev pub names_of : Data → Sort → List (Option (List ℕ))
names_of m Interval = map (λ d. Some d.name) m.intervals
names_of m Matrix = map (λ d. Some d.name) m.matrices
names_of m Sequence = map (λ d. d.name) m.sequences
names_of m Cumulated = map (λ d. d.name) m.cumuls
names_of m State = map (λ d. Some d.name) m.states

-- the number that a name of this sort has
unfoldable pub number_of : Data → Sort → List ℕ → Option ℕ
number_of m sort n = position (passes (bytes_eq n)) (names_of m sort)

abbrev pub sorts : List Sort
sorts = Interval ∷ Matrix ∷ Sequence ∷ Cumulated ∷ State ∷ []

-- a name has one meaning in a text, of whatever sort
unfoldable pub is_defined : Data → List ℕ → Bool
is_defined m n = list_any (λ sort. is_some (number_of m sort n)) sorts

abbrev pub id_of : Data → Sort → List ℕ → ℕ
id_of m sort n = unwrap_or (number_of m sort n) 0

abbrev pub itv_of : Data → List ℕ → Itv
itv_of m n = record { 0 = id_of m Interval n }

abbrev pub itvs_of : Data → List (List ℕ) → List Itv
itvs_of m ns = map (itv_of m) ns

abbrev pub mat_of : Data → List ℕ → Mat
mat_of m n = record { 0 = id_of m Matrix n }

abbrev pub seq_of : Data → List ℕ → Seq
seq_of m n = record { 0 = id_of m Sequence n }

abbrev pub cum_of : Data → List ℕ → Cum
cum_of m n = record { 0 = id_of m Cumulated n }

abbrev pub stf_of : Data → List ℕ → Stf
stf_of m n = record { 0 = id_of m State n }

-- Whether some name that is used, but for those of step functions, passes a test of the sort that its place asks for, and of the name.

abbrev pub NameTest : Type 0
NameTest = Sort → List ℕ → Bool

abbrev pub logic_step : NameTest → Logic-F Bool → Bool
logic_step test (Lit n) = false
logic_step test (Group b) = b
logic_step test (PresenceOf a) = test Interval a
logic_step test (Measured how a d) = test Interval a
logic_step test (Gathered g bs) = list_any (λ b. b) bs
logic_step test (Linked l bs) = list_any (λ b. b) bs
logic_step test (Neg b) = b
logic_step test (Sum bs) = list_any (λ b. b) bs
logic_step test (Compare op b c) = b || c
logic_step test (Not b) = b
logic_step test (Implies b c) = b || c

abbrev pub some_in_logic : NameTest → Logic → Bool
some_in_logic test = fold-Logic Bool (logic_step test)

abbrev pub some_in_cpart : NameTest → Cpart → Bool
some_in_cpart test (cpart.Named n) = test Cumulated n
some_in_cpart test (cpart.Pulse u v h) = false
some_in_cpart test (cpart.PulseOf a h) = test Interval a
some_in_cpart test (cpart.Step u h) = false
some_in_cpart test (cpart.StepAtStart a h) = test Interval a
some_in_cpart test (cpart.StepAtEnd a h) = test Interval a

-- the parts of a cumulative expression, each with its sign
abbrev pub signed_parts : Cumul → List Signed
signed_parts c = c.first ∷ c.more

abbrev pub some_in_cumul : NameTest → Cumul → Bool
some_in_cumul test c = list_any (λ s. some_in_cpart test s.part) (signed_parts c)

abbrev pub some_in_over : NameTest → Over → Bool
some_in_over test (over.Named p) = test Sequence p
some_in_over test (over.Listed ns) = list_any (test Interval) ns

abbrev pub some_in_moments : NameTest → Moments → Bool
some_in_moments test (moments.From u v) = false
some_in_moments test (moments.During a) = test Interval a

abbrev pub some_in_definition : NameTest → Definition → Bool
some_in_definition test (IntervalVar args) = false
some_in_definition test (SequenceVar ns types) = list_any (test Interval) ns
some_in_definition test (TransitionMatrix rows) = false
some_in_definition test (StateFunction x) = passes (test Matrix) x
some_in_definition test (StepFunction ps) = false
some_in_definition test (Cumulative c) = some_in_cumul test c

abbrev pub some_in_constraint : NameTest → Constrained → Bool
some_in_constraint test (Between t a b z) = test Interval a || test Interval b
some_in_constraint test (Parts h a ns) = test Interval a || list_any (test Interval) ns
some_in_constraint test (Alternative a ns n) = test Interval a || list_any (test Interval) ns
some_in_constraint test (NoOverlap p s) = some_in_over test p || passes (λ s. test Matrix s.matrix) s
some_in_constraint test (Extreme e p a) = test Sequence p || test Interval a
some_in_constraint test (Ordered o p a b) = test Sequence p || (test Interval a || test Interval b)
some_in_constraint test (Bounded f b c) = some_in_cumul test f
some_in_constraint test (AlwaysIn f w lo hi) = some_in_cumul test f || some_in_moments test w
some_in_constraint test (AlwaysEqual g a v aligned) = test State g || test Interval a
some_in_constraint test (AlwaysNoState g a) = test State g || test Interval a
some_in_constraint test (Holds e) = some_in_logic test e

abbrev pub some_name : NameTest → Statement → Bool
some_name test Empty = false
some_name test (Define n d) = some_in_definition test d
some_name test (Constrain c) = some_in_constraint test c
some_name test (Forbid w a f) = test Interval a
some_name test (Aim s e) = some_in_logic test e
some_name test (Rank s es) = list_any (some_in_logic test) es

-- the name that a statement defines
abbrev pub name_defined : Statement → Option (List ℕ)
name_defined (Define n d) = Some n
name_defined _ = None
