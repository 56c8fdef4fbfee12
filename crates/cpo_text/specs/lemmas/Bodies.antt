-- The words of a statement have no semicolon but the last.
use Rattle.std.proofs.Common.{◌≡◌, Bool, true, false, List, [], ◌∷◌, ◌++◌, map, Option, Some, None, refl, subst}
use Rattle.std.specs.Prelude.{codes, option_to_list, if◌then◌else◌}
use Rattle.cpo_text.specs.Words.{Word, is_sign, call}
use Rattle.cpo_text.specs.Words.Word.{sign}
use Rattle.cpo_text.specs.Parts.{minus_words, int_words, name_words, names_words, ints_words, flag_words, int_items}
use Rattle.cpo_text.specs.Spelling.{to_words, range_words, ivarg_words, types_items, step_words, definition_words, temporal_word, hierarchy_word, extreme_word, order_word, bound_sign, over_words, spaced_items, moments_items, aligned_items, constraint_words, sense_word, statement_body}
use Rattle.cpo_text.specs.Expressions.{measure_word, gather_word, link_sign, comparison_sign, joined, all_joined, sum_words, logic_step, logic_words, square}
use Rattle.cpo_text.specs.Cumulative.{cpart_words, more_words, cumul_words}
use Rattle.cpo_text.specs.declared.tree.Int.{Int}
use Rattle.cpo_text.specs.declared.tree.Range.{Range}
use Rattle.cpo_text.specs.declared.tree.Ivarg.{Ivarg}
use Rattle.cpo_text.specs.declared.tree.Ivarg.TheVariants.{Optional, Start, End, Size}
use Rattle.cpo_text.specs.declared.tree.StepPair.{StepPair}
use Rattle.cpo_text.specs.declared.tree.Definition.{Definition}
use Rattle.cpo_text.specs.declared.tree.Definition.TheVariants.{IntervalVar, SequenceVar, TransitionMatrix, StateFunction, StepFunction, Cumulative}
use Rattle.cpo_text.specs.declared.tree.Over.{Over}
use Rattle.cpo_text.specs.declared.tree.Over.TheVariants.{Named as ByName, Listed}
use Rattle.cpo_text.specs.declared.tree.Spaced.{Spaced}
use Rattle.cpo_text.specs.declared.tree.Bound.{Bound}
use Rattle.cpo_text.specs.declared.tree.Bound.TheVariants.{AtMost, AtLeast}
use Rattle.cpo_text.specs.declared.tree.Moments.{Moments}
use Rattle.cpo_text.specs.declared.tree.Moments.TheVariants.{From, During}
use Rattle.cpo_text.specs.declared.tree.Constrained.{Constrained}
use Rattle.cpo_text.specs.declared.tree.Constrained.TheVariants as constrained
use Rattle.cpo_text.specs.declared.cumul.Cpart.{Cpart}
use Rattle.cpo_text.specs.declared.cumul.Cpart.TheVariants.{Named, Pulse, PulseOf, Step, StepAtStart, StepAtEnd}
use Rattle.cpo_text.specs.declared.cumul.Signed.{Signed}
use Rattle.cpo_text.specs.declared.cumul.Cumul.{Cumul}
use Rattle.cpo_text.specs.declared.expression.Link.{Link}
use Rattle.cpo_text.specs.declared.expression.Link.TheVariants.{Times, And, Or}
use Rattle.cpo_text.specs.declared.expression.Comparison.{Comparison}
use Rattle.cpo_text.specs.declared.expression.Comparison.TheVariants as comparison
use Rattle.cpo_text.specs.declared.expression.Logic.{Logic, roll-Logic}
use Rattle.cpo_text.specs.declared.expression.Logic.TheOpen.{Logic-F}
use Rattle.cpo_text.specs.declared.expression.Logic.TheOpen.Logic-F.{Lit, Group, PresenceOf, Measured, Gathered, Linked, Neg, Sum, Compare, Not, Implies}
use Rattle.cpo_text.specs.declared.expression.Logic.TheFolds.{fold-roll-Logic, ind-Logic, map-Logic}
use Rattle.cpo_text.specs.declared.tree.Statement.{Statement}
use Rattle.cpo_text.specs.declared.tree.Statement.TheVariants.{Empty, Define, Constrain, Forbid, Aim, Rank}
use Rattle.cpo_text.specs.lemmas.Free.{ends, IsFree, AreFree, both_free, with_free, all_free, more_free, between_free, round_free, square_free, call_free, size_free, minus_free, int_free, ints_free, int_items_free, names_free, flag_free}
use Rattle.cpo_text.specs.lemmas.Folds.{composed}

-- expressions

abbrev IsFreeLogic : Logic → Type 0
IsFreeLogic e = IsFree (logic_words e)

abbrev Known : Type 0
Known = (e : Logic) × IsFreeLogic e

abbrev words : List Known → List (List Word)
words ps = map (λ p. logic_words p.0) ps

joined_free : (ws : List Word) → IsFree ws → IsFree (joined ws)
joined_free [] free = refl
joined_free (w ∷ ws) free = decided (is_sign (codes "-") w)
  where
    decided : (b : Bool) → IsFree (if b then w ∷ ws else sign (codes "+") ∷ w ∷ ws)
    decided true = free
    decided false = free

added_free : (items : List (List Word)) → AreFree items → IsFree (all_joined items)
added_free [] free = refl
added_free (x ∷ xs) free = both_free (joined x) (all_joined xs) (joined_free x free.0) (added_free xs free.1)

sum_free : (items : List (List Word)) → AreFree items → IsFree (sum_words items)
sum_free [] free = refl
sum_free (x ∷ xs) free = both_free x (all_joined xs) free.0 (added_free xs free.1)

link_free : (l : Link) → ends (sign (link_sign l)) ≡ false
link_free Times = refl
link_free And = refl
link_free Or = refl

comparison_free : (op : Comparison) → ends (sign (comparison_sign op)) ≡ false
comparison_free comparison.Equal = refl
comparison_free comparison.NotEqual = refl
comparison_free comparison.AtMost = refl
comparison_free comparison.AtLeast = refl
comparison_free comparison.Below = refl
comparison_free comparison.Above = refl

known_free : (ps : List Known) → AreFree (words ps)
known_free ps = all_free (λ p. logic_words p.0) (λ p. p.1) ps

step_free : (y : Logic-F Known) → IsFree (logic_step (map-Logic Known (List Word) (λ p. logic_words p.0) y))
step_free (Lit n) = size_free n
step_free (Group p) = round_free (logic_words p.0) p.1
step_free (PresenceOf a) = refl
step_free (Measured m a d) = call_free (measure_word m) (name_words a ∷ int_items d) (refl, int_items_free d)
step_free (Gathered g ps) = call_free (gather_word g) (square (words ps) ∷ []) (square_free (words ps) (known_free ps), tt)
step_free (Linked l ps) = between_free (link_sign l) (link_free l) (words ps) (known_free ps)
step_free (Neg p) = p.1
step_free (Sum ps) = sum_free (words ps) (known_free ps)
step_free (Compare op p q) = both_free (logic_words p.0) (sign (comparison_sign op) ∷ logic_words q.0) p.1 (with_free (sign (comparison_sign op)) (logic_words q.0) (comparison_free op) q.1)
step_free (Not p) = p.1
step_free (Implies p q) = both_free (logic_words p.0) (sign (codes "=>") ∷ logic_words q.0) p.1 q.1

logic_free : (e : Logic) → IsFreeLogic e
logic_free = ind-Logic IsFreeLogic (λ x y is. subst (λ z. IsFreeLogic (roll-Logic z)) is (rw (fold-roll-Logic (List Word) logic_step, composed IsFreeLogic (List Word) logic_words y) (step_free y)))

-- cumulative expressions

cpart_free : (c : Cpart) → IsFree (cpart_words c)
cpart_free (Named n) = refl
cpart_free (Pulse u v h) = call_free (codes "pulse") (int_words u ∷ int_words v ∷ int_words h ∷ []) (int_free u, (int_free v, (int_free h, tt)))
cpart_free (PulseOf a h) = call_free (codes "pulse") (name_words a ∷ int_words h ∷ []) (refl, (int_free h, tt))
cpart_free (Step u h) = call_free (codes "step") (int_words u ∷ int_words h ∷ []) (int_free u, (int_free h, tt))
cpart_free (StepAtStart a h) = call_free (codes "stepAtStart") (name_words a ∷ int_words h ∷ []) (refl, (int_free h, tt))
cpart_free (StepAtEnd a h) = call_free (codes "stepAtEnd") (name_words a ∷ int_words h ∷ []) (refl, (int_free h, tt))

joint_free : (m : Bool) → ends (sign (if m then codes "-" else codes "+")) ≡ false
joint_free true = refl
joint_free false = refl

parts_free : (ps : List Signed) → IsFree (more_words ps)
parts_free [] = refl
parts_free (p ∷ ps) =
    with_free (sign (if p.minus then codes "-" else codes "+")) (cpart_words p.part ++ more_words ps) (joint_free p.minus)
    (both_free (cpart_words p.part) (more_words ps) (cpart_free p.part) (parts_free ps))

cumul_free : (c : Cumul) → IsFree (cumul_words c)
cumul_free c =
    both_free (minus_words c.first.minus) (cpart_words c.first.part ++ more_words c.more) (minus_free c.first.minus)
    (both_free (cpart_words c.first.part) (more_words c.more) (cpart_free c.first.part) (parts_free c.more))

-- definitions

to_free : (o : Option Int) → IsFree (to_words o)
to_free None = refl
to_free (Some i) = int_free i

range_free : (r : Range) → IsFree (range_words r)
range_free r = both_free (int_words r.from) (to_words r.to) (int_free r.from) (to_free r.to)

ivarg_free : (a : Ivarg) → IsFree (ivarg_words a)
ivarg_free Optional = refl
ivarg_free (Start r) = range_free r
ivarg_free (End r) = range_free r
ivarg_free (Size r) = range_free r

types_free : (o : Option (List Int)) → AreFree (types_items o)
types_free None = tt
types_free (Some is) = (ints_free is, tt)

step_free_words : (p : StepPair) → IsFree (step_words p)
step_free_words p = square_free (int_words p.moment ∷ int_words p.value ∷ []) (int_free p.moment, (int_free p.value, tt))

definition_free : (d : Definition) → IsFree (definition_words d)
definition_free (IntervalVar args) = call_free (codes "intervalVar") (map ivarg_words args) (all_free ivarg_words ivarg_free args)
definition_free (SequenceVar ns types) = call_free (codes "sequenceVar") (names_words ns ∷ types_items types) (names_free ns, types_free types)
definition_free (TransitionMatrix rows) = call_free (codes "transitionMatrix") (square (map ints_words rows) ∷ []) (square_free (map ints_words rows) (all_free ints_words ints_free rows), tt)
definition_free (StateFunction m) = call_free (codes "stateFunction") (map name_words (option_to_list m)) (all_free name_words (λ n. refl) (option_to_list m))
definition_free (StepFunction ps) = call_free (codes "stepFunction") (square (map step_words ps) ∷ []) (square_free (map step_words ps) (all_free step_words step_free_words ps), tt)
definition_free (Cumulative c) = cumul_free c

-- constraints

over_free : (p : Over) → IsFree (over_words p)
over_free (ByName n) = refl
over_free (Listed ns) = names_free ns

spaced_free : (o : Option Spaced) → AreFree (spaced_items o)
spaced_free None = tt
spaced_free (Some s) = (refl, all_free flag_words flag_free (option_to_list s.direct))

bound_free : (b : Bound) → ends (sign (bound_sign b)) ≡ false
bound_free AtMost = refl
bound_free AtLeast = refl

moments_free : (w : Moments) → AreFree (moments_items w)
moments_free (From u v) = (int_free u, (int_free v, tt))
moments_free (During a) = (refl, tt)

aligned_free : (o : Option (Bool × Bool)) → AreFree (aligned_items o)
aligned_free None = tt
aligned_free (Some p) = (flag_free p.0, (flag_free p.1, tt))

constraint_free : (c : Constrained) → IsFree (constraint_words c)
constraint_free (constrained.Between t a b z) = call_free (temporal_word t) (name_words a ∷ name_words b ∷ int_items z) (refl, (refl, int_items_free z))
constraint_free (constrained.Parts h a ns) = call_free (hierarchy_word h) (name_words a ∷ names_words ns ∷ []) (refl, (names_free ns, tt))
constraint_free (constrained.Alternative a ns n) = call_free (codes "alternative") (name_words a ∷ names_words ns ∷ int_items n) (refl, (names_free ns, int_items_free n))
constraint_free (constrained.NoOverlap p s) = call_free (codes "noOverlap") (over_words p ∷ spaced_items s) (over_free p, spaced_free s)
constraint_free (constrained.Extreme e p a) = call_free (extreme_word e) (name_words p ∷ name_words a ∷ []) (refl, (refl, tt))
constraint_free (constrained.Ordered o p a b) = call_free (order_word o) (name_words p ∷ name_words a ∷ name_words b ∷ []) (refl, (refl, (refl, tt)))
constraint_free (constrained.Bounded f b c) = both_free (cumul_words f) (sign (bound_sign b) ∷ int_words c) (cumul_free f) (with_free (sign (bound_sign b)) (int_words c) (bound_free b) (int_free c))
constraint_free (constrained.AlwaysIn f w lo hi) =
    call_free (codes "alwaysIn") (cumul_words f ∷ moments_items w ++ int_words lo ∷ int_words hi ∷ [])
    (cumul_free f, more_free (moments_items w) (int_words lo ∷ int_words hi ∷ []) (moments_free w) (int_free lo, (int_free hi, tt)))
constraint_free (constrained.AlwaysEqual g a v ij) = call_free (codes "alwaysEqual") (name_words g ∷ name_words a ∷ int_words v ∷ aligned_items ij) (refl, (refl, (int_free v, aligned_free ij)))
constraint_free (constrained.AlwaysNoState g a) = call_free (codes "alwaysNoState") (name_words g ∷ name_words a ∷ []) (refl, (refl, tt))
constraint_free (constrained.Holds e) = logic_free e

-- the words before the last semicolon have none
pub body_free : (s : Statement) → IsFree (statement_body s)
body_free Empty = refl
body_free (Define n d) = definition_free d
body_free (Constrain c) = constraint_free c
body_free (Forbid w a f) = refl
body_free (Aim s e) = call_free (sense_word s) (logic_words e ∷ []) (logic_free e, tt)
body_free (Rank s es) =
    let list : List Word = square (map logic_words es) in
    let inner = call_free (codes "staticLex") (list ∷ []) (square_free (map logic_words es) (all_free logic_words logic_free es), tt) in
    call_free (sense_word s) (call (codes "staticLex") (list ∷ []) ∷ []) (inner, tt)
