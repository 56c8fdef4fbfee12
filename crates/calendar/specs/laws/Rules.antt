-- The constraints of a calendar hold exactly where its sentence does.
use Rattle.std.specs.Prelude.{◌≡◌, ◌↔◌, ℤ, pos, neg_ℤ, ◌-ℤ◌, ◌≤ℤ◌, ◌<ℤ◌, Bool, true, false, ◌&&◌, ◌||◌, List, [], ◌∷◌, map, int_le, int_lt}
use Rattle.std.specs.Int.{int_max}
use Rattle.std.specs.Ordering.{int_eq}
use Rattle.std.specs.List.{list_all, list_any}
use Rattle.std.proofs.Common.{refl, sym, ap, ◌∙◌, arith, cond, inl, inr}
use Rattle.std.proofs.lemmas.Int.{ints}
use Rattle.std.proofs.lemmas.Bool.{and_parts, true≢false}
use Rattle.sched_base.specs.declared.ids.Itv.{Itv}
use Rattle.sched_model.specs.declared.types.Assignment.{Assignment}
use Rattle.sched_model.specs.declared.types.CompareOp.{CompareOp}
use Rattle.sched_model.specs.declared.types.Slot.{Slot}
use Rattle.sched_model.specs.declared.types.Slot.TheVariants.{Absent, Present}
use Rattle.sched_model.specs.declared.types.CompareOp.TheVariants as op
use Rattle.sched_model.specs.declared.types.Expr.{Expr, roll-Expr}
use Rattle.sched_model.specs.declared.types.Expr.TheOpen.{Expr-F as expr}
use Rattle.sched_model.specs.declared.types.Expr.TheFolds.{fold-roll-Expr}
use Rattle.sched_model.specs.laws.Words.{implied, if_implied}
use Rattle.sched_model.specs.Words.{◌implies◌}
use Rattle.sched_model.specs.Bounds.{is_moment}
use Rattle.sched_model.specs.Data.{Data}
use Rattle.sched_model.specs.Value.{truth, is_true, compared, value_step, value_of, slot_of, is_present, start_of, end_of, start_or, end_or, size_or}
use Rattle.sched_model.specs.Sentences.{holds}
use Rattle.calendar.specs.declared.step.Pair.{Pair}
use Rattle.calendar.specs.Steps.{are_steps, closed_of, Inside, IsClosed}
use Rattle.calendar.specs.Kept.{KeepsStart, KeepsExtent}
use Rattle.calendar.specs.Rules.{number_of, start_as, end_as, is_empty_of, where_present, start_rule, extent_rule}
use Rattle.calendar.specs.laws.Closed.{Each, Some, ranges_closed, none_missed}

-- The values of the expressions.

truth_is : (b : Bool) → is_true (truth b) ≡ b
truth_is true = refl
truth_is false = refl

number_is : (a : Assignment) (z : ℤ) → value_of a (number_of z) ≡ z
number_is a z = by_case (int_lt z (pos 0)) refl
  where
    literal : (y : ℤ) → value_of a (roll-Expr (expr.Lit y)) ≡ y
    literal y = fold-roll-Expr ℤ (value_step a) (expr.Lit y)

    turned : (y : ℤ) → neg_ℤ (neg_ℤ y) ≡ y
    turned y = omega (arith, ints)

    by_case : (b : Bool) → int_lt z (pos 0) ≡ b → value_of a (cond b (roll-Expr (expr.Neg (roll-Expr (expr.Lit (neg_ℤ z))))) (roll-Expr (expr.Lit z))) ≡ z
    by_case true is = fold-roll-Expr ℤ (value_step a) (expr.Neg (roll-Expr (expr.Lit (neg_ℤ z)))) ∙ ap neg_ℤ (literal (neg_ℤ z)) ∙ turned z
    by_case false is = literal z

compare_is : (a : Assignment) (o : CompareOp) (p q : Expr) (y z : ℤ) → value_of a p ≡ y → value_of a q ≡ z → is_true (value_of a (roll-Expr (expr.Compare o p q))) ≡ compared o y z
compare_is a o p q y z h i =
    ap is_true (fold-roll-Expr ℤ (value_step a) (expr.Compare o p q)) ∙ truth_is (compared o (value_of a p) (value_of a q))
    ∙ ap (λ x. compared o x (value_of a q)) h ∙ ap (compared o y) i

start_is : (a : Assignment) (o : CompareOp) (x : Itv) (z : ℤ) → is_true (value_of a (start_as o x z)) ≡ compared o (start_of a x) z
start_is a o x z = compare_is a o (roll-Expr (expr.StartOf x (pos 0))) (number_of z) (start_of a x) z (fold-roll-Expr ℤ (value_step a) (expr.StartOf x (pos 0))) (number_is a z)

end_is : (a : Assignment) (o : CompareOp) (x : Itv) (z : ℤ) → is_true (value_of a (end_as o x z)) ≡ compared o (end_of a x) z
end_is a o x z = compare_is a o (roll-Expr (expr.EndOf x (pos 0))) (number_of z) (end_of a x) z (fold-roll-Expr ℤ (value_step a) (expr.EndOf x (pos 0))) (number_is a z)

empty_is : (a : Assignment) (x : Itv) → is_true (value_of a (is_empty_of x)) ≡ int_eq (size_or (pos 0) (slot_of a x)) (pos 0)
empty_is a x = compare_is a op.Eq (roll-Expr (expr.SizeOf x (pos 0))) (roll-Expr (expr.Lit (pos 0))) (size_or (pos 0) (slot_of a x)) (pos 0)
    (fold-roll-Expr ℤ (value_step a) (expr.SizeOf x (pos 0))) (fold-roll-Expr ℤ (value_step a) (expr.Lit (pos 0)))

-- a rule: where the interval is present, one of these
rule_is : (m : Data) (a : Assignment) (x : Itv) (es : List Expr) → holds m a (where_present x es) ≡ (is_present a x implies list_any is_true (map (value_of a) es))
rule_is m a x es =
    ap is_true (fold-roll-Expr ℤ (value_step a) (expr.Implies (roll-Expr (expr.PresenceOf x)) (roll-Expr (expr.Or es))))
    ∙ truth_is (is_true (value_of a (roll-Expr (expr.PresenceOf x))) implies is_true (value_of a (roll-Expr (expr.Or es))))
    ∙ ap (λ b. b implies is_true (value_of a (roll-Expr (expr.Or es)))) (ap is_true (fold-roll-Expr ℤ (value_step a) (expr.PresenceOf x)) ∙ truth_is (is_present a x))
    ∙ ap (λ b. is_present a x implies b) (ap is_true (fold-roll-Expr ℤ (value_step a) (expr.Or es)) ∙ truth_is (list_any is_true (map (value_of a) es)))

start_rule_is : (m : Data) (a : Assignment) (x : Itv) (r : Pair) → holds m a (start_rule x r) ≡ (is_present a x implies (int_lt (start_of a x) r.t || (int_le r.v (start_of a x) || false)))
start_rule_is m a x r =
    rule_is m a x (start_as op.Lt x r.t ∷ start_as op.Ge x r.v ∷ [])
    ∙ ap (λ b. is_present a x implies (b || (is_true (value_of a (start_as op.Ge x r.v)) || false))) (start_is a op.Lt x r.t)
    ∙ ap (λ b. is_present a x implies (int_lt (start_of a x) r.t || (b || false))) (start_is a op.Ge x r.v)

extent_rule_is : (m : Data) (a : Assignment) (x : Itv) (r : Pair)
    → holds m a (extent_rule x r) ≡ (is_present a x implies (int_eq (size_or (pos 0) (slot_of a x)) (pos 0) || (int_le (end_of a x) r.t || (int_le r.v (start_of a x) || false))))
extent_rule_is m a x r =
    rule_is m a x (is_empty_of x ∷ end_as op.Le x r.t ∷ start_as op.Ge x r.v ∷ [])
    ∙ ap (λ b. is_present a x implies (b || (is_true (value_of a (end_as op.Le x r.t)) || (is_true (value_of a (start_as op.Ge x r.v)) || false)))) (empty_is a x)
    ∙ ap (λ b. is_present a x implies (int_eq (size_or (pos 0) (slot_of a x)) (pos 0) || (b || (is_true (value_of a (start_as op.Ge x r.v)) || false)))) (end_is a op.Le x r.t)
    ∙ ap (λ b. is_present a x implies (int_eq (size_or (pos 0) (slot_of a x)) (pos 0) || (int_le (end_of a x) r.t || (b || false)))) (start_is a op.Ge x r.v)

-- Where an interval starts.

outside : (s u v : ℤ) → (int_lt s u || (int_le v s || false)) ≡ true → u ≤ℤ s → s <ℤ v → ⊥
outside s u v h i j = true≢false (sym h ∙ never s u v i j)
  where
    never : (s u v : ℤ) → u ≤ℤ s → s <ℤ v → (int_lt s u || (int_le v s || false)) ≡ false
    never s u v h i = grind (arith, ints)

none_inside : (m : Data) (a : Assignment) (x : Itv) (rs : List Pair) → list_all (holds m a) (map (start_rule x) rs) ≡ true → is_present a x ≡ true → Some (λ r. Inside r (start_of a x)) rs → ⊥
none_inside m a x [] h here some = absurd some
none_inside m a x (r ∷ rs) h here some = by_place some (and_parts (holds m a (start_rule x r)) (list_all (holds m a) (map (start_rule x) rs)) h) (none_inside m a x rs)
  where
    by_place : Some (λ r. Inside r (start_of a x)) (r ∷ rs) → (holds m a (start_rule x r) ≡ true) × (list_all (holds m a) (map (start_rule x) rs) ≡ true)
        → (list_all (holds m a) (map (start_rule x) rs) ≡ true → is_present a x ≡ true → Some (λ r. Inside r (start_of a x)) rs → ⊥) → ⊥
    by_place (inl first) both others = outside (start_of a x) r.t r.v (implied (is_present a x) _ (sym (start_rule_is m a x r) ∙ both.0) here) first.0 first.1
    by_place (inr rest) both others = others both.1 here rest

each_start : (m : Data) (a : Assignment) (x : Itv) (ps rs : List Pair) → KeepsStart a x ps → Each (IsClosed ps) rs → list_all (holds m a) (map (start_rule x) rs) ≡ true
each_start m a x ps [] keeps closed = refl
each_start m a x ps (r ∷ rs) keeps closed =
    ap (λ b. b && list_all (holds m a) (map (start_rule x) rs))
    (start_rule_is m a x r ∙ if_implied (is_present a x) _ (λ here. apart (start_of a x) r.t r.v (λ low high. keeps here (closed.0.zero (start_of a x) (low, high)))))
    ∙ each_start m a x ps rs keeps closed.1
  where
    apart : (s u v : ℤ) → (u ≤ℤ s → s <ℤ v → ⊥) → (int_lt s u || (int_le v s || false)) ≡ true
    apart s u v none = by_case (int_lt s u) (int_le v s) refl refl
      where
        ge : (a b : ℤ) → int_lt a b ≡ false → b ≤ℤ a
        ge a b h = grind (arith, ints)

        lt : (a b : ℤ) → int_le a b ≡ false → b <ℤ a
        lt a b h = grind (arith, ints)

        by_case : (b c : Bool) → int_lt s u ≡ b → int_le v s ≡ c → (b || (c || false)) ≡ true
        by_case true c h i = refl
        by_case false true h i = refl
        by_case false false h i = absurd (none (ge s u h) (lt v s i))

-- the law of starts
pub starts_exact : (m : Data) (a : Assignment) (x : Itv) (ps : List Pair) → are_steps ps ≡ true → is_moment (start_of a x) ≡ true → (list_all (holds m a) (map (start_rule x) (closed_of ps)) ≡ true) ↔ KeepsStart a x ps
starts_exact m a x ps steps moment = (
  λ h here zero. none_inside m a x (closed_of ps) h here (none_missed ps steps (start_of a x) moment zero),
  λ keeps. each_start m a x ps (closed_of ps) keeps (ranges_closed ps steps),
)

-- How long it lasts.

size_is : (a : Assignment) (x : Itv) → size_or (pos 0) (slot_of a x) ≡ end_of a x -ℤ start_of a x
size_is a x = by_slot (slot_of a x)
  where
    by_slot : (s : Slot) → size_or (pos 0) s ≡ end_or (pos 0) s -ℤ start_or (pos 0) s
    by_slot Absent = omega (arith, ints)
    by_slot (Present s e) = refl

some_moment : (m : Data) (a : Assignment) (x : Itv) (t : ℤ) (rs : List Pair) → list_all (holds m a) (map (extent_rule x) rs) ≡ true → is_present a x ≡ true → (start_of a x ≡ end_of a x → ⊥)
    → start_of a x ≤ℤ t → t <ℤ end_of a x → Some (λ r. Inside r t) rs → ⊥
some_moment m a x t [] h here long low high some = absurd some
some_moment m a x t (r ∷ rs) h here long low high some = by_place some (and_parts (holds m a (extent_rule x r)) (list_all (holds m a) (map (extent_rule x) rs)) h) (λ others. some_moment m a x t rs others here long low high)
  where
    never : (z s e u v : ℤ) → z ≡ e -ℤ s → s ≤ℤ t → t <ℤ e → u ≤ℤ t → t <ℤ v → (int_eq z (pos 0) || (int_le e u || (int_le v s || false))) ≡ false
    never z s e u v size low high from until = grind (arith, ints)

    by_place : Some (λ r. Inside r t) (r ∷ rs) → (holds m a (extent_rule x r) ≡ true) × (list_all (holds m a) (map (extent_rule x) rs) ≡ true)
        → (list_all (holds m a) (map (extent_rule x) rs) ≡ true → Some (λ r. Inside r t) rs → ⊥) → ⊥
    by_place (inl first) both others =
        true≢false (sym (implied (is_present a x) _ (sym (extent_rule_is m a x r) ∙ both.0) here)
        ∙ never (size_or (pos 0) (slot_of a x)) (start_of a x) (end_of a x) r.t r.v (size_is a x) low high first.0 first.1)
    by_place (inr rest) both others = others both.1 rest

each_extent : (m : Data) (a : Assignment) (x : Itv) (ps rs : List Pair) → start_of a x ≤ℤ end_of a x → KeepsExtent a x ps → Each (IsClosed ps) rs → list_all (holds m a) (map (extent_rule x) rs) ≡ true
each_extent m a x ps [] order keeps closed = refl
each_extent m a x ps (r ∷ rs) order keeps closed =
    ap (λ b. b && list_all (holds m a) (map (extent_rule x) rs))
    (extent_rule_is m a x r ∙ if_implied (is_present a x) _ (λ here. apart (size_or (pos 0) (slot_of a x)) (start_of a x) (end_of a x) r.t r.v (size_is a x) order closed.0.some
    (λ long t low high from until. keeps here long t low high (closed.0.zero t (from, until)))))
    ∙ each_extent m a x ps rs order keeps closed.1
  where
    apart : (z s e u v : ℤ) → z ≡ e -ℤ s → s ≤ℤ e → u <ℤ v → ((s ≡ e → ⊥) → (t : ℤ) → s ≤ℤ t → t <ℤ e → u ≤ℤ t → t <ℤ v → ⊥) → (int_eq z (pos 0) || (int_le e u || (int_le v s || false))) ≡ true
    apart z s e u v size order some none = by_case (int_eq z (pos 0)) (int_le e u) (int_le v s) refl refl refl
      where
        lt : (a b : ℤ) → int_le a b ≡ false → b <ℤ a
        lt a b h = grind (arith, ints)

        differ : int_eq z (pos 0) ≡ false → s ≡ e → ⊥
        differ h same = true≢false (sym (zero (let size = size in omega (arith, ints, size, same))) ∙ h)
          where
            zero : z ≡ pos 0 → int_eq z (pos 0) ≡ true
            zero h = grind (arith, ints)

        longer : (s ≡ e → ⊥) → s <ℤ e
        longer h = grind (arith, ints)

        by_case : (b c d : Bool) → int_eq z (pos 0) ≡ b → int_le e u ≡ c → int_le v s ≡ d → (b || (c || (d || false))) ≡ true
        by_case true c d h i j = refl
        by_case false true d h i j = refl
        by_case false false true h i j = refl
        by_case false false false h i j =
            let long = differ h in
            absurd (none long (int_max s u) (most_left s u) (below s u e (longer long) (lt e u i)) (most_right s u) (below s u v (lt v s j) some))
          where
            most_left : (a b : ℤ) → a ≤ℤ int_max a b
            most_left a b = grind (arith, ints)

            most_right : (a b : ℤ) → b ≤ℤ int_max a b
            most_right a b = grind (arith, ints)

            below : (a b c : ℤ) → a <ℤ c → b <ℤ c → int_max a b <ℤ c
            below a b c h i = grind (arith, ints)

-- the law of extents
pub extents_exact : (m : Data) (a : Assignment) (x : Itv) (ps : List Pair) → are_steps ps ≡ true → is_moment (start_of a x) ≡ true → is_moment (end_of a x) ≡ true → start_of a x ≤ℤ end_of a x
    → (list_all (holds m a) (map (extent_rule x) (closed_of ps)) ≡ true) ↔ KeepsExtent a x ps
extents_exact m a x ps steps start end order = (
  λ h here long t low high zero. some_moment m a x t (closed_of ps) h here long low high (none_missed ps steps t (inside (start_of a x) (end_of a x) t start end low high) zero),
  λ keeps. each_extent m a x ps (closed_of ps) order keeps (ranges_closed ps steps),
)
  where
    inside : (s e t : ℤ) → is_moment s ≡ true → is_moment e ≡ true → s ≤ℤ t → t <ℤ e → is_moment t ≡ true
    inside s e t h i j k = grind (arith, ints)
