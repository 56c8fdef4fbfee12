-- The parts of a table, one after the other.
use Rattle.std.specs.Prelude.{◌≡◌, ℕ, ◌+◌, ◌<◌, ◌≤◌, Bool, true, false, ◌&&◌, ◌||◌, nat_lt, nat_eq, List, [], ◌∷◌, ◌++◌, length, Some, slice_get}
use Rattle.std.specs.List.{list_any}
use Rattle.std.proofs.Common.{◌≢◌, refl, sym, ap, subst, ◌∙◌, arith, get_or, inl, inr, take}
use Rattle.std.proofs.lemmas.Bool.{cases_eq}
use Rattle.std.proofs.lemmas.Bool.Decides.{nat_tests}
use Rattle.std.proofs.lemmas.List.{get_or_append_left, length_push, take_all}
use Rattle.std.proofs.lemmas.Option.{slice_get_read}
use Rattle.std.proofs.lemmas.List.Folds.{list_any-append, list_any_more}
use Rattle.sched_base.specs.declared.ids.Itv.{Itv}
use Rattle.sched_base.specs.declared.ids.Seq.{Seq}
use Rattle.sched_model.specs.declared.types.IntervalDef.{IntervalDef}
use Rattle.sched_model.specs.declared.types.Constraint.{Constraint}
use Rattle.sched_model.specs.Words.{passes}
use Rattle.sched_model.specs.Data.{same}
use Rattle.refute_basic.specs.laws.Arc.{ends_of}
use Rattle.refute_basic.specs.Standing.{is_no_overlap}
use Rattle.prop_temporal.specs.code.Tables.{FitEach, AreOptional, AreDisjunctive, ends_at}
use Rattle.prop_temporal.specs.code.Tasks.{is_optional, has_sequence}
use Rattle.base_laws.specs.laws.Places.{newest, there}

-- the optional intervals among the first
pub optional_none : (ds : List IntervalDef) → AreOptional ds 0 []
optional_none ds = record { each = λ x. none (nat_lt x.0 0) (is_optional ds x) (none_below x.0) }
  where
    none_below : (i : ℕ) → nat_lt i 0 ≡ false
    none_below i = grind (arith, nat_tests)

    none : (p q : Bool) → p ≡ false → false ≡ (p && q)
    none true q h = cc
    none false q h = refl

pub optional_all : (ds : List IntervalDef) (n : ℕ) (xs : List Itv) → n ≡ length ds → AreOptional ds n xs → AreOptional ds (length ds) xs
optional_all ds n xs is so_far = subst (λ k. AreOptional ds k xs) is so_far

-- of one interval more: what the test of its number says, and what its definition
data Turn (n i : ℕ) : Type 0 where
  at_last : i ≡ n → nat_lt i n ≡ false → nat_lt i (n + 1) ≡ true → nat_eq i n ≡ true → Turn n i
  elsewhere : nat_lt i (n + 1) ≡ nat_lt i n → nat_eq i n ≡ false → Turn n i

turn_of : (n i : ℕ) → Turn n i
turn_of n i = by_case (nat_eq i n) refl
  where
    same : nat_eq i n ≡ true → i ≡ n
    same h = grind (arith, nat_tests)

    off : nat_eq i n ≡ false → (i ≡ n → ⊥)
    off h e = grind (arith, nat_tests)

    irrelevant : (t u : Bool) → (t ≡ true → u ≡ true) → (u ≡ true → t ≡ true) → t ≡ u
    irrelevant true u f g = sym (f refl)
    irrelevant false true f g = g refl
    irrelevant false false f g = refl

    down : nat_eq i n ≡ false → nat_lt i (n + 1) ≡ true → nat_lt i n ≡ true
    down h k = grind (arith, nat_tests)

    up : nat_lt i n ≡ true → nat_lt i (n + 1) ≡ true
    up h = grind (arith, nat_tests)

    not_below : i ≡ n → nat_lt i n ≡ false
    not_below e = grind (arith, nat_tests)

    next_below : i ≡ n → nat_lt i (n + 1) ≡ true
    next_below e = grind (arith, nat_tests)

    by_case : (b : Bool) → nat_eq i n ≡ b → Turn n i
    by_case true is = at_last (same is) (not_below (same is)) (next_below (same is)) is
    by_case false is = elsewhere (irrelevant (nat_lt i (n + 1)) (nat_lt i n) (down is) up) is

optional_at : (ds : List IntervalDef) (n : ℕ) (d : IntervalDef) → n < length ds → d ≡ get_or ds n d → (x : Itv) → x.0 ≡ n → is_optional ds x ≡ d.optional
optional_at ds n d within at x is = ap (λ k. passes (λ d. d.optional) (slice_get ds k)) is ∙ ap (passes (λ d. d.optional)) (slice_get_read ds (length ds) n d refl within at)

pub optional_more : (ds : List IntervalDef) (n : ℕ) (xs : List Itv) (d : IntervalDef) (y : Itv) → AreOptional ds n xs → n < length ds → d ≡ get_or ds n d → d.optional ≡ true → y ≡ record { 0 = n } → AreOptional ds (n + 1) (xs ++ y ∷ [])
optional_more ds n xs d y so_far within at optional is = record { each = λ x. list_any-append (same x) xs (y ∷ []) ∙ ap (λ b. b || (same x y || false)) (so_far.each x) ∙ ap (λ z. (nat_lt x.0 n && is_optional ds x) || (same x z || false)) is ∙ by_turn x (turn_of n x.0) }
  where
    joined_last : (p q r s : Bool) → p ≡ false → q ≡ true → r ≡ true → s ≡ true → ((p && s) || (q || false)) ≡ (r && s)
    joined_last false true true true a b c d = refl
    joined_last true q r s a b c d = cc
    joined_last false false r s a b c d = cc
    joined_last false true false s a b c d = cc
    joined_last false true true false a b c d = cc

    joined_other : (p q r s : Bool) → r ≡ p → q ≡ false → ((p && s) || (q || false)) ≡ (r && s)
    joined_other p true r s a b = cc
    joined_other true false true true a b = refl
    joined_other true false true false a b = refl
    joined_other true false false s a b = cc
    joined_other false false true s a b = cc
    joined_other false false false s a b = refl

    by_turn : (x : Itv) → Turn n x.0 → ((nat_lt x.0 n && is_optional ds x) || (nat_eq x.0 n || false)) ≡ (nat_lt x.0 (n + 1) && is_optional ds x)
    by_turn x (at_last e a b c) = joined_last (nat_lt x.0 n) (nat_eq x.0 n) (nat_lt x.0 (n + 1)) (is_optional ds x) a c b (optional_at ds n d within at x e ∙ optional)
    by_turn x (elsewhere a b) = joined_other (nat_lt x.0 n) (nat_eq x.0 n) (nat_lt x.0 (n + 1)) (is_optional ds x) a b

pub optional_same : (ds : List IntervalDef) (n : ℕ) (xs : List Itv) (d : IntervalDef) → AreOptional ds n xs → n < length ds → d ≡ get_or ds n d → d.optional ≡ false → AreOptional ds (n + 1) xs
optional_same ds n xs d so_far within at mandatory = record { each = λ x. so_far.each x ∙ by_turn x (turn_of n x.0) }
  where
    both_false : (p r s : Bool) → s ≡ false → (p && s) ≡ (r && s)
    both_false true true s h = refl
    both_false true false s h = h
    both_false false true s h = sym h
    both_false false false s h = refl

    by_turn : (x : Itv) → Turn n x.0 → (nat_lt x.0 n && is_optional ds x) ≡ (nat_lt x.0 (n + 1) && is_optional ds x)
    by_turn x (at_last e a b c) = both_false (nat_lt x.0 n) (nat_lt x.0 (n + 1)) (is_optional ds x) (optional_at ds n d within at x e ∙ mandatory)
    by_turn x (elsewhere a b) = ap (λ t. t && is_optional ds x) (sym a)

-- the intervals of the first constraints
pub record FitBelow (n : ℕ) (cs : List Constraint) (es : List (List Itv)) : Type 0 where
  pub size : length es ≡ n
  pub each : (c : ℕ) → c < n → ends_at es c ≡ ends_of (slice_get cs c)

pub fit_none : (cs : List Constraint) → FitBelow 0 cs []
fit_none cs = record { size = refl; each = λ c below. absurd (omega (arith, below)) }

pub fit_more : (n : ℕ) (cs : List Constraint) (es : List (List Itv)) (c : Constraint) (e : List Itv) → FitBelow n cs es → n < length cs → c ≡ get_or cs n c → e ≡ ends_of (Some c) → FitBelow (n + 1) cs (es ++ e ∷ [])
fit_more n cs es c e so_far within at fits = record {
  size = length_push es e ∙ ap (λ k. k + 1) so_far.size;
  each = λ i below. elim (cases_eq i n) [
    | inl last ↦ ap (λ k. ends_at (es ++ e ∷ []) k) last ∙ newest n es e [] (sym so_far.size) ∙ fits ∙ ap ends_of (sym (there cs n c c within at)) ∙ ap (λ k. ends_of (slice_get cs k)) (sym last)
    | inr other ↦ (let apart : i ≢ n = other in let less : i < n = omega (arith, below, apart) in let size = so_far.size in get_or_append_left es (e ∷ []) [] i (omega (arith, less, size)) ∙ so_far.each i less)
  ];
}

pub fit_all : (n : ℕ) (cs : List Constraint) (es : List (List Itv)) → n ≡ length cs → FitBelow n cs es → FitEach cs es
fit_all n cs es all so_far = record { size = so_far.size ∙ all; each = λ c within. so_far.each c (omega (arith, within, all)) }

-- the sequences without overlap of the first constraints
pub disjunctive_none : (cs : List Constraint) → AreDisjunctive (take 0 cs) []
disjunctive_none cs = record { each = λ p. refl }

pub disjunctive_more : (cs : List Constraint) (n : ℕ) (c : Constraint) (ps qs : List Seq) → n < length cs → c ≡ get_or cs n c → AreDisjunctive (take n cs) ps → ((p : Seq) → has_sequence qs p ≡ (has_sequence ps p || is_no_overlap p c)) → AreDisjunctive (take (n + 1) cs) qs
disjunctive_more cs n c ps qs within at so_far noted = record {
  each = λ p. noted p ∙ ap (λ b. b || is_no_overlap p c) (so_far.each p) ∙ ap (λ d. list_any (is_no_overlap p) (take n cs) || is_no_overlap p d) at ∙ sym (list_any_more (is_no_overlap p) cs n c within);
}

pub disjunctive_all : (cs : List Constraint) (n : ℕ) (ps : List Seq) → length cs ≤ n → AreDisjunctive (take n cs) ps → AreDisjunctive cs ps
disjunctive_all cs n ps past so_far = subst (λ ds. AreDisjunctive ds ps) (take_all n cs past) so_far

-- one constraint adds its sequence, if it isn't there yet
or_none : (b : Bool) → b ≡ (b || false)
or_none true = refl
or_none false = refl
