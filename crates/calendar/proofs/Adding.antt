-- Constraints that are added one by one.
use Rattle.std.specs.Prelude.{◌≡◌, ℕ, zero, suc, ◌+◌, ◌<◌, ◌≤◌, true, List, [], ◌∷◌, ◌++◌, length, map, take, drop}
use Rattle.std.specs.List.{list_all}
use Rattle.std.proofs.Common.{refl, sym, ap, subst, ◌∙◌, arith, get_or}
use Rattle.std.proofs.lemmas.Bool.{and_parts}
use Rattle.std.proofs.lemmas.List.{append_assoc, take-append-drop, take_all}
use Rattle.sched_base.specs.declared.ids.Itv.{Itv}
use Rattle.sched_model.specs.declared.types.Constraint.{Constraint}
use Rattle.sched_model.specs.Data.{Data, with_constraint}
use Rattle.sched_model.specs.Valid.{IsValid}
use Rattle.calendar.specs.declared.step.Pair.{Pair}
use Rattle.calendar.specs.declared.rules.Demand.{Demand}
use Rattle.calendar.specs.Steps.{are_steps, closed_of}
use Rattle.calendar.specs.Rules.{rule_of, rules_of, is_small_range, with_constraints, RulesSayIt}
use Rattle.calendar.specs.laws.Prefix.{valid_front}
use Rattle.calendar.specs.laws.Meaning.{rules_say_it}

pub small_there : (rs : List Pair) (i : ℕ) (d : Pair) → list_all is_small_range rs ≡ true → i < length rs → is_small_range (get_or rs i d) ≡ true
small_there [] i d h within = absurd (omega (arith, within))
small_there (r ∷ rs) zero d h within = (and_parts (is_small_range r) (list_all is_small_range rs) h).0
small_there (r ∷ rs) (suc i) d h within = small_there rs i d (and_parts (is_small_range r) (list_all is_small_range rs) h).1 (omega (arith, within))

pub none_added : (m : Data) (cs : List Constraint) → m ≡ with_constraints (take 0 cs) m
none_added m cs = same m.constraints
  where
    same : (xs : List Constraint) → m ≡ record m { constraints = m.constraints ++ [] }
    same xs = ap (λ ys. let n : Data = record m { constraints = ys } in n) (sym (nothing_behind m.constraints))
      where
        nothing_behind : (xs : List Constraint) → xs ++ [] ≡ xs
        nothing_behind [] = refl
        nothing_behind (x ∷ xs) = ap (λ ys. x ∷ ys) (nothing_behind xs)

take_more : (f : Pair → Constraint) (rs : List Pair) (i : ℕ) (d : Pair) → i < length rs → take (i + 1) (map f rs) ≡ take i (map f rs) ++ f (get_or rs i d) ∷ []
take_more f [] i d within = absurd (omega (arith, within))
take_more f (r ∷ rs) zero d within = refl
take_more f (r ∷ rs) (suc i) d within = ap (λ n. take n (f r ∷ map f rs)) (later i) ∙ ap (λ xs. f r ∷ xs) (take_more f rs i d (omega (arith, within)))
  where
    later : (i : ℕ) → suc i + 1 ≡ suc (i + 1)
    later i = omega arith

pub one_more : (m n : Data) (demand : Demand) (a : Itv) (rs : List Pair) (i : ℕ) (d : Pair) → i < length rs → n ≡ with_constraints (take i (map (rule_of demand a) rs)) m
    → with_constraint (rule_of demand a (get_or rs i d)) n ≡ with_constraints (take (i + 1) (map (rule_of demand a) rs)) m
one_more m n demand a rs i d within is =
    ap (with_constraint (rule_of demand a (get_or rs i d))) is
    ∙ ap (λ xs. let x : Data = record m { constraints = xs } in x) (append_assoc m.constraints (take i (map (rule_of demand a) rs)) (rule_of demand a (get_or rs i d) ∷ [])
    ∙ ap (λ xs. m.constraints ++ xs) (sym (take_more (rule_of demand a) rs i d within)))

pub stays_valid : (m n : Data) (demand : Demand) (a : Itv) (rs : List Pair) (i : ℕ) (d : Pair) → IsValid (with_constraints (map (rule_of demand a) rs) m) → i < length rs
    → n ≡ with_constraints (take i (map (rule_of demand a) rs)) m → IsValid (with_constraint (rule_of demand a (get_or rs i d)) n)
stays_valid m n demand a rs i d valid within is =
    subst IsValid (sym (one_more m n demand a rs i d within is))
    (valid_front m (m.constraints ++ take (i + 1) (map (rule_of demand a) rs)) (drop (i + 1) (map (rule_of demand a) rs))
    (subst (λ xs. IsValid (record m { constraints = xs })) (sym (append_assoc m.constraints (take (i + 1) (map (rule_of demand a) rs)) (drop (i + 1) (map (rule_of demand a) rs))
    ∙ ap (λ xs. m.constraints ++ xs) (take-append-drop (i + 1) (map (rule_of demand a) rs)))) valid))

pub all_added : (m n : Data) (cs : List Constraint) (i : ℕ) → n ≡ with_constraints (take i cs) m → length cs ≤ i → n ≡ with_constraints cs m
all_added m n cs i is all = is ∙ ap (λ xs. with_constraints xs m) (take_all i cs all)

pub rules_same : (m n : Data) (demand : Demand) (a : Itv) (ps rs : List Pair) → rs ≡ closed_of ps → n ≡ with_constraints (map (rule_of demand a) rs) m → n ≡ with_constraints (rules_of demand a ps) m
rules_same m n demand a ps rs is after = after ∙ ap (λ xs. with_constraints (map (rule_of demand a) xs) m) is

pub rules_part : (m n : Data) (demand : Demand) (a : Itv) (ps rs : List Pair) → rs ≡ closed_of ps → (k : ℕ) × (n ≡ with_constraints (take k (map (rule_of demand a) rs)) m) → (k : ℕ) × (n ≡ with_constraints (take k (rules_of demand a ps)) m)
rules_part m n demand a ps rs is part = (part.0, part.1 ∙ ap (λ xs. with_constraints (take part.0 (map (rule_of demand a) xs)) m) is)

-- the model without the new constraints is valid, too
old_valid : (m : Data) (cs : List Constraint) → IsValid (with_constraints cs m) → IsValid m
old_valid m cs valid = valid_front m m.constraints cs valid

pub rules_mean : (m : Data) (demand : Demand) (a : Itv) (ps : List Pair) → are_steps ps ≡ true → IsValid (with_constraints (rules_of demand a ps) m) → RulesSayIt m demand a ps
rules_mean m demand a ps steps valid = rules_say_it m demand a ps (old_valid m (rules_of demand a ps) valid) steps
