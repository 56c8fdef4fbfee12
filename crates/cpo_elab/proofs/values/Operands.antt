-- Where the grammar gives an expression a level, each of its nodes has the operands that it wants.
use Rattle.std.proofs.Common.{◌≡◌, ℕ, suc, Bool, true, not, List, [], ◌∷◌, map, length, Option, is_some, nat_le, refl, subst}
use Rattle.std.proofs.lemmas.Bool.{and_parts, and_from}
use Rattle.sched_model.specs.Words.{is_empty}
use Rattle.cpo_text.specs.Expressions.{at_least, all_at_least, are_many, gathers, link_level, level_step, level}
use Rattle.cpo_text.specs.declared.expression.Gather.{Gather}
use Rattle.cpo_text.specs.declared.expression.Gather.TheVariants as gather
use Rattle.cpo_text.specs.declared.expression.Logic.{Logic}
use Rattle.cpo_text.specs.declared.expression.Logic.TheOpen.{Logic-F}
use Rattle.cpo_text.specs.declared.expression.Logic.TheOpen.Logic-F.{Lit, Group, PresenceOf, Measured, Gathered, Linked, Neg, Sum, Compare, Not, Implies}
use Rattle.cpo_text.specs.declared.expression.Logic.TheFolds.{fold-roll-Logic, ind-Logic, map-Logic}
use Rattle.cpo_text.specs.declared.expression.Logic.TheViews.{roll-Logic}
use Rattle.cpo_text.specs.lemmas.Levels.{so, has_level}
use Rattle.cpo_text.specs.lemmas.Folds.{composed}
use Rattle.cpo_elab.specs.Shaped.{operands_step, has_operands, gathers_some, all_true}

abbrev Levelled : Logic → Type 0
Levelled e = is_some (level e) ≡ true → has_operands e ≡ true

abbrev Part : Type 0
Part = (e : Logic) × Levelled e

abbrev levels : List Part → List (Option ℕ)
levels ps = map (λ p. level p.0) ps

abbrev shapes : List Part → List Bool
shapes ps = map (λ p. has_operands p.0) ps

one : (p : Part) (n : ℕ) → at_least n (level p.0) ≡ true → has_operands p.0 ≡ true
one p n h = p.1 (has_level n (level p.0) h)

each : (ps : List Part) (n : ℕ) → all_at_least n (levels ps) ≡ true → all_true (shapes ps) ≡ true
each [] n h = refl
each (p ∷ ps) n h = let parts = and_parts (at_least n (level p.0)) (all_at_least n (levels ps)) h in and_from (has_operands p.0) _ (one p n parts.0) (each ps n parts.1)

many : (ps : List Part) → are_many (levels ps) ≡ true → not (is_empty (shapes ps)) ≡ true
many [] h = cc
many (p ∷ ps) h = refl

some : (ps : List Part) → nat_le 1 (length (levels ps)) ≡ true → not (is_empty (shapes ps)) ≡ true
some [] h = cc
some (p ∷ ps) h = refl

gathered : (g : Gather) (ps : List Part) → gathers g (levels ps) ≡ true → gathers_some g (shapes ps) ≡ true
gathered gather.Max ps h = some ps h
gathered gather.Min ps h = some ps h
gathered gather.Sum ps h = refl

ops : (y : Logic-F Part) → is_some (level_step (map-Logic Part (Option ℕ) (λ p. level p.0) y)) ≡ true → operands_step (map-Logic Part Bool (λ p. has_operands p.0) y) ≡ true
ops (Lit n) h = refl
ops (Group p) h = one p 0 (so _ 7 h)
ops (PresenceOf a) h = refl
ops (Measured how a d) h = refl
ops (Gathered g ps) h =
    let parts = and_parts (gathers g (levels ps)) (all_at_least 0 (levels ps)) (so _ 7 h) in
    and_from (gathers_some g (shapes ps)) _ (gathered g ps parts.0) (each ps 0 parts.1)
ops (Linked l ps) h =
    let parts = and_parts (are_many (levels ps)) (all_at_least (suc (link_level l)) (levels ps)) (so _ (link_level l) h) in
    and_from (not (is_empty (shapes ps))) _ (many ps parts.0) (each ps (suc (link_level l)) parts.1)
ops (Neg p) h = one p 6 (so _ 5 h)
ops (Sum ps) h = each ps 5 (and_parts (are_many (levels ps)) (all_at_least 5 (levels ps)) (so _ 4 h)).1
ops (Compare op p q) h =
    let parts = and_parts (at_least 4 (level p.0)) (at_least 4 (level q.0)) (so _ 3 h) in
    and_from (has_operands p.0) (has_operands q.0) (one p 4 parts.0) (one q 4 parts.1)
ops (Not p) h = one p 3 (so _ 3 h)
ops (Implies p q) h =
    let parts = and_parts (at_least 1 (level p.0)) (at_least 0 (level q.0)) (so _ 0 h) in
    and_from (has_operands p.0) (has_operands q.0) (one p 1 parts.0) (one q 0 parts.1)

levelled : (e : Logic) → Levelled e
levelled = ind-Logic Levelled (λ x y is. subst (λ z. Levelled (roll-Logic z)) is (λ h.
    rw (fold-roll-Logic Bool operands_step, composed Levelled Bool has_operands y)
    (ops y (rw (fold-roll-Logic (Option ℕ) level_step, composed Levelled (Option ℕ) level y) at h))))

pub grammar_operands : (e : Logic) (n : ℕ) → at_least n (level e) ≡ true → has_operands e ≡ true
grammar_operands e n h = levelled e (has_level n (level e) h)
