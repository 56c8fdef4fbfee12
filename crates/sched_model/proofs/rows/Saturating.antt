-- Arithmetic that saturates doesn't change the value of an expression that has a hull.
use Rattle.std.proofs.Common.{◌≡◌, ℤ, pos, neg_ℤ, ◌-ℤ◌, Bool, true, false, not, List, [], ◌∷◌, map, Option, Some, None, is_some, get_or, refl, ap, subst, ◌∙◌, arith}
use Rattle.std.specs.List.{list_all, list_any}
use Rattle.std.specs.Int.{saturate_signed, w64}
use Rattle.std.proofs.lemmas.Int.{ints}
use Rattle.std.proofs.lemmas.Option.{option_and_then_some}
use Rattle.sched_model.specs.declared.types.Assignment.{Assignment}
use Rattle.sched_model.specs.declared.types.Slot.{Slot}
use Rattle.sched_model.specs.declared.types.Slot.TheVariants.{Absent, Present}
use Rattle.sched_model.specs.declared.types.Expr.{Expr}
use Rattle.sched_model.specs.declared.types.Expr.TheOpen.{Expr-F}
use Rattle.sched_model.specs.declared.types.Expr.TheOpen.Expr-F.{Lit, StartOf, EndOf, SizeOf, LengthOf, PresenceOf, Neg, Sum, Product, Max, Min, Compare, Not, And, Or, Implies}
use Rattle.sched_model.specs.declared.types.Expr.TheFolds.{fold-roll-Expr, ind-Expr, map-Expr}
use Rattle.sched_model.specs.declared.types.Expr.TheViews.{roll-Expr}
use Rattle.sched_model.specs.Words.{◌implies◌, all_of, placewise, total, greatest, least}
use Rattle.sched_model.specs.Data.{Data}
use Rattle.sched_model.specs.Bounds.{is_small}
use Rattle.sched_model.specs.Domain.{fits_def}
use Rattle.sched_model.specs.Ranges.{Ends}
use Rattle.sched_model.specs.Hull.{truth_of, hull_step, hull_of}
use Rattle.sched_model.specs.Value.{size_or, truth, is_true, compared, value_step, value_of}
use Rattle.sched_model.specs.code.Saturated.{saturated_step, saturated_size, saturated_value, saturated_product}
use Rattle.sched_model.specs.laws.Held.{held_small, all_of_first, truth_some, composed, value_held}
use Rattle.sched_model.specs.laws.Small.{small_kept}
use Rattle.sched_model.specs.laws.Products.{product_same}

zero_less : (z : ℤ) → pos 0 -ℤ z ≡ neg_ℤ z
zero_less z = omega (arith, ints)

abbrev Same : Data → Assignment → Expr → Type 0
Same m a e = (r : Ends) → hull_of m e ≡ Some r → saturated_value a e ≡ value_of a e

abbrev Part : Data → Assignment → Type 0
Part m a = (e : Expr) × Same m a e

each_same : (m : Data) (a : Assignment) (ps : List (Part m a)) (rs : List Ends) → all_of (map (λ p. hull_of m p.0) ps) ≡ Some rs → map (λ p. saturated_value a p.0) ps ≡ map (λ p. value_of a p.0) ps
each_same m a [] rs h = refl
each_same m a (p ∷ ps) rs h =
    let w = all_of_first (hull_of m p.0) (map (λ q. hull_of m q.0) ps) rs h in
    ap (λ z. z ∷ map (λ q. saturated_value a q.0) ps) (p.1 w.0 w.2) ∙ ap (λ zs. value_of a p.0 ∷ zs) (each_same m a ps w.1 w.3)

-- what is said of one value, and of two
abbrev of_one_value : (ℤ → Bool) → List ℤ → Bool
of_one_value g (x ∷ []) = g x
of_one_value g zs = false

abbrev of_two_values : (ℤ → ℤ → Bool) → List ℤ → Bool
of_two_values g (x ∷ y ∷ []) = g x y
of_two_values g zs = false

-- a truth value over some parts
truth_same : (m : Data) (a : Assignment) (ps : List (Part m a)) (r : Ends) (g : List ℤ → Bool) → truth_of (map (λ p. hull_of m p.0) ps) ≡ Some r
    → truth (g (map (λ p. saturated_value a p.0) ps)) ≡ truth (g (map (λ p. value_of a p.0) ps))
truth_same m a ps r g h = let w = truth_some (map (λ p. hull_of m p.0) ps) r h in ap (λ zs. truth (g zs)) (each_same m a ps w.0 w.1)

size_kept : (s : Slot) (d : ℤ) → is_small (size_or d s) ≡ true → saturated_size d s ≡ size_or d s
size_kept Absent d h = refl
size_kept (Present s e) d h = small_kept (e -ℤ s) h

level : (m : Data) (a : Assignment) (y : Expr-F (Part m a)) (r : Ends) → hull_step m (map-Expr (Part m a) (Option Ends) (λ p. hull_of m p.0) y) ≡ Some r
    → is_small (value_step a (map-Expr (Part m a) ℤ (λ p. value_of a p.0) y)) ≡ true
    → saturated_step a (map-Expr (Part m a) ℤ (λ p. saturated_value a p.0) y) ≡ value_step a (map-Expr (Part m a) ℤ (λ p. value_of a p.0) y)
level m a (Lit n) r h small = refl
level m a (StartOf x d) r h small = refl
level m a (EndOf x d) r h small = refl
level m a (SizeOf x d) r h small = size_kept (get_or a.slots x.0 Absent) d small
level m a (LengthOf x d) r h small = size_kept (get_or a.slots x.0 Absent) d small
level m a (PresenceOf x) r h small = refl
level m a (Neg p) r h small = option_and_then_some _ (hull_of m p.0) r h (λ x is limit.
    ap (λ z. saturate_signed w64 (pos 0 -ℤ z)) (p.1 x is) ∙ ap (saturate_signed w64) (zero_less (value_of a p.0)) ∙ small_kept _ small)
level m a (Sum ps) r h small = option_and_then_some _ (all_of (map (λ p. hull_of m p.0) ps)) r h (λ rs is limit.
    ap (λ zs. saturate_signed w64 (total zs)) (each_same m a ps rs is) ∙ small_kept _ small)
level m a (Product ps) r h small = option_and_then_some _ (all_of (map (λ p. hull_of m p.0) ps)) r h (λ rs is limit.
    ap (λ zs. saturate_signed w64 (saturated_product zs)) (each_same m a ps rs is) ∙ ap (saturate_signed w64) (product_same (map (λ p. value_of a p.0) ps) small) ∙ small_kept _ small)
level m a (Max ps) r h small = option_and_then_some _ (all_of (map (λ p. hull_of m p.0) ps)) r h (λ rs is limit. ap greatest (each_same m a ps rs is))
level m a (Min ps) r h small = option_and_then_some _ (all_of (map (λ p. hull_of m p.0) ps)) r h (λ rs is limit. ap least (each_same m a ps rs is))
level m a (Compare op p q) r h small = truth_same m a (p ∷ q ∷ []) r (of_two_values (compared op)) h
level m a (Not p) r h small = truth_same m a (p ∷ []) r (of_one_value (λ z. not (is_true z))) h
level m a (And ps) r h small = truth_same m a ps r (list_all is_true) h
level m a (Or ps) r h small = truth_same m a ps r (list_any is_true) h
level m a (Implies p q) r h small = truth_same m a (p ∷ q ∷ []) r (of_two_values (λ y z. is_true y implies is_true z)) h

saturated_same : (m : Data) (a : Assignment) → placewise fits_def m.intervals a.slots ≡ true → (e : Expr) → Same m a e
saturated_same m a fits = ind-Expr (Same m a) (λ x y is. subst (λ z. Same m a (roll-Expr z)) is (λ r h.
    let small = held_small r _ (value_held m a fits (roll-Expr (map-Expr (Part m a) Expr (λ p. p.0) y)) r h) in
    rw (fold-roll-Expr ℤ (value_step a), fold-roll-Expr ℤ (saturated_step a), composed (Same m a) ℤ (value_of a) y, composed (Same m a) ℤ (saturated_value a) y)
    (level m a y r (rw (fold-roll-Expr (Option Ends) (hull_step m), composed (Same m a) (Option Ends) (hull_of m) y) at h) (rw (fold-roll-Expr ℤ (value_step a), composed (Same m a) ℤ (value_of a) y) at small))))

there_same : (o : Option Ends) (y z : ℤ) → ((r : Ends) → o ≡ Some r → y ≡ z) → is_some o ≡ true → y ≡ z
there_same None y z each is = cc
there_same (Some r) y z each is = each r refl

-- where the slots fit and there is a hull, arithmetic that saturates gives the value
pub value_by_saturation : (m : Data) (a : Assignment) (e : Expr) → placewise fits_def m.intervals a.slots ≡ true → is_some (hull_of m e) ≡ true → saturated_value a e ≡ value_of a e
value_by_saturation m a e fits is = there_same (hull_of m e) (saturated_value a e) (value_of a e) (saturated_same m a fits e) is
