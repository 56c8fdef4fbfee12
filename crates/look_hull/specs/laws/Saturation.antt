-- Arithmetic that saturates doesn't change the look hull of an expression that has a hull.
use Rattle.std.specs.Prelude.{◌≡◌, ℤ, pos, neg_ℤ, ◌-ℤ◌, true, List, [], ◌∷◌, map, Option, Some, None, is_some}
use Rattle.std.specs.Int.{saturate_signed, w64}
use Rattle.std.proofs.Common.{refl, ap, subst, ◌∙◌, arith}
use Rattle.std.proofs.lemmas.Int.{ints}
use Rattle.std.proofs.lemmas.Option.{option_and_then_some}
use Rattle.sched_model.specs.declared.types.Expr.{Expr}
use Rattle.sched_model.specs.declared.types.Expr.TheOpen.{Expr-F}
use Rattle.sched_model.specs.declared.types.Expr.TheOpen.Expr-F.{Lit, StartOf, EndOf, SizeOf, LengthOf, PresenceOf, Neg, Sum, Product, Max, Min, Compare, Not, And, Or, Implies}
use Rattle.sched_model.specs.declared.types.Expr.TheFolds.{fold-roll-Expr, ind-Expr, map-Expr}
use Rattle.sched_model.specs.declared.types.Expr.TheViews.{roll-Expr}
use Rattle.sched_model.specs.Words.{all_of}
use Rattle.sched_model.specs.Bounds.{is_small}
use Rattle.sched_model.specs.Data.{Data}
use Rattle.sched_model.specs.Valid.{IsValid}
use Rattle.sched_model.specs.Ranges.{Ends, negated, total_range, product_range, greatest_range, least_range}
use Rattle.sched_model.specs.Hull.{truth_of, hull_step, hull_of}
use Rattle.sched_model.specs.laws.Held.{composed, all_of_first, truth_some}
use Rattle.sched_model.specs.laws.Small.{small_kept}
use Rattle.sched_model.specs.laws.Products.{ranges_same}
use Rattle.region.specs.Cells.{Region}
use Rattle.region.specs.Looks.{IsRegionOf}
use Rattle.look_hull.specs.LookHull.{compare_range, not_range, and_range, or_range, implies_range, look_step, look_hull}
use Rattle.look_hull.specs.code.Saturated.{saturated, saturated_negation, saturated_product, saturated_step, saturated_look}
use Rattle.look_hull.specs.laws.Hulls.{Kept, look_kept}

-- 64 bits hold both ends within the limits
pub pair_kept : (r : Ends) → is_small r.0 ≡ true → is_small r.1 ≡ true → saturated r ≡ r
pair_kept r h i = ap (λ z. let e : Ends = (z, saturate_signed w64 r.1) in e) (small_kept r.0 h) ∙ ap (λ z. let e : Ends = (r.0, z) in e) (small_kept r.1 i)

zero_less : (z : ℤ) → pos 0 -ℤ z ≡ neg_ℤ z
zero_less z = omega (arith, ints)

abbrev Same : Data → Region → Expr → Type 0
Same m r e = (h : Ends) → hull_of m e ≡ Some h → saturated_look m r e ≡ look_hull m r e

abbrev Part : Data → Region → Type 0
Part m r = (e : Expr) × Same m r e

each_same : (m : Data) (r : Region) (ps : List (Part m r)) (hs : List Ends) → all_of (map (λ p. hull_of m p.0) ps) ≡ Some hs → map (λ p. saturated_look m r p.0) ps ≡ map (λ p. look_hull m r p.0) ps
each_same m r [] hs h = refl
each_same m r (p ∷ ps) hs h =
    let w = all_of_first (hull_of m p.0) (map (λ q. hull_of m q.0) ps) hs h in
    ap (λ z. z ∷ map (λ q. saturated_look m r q.0) ps) (p.1 w.0 w.2) ∙ ap (λ zs. look_hull m r p.0 ∷ zs) (each_same m r ps w.1 w.3)

truth_same : (m : Data) (r : Region) (ps : List (Part m r)) (h : Ends) (g : List Ends → Ends) → truth_of (map (λ p. hull_of m p.0) ps) ≡ Some h
    → g (map (λ p. saturated_look m r p.0) ps) ≡ g (map (λ p. look_hull m r p.0) ps)
truth_same m r ps h g is = let w = truth_some (map (λ p. hull_of m p.0) ps) h is in ap g (each_same m r ps w.0 w.1)

abbrev of_one : (Ends → Ends) → List Ends → Ends
of_one g (x ∷ []) = g x
of_one g xs = (pos 0, pos 0)

abbrev of_two : (Ends → Ends → Ends) → List Ends → Ends
of_two g (x ∷ y ∷ []) = g x y
of_two g xs = (pos 0, pos 0)

level : (m : Data) (r : Region) (y : Expr-F (Part m r)) (h : Ends) → hull_step m (map-Expr (Part m r) (Option Ends) (λ p. hull_of m p.0) y) ≡ Some h
    → Kept h (look_step m r (map-Expr (Part m r) Ends (λ p. look_hull m r p.0) y))
    → saturated_step m r (map-Expr (Part m r) Ends (λ p. saturated_look m r p.0) y) ≡ look_step m r (map-Expr (Part m r) Ends (λ p. look_hull m r p.0) y)
level m r (Lit n) h is small = refl
level m r (StartOf x d) h is small = refl
level m r (EndOf x d) h is small = refl
level m r (SizeOf x d) h is small = refl
level m r (LengthOf x d) h is small = refl
level m r (PresenceOf x) h is small = refl
level m r (Neg p) h is small = option_and_then_some _ (hull_of m p.0) h is (λ x there limit.
    ap saturated_negation (p.1 x there) ∙ rw (zero_less (look_hull m r p.0).0, zero_less (look_hull m r p.0).1) (pair_kept (negated (look_hull m r p.0)) small.low small.high))
level m r (Sum ps) h is small = option_and_then_some _ (all_of (map (λ p. hull_of m p.0) ps)) h is (λ hs there limit.
    ap (λ rs. saturated (total_range rs)) (each_same m r ps hs there) ∙ pair_kept (total_range (map (λ p. look_hull m r p.0) ps)) small.low small.high)
level m r (Product ps) h is small = option_and_then_some _ (all_of (map (λ p. hull_of m p.0) ps)) h is (λ hs there limit.
    ap (λ rs. saturated (saturated_product rs)) (each_same m r ps hs there) ∙ ap saturated (ranges_same (map (λ p. look_hull m r p.0) ps) small.low small.high)
    ∙ pair_kept (product_range (map (λ p. look_hull m r p.0) ps)) small.low small.high)
level m r (Max ps) h is small = option_and_then_some _ (all_of (map (λ p. hull_of m p.0) ps)) h is (λ hs there limit. ap greatest_range (each_same m r ps hs there))
level m r (Min ps) h is small = option_and_then_some _ (all_of (map (λ p. hull_of m p.0) ps)) h is (λ hs there limit. ap least_range (each_same m r ps hs there))
level m r (Compare op p q) h is small = truth_same m r (p ∷ q ∷ []) h (of_two (compare_range op)) is
level m r (Not p) h is small = truth_same m r (p ∷ []) h (of_one not_range) is
level m r (And ps) h is small = truth_same m r ps h and_range is
level m r (Or ps) h is small = truth_same m r ps h or_range is
level m r (Implies p q) h is small = truth_same m r (p ∷ q ∷ []) h (of_two implies_range) is

saturated_same : (m : Data) (r : Region) → IsValid m → IsRegionOf m r → (e : Expr) → Same m r e
saturated_same m r valid of = ind-Expr (Same m r) (λ x y is. subst (λ z. Same m r (roll-Expr z)) is (λ h there.
    let small = look_kept m r valid of (roll-Expr (map-Expr (Part m r) Expr (λ p. p.0) y)) h there in
    rw (fold-roll-Expr Ends (look_step m r), fold-roll-Expr Ends (saturated_step m r), composed (Same m r) Ends (look_hull m r) y, composed (Same m r) Ends (saturated_look m r) y)
    (level m r y h (rw (fold-roll-Expr (Option Ends) (hull_step m), composed (Same m r) (Option Ends) (hull_of m) y) at there) (rw (fold-roll-Expr Ends (look_step m r), composed (Same m r) Ends (look_hull m r) y) at small))))

there_same : (o : Option Ends) (y z : Ends) → ((h : Ends) → o ≡ Some h → y ≡ z) → is_some o ≡ true → y ≡ z
there_same None y z each is = cc
there_same (Some h) y z each is = each h refl

pub look_by_saturation : (m : Data) (r : Region) (e : Expr) → IsValid m → IsRegionOf m r → is_some (hull_of m e) ≡ true → saturated_look m r e ≡ look_hull m r e
look_by_saturation m r e valid of is = there_same (hull_of m e) (saturated_look m r e) (look_hull m r e) (saturated_same m r valid of e) is
