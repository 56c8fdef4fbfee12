-- A look hull lies in the hull that the expression has before any search.
use Rattle.std.specs.Prelude.{◌≡◌, ◌^◌, ℤ, pos, neg_ℤ, ◌≤ℤ◌, Bool, true, List, [], ◌∷◌, map, Option, Some, None, option_map}
use Rattle.std.specs.List.{list_all}
use Rattle.std.proofs.Common.{subst, arith}
use Rattle.std.proofs.lemmas.Int.{ints}
use Rattle.std.proofs.lemmas.Option.{cond_some, option_and_then_some}
use Rattle.sched_model.specs.declared.types.Expr.{Expr}
use Rattle.sched_model.specs.declared.types.Expr.TheOpen.{Expr-F}
use Rattle.sched_model.specs.declared.types.Expr.TheOpen.Expr-F.{Lit, StartOf, EndOf, SizeOf, LengthOf, PresenceOf, Neg, Sum, Product, Max, Min, Compare, Not, And, Or, Implies}
use Rattle.sched_model.specs.declared.types.Expr.TheFolds.{fold-roll-Expr, ind-Expr, map-Expr}
use Rattle.sched_model.specs.declared.types.Expr.TheViews.{roll-Expr}
use Rattle.sched_model.specs.Words.{all_of, placewise}
use Rattle.sched_model.specs.Bounds.{is_small}
use Rattle.sched_model.specs.Data.{Data}
use Rattle.sched_model.specs.Valid.{is_interval_def, IsValid}
use Rattle.sched_model.specs.Ranges.{Ends}
use Rattle.sched_model.specs.Hull.{limited, start_range, end_range, size_range, presence_range, truth_of, hull_step, hull_of}
use Rattle.sched_model.specs.laws.Held.{composed, all_of_first, small_ends}
use Rattle.region.specs.Cells.{Region}
use Rattle.region.specs.Looks.{IsRegionOf, is_narrowed}
use Rattle.sched_model.specs.declared.types.CompareOp.{CompareOp}
use Rattle.sched_model.specs.declared.types.CompareOp.TheVariants.{Eq, Ne, Le, Ge, Lt, Gt}
use Rattle.look_hull.specs.LookHull.{start_look, end_look, size_look, presence_look, truth_range, compare_range, look_step, look_hull}
use Rattle.look_hull.specs.laws.Sure.{truth_between}
use Rattle.look_hull.specs.laws.Inside.{Inside, AllInside, negated_inside, total_inside, greatest_inside, least_inside, product_inside, point_inside}
use Rattle.look_hull.specs.laws.Cells.{inside_place, stays_start, stays_end, stays_size, stays_here}

-- a range lies in a hull, and both its ends in the limits
pub record Kept (h l : Ends) : Type 0 where
  pub inside : Inside h l
  pub low : is_small l.0 ≡ true
  pub high : is_small l.1 ≡ true

small_between : (lo hi z : ℤ) → lo ≤ℤ z → z ≤ℤ hi → neg_ℤ (pos (2 ^ 62)) ≤ℤ lo → hi ≤ℤ pos (2 ^ 62) → is_small z ≡ true
small_between lo hi z h i j k = grind (arith, ints)

kept_by : (h l : Ends) → Inside h l → neg_ℤ (pos (2 ^ 62)) ≤ℤ h.0 → h.1 ≤ℤ pos (2 ^ 62) → Kept h l
kept_by h l i from to = record { inside = i; low = small_between h.0 h.1 l.0 i.low.low i.low.high from to; high = small_between h.0 h.1 l.1 i.high.low i.high.high from to }

moved : (x h l : Ends) → limited x ≡ Some h → Inside x l → Kept h l
unfolding limited
moved x h l limit i = let e = cond_some _ x h limit in let small = small_ends x e.0 in subst (λ y. Kept y l) e.1 (kept_by x l i small.0 small.1)

truth_kept : (os : List (Option Ends)) (h : Ends) (always never : Bool) → truth_of os ≡ Some h → Kept h (truth_range always never)
truth_kept os h always never is = subst (λ y. Kept y (truth_range always never)) (zero_one (all_of os) h is)
    (let w = truth_between always never in kept_by (pos 0, pos 1) (truth_range always never) (record { low = w.0; high = w.1 }) (omega (arith, ints)) (omega (arith, ints)))
  where
    zero_one : (o : Option (List Ends)) (r : Ends) → option_map (λ rs. let e : Ends = (pos 0, pos 1) in e) o ≡ Some r → (pos 0, pos 1) ≡ r
    zero_one None r h = cc
    zero_one (Some x) r h = cc

abbrev Fine : Data → Region → Expr → Type 0
Fine m r e = (h : Ends) → hull_of m e ≡ Some h → Kept h (look_hull m r e)

abbrev Part : Data → Region → Type 0
Part m r = (e : Expr) × Fine m r e

each_inside : (m : Data) (r : Region) (ps : List (Part m r)) (hs : List Ends) → all_of (map (λ p. hull_of m p.0) ps) ≡ Some hs → AllInside hs (map (λ p. look_hull m r p.0) ps)
each_inside m r [] hs h = let e : [] ≡ hs = cc in subst (λ xs. AllInside xs []) e tt
each_inside m r (p ∷ ps) hs h =
    let w = all_of_first (hull_of m p.0) (map (λ q. hull_of m q.0) ps) hs h in
    subst (λ xs. AllInside xs (look_hull m r p.0 ∷ map (λ q. look_hull m r q.0) ps)) w.4 ((p.1 w.0 w.2).inside, each_inside m r ps w.1 w.3)

level : (m : Data) (r : Region) → list_all is_interval_def m.intervals ≡ true → placewise is_narrowed m.intervals r.bounds ≡ true → (y : Expr-F (Part m r)) (h : Ends)
    → hull_step m (map-Expr (Part m r) (Option Ends) (λ p. hull_of m p.0) y) ≡ Some h → Kept h (look_step m r (map-Expr (Part m r) Ends (λ p. look_hull m r p.0) y))
level m r valid narrow (Lit n) h is = moved (n, n) h (n, n) is (point_inside n)
level m r valid narrow (StartOf x d) h is = moved _ h _ is (inside_place start_range start_look stays_start m.intervals r.bounds valid narrow x.0 d)
level m r valid narrow (EndOf x d) h is = moved _ h _ is (inside_place end_range end_look stays_end m.intervals r.bounds valid narrow x.0 d)
level m r valid narrow (SizeOf x d) h is = moved _ h _ is (inside_place size_range size_look stays_size m.intervals r.bounds valid narrow x.0 d)
level m r valid narrow (LengthOf x d) h is = moved _ h _ is (inside_place size_range size_look stays_size m.intervals r.bounds valid narrow x.0 d)
level m r valid narrow (PresenceOf x) h is = moved _ h _ is (inside_place presence_range presence_look stays_here m.intervals r.bounds valid narrow x.0 (pos 0))
level m r valid narrow (Neg p) h is = option_and_then_some _ (hull_of m p.0) h is (λ x there limit. moved _ h _ limit (negated_inside x (look_hull m r p.0) (p.1 x there).inside))
level m r valid narrow (Sum ps) h is = option_and_then_some _ (all_of (map (λ p. hull_of m p.0) ps)) h is (λ hs there limit. moved _ h _ limit (total_inside hs _ (each_inside m r ps hs there)))
level m r valid narrow (Product ps) h is = option_and_then_some _ (all_of (map (λ p. hull_of m p.0) ps)) h is (λ hs there limit. moved _ h _ limit (product_inside hs _ (each_inside m r ps hs there)))
level m r valid narrow (Max ps) h is = option_and_then_some _ (all_of (map (λ p. hull_of m p.0) ps)) h is (λ hs there limit. moved _ h _ limit (greatest_inside hs _ (each_inside m r ps hs there)))
level m r valid narrow (Min ps) h is = option_and_then_some _ (all_of (map (λ p. hull_of m p.0) ps)) h is (λ hs there limit. moved _ h _ limit (least_inside hs _ (each_inside m r ps hs there)))
level m r valid narrow (Compare op p q) h is = compare_kept op (look_hull m r p.0) (look_hull m r q.0)
  where
    compare_kept : (op : CompareOp) (a b : Ends) → Kept h (compare_range op a b)
    compare_kept Eq a b = truth_kept (hull_of m p.0 ∷ hull_of m q.0 ∷ []) h _ _ is
    compare_kept Ne a b = truth_kept (hull_of m p.0 ∷ hull_of m q.0 ∷ []) h _ _ is
    compare_kept Le a b = truth_kept (hull_of m p.0 ∷ hull_of m q.0 ∷ []) h _ _ is
    compare_kept Ge a b = truth_kept (hull_of m p.0 ∷ hull_of m q.0 ∷ []) h _ _ is
    compare_kept Lt a b = truth_kept (hull_of m p.0 ∷ hull_of m q.0 ∷ []) h _ _ is
    compare_kept Gt a b = truth_kept (hull_of m p.0 ∷ hull_of m q.0 ∷ []) h _ _ is
level m r valid narrow (Not p) h is = truth_kept (hull_of m p.0 ∷ []) h _ _ is
level m r valid narrow (And ps) h is = truth_kept (map (λ p. hull_of m p.0) ps) h _ _ is
level m r valid narrow (Or ps) h is = truth_kept (map (λ p. hull_of m p.0) ps) h _ _ is
level m r valid narrow (Implies p q) h is = truth_kept (hull_of m p.0 ∷ hull_of m q.0 ∷ []) h _ _ is

pub look_kept : (m : Data) (r : Region) → IsValid m → IsRegionOf m r → (e : Expr) (h : Ends) → hull_of m e ≡ Some h → Kept h (look_hull m r e)
look_kept m r valid of = ind-Expr (Fine m r) (λ x y is. subst (λ z. Fine m r (roll-Expr z)) is (λ h there.
    rw (fold-roll-Expr Ends (look_step m r), composed (Fine m r) Ends (look_hull m r) y)
    (level m r valid.intervals of.bounds y h (rw (fold-roll-Expr (Option Ends) (hull_step m), composed (Fine m r) (Option Ends) (hull_of m) y) at there))))
