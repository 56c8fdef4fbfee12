-- Of segments that stand apart, the first that ends after the start of an interval is the only one that it can lie in, and no
-- later one shares a moment with the interval where this doesn't.
use Rattle.std.proofs.Common.{◌≡◌, ℕ, zero, suc, ◌<◌, ℤ, pos, ◌+ℤ◌, ◌≤ℤ◌, Bool, true, false, not, ◌&&◌, ◌||◌, cond, List, [], ◌∷◌, Option, Some, None, length, get_or, refl, sym, ap, ◌∙◌, arith}
use Rattle.std.specs.Prelude.{int_le, int_lt, nat_abs, slice_get}
use Rattle.std.specs.Int.{int_max, int_min}
use Rattle.std.specs.List.{list_all, list_any}
use Rattle.std.specs.List.Sorted.{IsPartitionPoint, IsPartitionedBy}
use Rattle.std.proofs.lemmas.Bool.{and_parts, and_from}
use Rattle.std.proofs.lemmas.Int.{ints}
use Rattle.base_laws.specs.laws.Items.{all_weaker, all_at}
use Rattle.sched_base.specs.declared.ids.Itv.{Itv}
use Rattle.sched_base.specs.declared.ids.Stf.{Stf}
use Rattle.sched_base.specs.declared.ids.Mat.{Mat}
use Rattle.sched_model.specs.declared.types.MatrixDef.{MatrixDef}
use Rattle.sched_model.specs.declared.types.StateDef.{StateDef}
use Rattle.sched_model.specs.declared.types.Segment.{Segment}
use Rattle.sched_model.specs.declared.types.Assignment.{Assignment}
use Rattle.sched_model.specs.Words.{passes, pairwise, placewise}
use Rattle.sched_model.specs.Bounds.{is_amount, is_moment}
use Rattle.sched_model.specs.Data.{Data, cell_at, distance, matrix_of}
use Rattle.sched_model.specs.Domain.{are_segments, is_in_domain, is_row, is_segment, keeps_distance}
use Rattle.sched_model.specs.Valid.{IsValid, is_matrix_def}
use Rattle.sched_model.specs.Value.{is_present, start_of, end_of, segments_of}
use Rattle.sched_model.specs.States.{are_apart, demands, first_behind, lies_in, shares_moment}
use Rattle.sched_model.proofs.walks.Lists.{any_not}
use Rattle.sched_model.proofs.rows.Segments.{pairs_kept}

-- where a test fails before the first that ends after a moment, and behind it if it fails there
none_later : (test : Segment → Bool) (s : ℤ) → ((g h : Segment) → int_lt s g.q ≡ true → int_lt g.p g.q ≡ true → int_le g.q h.p ≡ true → test g ≡ false → test h ≡ false)
    → (g : Segment) (hs : List Segment) → int_lt s g.q ≡ true → int_lt g.p g.q ≡ true → list_all (λ h. int_le g.q h.p) hs ≡ true → test g ≡ false → list_any test hs ≡ false
none_later test s late g [] ends filled apart fails = refl
none_later test s late g (h ∷ hs) ends filled apart fails =
    let parts = and_parts (int_le g.q h.p) _ apart in
    ap (λ b. b || list_any test hs) (late g h ends filled parts.0 fails) ∙ none_later test s late g hs ends filled parts.1 fails

rest_of : (g : Segment) (gs : List Segment) → are_apart (g ∷ gs) ≡ true → are_apart gs ≡ true
rest_of g gs apart =
    let halves = and_parts (list_all (λ i. int_lt i.p i.q) (g ∷ gs)) _ apart in
    and_from (list_all (λ i. int_lt i.p i.q) gs) _ (and_parts (int_lt g.p g.q) (list_all (λ i. int_lt i.p i.q) gs) halves.0).1 (and_parts (list_all (λ h. int_le g.q h.p) gs) (pairwise (λ i j. int_le i.q j.p) gs) halves.1).1

first_decides : (test : Segment → Bool) (s : ℤ) → ((g : Segment) → int_lt s g.q ≡ false → test g ≡ false)
    → ((g h : Segment) → int_lt s g.q ≡ true → int_lt g.p g.q ≡ true → int_le g.q h.p ≡ true → test g ≡ false → test h ≡ false)
    → (gs : List Segment) → are_apart gs ≡ true → list_any test gs ≡ passes test (first_behind s gs)
first_decides test s early late [] apart = refl
first_decides test s early late (g ∷ gs) apart = decided (int_lt s g.q) refl (first_decides test s early late gs (rest_of g gs apart))
  where
    there : (b : Bool) → test g ≡ b → int_lt s g.q ≡ true → (b || list_any test gs) ≡ b
    there true is ends = refl
    there false is ends =
        let halves = and_parts (list_all (λ i. int_lt i.p i.q) (g ∷ gs)) _ apart in
        let filled = and_parts (int_lt g.p g.q) (list_all (λ i. int_lt i.p i.q) gs) halves.0 in
        none_later test s late g gs ends filled.0 (and_parts (list_all (λ h. int_le g.q h.p) gs) (pairwise (λ i j. int_le i.q j.p) gs) halves.1).0 is

    decided : (b : Bool) → int_lt s g.q ≡ b → list_any test gs ≡ passes test (first_behind s gs) → (test g || list_any test gs) ≡ passes test (cond b (Some g) (first_behind s gs))
    decided true ends rest = there (test g) refl ends
    decided false ended rest = ap (λ b. b || list_any test gs) (early g ended) ∙ rest

lasts : (a : Assignment) (x : Itv) → demands a x ≡ true → int_lt (start_of a x) (end_of a x) ≡ true
lasts a x h = (and_parts (is_present a x) _ h).1

-- the segment in which an interval lies
outside_ended : (s e p q : ℤ) (same i j : Bool) → int_lt s e ≡ true → int_lt s q ≡ false → (same && int_le p s && int_le e q && i && j) ≡ false
outside_ended s e p q same i j lasts ended = grind (arith, ints)

outside_later : (s e p q q' : ℤ) (same i j : Bool) → int_lt s q' ≡ true → int_le q' p ≡ true → (same && int_le p s && int_le e q && i && j) ≡ false
outside_later s e p q q' same i j ends later = grind (arith, ints)

pub lies_in_first : (a : Assignment) (x : Itv) (v : ℤ) (i j : Bool) (gs : List Segment) → are_apart gs ≡ true → demands a x ≡ true
    → list_any (lies_in a x v i j) gs ≡ passes (lies_in a x v i j) (first_behind (start_of a x) gs)
lies_in_first a x v i j gs apart demanded = first_decides (lies_in a x v i j) (start_of a x)
    (λ g ended. outside_ended (start_of a x) (end_of a x) g.p g.q _ _ _ (lasts a x demanded) ended)
    (λ g h ends filled later fails. outside_later (start_of a x) (end_of a x) h.p h.q g.q _ _ _ ends later)
    gs apart

-- the segment with which an interval shares a moment
shared_none : (s e p q : ℤ) → int_lt s q ≡ false → int_lt (int_max p s) (int_min q e) ≡ false
shared_none s e p q ended = grind (arith, ints)

shared_later : (s e p q p' q' : ℤ) → int_lt s e ≡ true → int_lt s q ≡ true → int_lt p q ≡ true → int_le q p' ≡ true → int_lt (int_max p s) (int_min q e) ≡ false → int_lt (int_max p' s) (int_min q' e) ≡ false
shared_later s e p q p' q' lasts ends filled later fails = grind (arith, ints)

pub free_of_first : (a : Assignment) (x : Itv) (gs : List Segment) → are_apart gs ≡ true → demands a x ≡ true
    → list_all (λ i. not (shares_moment a x i)) gs ≡ not (passes (shares_moment a x) (first_behind (start_of a x) gs))
free_of_first a x gs apart demanded = any_not (shares_moment a x) gs ∙ ap not (first_decides (shares_moment a x) (start_of a x)
    (λ g ended. shared_none (start_of a x) (end_of a x) g.p g.q ended)
    (λ g h ends filled later fails. shared_later (start_of a x) (end_of a x) g.p g.q h.p h.q (lasts a x demanded) ends filled later fails)
    gs apart)

-- the segments that end by a moment come first
pub ended_first : (gs : List Segment) (t : ℤ) → are_apart gs ≡ true → IsPartitionedBy (λ g. int_le g.q t) gs
ended_first [] t apart i j d order within ended = absurd (omega (arith, within))
ended_first (g ∷ gs) t apart zero zero d order within ended = ended
ended_first (g ∷ gs) t apart (suc i) zero d order within ended = absurd (omega (arith, order))
ended_first (g ∷ gs) t apart zero (suc j) d order within ended =
    let halves = and_parts (list_all (λ i. int_lt i.p i.q) (g ∷ gs)) _ apart in
    let filled = each_at (λ i. int_lt i.p i.q) gs j d (and_parts (int_lt g.p g.q) (list_all (λ i. int_lt i.p i.q) gs) halves.0).1 (omega (arith, within)) in
    let later = each_at (λ h. int_le g.q h.p) gs j d (and_parts (list_all (λ h. int_le g.q h.p) gs) (pairwise (λ i j. int_le i.q j.p) gs) halves.1).0 (omega (arith, within)) in
    earlier g.q (get_or gs j d).p (get_or gs j d).q t filled later ended
  where
    each_at : (p : Segment → Bool) (xs : List Segment) (i : ℕ) (d : Segment) → list_all p xs ≡ true → i < length xs → p (get_or xs i d) ≡ true
    each_at p [] i d all within = absurd (omega (arith, within))
    each_at p (x ∷ xs) zero d all within = (and_parts (p x) _ all).0
    each_at p (x ∷ xs) (suc i) d all within = each_at p xs i d (and_parts (p x) _ all).1 (omega (arith, within))

    earlier : (q p' q' t : ℤ) → int_lt p' q' ≡ true → int_le q p' ≡ true → int_le q' t ≡ true → int_le q t ≡ true
    earlier q p' q' t filled later ended = grind (arith, ints)
ended_first (g ∷ gs) t apart (suc i) (suc j) d order within ended = ended_first gs t (rest_of g gs apart) i j d (omega (arith, order)) (omega (arith, within)) ended

-- and the one that stands behind them is the first of the others
pub behind_point : (gs : List Segment) (t : ℤ) (i : ℕ) → IsPartitionPoint (λ g. int_le g.q t ≡ true) (λ g. int_le g.q t ≡ false) gs i → slice_get gs i ≡ first_behind t gs
behind_point [] t i point = refl
behind_point (g ∷ gs) t zero point = ap (λ b. cond b (Some g) (first_behind t gs)) (sym (ends_after g.q t (point.1 zero g (omega arith) (omega arith))))
  where
    ends_after : (q t : ℤ) → int_le q t ≡ false → int_lt t q ≡ true
    ends_after q t h = grind (arith, ints)
behind_point (g ∷ gs) t (suc i) point =
    behind_point gs t i (λ k d low high. point.0 (suc k) d (omega arith) (omega (arith, high)), λ k d low high. point.1 (suc k) d (omega (arith, low)) (omega (arith, high)))
    ∙ ap (λ b. cond b (Some g) (first_behind t gs)) (sym (ended g.q t (point.0 zero g (omega arith) (omega arith))))
  where
    ended : (q t : ℤ) → int_le q t ≡ true → int_lt t q ≡ false
    ended q t h = grind (arith, ints)

-- no distance is negative
cell_positive : (cells : List ℤ) (k : ℕ) → list_all is_amount cells ≡ true → pos 0 ≤ℤ get_or cells k (pos 0)
cell_positive [] k all = omega (arith, ints)
cell_positive (z ∷ zs) zero all = let amount = (and_parts (is_amount z) _ all).0 in positive z amount
  where
    positive : (z : ℤ) → is_amount z ≡ true → pos 0 ≤ℤ z
    positive z h = grind (arith, ints)
cell_positive (z ∷ zs) (suc k) all = cell_positive zs k (and_parts (is_amount z) _ all).1

distance_positive : (m : Data) (o : Option Mat) (i j : ℕ) → IsValid m → pos 0 ≤ℤ distance m o i j
distance_positive m o i j valid = by (matrix_of m o) (λ d is. matrix_valid o d is)
  where
    matrix_valid : (o : Option Mat) (d : MatrixDef) → matrix_of m o ≡ Some d → is_matrix_def d ≡ true
    matrix_valid None d is = cc
    matrix_valid (Some k) d is = all_at is_matrix_def m.matrices k.0 d valid.matrices is

    by : (n : Option MatrixDef) → ((d : MatrixDef) → n ≡ Some d → is_matrix_def d ≡ true) → pos 0 ≤ℤ cell_at i j n
    by None each = omega (arith, ints)
    by (Some d) each = cell_positive d.cells _ (and_parts _ (list_all is_amount d.cells) (each d refl)).1

pub segments_apart : (m : Data) (g : StateDef) (is : List Segment) → IsValid m → are_segments m g is ≡ true → are_apart is ≡ true
segments_apart m g is valid h =
    let parts = and_parts (list_all (is_segment m g) is) (pairwise (keeps_distance m g) is) h in
    and_from _ _ (all_weaker (is_segment m g) (λ i. int_lt i.p i.q) (λ i each. filled i each) is parts.0) (pairs_kept (keeps_distance m g) (λ i j. int_le i.q j.p) (λ i j kept. apart i.q (distance m g.matrix (nat_abs i.v) (nat_abs j.v)) j.p (distance_positive m g.matrix _ _ valid) kept) is parts.1)
  where
    filled : (i : Segment) → is_segment m g i ≡ true → int_lt i.p i.q ≡ true
    filled i h = let a = and_parts _ (is_row (matrix_of m g.matrix) i.v) h in
        let b = and_parts _ (is_amount i.v) a.0 in
        let c = and_parts _ (is_moment i.q) b.0 in
        (and_parts (int_lt i.p i.q) (is_moment i.p) c.0).0

    apart : (q d p : ℤ) → pos 0 ≤ℤ d → int_le (q +ℤ d) p ≡ true → int_le q p ≡ true
    apart q d p h i = grind (arith, ints)

all_apart : (m : Data) (gs : List StateDef) (lists : List (List Segment)) → IsValid m → placewise (are_segments m) gs lists ≡ true → (i : ℕ) → are_apart (get_or lists i []) ≡ true
all_apart m [] [] valid h i = refl
all_apart m (g ∷ gs) (is ∷ lists) valid h zero = segments_apart m g is valid (and_parts (are_segments m g is) _ h).0
all_apart m (g ∷ gs) (is ∷ lists) valid h (suc i) = all_apart m gs lists valid (and_parts (are_segments m g is) _ h).1 i
all_apart m [] (is ∷ lists) valid h i = cc
all_apart m (g ∷ gs) [] valid h i = cc

-- in the domain of a valid model the segments of each state function stand apart
pub apart_in_domain : (m : Data) (a : Assignment) (g : Stf) → IsValid m → is_in_domain m a ≡ true → are_apart (segments_of a g) ≡ true
apart_in_domain m a g valid h = all_apart m m.states a.segs valid (and_parts _ (placewise (are_segments m) m.states a.segs) h).1 g.0
