-- The distance of each segment from each later one, tested state by state.
use Rattle.std.proofs.Common.{◌≡◌, ℕ, ◌+◌, ◌<◌, ◌≤◌, ℤ, pos, ◌+ℤ◌, Bool, true, false, ◌&&◌, List, [], ◌∷◌, Option, Some, None, length, drop, get_or, refl, sym, ap, subst, ◌∙◌, arith, nat_lt}
use Rattle.std.proofs.lemmas.Bool.Decides.{nat_tests}
use Rattle.std.specs.Prelude.{int_le, int_lt, nat_eq, nat_abs}
use Rattle.std.specs.Int.{int_max}
use Rattle.std.specs.List.{list_all}
use Rattle.std.proofs.lemmas.Bool.{and_parts, and_from}
use Rattle.std.proofs.lemmas.Int.{ints}
use Rattle.sched_model.specs.declared.types.StateDef.{StateDef}
use Rattle.sched_model.specs.declared.types.Segment.{Segment}
use Rattle.sched_model.specs.declared.types.MatrixDef.{MatrixDef}
use Rattle.sched_model.specs.Bounds.{is_amount}
use Rattle.sched_model.specs.Words.{◌implies◌, is_between, pairwise}
use Rattle.sched_model.specs.Data.{Data, distance, matrix_of, cell_at}
use Rattle.sched_model.specs.Domain.{is_row, is_segment, keeps_distance}
use Rattle.sched_model.specs.code.Sweep.{is_of, keeps_from, begins_after, later_end, end_with}
use Rattle.sched_model.specs.laws.Words.{implied, if_implied}
use Rattle.std.proofs.lemmas.List.{at_drop_more}
use Rattle.base_laws.specs.laws.Items.{all_weaker}

regroup : (p q r s : Bool) → ((p && q) && (r && s)) ≡ (p && ((q && r) && s))
regroup true true r s = refl
regroup true false r s = refl
regroup false q r s = refl

swap : (p q r s : Bool) → ((p && q) && (r && s)) ≡ ((p && r) && (q && s))
swap true true true s = refl
swap true true false s = refl
swap true false true s = refl
swap true false false s = refl
swap false q r s = refl

all_both : {X : Type 0} (p q r : X → Bool) → ((x : X) → r x ≡ (p x && q x)) → (xs : List X) → list_all r xs ≡ (list_all p xs && list_all q xs)
all_both p q r each [] = refl
all_both p q r each (x ∷ xs) = ap (λ b. b && list_all r xs) (each x) ∙ ap (λ b. (p x && q x) && b) (all_both p q r each xs) ∙ swap (p x) (q x) (list_all p xs) (list_all q xs)

int_max_le : (a b d p : ℤ) → int_le (int_max a b +ℤ d) p ≡ (int_le (a +ℤ d) p && int_le (b +ℤ d) p)
int_max_le a b d p = grind (arith, ints)

-- the distance from the state of a segment is that from v
from_state : (m : Data) (g : StateDef) (every : Bool) (v : ℕ) (i j : Segment) → (every ≡ true → matrix_of m g.matrix ≡ None) → is_of every v i ≡ true
    → distance m g.matrix (nat_abs i.v) (nat_abs j.v) ≡ distance m g.matrix v (nat_abs j.v)
from_state m g true v i j none is = let no : matrix_of m g.matrix ≡ None = none refl in
    ap (cell_at (nat_abs i.v) (nat_abs j.v)) no ∙ sym (ap (cell_at v (nat_abs j.v)) no)
from_state m g false v i j none is = let same : nat_abs i.v ≡ v = grind (arith, nat_tests) in ap (λ n. distance m g.matrix n (nat_abs j.v)) same

begins_later : (m : Data) (g : StateDef) (every : Bool) (v : ℕ) (o : Option ℤ) (i j : Segment) → (every ≡ true → matrix_of m g.matrix ≡ None) → is_of every v i ≡ true
    → begins_after m g v (Some (later_end i.q o)) j ≡ (begins_after m g v o j && keeps_distance m g i j)
begins_later m g every v None i j none is = ap (λ d. int_le (i.q +ℤ d) j.p) (sym (from_state m g every v i j none is))
begins_later m g every v (Some r) i j none is =
    int_max_le r i.q (distance m g.matrix v (nat_abs j.v)) j.p
    ∙ ap (λ d. int_le (r +ℤ distance m g.matrix v (nat_abs j.v)) j.p && int_le (i.q +ℤ d) j.p) (sym (from_state m g every v i j none is))

and_true : (p : Bool) → p ≡ (p && true)
and_true true = refl
and_true false = refl

begins_with : (m : Data) (g : StateDef) (every : Bool) (v : ℕ) (o : Option ℤ) (i j : Segment) → (every ≡ true → matrix_of m g.matrix ≡ None)
    → begins_after m g v (end_with every v o i) j ≡ (begins_after m g v o j && keeps_from m g every v i j)
begins_with m g every v o i j none = decided (is_of every v i) refl
  where
    decided : (b : Bool) → is_of every v i ≡ b → begins_after m g v (end_with every v o i) j ≡ (begins_after m g v o j && keeps_from m g every v i j)
    decided true is = rw (is) (begins_later m g every v o i j none is)
    decided false is = rw (is) (and_true (begins_after m g v o j))

-- what is left of the sweep
abbrev pub rest_keeps : Data → StateDef → Bool → ℕ → Option ℤ → List Segment → Bool
rest_keeps m g every v o js = list_all (begins_after m g v o) js && pairwise (keeps_from m g every v) js

rest_cons : (m : Data) (g : StateDef) (every : Bool) (v : ℕ) (o : Option ℤ) (i : Segment) (js : List Segment) → (every ≡ true → matrix_of m g.matrix ≡ None)
    → rest_keeps m g every v o (i ∷ js) ≡ (begins_after m g v o i && rest_keeps m g every v (end_with every v o i) js)
rest_cons m g every v o i js none =
    regroup (begins_after m g v o i) (list_all (begins_after m g v o) js) (list_all (keeps_from m g every v i) js) (pairwise (keeps_from m g every v) js)
    ∙ ap (λ b. begins_after m g v o i && (b && pairwise (keeps_from m g every v) js))
    (sym (all_both (begins_after m g v o) (keeps_from m g every v i) (begins_after m g v (end_with every v o i)) (λ j. begins_with m g every v o i j none) js))

pub rest_turn : (m : Data) (g : StateDef) (every : Bool) (v : ℕ) (o o' : Option ℤ) (is : List Segment) (k : ℕ) (d : Segment) (whole : Bool) → (every ≡ true → matrix_of m g.matrix ≡ None)
    → rest_keeps m g every v o (drop k is) ≡ whole → k < length is → true ≡ begins_after m g v o (get_or is k d) → o' ≡ end_with every v o (get_or is k d)
    → rest_keeps m g every v o' (drop (k + 1) is) ≡ whole
rest_turn m g every v o o' is k d whole none before within begins next =
    ap (λ p. rest_keeps m g every v p (drop (k + 1) is)) next
    ∙ ap (λ b. b && rest_keeps m g every v (end_with every v o (get_or is k d)) (drop (k + 1) is)) begins
    ∙ sym (rest_cons m g every v o (get_or is k d) (drop (k + 1) is) none)
    ∙ sym (at_drop_more (rest_keeps m g every v o) is k d within)
    ∙ before

pub rest_none : (m : Data) (g : StateDef) (every : Bool) (v : ℕ) (is : List Segment) → rest_keeps m g every v None is ≡ pairwise (keeps_from m g every v) is
rest_none m g every v is = ap (λ b. b && pairwise (keeps_from m g every v) is) (each is)
  where
    each : (js : List Segment) → list_all (begins_after m g v None) js ≡ true
    each [] = refl
    each (j ∷ js) = each js

pairs_implied : {X : Type 0} (p q r : X → X → Bool) → ((x y : X) → p x y ≡ true → q x y ≡ true → r x y ≡ true) → (xs : List X) → pairwise p xs ≡ true → pairwise q xs ≡ true → pairwise r xs ≡ true
pairs_implied p q r each [] h i = refl
pairs_implied p q r each (x ∷ xs) h i =
    let first = and_parts (list_all (p x) xs) (pairwise p xs) h in
    let second = and_parts (list_all (q x) xs) (pairwise q xs) i in
    and_from (list_all (r x) xs) (pairwise r xs)
    (all_weaker (λ y. p x y && q x y) (r x) (λ y b. let b = and_parts (p x y) (q x y) b in each x y b.0 b.1) xs (all_both (p x) (q x) (λ y. p x y && q x y) (λ y. refl) xs ∙ and_from _ _ first.0 second.0))
    (pairs_implied p q r each xs first.1 second.1)

-- the states below v
abbrev pub keeps_below : Data → StateDef → ℕ → Segment → Segment → Bool
keeps_below m g v i j = nat_lt (nat_abs i.v) v implies keeps_distance m g i j

pub below_none : (m : Data) (g : StateDef) (is : List Segment) → pairwise (keeps_below m g 0) is ≡ true
below_none m g [] = refl
below_none m g (i ∷ is) = and_from _ _ (each is) (below_none m g is)
  where
    each : (js : List Segment) → list_all (keeps_below m g 0 i) js ≡ true
    each [] = refl
    each (j ∷ js) = and_from _ _ (if_implied (nat_lt (nat_abs i.v) 0) _ (λ h. grind (arith, nat_tests))) (each js)

pub below_more_state : (m : Data) (g : StateDef) (is : List Segment) (v w : ℕ) → pairwise (keeps_below m g v) is ≡ true → w ≡ v → true ≡ pairwise (keeps_from m g false w) is → pairwise (keeps_below m g (v + 1)) is ≡ true
below_more_state m g is v w h same from = let i : pairwise (keeps_from m g false v) is ≡ true = ap (λ n. pairwise (keeps_from m g false n) is) (sym same) ∙ sym from in
    pairs_implied (keeps_below m g v) (keeps_from m g false v) (keeps_below m g (v + 1)) (λ i j below at. decided i j (nat_eq (nat_abs i.v) v) refl below at) is h i
  where
    decided : (i j : Segment) (b : Bool) → nat_eq (nat_abs i.v) v ≡ b → keeps_below m g v i j ≡ true → keeps_from m g false v i j ≡ true → keeps_below m g (v + 1) i j ≡ true
    decided i j true same below at = if_implied _ _ (λ h. implied (nat_eq (nat_abs i.v) v) _ at same)
    decided i j false other below at = if_implied _ _ (λ h. implied (nat_lt (nat_abs i.v) v) _ below (smaller (nat_abs i.v) v h other))
      where
        smaller : (n v : ℕ) → nat_lt n (v + 1) ≡ true → nat_eq n v ≡ false → nat_lt n v ≡ true
        smaller n v h e = grind (arith, nat_tests)

pub pairs_kept : {X : Type 0} (p q : X → X → Bool) → ((x y : X) → p x y ≡ true → q x y ≡ true) → (xs : List X) → pairwise p xs ≡ true → pairwise q xs ≡ true
pairs_kept p q each xs h = pairs_implied p p q (λ x y a b. each x y a) xs h h

weaker : (every : Bool) (b : Bool) → b ≡ true → (every implies b) ≡ true
weaker true b h = h
weaker false b h = refl

-- a pair of the state v that fails is a pair that fails
pub state_fails : (m : Data) (g : StateDef) (every : Bool) (v : ℕ) (is : List Segment) → false ≡ pairwise (keeps_from m g every v) is → false ≡ pairwise (keeps_distance m g) is
state_fails m g every v is fails = decided (pairwise (keeps_distance m g) is) refl
  where
    decided : (b : Bool) → pairwise (keeps_distance m g) is ≡ b → false ≡ pairwise (keeps_distance m g) is
    decided false e = sym e
    decided true e = let kept : pairwise (keeps_from m g every v) is ≡ true = pairs_kept (keeps_distance m g) (keeps_from m g every v) (λ i j h. weaker (is_of every v i) (keeps_distance m g i j) h) is e in cc

-- where each state is below n, the states below n are all
below_all : (m : Data) (g : StateDef) (n : ℕ) (is : List Segment) → list_all (λ i. nat_lt (nat_abs i.v) n) is ≡ true → pairwise (keeps_below m g n) is ≡ true → pairwise (keeps_distance m g) is ≡ true
below_all m g n [] each h = refl
below_all m g n (i ∷ is) each h =
    let first = and_parts (nat_lt (nat_abs i.v) n) _ each in
    let pairs = and_parts (list_all (keeps_below m g n i) is) _ h in
    and_from _ _ (all_weaker (keeps_below m g n i) (keeps_distance m g i) (λ j k. implied (nat_lt (nat_abs i.v) n) (keeps_distance m g i j) k first.0) is pairs.0) (below_all m g n is first.1 pairs.1)

pub states_keep : (m : Data) (g : StateDef) (n v : ℕ) (is : List Segment) → list_all (λ i. nat_lt (nat_abs i.v) n) is ≡ true → n ≤ v → v ≤ n → pairwise (keeps_below m g v) is ≡ true → true ≡ pairwise (keeps_distance m g) is
states_keep m g n v is each from to h = let same : v ≡ n = omega arith in sym (below_all m g n is each (subst (λ k. pairwise (keeps_below m g k) is ≡ true) same h))

-- states of segments are rows of the matrix
row_below : (m : Data) (g : StateDef) (i : Segment) (d : MatrixDef) → is_segment m g i ≡ true → Some d ≡ matrix_of m g.matrix → nat_lt (nat_abs i.v) d.size ≡ true
row_below m g i d h there =
    let parts = and_parts _ (is_row (matrix_of m g.matrix) i.v) h in
    let amount : is_amount i.v ≡ true = (and_parts _ (is_amount i.v) parts.0).1 in
    let row : int_lt i.v (pos d.size) ≡ true = subst (λ o. is_row o i.v ≡ true) (sym there) parts.1 in
    below i.v d.size amount row
  where
    below : (v : ℤ) (n : ℕ) → is_between (pos 0) (pos 1000000) v ≡ true → int_lt v (pos n) ≡ true → nat_lt (nat_abs v) n ≡ true
    below v n h i = grind (arith, ints, nat_tests)

pub rows_below : (m : Data) (g : StateDef) (is : List Segment) (d : MatrixDef) → list_all (is_segment m g) is ≡ true → Some d ≡ matrix_of m g.matrix → list_all (λ i. nat_lt (nat_abs i.v) d.size) is ≡ true
rows_below m g is d h there = all_weaker (is_segment m g) (λ i. nat_lt (nat_abs i.v) d.size) (λ i each. row_below m g i d each there) is h
