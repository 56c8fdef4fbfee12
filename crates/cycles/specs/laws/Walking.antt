-- Where each arc loses no height, no walk gains any.
use Rattle.std.specs.Prelude.{◌≡◌, ℕ, ◌<◌, ℤ, ◌+ℤ◌, ◌≤ℤ◌, Bool, true, false, ◌&&◌, List, [], ◌∷◌, ◌++◌, length, nat_eq, nat_lt}
use Rattle.std.proofs.Common.{refl, ap, ◌∙◌, arith}
use Rattle.std.proofs.lemmas.Int.{ints}
use Rattle.std.proofs.lemmas.Bool.Decides.{nat_tests}
use Rattle.refute_basic.specs.declared.edge.Arc.{Arc}
use Rattle.cycles.specs.code.Walks.{arc_at, picked, leads, total, are_places}
use Rattle.std.proofs.lemmas.Bool.{and_parts}

pub same_nat : (i j : ℕ) → nat_eq i j ≡ true → i ≡ j
same_nat i j h = grind (arith, nat_tests)

-- an arc keeps to heights
abbrev pub Keeps : (ℕ → ℤ) → Arc → Type 0
Keeps h a = (a.weight +ℤ h a.head) ≤ℤ h a.tail

abbrev pub AllKeep : (ℕ → ℤ) → List Arc → Type 0
AllKeep h [] = Unit {0}
AllKeep h (a ∷ bs) = Keeps h a × AllKeep h bs

-- walks grow at their end
pub leads_more : (bs : List Arc) (a : Arc) (from to : ℕ) → leads from bs a.tail ≡ true → a.head ≡ to → leads from (bs ++ a ∷ []) to ≡ true
leads_more [] a from to lead e = at from a.tail a.head to lead e
  where
    at : (f t h to : ℕ) → nat_eq f t ≡ true → h ≡ to → (nat_eq f t && nat_eq h to) ≡ true
    at f t h to i j = grind (arith, nat_tests)
leads_more (b ∷ bs) a from to lead e =
    let two = and_parts (nat_eq from b.tail) (leads b.head bs a.tail) lead in
    true_both _ _ two.0 (leads_more bs a b.head to two.1 e)
  where
    true_both : (p q : Bool) → p ≡ true → q ≡ true → (p && q) ≡ true
    true_both true true i j = refl
    true_both true false i j = cc
    true_both false q i j = cc

pub total_more : (bs : List Arc) (a : Arc) → total (bs ++ a ∷ []) ≡ total bs +ℤ a.weight
total_more [] a = omega (arith, ints)
total_more (b ∷ bs) a = ap (λ z. b.weight +ℤ z) (total_more bs a) ∙ at b.weight (total bs) a.weight
  where
    at : (x y z : ℤ) → x +ℤ (y +ℤ z) ≡ (x +ℤ y) +ℤ z
    at x y z = omega (arith, ints)

pub picked_more : (arcs : List Arc) (is : List ℕ) (i : ℕ) → picked arcs (is ++ i ∷ []) ≡ picked arcs is ++ arc_at arcs i ∷ []
picked_more arcs [] i = refl
picked_more arcs (j ∷ is) i = ap (λ xs. arc_at arcs j ∷ xs) (picked_more arcs is i)

pub places_more : (arcs : List Arc) (is : List ℕ) (i : ℕ) → are_places arcs is ≡ true → i < length arcs → are_places arcs (is ++ i ∷ []) ≡ true
places_more arcs [] i places within = at i (length arcs) within
  where
    at : (i n : ℕ) → i < n → (nat_lt i n && true) ≡ true
    at i n h = grind (arith, nat_tests)
places_more arcs (j ∷ is) i places within =
    let two = and_parts (nat_lt j (length arcs)) (are_places arcs is) places in
    both (nat_lt j (length arcs)) _ two.0 (places_more arcs is i two.1 within)
  where
    both : (p q : Bool) → p ≡ true → q ≡ true → (p && q) ≡ true
    both true true i j = refl
    both true false i j = cc
    both false q i j = cc
