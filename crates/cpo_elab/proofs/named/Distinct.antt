-- Intervals of which none stands twice.
use Rattle.std.proofs.Common.{◌≡◌, ℕ, ◌+◌, ◌<◌, Bool, true, false, not, ◌&&◌, ◌||◌, if◌then◌else◌, List, [], ◌∷◌, ◌++◌, map, length, drop, get_or, nat_eq, refl, sym, ap, ◌∙◌, arith}
use Rattle.std.specs.List.{list_any, list_all}
use Rattle.std.proofs.lemmas.List.{at_drop_more}
use Rattle.std.proofs.lemmas.Bool.Decides.{nat_tests}
use Rattle.std.proofs.lemmas.Bool.{and_from, or_parts, not_from_false}
use Rattle.sched_base.specs.declared.ids.Itv.{Itv}
use Rattle.sched_model.specs.Data.{Data, same}
use Rattle.cpo_elab.specs.Named.{itv_of, itvs_of}
use Rattle.sched_model.specs.Valid.{are_distinct}
use Rattle.cpo_elab.proofs.adding.Lists.{pairwise_push}

two_by : (b : Bool) → b ≡ not ((not b && true) && (true && true))
two_by true = refl
two_by false = refl

pub of_two : (x y : Itv) → nat_eq x.0 y.0 ≡ not (are_distinct (x ∷ y ∷ []))
of_two x y = two_by (nat_eq x.0 y.0)

abbrev pub itv : ℕ → Itv
itv n = record { 0 = n }

abbrev pub itvs : List ℕ → List Itv
itvs = map itv

abbrev pub differ : Itv → Itv → Bool
differ x y = not (same x y)

and_not : (p q r : Bool) → (p || q) ≡ true → (q ≡ true → r ≡ false) → (not p && r) ≡ false
and_not true q r h later = refl
and_not false q r h later = later h

not_all : (x : Itv) (ys : List Itv) → list_any (same x) ys ≡ true → list_all (differ x) ys ≡ false
not_all x [] h = cc
not_all x (y ∷ ys) h = and_not (same x y) (list_any (same x) ys) (list_all (differ x) ys) h (not_all x ys)

any_behind : {X : Type 0} (p : X → Bool) (xs : List X) (x : X) (ys : List X) → p x ≡ true → list_any p (xs ++ x ∷ ys) ≡ true
any_behind p [] x ys is = ap (λ b. b || list_any p ys) is
any_behind p (z ∷ zs) x ys is = ap (λ b. p z || b) (any_behind p zs x ys is) ∙ or_true (p z) where
  or_true : (b : Bool) → (b || true) ≡ true
  or_true true = refl
  or_true false = refl

equal_itv : (n : ℕ) (x : Itv) → nat_eq x.0 n ≡ true → same (itv n) x ≡ true
equal_itv n x is = grind (arith, nat_tests)

and_false : (a : Bool) → (a && false) ≡ false
and_false true = refl
and_false false = refl

-- an interval that stands in a list already stands in it twice
pub twice : (ks : List ℕ) (x : Itv) (rest : List Itv) → list_any (nat_eq x.0) ks ≡ true → are_distinct (itvs ks ++ x ∷ rest) ≡ false
twice [] x rest h = cc
twice (k ∷ ks) x rest h = by (nat_eq x.0 k) refl h (twice ks x rest) where
  by : (b : Bool) → nat_eq x.0 k ≡ b → (b || list_any (nat_eq x.0) ks) ≡ true → (list_any (nat_eq x.0) ks ≡ true → are_distinct (itvs ks ++ x ∷ rest) ≡ false)
      → (list_all (differ (itv k)) (itvs ks ++ x ∷ rest) && are_distinct (itvs ks ++ x ∷ rest)) ≡ false
  by true is h later = ap (λ b. b && are_distinct (itvs ks ++ x ∷ rest)) (not_all (itv k) (itvs ks ++ x ∷ rest) (any_behind (same (itv k)) (itvs ks) x rest (equal_itv k x is)))
  by false is h later = ap (λ b. list_all (differ (itv k)) (itvs ks ++ x ∷ rest) && b) (later h) ∙ and_false _

differ_itv : (k : ℕ) (x : Itv) → nat_eq x.0 k ≡ false → differ (itv k) x ≡ true
differ_itv k x is = not_from_false (same (itv k) x) (turn k x is) where
  turn : (k : ℕ) (x : Itv) → nat_eq x.0 k ≡ false → same (itv k) x ≡ false
  turn k x is = grind (arith, nat_tests)

none_same : (ks : List ℕ) (x : Itv) → list_any (nat_eq x.0) ks ≡ false → list_all (λ y. differ y x) (itvs ks) ≡ true
none_same [] x h = refl
none_same (k ∷ ks) x h = let parts = or_parts (nat_eq x.0 k) (list_any (nat_eq x.0) ks) h in and_from _ _ (differ_itv k x parts.0) (none_same ks x parts.1)

map_push : (ks : List ℕ) (x : Itv) → itvs (ks ++ x.0 ∷ []) ≡ itvs ks ++ x ∷ []
map_push [] x = refl
map_push (k ∷ ks) x = ap (λ xs. itv k ∷ xs) (map_push ks x)

pub distinct_more : (ks : List ℕ) (x : Itv) → are_distinct (itvs ks) ≡ true → list_any (nat_eq x.0) ks ≡ false → are_distinct (itvs (ks ++ x.0 ∷ [])) ≡ true
distinct_more ks x before absent = ap are_distinct (map_push ks x) ∙ pairwise_push differ (itvs ks) x before (none_same ks x absent)

pub moved : (ks : List ℕ) (x : Itv) (rest : List Itv) → itvs (ks ++ x.0 ∷ []) ++ rest ≡ itvs ks ++ x ∷ rest
moved [] x rest = refl
moved (k ∷ ks) x rest = ap (λ xs. itv k ∷ xs) (moved ks x rest)

next : (m : Data) (names : List (List ℕ)) (i : ℕ) (n : List ℕ) (x : Itv) (ks : List ℕ) → i < length names → n ≡ get_or names i n → x ≡ itv_of m n
    → itvs ks ++ itvs_of m (drop i names) ≡ itvs_of m names → itvs_of m names ≡ itvs ks ++ x ∷ itvs_of m (drop (i + 1) names)
next m names i n x ks within at_i is same =
    sym same ∙ at_drop_more (λ ys. itvs ks ++ itvs_of m ys) names i n within
    ∙ ap (λ y. itvs ks ++ itv_of m y ∷ itvs_of m (drop (i + 1) names)) (sym at_i)
    ∙ ap (λ y. itvs ks ++ y ∷ itvs_of m (drop (i + 1) names)) (sym is)

pub twice_in : (m : Data) (names : List (List ℕ)) (i : ℕ) (n : List ℕ) (x : Itv) (ks : List ℕ) → i < length names → n ≡ get_or names i n → x ≡ itv_of m n
    → itvs ks ++ itvs_of m (drop i names) ≡ itvs_of m names → list_any (nat_eq x.0) ks ≡ true → true ≡ not (are_distinct (itvs_of m names))
twice_in m names i n x ks within at_i is same there =
    sym (ap (λ ys. not (are_distinct ys)) (next m names i n x ks within at_i is same) ∙ ap not (twice ks x (itvs_of m (drop (i + 1) names)) there))

pub more_in : (m : Data) (names : List (List ℕ)) (i : ℕ) (n : List ℕ) (x : Itv) (ks new : List ℕ) → i < length names → n ≡ get_or names i n → x ≡ itv_of m n
    → itvs ks ++ itvs_of m (drop i names) ≡ itvs_of m names → new ≡ ks ++ x.0 ∷ [] → itvs new ++ itvs_of m (drop (i + 1) names) ≡ itvs_of m names
more_in m names i n x ks new within at_i is same pushed =
    ap (λ ys. itvs ys ++ itvs_of m (drop (i + 1) names)) pushed ∙ moved ks x (itvs_of m (drop (i + 1) names)) ∙ sym (next m names i n x ks within at_i is same)

pub not_there : (f b : Bool) → f ≡ not b → not f ≡ false → b ≡ false
not_there true true is h = cc
not_there true false is h = refl
not_there false b is h = cc

pub pushed_key : (b : Bool) (ks new : List ℕ) (k : ℕ) → b ≡ false → new ≡ (if b then ks else ks ++ k ∷ []) → new ≡ ks ++ k ∷ []
pushed_key true ks new k is h = cc
pushed_key false ks new k is h = h
