-- One name more among the names of a model.
use Rattle.std.proofs.Common.{◌≡◌, ℕ, Bool, true, false, not, ◌||◌, List, [], ◌∷◌, ◌++◌, map, filter_map, Option, Some, None, is_some, refl, sym, ap, subst, ◌∙◌}
use Rattle.std.specs.List.{list_all, list_any, cons_option}
use Rattle.std.specs.Str.{bytes_eq}
use Rattle.std.proofs.lemmas.Cmp.{nat_list_eq_equiv}
use Rattle.std.proofs.lemmas.List.{append_assoc, append-nil, map-append}
use Rattle.std.proofs.lemmas.List.Elements.{filter_map-append}
use Rattle.std.proofs.lemmas.Bool.{and_parts, and_from, or_parts, not_from_false}
use Rattle.base_laws.specs.laws.Places.{found}
use Rattle.sched_model.specs.Words.{passes, pairwise}
use Rattle.sched_model.specs.Data.{Data}
use Rattle.sched_model.specs.Valid.{is_name, are_names, all_names}
use Rattle.cpo_elab.specs.declared.names.Sort.TheVariants.{Interval, Matrix, Sequence, Cumulated, State}
use Rattle.cpo_elab.specs.Named.{names_of, number_of, is_defined}

-- ys is xs with n at some place
pub record Inserted {X : Type 0} (n : X) (xs ys : List X) : Type 0 where
  pub before : List X
  pub after : List X
  pub without : xs ≡ before ++ after
  pub with_it : ys ≡ before ++ n ∷ after

pub inserted_last : {X : Type 0} (n : X) (xs : List X) → Inserted n xs (xs ++ n ∷ [])
inserted_last n xs = record { before = xs; after = []; without = sym (append-nil xs); with_it = refl }

pub inserted_left : {X : Type 0} (n : X) (xs ys zs : List X) → Inserted n xs ys → Inserted n (xs ++ zs) (ys ++ zs)
inserted_left n xs ys zs i = record {
  before = i.before;
  after = i.after ++ zs;
  without = ap (λ l. l ++ zs) i.without ∙ append_assoc i.before i.after zs;
  with_it = ap (λ l. l ++ zs) i.with_it ∙ append_assoc i.before (n ∷ i.after) zs;
}

pub inserted_right : {X : Type 0} (n : X) (xs ys zs : List X) → Inserted n xs ys → Inserted n (zs ++ xs) (zs ++ ys)
inserted_right n xs ys zs i = record {
  before = zs ++ i.before;
  after = i.after;
  without = ap (λ l. zs ++ l) i.without ∙ sym (append_assoc zs i.before i.after);
  with_it = ap (λ l. zs ++ l) i.with_it ∙ sym (append_assoc zs i.before (n ∷ i.after));
}

all_insert : {X : Type 0} (p : X → Bool) (xs ys : List X) (n : X) → list_all p (xs ++ ys) ≡ true → p n ≡ true → list_all p (xs ++ n ∷ ys) ≡ true
all_insert p [] ys n all one = and_from (p n) _ one all
all_insert p (x ∷ xs) ys n all one = let parts = and_parts (p x) _ all in and_from (p x) _ parts.0 (all_insert p xs ys n parts.1 one)

absent_before : (n : List ℕ) (ns : List (List ℕ)) → list_any (bytes_eq n) ns ≡ false → list_all (λ m. not (bytes_eq n m)) ns ≡ true
absent_before n [] absent = refl
absent_before n (m ∷ ms) absent = let parts = or_parts (bytes_eq n m) _ absent in and_from _ _ (not_from_false _ parts.0) (absent_before n ms parts.1)

distinct_insert : (xs ys : List (List ℕ)) (n : List ℕ) → pairwise (λ x y. not (bytes_eq x y)) (xs ++ ys) ≡ true → list_any (bytes_eq n) (xs ++ ys) ≡ false → pairwise (λ x y. not (bytes_eq x y)) (xs ++ n ∷ ys) ≡ true
distinct_insert [] ys n distinct absent = and_from _ _ (absent_before n ys absent) distinct
distinct_insert (x ∷ xs) ys n distinct absent =
    let parts = and_parts (list_all (λ y. not (bytes_eq x y)) (xs ++ ys)) _ distinct in
    let names = or_parts (bytes_eq n x) _ absent in
    and_from _ _ (all_insert (λ y. not (bytes_eq x y)) xs ys n parts.0 (not_from_false _ (nat_list_eq_equiv.symm x n ∙ names.0))) (distinct_insert xs ys n parts.1 names.1)

-- names stay names with one that is none of them
pub names_inserted : (n : List ℕ) (xs ys : List (List ℕ)) → Inserted n xs ys → are_names xs ≡ true → is_name n ≡ true → list_any (bytes_eq n) xs ≡ false → are_names ys ≡ true
names_inserted n xs ys i names name absent =
    let parts = and_parts (list_all is_name xs) _ names in
    let all = subst (λ l. list_all is_name l ≡ true) i.without parts.0 in
    let distinct = subst (λ l. pairwise (λ x y. not (bytes_eq x y)) l ≡ true) i.without parts.1 in
    let none = subst (λ l. list_any (bytes_eq n) l ≡ false) i.without absent in
    subst (λ l. are_names l ≡ true) (sym i.with_it) (and_from _ _ (all_insert is_name i.before i.after n all name) (distinct_insert i.before i.after n distinct none))

-- a name that a model doesn't define

none_append : {X : Type 0} (p : X → Bool) (xs ys : List X) → list_any p xs ≡ false → list_any p ys ≡ false → list_any p (xs ++ ys) ≡ false
none_append p [] ys one other = other
none_append p (x ∷ xs) ys one other = let parts = or_parts (p x) _ one in (λ i. parts.0 i || list_any p (xs ++ ys)) ∙ none_append p xs ys parts.1 other

none_of_all : {X : Type 0} (n : List ℕ) (name : X → List ℕ) (ds : List X) → list_any (passes (bytes_eq n)) (map (λ d. Some (name d)) ds) ≡ false → list_any (bytes_eq n) (map name ds) ≡ false
none_of_all n name [] none = refl
none_of_all n name (d ∷ ds) none = let parts = or_parts (bytes_eq n (name d)) _ none in (λ i. parts.0 i || list_any (bytes_eq n) (map name ds)) ∙ none_of_all n name ds parts.1

none_so_far : (n : List ℕ) (o : Option (List ℕ)) (ns : List (List ℕ)) → passes (bytes_eq n) o ≡ false → list_any (bytes_eq n) ns ≡ false → list_any (bytes_eq n) (cons_option o ns) ≡ false
none_so_far n None ns first rest = rest
none_so_far n (Some m) ns first rest = (λ i. first i || list_any (bytes_eq n) ns) ∙ rest

none_of_named : {X : Type 0} (n : List ℕ) (name : X → Option (List ℕ)) (ds : List X) → list_any (passes (bytes_eq n)) (map name ds) ≡ false → list_any (bytes_eq n) (filter_map name ds) ≡ false
none_of_named n name [] none = refl
none_of_named n name (d ∷ ds) none = let parts = or_parts (passes (bytes_eq n) (name d)) _ none in none_so_far n (name d) (filter_map name ds) parts.0 (none_of_named n name ds parts.1)

five_false : (p q r s t : Bool) → (p || (q || (r || (s || (t || false))))) ≡ false → (p ≡ false) × (q ≡ false) × (r ≡ false) × (s ≡ false) × (t ≡ false)
five_false p q r s t h =
    let a = or_parts p _ h in
    let b = or_parts q _ a.1 in
    let c = or_parts r _ b.1 in
    let d = or_parts s _ c.1 in
    (a.0, b.0, c.0, d.0, (or_parts t false d.1).0)

pub absent_name : (m : Data) (n : List ℕ) → is_defined m n ≡ false → list_any (bytes_eq n) (all_names m) ≡ false
unfolding number_of is_defined
absent_name m n fresh =
    let none = five_false (is_some (number_of m Interval n)) (is_some (number_of m Matrix n)) (is_some (number_of m Sequence n)) (is_some (number_of m Cumulated n)) (is_some (number_of m State n)) fresh in
    let p = passes (bytes_eq n) in
    let is = none_of_all n (λ d. d.name) m.intervals (sym (found p (names_of m Interval)) ∙ none.0) in
    let ms = none_of_all n (λ d. d.name) m.matrices (sym (found p (names_of m Matrix)) ∙ none.1) in
    let ss = none_of_named n (λ d. d.name) m.sequences (sym (found p (names_of m Sequence)) ∙ none.2) in
    let cs = none_of_named n (λ d. d.name) m.cumuls (sym (found p (names_of m Cumulated)) ∙ none.3) in
    let gs = none_of_all n (λ d. d.name) m.states (sym (found p (names_of m State)) ∙ none.4) in
    none_append (bytes_eq n) _ _ (none_append (bytes_eq n) _ _ (none_append (bytes_eq n) _ _ (none_append (bytes_eq n) _ _ is ms) ss) cs) gs

-- the names with one thing more

pub map_inserted : {X : Type 0} (name : X → List ℕ) (ds : List X) (d : X) → Inserted (name d) (map name ds) (map name (ds ++ d ∷ []))
map_inserted name ds d = subst (Inserted (name d) (map name ds)) (sym (map-append name ds (d ∷ []))) (inserted_last (name d) (map name ds))

pub named_inserted : {X : Type 0} (name : X → Option (List ℕ)) (ds : List X) (d : X) (n : List ℕ) → name d ≡ Some n → Inserted n (filter_map name ds) (filter_map name (ds ++ d ∷ []))
named_inserted name ds d n is =
    subst (Inserted n (filter_map name ds)) (sym (filter_map-append name ds (d ∷ []) ∙ ap (λ o. filter_map name ds ++ cons_option o []) is)) (inserted_last n (filter_map name ds))

pub unnamed_same : {X : Type 0} (name : X → Option (List ℕ)) (ds : List X) (d : X) → name d ≡ None → filter_map name (ds ++ d ∷ []) ≡ filter_map name ds
unnamed_same name ds d is = filter_map-append name ds (d ∷ []) ∙ ap (λ o. filter_map name ds ++ cons_option o []) is ∙ append-nil (filter_map name ds)
