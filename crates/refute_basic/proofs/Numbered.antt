-- The numbers of names one by one, and reading them.
use Rattle.std.specs.Prelude.{◌≡◌, ℕ, zero, suc, ◌+◌, ◌*◌, ◌<◌, ℤ, pos, true, List, [], ◌∷◌, ◌++◌, Some, length, flat_map, slice_get, IsTrue}
use Rattle.std.specs.List.{list_all}
use Rattle.std.proofs.Common.{refl, sym, ap, ◌∙◌, arith, get_or, ◌/◌, ◌%◌, ◌≤◌, ◌-◌, take, drop, length-append}
use Rattle.std.proofs.Math.Nat.{div-add-mod}
use Rattle.std.proofs.lemmas.List.{append-nil, take_rest, take-append-drop, get_or_default}
use Rattle.region.specs.laws.Lists.{both_true, true_both}
use Rattle.refute_basic.specs.declared.arc_name.ArcName.{ArcName}
use Rattle.refute_basic.specs.declared.witness.BasicWitness.{BasicWitness}
use Rattle.refute_basic.specs.declared.witness.BasicWitness.TheVariants.{Size, Arc, Cycle, Expr, Obj, Leaf}
use Rattle.refute_basic.specs.Witness.{name_numbers, numbers_of, is_name}
use Rattle.refute_basic.specs.laws.Names.{four_each, names_told}

abbrev pub no_name : ArcName
no_name = record { kind = 0; x = 0; y = 0; z = 0 }

four_more : (n r : ℕ) → 4 * suc n + r ≡ suc (suc (suc (suc (4 * n + r))))
four_more n r = omega arith

pub number_of_name : (is : List ArcName) (k r : ℕ) → k < length is → r < 4 → slice_get (flat_map name_numbers is) (4 * k + r) ≡ slice_get (name_numbers (get_or is k no_name)) r
number_of_name [] k r within few = absurd (omega (arith, within))
number_of_name (i ∷ is) zero zero within few = refl
number_of_name (i ∷ is) zero (suc zero) within few = refl
number_of_name (i ∷ is) zero (suc (suc zero)) within few = refl
number_of_name (i ∷ is) zero (suc (suc (suc zero))) within few = refl
number_of_name (i ∷ is) zero (suc (suc (suc (suc r)))) within few = absurd (omega (arith, few))
number_of_name (i ∷ is) (suc k) r within few = ap (slice_get (flat_map name_numbers (i ∷ is))) (four_more k r) ∙ number_of_name is k r (omega (arith, within)) few

-- numbers in a walk stand four by four
pub within_names : (is : List ArcName) (i : ℕ) → i < length (flat_map name_numbers is) → i / 4 < length is
within_names is i within = omega (arith, within, four_each is)

pub told_at : (is : List ArcName) (i : ℕ) (name : ArcName) (z : ℤ) → i < length (flat_map name_numbers is) → name ≡ get_or is (i / 4) name → slice_get (name_numbers name) (i % 4) ≡ Some z → slice_get (flat_map name_numbers is) i ≡ Some z
told_at is i name z within here told =
    ap (slice_get (flat_map name_numbers is)) (sym (div-add-mod i 4))
    ∙ number_of_name is (i / 4) (i % 4) (within_names is i within) (omega arith)
    ∙ ap (λ (n : ArcName). slice_get (name_numbers n) (i % 4)) (get_or_default is (i / 4) no_name name (within_names is i within) ∙ sym here)
    ∙ told

-- reading one name more
pub split_of : (zs : List ℤ) → zs ≡ take 4 zs ++ take (length zs - 4) (drop 4 zs)
split_of zs = sym (ap (λ ys. take 4 zs ++ ys) (take_rest zs 4) ∙ take-append-drop 4 zs)

added : (is : List ArcName) (i : ArcName) (later : List ℤ) → flat_map name_numbers (is ++ i ∷ []) ++ later ≡ flat_map name_numbers is ++ (name_numbers i ++ later)
added [] i later = refl
added (j ∷ js) i later = ap (λ (zs : List ℤ). pos j.kind ∷ pos j.x ∷ pos j.y ∷ pos j.z ∷ zs) (added js i later)

pub read_next : (numbers left four later : List ℤ) (is js : List ArcName) (i : ArcName) → js ≡ is ++ i ∷ [] → flat_map name_numbers is ++ left ≡ numbers → left ≡ four ++ later → name_numbers i ≡ four → flat_map name_numbers js ++ later ≡ numbers
read_next numbers left four later is js i more whole next name =
    ap (λ (ks : List ArcName). flat_map name_numbers ks ++ later) more
    ∙ added is i later
    ∙ ap (λ (zs : List ℤ). flat_map name_numbers is ++ (zs ++ later)) name
    ∙ ap (λ (zs : List ℤ). flat_map name_numbers is ++ zs) (sym next)
    ∙ whole

all_names : (is : List ArcName) (i : ArcName) → list_all is_name is ≡ true → is_name i ≡ true → list_all is_name (is ++ i ∷ []) ≡ true
all_names [] i h k = true_both (is_name i) true k refl
all_names (j ∷ js) i h k = let two = both_true (is_name j) (list_all is_name js) h in true_both (is_name j) (list_all is_name (js ++ i ∷ [])) two.0 (all_names js i two.1 k)

pub named_next : (is js : List ArcName) (i : ArcName) → js ≡ is ++ i ∷ [] → list_all is_name is ≡ true → is_name i ≡ true → list_all is_name js ≡ true
named_next is js i more h k = ap (λ (ks : List ArcName). list_all is_name ks) more ∙ all_names is i h k

-- what is left is the numbers of the rest of the names, if there are such names
rest_named : {Z : Type 0} (is all : List ArcName) (left : List ℤ) → list_all is_name all ≡ true → flat_map name_numbers all ≡ flat_map name_numbers is ++ left → ((more : List ArcName) → list_all is_name more ≡ true → flat_map name_numbers more ≡ left → Z) → Z
rest_named [] all left h same use_it = use_it all h same
rest_named (i ∷ is) [] left h same use_it = cc
rest_named (i ∷ is) (j ∷ js) left h same use_it = rest_named is js left (both_true (is_name j) (list_all is_name js) h).1 (behind _ _ _ _ _ _ _ _ _ _ same) use_it
  where
    behind : (a b c d e f g h : ℤ) (zs ys : List ℤ) → a ∷ b ∷ c ∷ d ∷ zs ≡ e ∷ f ∷ g ∷ h ∷ ys → zs ≡ ys
    behind a b c d e f g h zs ys same = cc

-- the name in front has the first four numbers
front_four : (i : ArcName) (zs four later : List ℤ) → length four ≡ 4 → name_numbers i ++ zs ≡ four ++ later → name_numbers i ≡ four
front_four i zs [] later size e = absurd (omega (arith, size))
front_four i zs (a ∷ []) later size e = absurd (omega (arith, size))
front_four i zs (a ∷ b ∷ []) later size e = absurd (omega (arith, size))
front_four i zs (a ∷ b ∷ c ∷ []) later size e = absurd (omega (arith, size))
front_four i zs (a ∷ b ∷ c ∷ d ∷ []) later size e = cc
front_four i zs (a ∷ b ∷ c ∷ d ∷ f ∷ gs) later size e = absurd (omega (arith, size))

pub no_name_next : (numbers left four later : List ℤ) (is all : List ArcName) → flat_map name_numbers is ++ left ≡ numbers → left ≡ four ++ later → length four ≡ 4 → ((i : ArcName) → IsTrue (is_name i) → name_numbers i ≡ four → ⊥)
    → list_all is_name all ≡ true → flat_map name_numbers all ≡ numbers → ⊥
no_name_next numbers left four later is all whole next size none h same = rest_named is all left h (same ∙ sym whole) more
  where
    more : (js : List ArcName) → list_all is_name js ≡ true → flat_map name_numbers js ≡ left → ⊥
    more [] k e = absurd (omega (arith, size, length-append four later, ap (λ (zs : List ℤ). length zs) (e ∙ next)))
    more (i ∷ js) k e = none i (both_true (is_name i) (list_all is_name js) k).0 (front_four i (flat_map name_numbers js) four later size (e ∙ next))

pub no_name_left : (numbers left : List ℤ) (is all : List ArcName) → flat_map name_numbers is ++ left ≡ numbers → length left < 4 → 0 < length left
    → list_all is_name all ≡ true → flat_map name_numbers all ≡ numbers → ⊥
no_name_left numbers left is all whole short some h same = rest_named is all left h (same ∙ sym whole) more
  where
    more : (js : List ArcName) → list_all is_name js ≡ true → flat_map name_numbers js ≡ left → ⊥
    more [] k e = absurd (omega (arith, some, ap (λ (zs : List ℤ). length zs) e))
    more (i ∷ js) k e = absurd (omega (arith, short, ap (λ (zs : List ℤ). length zs) e))

pub all_read : (numbers left : List ℤ) (is : List ArcName) → flat_map name_numbers is ++ left ≡ numbers → length left ≤ 0 → flat_map name_numbers is ≡ numbers
all_read numbers [] is whole none = sym (append-nil (flat_map name_numbers is)) ∙ whole
all_read numbers (z ∷ zs) is whole none = absurd (omega (arith, none))

pub counted : (w : BasicWitness) (is js : List ArcName) (n : ℕ) → w ≡ Cycle is → js ≡ is → n ≡ 2 + 4 * length js → n ≡ length (numbers_of w)
counted w is js n at_cycle same count = rw (at_cycle, count, same) (omega (arith, four_each is))

pub other_count : (arcs : List ArcName) (count : ℤ) (numbers : List ℤ) (w : BasicWitness) → flat_map name_numbers arcs ≡ numbers → (count ≡ pos (length arcs) → ⊥) → numbers_of w ≡ pos 2 ∷ count ∷ numbers → ⊥
other_count arcs count numbers (Size x) read other e = cc
other_count arcs count numbers (Arc c d) read other e = cc
other_count arcs count numbers (Cycle is) read other e = other (sym (counts (length is) e) ∙ ap (λ (js : List ArcName). pos (length js)) (names_told is arcs (names (length is) (flat_map name_numbers is) e ∙ sym read)))
  where
    counts : (n : ℕ) {zs : List ℤ} → pos 2 ∷ pos n ∷ zs ≡ pos 2 ∷ count ∷ numbers → pos n ≡ count
    counts n e = cc

    names : (n : ℕ) (zs : List ℤ) → pos 2 ∷ pos n ∷ zs ≡ pos 2 ∷ count ∷ numbers → zs ≡ numbers
    names n zs e = cc
other_count arcs count numbers (Expr c) read other e = cc
other_count arcs count numbers Obj read other e = cc
other_count arcs count numbers (Leaf k u) read other e = cc
