-- The numbers of a witness one by one, and reading them.
use Rattle.std.specs.Prelude.{◌≡◌, ℕ, zero, suc, ◌+◌, ◌-◌, ◌<◌, ◌≤◌, ℤ, pos, true, false, not, ◌&&◌, List, [], ◌∷◌, ◌++◌, Option, Some, None, IfSome, IfNone, drop, length, map, nat_lt, slice_get, IsTrue}
use Rattle.std.specs.List.{list_all}
use Rattle.std.proofs.Common.{refl, sym, ap, subst, ◌∙◌, arith, get_or}
use Rattle.std.proofs.lemmas.Bool.Decides.{nat_tests}
use Rattle.std.proofs.lemmas.List.{append-nil, append_assoc, at_drop_all, at_drop_more, get_or-map, length-map}
use Rattle.std.proofs.lemmas.Option.{slice_get-map}
use Rattle.std.specs.Option.{option_map}
use Rattle.base_laws.specs.laws.Places.{there}
use Rattle.base_laws.specs.laws.Truth.{four_true}
use Rattle.sched_model.specs.Bounds.{is_number}
use Rattle.sched_model.specs.Words.{adjacent, is_empty}
use Rattle.region.specs.laws.Lists.{all-at, both_true}
use Rattle.refute_seq.specs.Witness.{set_numbers, is_number_set}
use Rattle.refute_seq.specs.laws.SetNumbers.{set_count}
use Rattle.refute_energy.specs.declared.witness.EnergyWitness.{EnergyWitness}
use Rattle.refute_energy.specs.Witness.{numbers_of, is_valid}
use Rattle.refute_energy.specs.laws.Spelling.{told}

-- one number of a set, behind its size
pub member_number : (s : List ℕ) (k : ℕ) (z : ℤ) → (k ≡ 0 → ⊥) → k < length (set_numbers s) → z ≡ pos (get_or s (k - 1) 0) → slice_get (set_numbers s) k ≡ Some z
member_number s zero z other within is = absurd (other refl)
member_number s (suc k) z other within is =
    slice_get-map (λ n. pos n) s k ∙ ap (option_map (λ n. pos n)) (there s k (get_or s k 0) 0 (omega (arith, within, set_count s)) refl) ∙ ap (λ y. Some y) (ap (λ j. pos (get_or s j 0)) (before k) ∙ sym is)
  where
    before : (k : ℕ) → k ≡ suc k - 1
    before k = omega arith

-- numbers that rise, one more and at the end
pub rises_more : (xs : List ℕ) (i last n : ℕ) → i < length xs → n ≡ get_or xs i 0 → last < n → adjacent nat_lt (last ∷ drop i xs) ≡ adjacent nat_lt (n ∷ drop (i + 1) xs)
rises_more xs i last n within is less =
    at_drop_more (λ ys. adjacent nat_lt (last ∷ ys)) xs i 0 within ∙ ap (λ j. nat_lt last j && adjacent nat_lt (j ∷ drop (i + 1) xs)) (sym is) ∙ ap (λ b. b && adjacent nat_lt (n ∷ drop (i + 1) xs)) (above last n less)
  where
    above : (a b : ℕ) → a < b → nat_lt a b ≡ true
    above a b h = grind (arith, nat_tests, h)

pub rises_not : (xs : List ℕ) (i last n : ℕ) → i < length xs → n ≡ get_or xs i 0 → n ≤ last → adjacent nat_lt (last ∷ drop i xs) ≡ false
rises_not xs i last n within is most =
    at_drop_more (λ ys. adjacent nat_lt (last ∷ ys)) xs i 0 within ∙ ap (λ j. nat_lt last j && adjacent nat_lt (j ∷ drop (i + 1) xs)) (sym is) ∙ ap (λ b. b && adjacent nat_lt (n ∷ drop (i + 1) xs)) (below last n most)
  where
    below : (a b : ℕ) → b ≤ a → nat_lt a b ≡ false
    below a b h = grind (arith, nat_tests, h)

pub rises_all : (xs : List ℕ) (i last : ℕ) → length xs ≤ i → adjacent nat_lt (last ∷ drop i xs) ≡ true
rises_all xs i last past = at_drop_all (λ ys. adjacent nat_lt (last ∷ ys)) xs i past

-- members that are read so far
pub one_read : (s : List ℕ) (members : List ℤ) (k n : ℕ) → k < length members → get_or members k (pos 0) ≡ pos n → map (λ i. pos i) s ++ drop k members ≡ members → map (λ i. pos i) (s ++ n ∷ []) ++ drop (k + 1) members ≡ members
one_read s members k n within is before =
    ap (λ zs. zs ++ drop (k + 1) members) (pushed s)
    ∙ append_assoc (map (λ i. pos i) s) (pos n ∷ []) (drop (k + 1) members)
    ∙ ap (λ z. map (λ i. pos i) s ++ z ∷ drop (k + 1) members) (sym is)
    ∙ sym (at_drop_more (λ ys. map (λ i. pos i) s ++ ys) members k (pos 0) within)
    ∙ before
  where
    pushed : (s : List ℕ) → map (λ i. pos i) (s ++ n ∷ []) ≡ map (λ i. pos i) s ++ pos n ∷ []
    pushed [] = refl
    pushed (i ∷ s) = ap (λ zs. pos i ∷ zs) (pushed s)

pub all_read : (s : List ℕ) (members : List ℤ) (k : ℕ) → length members ≤ k → map (λ i. pos i) s ++ drop k members ≡ members → map (λ i. pos i) s ≡ members
all_read s members k past before = sym (append-nil (map (λ i. pos i) s)) ∙ sym (at_drop_all (λ ys. map (λ i. pos i) s ++ ys) members k past) ∙ before

-- a number that no member can be
pub not_read : (s : List ℕ) (members : List ℤ) → map (λ i. pos i) s ≡ members → IsTrue (list_all is_number s) → (k : ℕ) (z : ℤ) → k < length members → z ≡ get_or members k (pos 0) → ((n : ℕ) → IsTrue (is_number n) → z ≡ pos n → ⊥) → ⊥
not_read s members same all k z within is none =
    let inside : k < length s = omega (arith, within, ap (λ (zs : List ℤ). length zs) same, length-map s (λ i. pos i)) in
    none (get_or s k 0) (all-at is_number s k 0 all inside) (is ∙ ap (λ (zs : List ℤ). get_or zs k (pos 0)) (sym same) ∙ get_or-map (λ i. pos i) s k 0 (pos 0) inside)

-- what numbers say of a witness
pub record Said (w : EnergyWitness) (c size : ℤ) (members : List ℤ) : Type 0 where
  pub con : c ≡ pos w.c.0
  pub sized : size ≡ pos (length w.parts)
  pub read : map (λ n. pos n) w.parts ≡ members
  pub small : list_all is_number w.parts ≡ true

pub said : (w : EnergyWitness) (c size : ℤ) (members : List ℤ) → IsTrue (is_valid w) → numbers_of w ≡ c ∷ size ∷ members → Said w c size members
said w c size members valid same = record {
  con = first (pos w.c.0) c _ _ same;
  sized = first (pos (length w.parts)) size _ _ (behind (pos w.c.0) c _ _ same);
  read = behind (pos (length w.parts)) size _ _ (behind (pos w.c.0) c _ _ same);
  small = (both_true (adjacent nat_lt w.parts) (list_all is_number w.parts) (four_true (is_number w.c.0) (is_number_set w.parts) (not (is_empty w.parts)) (is_number (2 + length w.parts)) valid).1).1;
}
  where
    first : (a b : ℤ) (xs ys : List ℤ) → a ∷ xs ≡ b ∷ ys → b ≡ a
    first a b xs ys h = cc

    behind : (a b : ℤ) (xs ys : List ℤ) → a ∷ xs ≡ b ∷ ys → xs ≡ ys
    behind a b xs ys h = cc

pub other_size : (w : EnergyWitness) (c size : ℤ) (members : List ℤ) → (size ≡ pos (length members) → ⊥) → IsTrue (is_valid w) → numbers_of w ≡ c ∷ size ∷ members → ⊥
other_size w c size members other valid same =
    let s = said w c size members valid same in
    other (s.sized ∙ ap (λ n. pos n) (sym (length-map w.parts (λ n. pos n)) ∙ ap (λ (zs : List ℤ). length zs) s.read))

pub none_read : (w : EnergyWitness) (c size : ℤ) (members : List ℤ) (o : Option (List ℕ)) → o ≡ None → IfNone o ((s : List ℕ) → IsTrue (list_all is_number s) → map (λ n. pos n) s ≡ members → ⊥) → IsTrue (is_valid w) → numbers_of w ≡ c ∷ size ∷ members → ⊥
none_read w c size members o is none valid same =
    let s = said w c size members valid same in
    subst (λ (p : Option (List ℕ)). IfNone p ((s : List ℕ) → IsTrue (list_all is_number s) → map (λ n. pos n) s ≡ members → ⊥)) is none w.parts s.small s.read

pub made : (k : ℕ) (parts : List ℕ) (c size : ℤ) (members : List ℤ) (o : Option (List ℕ)) → c ≡ pos k → size ≡ pos (length members) → o ≡ Some parts → IfSome o (λ s. map (λ n. pos n) s ≡ members)
    → numbers_of (record { c = record { 0 = k }; parts = parts }) ≡ c ∷ size ∷ members
made k parts c size members o is sized some read =
    let same : map (λ n. pos n) parts ≡ members = subst (λ (p : Option (List ℕ)). IfSome p (λ s. map (λ n. pos n) s ≡ members)) some read in
    ap (λ z. z ∷ set_numbers parts) (sym is) ∙ ap (λ zs. c ∷ pos (length parts) ∷ zs) same ∙ ap (λ z. c ∷ z ∷ members) (ap (λ n. pos n) (sym (length-map parts (λ n. pos n)) ∙ ap (λ (zs : List ℤ). length zs) same) ∙ sym sized)

-- numbers of a witness that isn't valid are those of no valid one
pub none_valid : (v w : EnergyWitness) (numbers : List ℤ) → numbers_of v ≡ numbers → (is_valid v ≡ true → ⊥) → IsTrue (is_valid w) → numbers_of w ≡ numbers → ⊥
none_valid v w numbers is bad valid same = bad (ap is_valid (told v w (is ∙ sym same)) ∙ valid)
