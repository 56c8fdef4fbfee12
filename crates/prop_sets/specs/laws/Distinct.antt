-- A member of a sequence stands at one place.
use Rattle.std.specs.Prelude.{◌≡◌, ℕ, zero, suc, ◌<◌, ◌≤◌, Bool, true, false, not, ◌&&◌, nat_lt, nat_le, List, [], ◌∷◌, length}
use Rattle.std.specs.List.{list_all}
use Rattle.std.proofs.Common.{refl, sym, ap, subst, arith, get_or}
use Rattle.std.proofs.lemmas.Bool.Decides.{nat_tests}
use Rattle.std.proofs.lemmas.List.{get_or_past}
use Rattle.sched_base.specs.declared.ids.Itv.{Itv}
use Rattle.sched_base.specs.declared.ids.Seq.{Seq}
use Rattle.sched_model.specs.declared.types.SequenceDef.{SequenceDef}
use Rattle.sched_model.specs.Data.{Data, same, members_of}
use Rattle.sched_model.specs.Valid.{IsValid, is_itv, are_distinct, are_parts, is_sequence_def}
use Rattle.region.specs.laws.Lists.{both_true, all-at}
use Rattle.region.specs.laws.OneSequence.{same_self}
use Rattle.prop_sets.specs.code.Rows.{member_at}

not_first : (x : Itv) (xs : List Itv) (k : ℕ) → list_all (λ y. not (same x y)) xs ≡ true → k < length xs → x ≡ member_at xs k → {Z : Type 0} → Z
not_first x [] k all within is = absurd (omega (arith, within))
not_first x (y ∷ ys) zero all within is = clash (same x y) (subst (λ (z : Itv). same x z ≡ true) is (same_self x)) (both_true (not (same x y)) _ all).0
  where
    clash : {Z : Type 0} (b : Bool) → b ≡ true → not b ≡ true → Z
    clash true e f = cc
    clash false e f = cc
not_first x (y ∷ ys) (suc k) all within is = not_first x ys k (both_true (not (same x y)) _ all).1 (omega (arith, within)) is

places : (xs : List Itv) → are_distinct xs ≡ true → (j k : ℕ) → j < length xs → k < length xs → member_at xs j ≡ member_at xs k → j ≡ k
places [] once j k a b e = absurd (omega (arith, a))
places (x ∷ xs) once zero zero a b e = refl
places (x ∷ xs) once zero (suc k) a b e = not_first x xs k (both_true (list_all (λ y. not (same x y)) xs) _ once).0 (omega (arith, b)) e
places (x ∷ xs) once (suc j) zero a b e = not_first x xs j (both_true (list_all (λ y. not (same x y)) xs) _ once).0 (omega (arith, a)) (sym e)
places (x ∷ xs) once (suc j) (suc k) a b e = ap suc (places xs (both_true (list_all (λ y. not (same x y)) xs) _ once).1 j k (omega (arith, a)) (omega (arith, b)) e)

distinct : (m : Data) (p : Seq) → IsValid m → are_distinct (members_of m p) ≡ true
distinct m p valid = by_case (nat_lt p.0 (length m.sequences)) refl
  where
    below : nat_lt p.0 (length m.sequences) ≡ true → p.0 < length m.sequences
    below h = grind (arith, nat_tests)

    past : nat_lt p.0 (length m.sequences) ≡ false → length m.sequences ≤ p.0
    past h = grind (arith, nat_tests)

    parts : (d : SequenceDef) → is_sequence_def m d ≡ true → are_distinct d.members ≡ true
    parts d h = (both_true _ (are_distinct d.members) (both_true (are_parts m d.members) (nat_le (length d.members) 500) (both_true (are_parts m d.members && nat_le (length d.members) 500) _ h).0).0).1

    by_case : (b : Bool) → nat_lt p.0 (length m.sequences) ≡ b → are_distinct (members_of m p) ≡ true
    by_case true is = parts (get_or m.sequences p.0 _) (all-at (is_sequence_def m) m.sequences p.0 _ valid.sequences (below is))
    by_case false is = ap (λ (d : SequenceDef). are_distinct d.members) (get_or_past m.sequences p.0 _ (past is))

pub apart : (m : Data) (p : Seq) → IsValid m → (j k : ℕ) → j < length (members_of m p) → k < length (members_of m p) → member_at (members_of m p) j ≡ member_at (members_of m p) k → j ≡ k
apart m p valid = places (members_of m p) (distinct m p valid)

-- members are intervals of the model
itvs : (m : Data) (p : Seq) → IsValid m → list_all (is_itv m) (members_of m p) ≡ true
itvs m p valid = by_case (nat_lt p.0 (length m.sequences)) refl
  where
    below : nat_lt p.0 (length m.sequences) ≡ true → p.0 < length m.sequences
    below h = grind (arith, nat_tests)

    past : nat_lt p.0 (length m.sequences) ≡ false → length m.sequences ≤ p.0
    past h = grind (arith, nat_tests)

    parts : (d : SequenceDef) → is_sequence_def m d ≡ true → list_all (is_itv m) d.members ≡ true
    parts d h = (both_true (list_all (is_itv m) d.members) (are_distinct d.members) (both_true (are_parts m d.members) (nat_le (length d.members) 500) (both_true (are_parts m d.members && nat_le (length d.members) 500) _ h).0).0).0

    by_case : (b : Bool) → nat_lt p.0 (length m.sequences) ≡ b → list_all (is_itv m) (members_of m p) ≡ true
    by_case true is = parts (get_or m.sequences p.0 _) (all-at (is_sequence_def m) m.sequences p.0 _ valid.sequences (below is))
    by_case false is = ap (λ (d : SequenceDef). list_all (is_itv m) d.members) (get_or_past m.sequences p.0 _ (past is))

pub itv_at : (m : Data) (p : Seq) (k : ℕ) → IsValid m → k < length (members_of m p) → (member_at (members_of m p) k).0 < length m.intervals
itv_at m p k valid within = below (member_at (members_of m p) k).0 (length m.intervals) (all-at (is_itv m) (members_of m p) k (record { 0 = 0 }) (itvs m p valid) within)
  where
    below : (i n : ℕ) → nat_lt i n ≡ true → i < n
    below i n h = grind (arith, nat_tests)
