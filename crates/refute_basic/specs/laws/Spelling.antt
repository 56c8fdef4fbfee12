-- The numbers of valid witnesses are few and small, and tell them apart.
use Rattle.std.specs.Prelude.{◌≡◌, ℕ, zero, suc, ◌+◌, ◌*◌, ◌^◌, ◌<◌, ℤ, pos, true, IsTrue, List, [], ◌∷◌, length, flat_map}
use Rattle.std.specs.List.{list_all}
use Rattle.std.proofs.Common.{refl, ap, arith}
use Rattle.std.proofs.lemmas.Bool.{ltb-true}
use Rattle.std.proofs.lemmas.Bool.Decides.{nat_tests}
use Rattle.sched_model.specs.Data.{Data}
use Rattle.region.specs.Looks.{Seen}
use Rattle.region.specs.code.Spelled.{AreSmall}
use Rattle.region.specs.laws.Lists.{both_true}
use Rattle.refute_basic.specs.declared.witness.BasicWitness.{BasicWitness}
use Rattle.refute_basic.specs.declared.witness.BasicWitness.TheVariants.{Size, Arc, Cycle, Expr, Obj, Leaf}
use Rattle.refute_basic.specs.Witness.{name_numbers, numbers_of, is_name, is_valid}
use Rattle.refute_basic.specs.Basic.{refutes, row_of}
use Rattle.refute_basic.specs.laws.Names.{four_each, names_small, names_told}
use Rattle.sched_model.specs.laws.Small.{small_number}
use Rattle.sched_model.specs.Bounds.{is_number}
use Rattle.region.specs.laws.Spelled.{one_signed}

pub few_numbers : (w : BasicWitness) → IsTrue (is_valid w) → length (numbers_of w) < 2 ^ 32
few_numbers (Size x) h = omega arith
few_numbers (Arc c d) h = omega arith
few_numbers (Cycle arcs) h =
    let few : 2 + 4 * length arcs < 2 ^ 32 = ltb-true (2 + 4 * length arcs) (2 ^ 32) (both_true (is_number (2 + 4 * length arcs)) (list_all is_name arcs) h).0 in
    omega (arith, few, four_each arcs)
few_numbers (Expr c) h = omega arith
few_numbers Obj h = omega arith
few_numbers (Leaf k u) h = omega arith

-- one number behind the place of the kind, and two
one_small : (p n : ℕ) → is_number p ≡ true → is_number n ≡ true → AreSmall (pos p ∷ pos n ∷ [])
one_small p n place first zero d within = small_number p place
one_small p n place first (suc zero) d within = small_number n first
one_small p n place first (suc (suc i)) d within = absurd (omega (arith, within))

two_small : (p n k : ℕ) → is_number p ≡ true → is_number n ≡ true → is_number k ≡ true → AreSmall (pos p ∷ pos n ∷ pos k ∷ [])
two_small p n k place first second zero d within = small_number p place
two_small p n k place first second (suc zero) d within = small_number n first
two_small p n k place first second (suc (suc zero)) d within = small_number k second
two_small p n k place first second (suc (suc (suc i))) d within = absurd (omega (arith, within))

none_small : (p : ℕ) → is_number p ≡ true → AreSmall (pos p ∷ [])
none_small p place zero d within = small_number p place
none_small p place (suc i) d within = absurd (omega (arith, within))

pub small_numbers : (w : BasicWitness) → IsTrue (is_valid w) → AreSmall (numbers_of w)
small_numbers (Size x) h = one_small 0 x refl h
small_numbers (Arc c d) h = let two = both_true (is_number c) (is_number d) h in two_small 1 c d refl two.0 two.1
small_numbers (Cycle arcs) h =
    let two = both_true (is_number (2 + 4 * length arcs)) (list_all is_name arcs) h in
    one_signed (pos 2) (pos (length arcs) ∷ flat_map name_numbers arcs) (small_number 2 refl) (one_signed (pos (length arcs)) (flat_map name_numbers arcs) (small_number (length arcs) (fewer (length arcs) two.0)) (names_small arcs two.1))
  where
    fewer : (n : ℕ) → is_number (2 + 4 * n) ≡ true → is_number n ≡ true
    fewer n h = grind (arith, nat_tests)
small_numbers (Expr c) h = one_small 3 c refl h
small_numbers Obj h = none_small 4 refl
small_numbers (Leaf k u) h = let two = both_true (is_number k) (is_number u) h in two_small 5 k u refl two.0 two.1

behind : (n k : ℕ) (zs ys : List ℤ) → pos 2 ∷ pos n ∷ zs ≡ pos 2 ∷ pos k ∷ ys → zs ≡ ys
behind n k zs ys same = cc

pub told_apart : (v w : BasicWitness) → IsTrue (is_valid v) → IsTrue (is_valid w) → numbers_of v ≡ numbers_of w → v ≡ w
told_apart (Size x) (Size x') hv hw same = cc
told_apart (Size x) (Arc c' d') hv hw same = cc
told_apart (Size x) (Cycle is') hv hw same = cc
told_apart (Size x) (Expr c') hv hw same = cc
told_apart (Size x) Obj hv hw same = cc
told_apart (Size x) (Leaf k' u') hv hw same = cc
told_apart (Arc c d) (Size x') hv hw same = cc
told_apart (Arc c d) (Arc c' d') hv hw same = cc
told_apart (Arc c d) (Cycle is') hv hw same = cc
told_apart (Arc c d) (Expr c') hv hw same = cc
told_apart (Arc c d) Obj hv hw same = cc
told_apart (Arc c d) (Leaf k' u') hv hw same = cc
told_apart (Cycle is) (Size x') hv hw same = cc
told_apart (Cycle is) (Arc c' d') hv hw same = cc
told_apart (Cycle is) (Cycle is') hv hw same = ap Cycle (names_told is is' (behind (length is) (length is') _ _ same))
told_apart (Cycle is) (Expr c') hv hw same = cc
told_apart (Cycle is) Obj hv hw same = cc
told_apart (Cycle is) (Leaf k' u') hv hw same = cc
told_apart (Expr c) (Size x') hv hw same = cc
told_apart (Expr c) (Arc c' d') hv hw same = cc
told_apart (Expr c) (Cycle is') hv hw same = cc
told_apart (Expr c) (Expr c') hv hw same = cc
told_apart (Expr c) Obj hv hw same = cc
told_apart (Expr c) (Leaf k' u') hv hw same = cc
told_apart Obj (Size x') hv hw same = cc
told_apart Obj (Arc c' d') hv hw same = cc
told_apart Obj (Cycle is') hv hw same = cc
told_apart Obj (Expr c') hv hw same = cc
told_apart Obj Obj hv hw same = refl
told_apart Obj (Leaf k' u') hv hw same = cc
told_apart (Leaf k u) (Size x') hv hw same = cc
told_apart (Leaf k u) (Arc c' d') hv hw same = cc
told_apart (Leaf k u) (Cycle is') hv hw same = cc
told_apart (Leaf k u) (Expr c') hv hw same = cc
told_apart (Leaf k u) Obj hv hw same = cc
told_apart (Leaf k u) (Leaf k' u') hv hw same = cc

pub refuting_valid : (m : Data) (l : Seen) (w : BasicWitness) → IsTrue (refutes m l w) → IsTrue (is_valid w)
refuting_valid m l w h = (both_true (is_valid w) (row_of m l w) h).0
