-- A walk goes on by one arc after another.
use Rattle.std.specs.Prelude.{◌≡◌, ℕ, ◌+◌, ◌<◌, ℤ, ◌+ℤ◌, Bool, true, false, ◌&&◌, List, ◌∷◌, length, drop, Option, Some, nat_eq}
use Rattle.std.proofs.Common.{sym, ap, ◌∙◌, arith, get_or}
use Rattle.std.proofs.lemmas.Bool.Decides.{nat_tests}
use Rattle.std.proofs.lemmas.List.{at_drop_more}
use Rattle.sched_model.specs.Data.{Data}
use Rattle.sched_model.specs.Words.{passes}
use Rattle.region.specs.Cells.{Region}
use Rattle.refute_basic.specs.declared.edge.Arc.{Arc as Edge}
use Rattle.refute_basic.specs.declared.arc_name.ArcName.{ArcName}
use Rattle.refute_basic.specs.Cycle.{edge_of, goes_on}

abbrev pub no_name : ArcName
no_name = record { kind = 0; x = 0; y = 0; z = 0 }

next_of : (m : Data) (r : Region) (begin at : ℕ) (sum : ℤ) (is : List ArcName) (k : ℕ) (i : ArcName) (o : Option Edge) → k < length is → i ≡ get_or is k i → o ≡ edge_of m r i
    → goes_on m r begin at sum (drop k is) ≡ passes (λ e. nat_eq at e.tail && goes_on m r begin e.head (sum +ℤ e.weight) (drop (k + 1) is)) o
next_of m r begin at sum is k i o within here e =
    at_drop_more (goes_on m r begin at sum) is k i within
    ∙ ap (λ (j : ArcName). goes_on m r begin at sum (j ∷ drop (k + 1) is)) (sym here)
    ∙ ap (λ (p : Option Edge). passes (λ e. nat_eq at e.tail && goes_on m r begin e.head (sum +ℤ e.weight) (drop (k + 1) is)) p) (sym e)

pub turn_off : (m : Data) (r : Region) (begin at : ℕ) (sum : ℤ) (is : List ArcName) (k : ℕ) (i : ArcName) (e : Edge) → k < length is → i ≡ get_or is k i → Some e ≡ edge_of m r i → (at ≡ e.tail → ⊥) → false ≡ goes_on m r begin at sum (drop k is)
turn_off m r begin at sum is k i e within here is_e other = sym (next_of m r begin at sum is k i (Some e) within here is_e ∙ off at e.tail _ other)
  where
    off : (a t : ℕ) (b : Bool) → (a ≡ t → ⊥) → (nat_eq a t && b) ≡ false
    off a t b other = grind (arith, nat_tests)

pub turn_on : (m : Data) (r : Region) (begin at : ℕ) (sum sum' : ℤ) (is : List ArcName) (k : ℕ) (i : ArcName) (e : Edge) (whole : Bool) → k < length is → Some e ≡ edge_of m r i → i ≡ get_or is k i → at ≡ e.tail
    → goes_on m r begin at sum (drop k is) ≡ whole → sum' ≡ sum +ℤ e.weight → goes_on m r begin e.head sum' (drop (k + 1) is) ≡ whole
turn_on m r begin at sum sum' is k i e whole within is_e here same before sum_is =
    rw sum_is (sym (on at e.tail _ same) ∙ sym (next_of m r begin at sum is k i (Some e) within here is_e) ∙ before)
  where
    on : (a t : ℕ) (b : Bool) → a ≡ t → (nat_eq a t && b) ≡ b
    on a t true e = grind (arith, nat_tests)
    on a t false e = grind (arith, nat_tests)
