-- The rows of members, while the order of each two is read once for both.
use denote.Enum.Bare.{sameb}
use Rattle.std.specs.Prelude.{◌≡◌, ℕ, ◌+◌, ◌<◌, ◌≤◌, Bool, true, false, not, ◌||◌, ◌&&◌, List, length, nat_eq}
use Rattle.std.proofs.Common.{refl, sym, ap, ap₂, ◌∙◌, arith, inl, inr, get_or, set}
use Rattle.std.proofs.lemmas.Bool.{cases_eq}
use Rattle.std.proofs.lemmas.Bool.Decides.{nat_tests}
use Rattle.std.proofs.lemmas.List.{get_or_default, get_or-set_same, get_or-set_other, length-set}
use Rattle.base_laws.specs.laws.Numbers.{differs}
use Rattle.sched_base.specs.declared.ids.Itv.{Itv}
use Rattle.sched_base.specs.declared.ids.Seq.{Seq}
use Rattle.region.specs.declared.types.OrderCell.{OrderCell}
use Rattle.region.specs.declared.types.OrderCell.TheVariants.{Unknown, Forward, Backward}
use Rattle.region.specs.contracts.types.OrderCell.{the_type}
use Rattle.region.specs.Cells.{Region, cells_of}
use Rattle.region.specs.Orders.{known_order, order_in, says_forward, says_backward}
use Rattle.refute_seq.specs.Standing.{is_away, precedes}
use Rattle.refute_seq.specs.laws.Ordered.{one_way}
use Rattle.prop_unary.specs.declared.places.Places.{Places}
use Rattle.prop_unary.specs.code.Rows.{has_place, may_stand, member_at, is_read, AreRead, IsOrderNoted}

number_itself : (n : ℕ) → nat_eq n n ≡ true
number_itself n = grind (arith, nat_tests)

-- who may stand before whom, from the order of two
away_first : (r : Region) (p : Seq) (x y : Itv) → is_away r x ≡ true → may_stand r p x y ≡ false
away_first r p x y away = ap (λ b. not b && not (is_away r y) && precedes r p x y) away

away_second : (r : Region) (p : Seq) (x y : Itv) → is_away r y ≡ true → may_stand r p x y ≡ false
away_second r p x y away = ap (λ b. not (is_away r x) && not b && precedes r p x y) away ∙ no_matter (not (is_away r x)) (precedes r p x y)
  where
    no_matter : (b c : Bool) → (b && false && c) ≡ false
    no_matter true c = refl
    no_matter false c = refl

forward_is : (b c : Bool) → says_forward (known_order b c) ≡ b
forward_is true c = refl
forward_is false true = refl
forward_is false false = refl

backward_is : (b c : Bool) → (b ≡ true → c ≡ true → ⊥) → says_backward (known_order b c) ≡ c
backward_is true true one_way = absurd (one_way refl refl)
backward_is true false one_way = refl
backward_is false true one_way = refl
backward_is false false one_way = refl

both_here : (r : Region) (p : Seq) (x y : Itv) → is_away r x ≡ false → is_away r y ≡ false → may_stand r p x y ≡ precedes r p x y
both_here r p x y one other = ap (λ b. not b && not (is_away r y) && precedes r p x y) one ∙ ap (λ b. not b && precedes r p x y) other

stands_forward : (r : Region) (p : Seq) (x y : Itv) (o : OrderCell) → o ≡ order_in (cells_of r p) x y → is_away r x ≡ false → is_away r y ≡ false → says_forward o ≡ may_stand r p x y
stands_forward r p x y o is one other = ap says_forward is ∙ forward_is (precedes r p x y) (precedes r p y x) ∙ sym (both_here r p x y one other)

stands_backward : (r : Region) (p : Seq) (x y : Itv) (o : OrderCell) → o ≡ order_in (cells_of r p) x y → is_away r x ≡ false → is_away r y ≡ false → says_backward o ≡ may_stand r p y x
stands_backward r p x y o is one other = ap says_backward is ∙ backward_is (precedes r p x y) (precedes r p y x) (one_way (cells_of r p) x y) ∙ sym (both_here r p y x other one)

-- one place of one row
pub put_at : (rows : List Places) (i k : ℕ) (is_in : Bool) (row e : Places) → i < length rows → ((b : ℕ) → has_place row b ≡ ((is_in && nat_eq b k) || has_place (get_or rows i e) b)) → (a b : ℕ) (d : Places) → has_place (get_or (set rows i row) a d) b ≡ ((is_in && nat_eq a i && nat_eq b k) || has_place (get_or rows a d) b)
put_at rows i k is_in row e within is a b d = elim (cases_eq a i) [
  | inl same ↦ ap (λ j. has_place (get_or (set rows i row) j d) b) same ∙ ap (λ s. has_place s b) (get_or-set_same rows i row d within) ∙ is b ∙ ap (λ s. (is_in && nat_eq b k) || has_place s b) (get_or_default rows i e d within)
      ∙ sym (ap (λ j. (is_in && nat_eq j i && nat_eq b k) || has_place (get_or rows j d) b) same ∙ ap (λ t. t || has_place (get_or rows i d) b) (with_itself is_in (nat_eq i i) (nat_eq b k) (number_itself i)))
  | inr other ↦ ap (λ s. has_place s b) (get_or-set_other rows i a row d other) ∙ sym (ap (λ t. t || has_place (get_or rows a d) b) (with_other is_in (nat_eq a i) (nat_eq b k) (differs a i other)))
]
  where
    with_itself : (s t u : Bool) → t ≡ true → (s && t && u) ≡ (s && u)
    with_itself true t u on = ap (λ x. x && u) on
    with_itself false t u on = refl

    with_other : (s t u : Bool) → t ≡ false → (s && t && u) ≡ false
    with_other true t u off = ap (λ x. x && u) off
    with_other false t u off = refl

pub order_put : (o : OrderCell) (rows : List Places) (i k : ℕ) (f g : Bool) (row next e : Places) → i < length rows → k < length rows → f ≡ sameb the_type o Forward → g ≡ sameb the_type o Backward
    → ((b : ℕ) → has_place row b ≡ ((f && nat_eq b k) || has_place (get_or rows i e) b)) → ((b : ℕ) → has_place next b ≡ ((g && nat_eq b i) || has_place (get_or (set rows i row) k e) b)) → IsOrderNoted o i k rows (set (set rows i row) k next)
order_put o rows i k f g row next e first second forward backward one two a b d =
    put_at (set rows i row) k i g next e (omega (arith, length-set rows i row, second)) two a b d
    ∙ ap (λ t. (g && nat_eq a k && nat_eq b i) || t) (put_at rows i k f row e first one a b d)
    ∙ turned (g && nat_eq a k && nat_eq b i) (f && nat_eq a i && nat_eq b k) (has_place (get_or rows a d) b)
    ∙ ap₂ (λ s t. (s && nat_eq a i && nat_eq b k) || (t && nat_eq a k && nat_eq b i) || has_place (get_or rows a d) b) (forward ∙ is_forward o) (backward ∙ is_backward o)
  where
    turned : (s t u : Bool) → (s || (t || u)) ≡ (t || s || u)
    turned true true u = refl
    turned true false u = refl
    turned false true u = refl
    turned false false u = refl

    is_forward : (o : OrderCell) → sameb the_type o Forward ≡ says_forward o
    is_forward Unknown = refl
    is_forward Forward = refl
    is_forward Backward = refl

    is_backward : (o : OrderCell) → sameb the_type o Backward ≡ says_backward o
    is_backward Unknown = refl
    is_backward Forward = refl
    is_backward Backward = refl

-- which are read
row_read : (i n a b : ℕ) → a < n → b < n → is_read i n a b ≡ is_read (i + 1) 0 a b
row_read i n a b one other = grind (arith, nat_tests)

more_read : (i k a b : ℕ) (s t m : Bool) → i < k → (a ≡ i → b ≡ k → s ≡ m) → (a ≡ k → b ≡ i → t ≡ m) → ((s && nat_eq a i && nat_eq b k) || (t && nat_eq a k && nat_eq b i) || (is_read i k a b && m)) ≡ (is_read i (k + 1) a b && m)
more_read i k a b true true true above one other = grind (arith, nat_tests)
more_read i k a b true true false above one other = grind (arith, nat_tests)
more_read i k a b true false true above one other = grind (arith, nat_tests)
more_read i k a b true false false above one other = grind (arith, nat_tests)
more_read i k a b false true true above one other = grind (arith, nat_tests)
more_read i k a b false true false above one other = grind (arith, nat_tests)
more_read i k a b false false true above one other = grind (arith, nat_tests)
more_read i k a b false false false above one other = grind (arith, nat_tests)

-- one more order is read
pub order_read : (r : Region) (p : Seq) (ms : List Itv) (rows more : List Places) (i k : ℕ) (o : OrderCell) → i < k → is_away r (member_at ms i) ≡ false → is_away r (member_at ms k) ≡ false → o ≡ order_in (cells_of r p) (member_at ms i) (member_at ms k)
    → AreRead r p ms rows i k → IsOrderNoted o i k rows more → AreRead r p ms more i (k + 1)
order_read r p ms rows more i k o above one other is before noted a b first second d =
    noted a b d ∙ ap (λ t. (says_forward o && nat_eq a i && nat_eq b k) || (says_backward o && nat_eq a k && nat_eq b i) || t) (before a b first second d)
    ∙ more_read i k a b (says_forward o) (says_backward o) (may_stand r p (member_at ms a) (member_at ms b)) above
    (λ e f. stands_forward r p (member_at ms i) (member_at ms k) o is one other ∙ sym (λ j. may_stand r p (member_at ms (e j)) (member_at ms (f j))))
    (λ e f. stands_backward r p (member_at ms i) (member_at ms k) o is one other ∙ sym (λ j. may_stand r p (member_at ms (e j)) (member_at ms (f j))))

-- or passed over
pub away_read : (r : Region) (p : Seq) (ms : List Itv) (rows : List Places) (i k : ℕ) → i < k → is_away r (member_at ms k) ≡ true → AreRead r p ms rows i k → AreRead r p ms rows i (k + 1)
away_read r p ms rows i k above away before a b first second d =
    before a b first second d ∙ more_read i k a b false false (may_stand r p (member_at ms a) (member_at ms b)) above
    (λ e f. sym (away_second r p (member_at ms a) (member_at ms b) (ap (λ j. is_away r (member_at ms j)) f ∙ away)))
    (λ e f. sym (away_first r p (member_at ms a) (member_at ms b) (ap (λ j. is_away r (member_at ms j)) e ∙ away)))

pub row_ends : (r : Region) (p : Seq) (ms : List Itv) (rows : List Places) (i n : ℕ) → length ms ≤ n → AreRead r p ms rows i n → AreRead r p ms rows (i + 1) 0
row_ends r p ms rows i n whole before a b first second d = before a b first second d ∙ ap (λ t. t && may_stand r p (member_at ms a) (member_at ms b)) (row_read i n a b (omega (arith, first, whole)) (omega (arith, second, whole)))
