-- Whom each member of a sequence is told to stand before, as sets of places.
use Rattle.std.specs.Prelude.{◌≡◌, ℕ, ◌<◌, ◌/◌, ◌%◌, Bool, false, not, ◌&&◌, ◌||◌, List, length, slice_index_or, nat_eq, nat_lt}
use Rattle.std.specs.Int.{bit_at}
use Rattle.sched_base.specs.declared.ids.Itv.{Itv}
use Rattle.sched_base.specs.declared.ids.Seq.{Seq}
use Rattle.region.specs.declared.types.OrderCell.{OrderCell}
use Rattle.region.specs.Orders.{says_forward, says_backward}
use Rattle.region.specs.Cells.{Region}
use Rattle.refute_seq.specs.Standing.{precedes, is_away}
use Rattle.prop_unary.specs.declared.places.Places.{Places}

-- a place is in the set where its bit is 1
abbrev pub has_word : ℕ → ℕ → Bool
has_word word b = nat_eq (bit_at word b) 1

abbrev pub has_place : Places → ℕ → Bool
has_place s k = has_word (slice_index_or s.words (k / 64) 0) (k % 64)

-- neither of two members is absent, and the first is told to stand before the second
abbrev pub may_stand : Region → Seq → Itv → Itv → Bool
may_stand r p x y = not (is_away r x) && not (is_away r y) && precedes r p x y

-- the member at a place
abbrev pub member_at : List Itv → ℕ → Itv
member_at xs k = slice_index_or xs k (record { 0 = 0 })

-- the places of those that one may stand before
abbrev pub IsRow : Region → Seq → Itv → List Itv → Places → Type 0
IsRow r p x ys s = (k : ℕ) → k < length ys → has_place s k ≡ may_stand r p x (member_at ys k)

-- one for each of some members
abbrev pub AreRows : Region → Seq → List Itv → List Itv → List Places → Type 0
AreRows r p xs ys rows = (k : ℕ) → k < length xs → (d : Places) → IsRow r p (member_at xs k) ys (slice_index_or rows k d)

abbrev pub AreEmpty : List Places → ℕ → Type 0
AreEmpty rows n = (a : ℕ) → a < n → (d : Places) (b : ℕ) → has_place (slice_index_or rows a d) b ≡ false

-- the order of the members at two places is in their rows
abbrev pub IsOrderNoted : OrderCell → ℕ → ℕ → List Places → List Places → Type 0
IsOrderNoted o i k old new = (a b : ℕ) (d : Places) → has_place (slice_index_or new a d) b ≡ ((says_forward o && nat_eq a i && nat_eq b k) || (says_backward o && nat_eq a k && nat_eq b i) || has_place (slice_index_or old a d) b)

-- the orders of the members below a place are read, and of the one at it those with the members below another
abbrev pub is_read : ℕ → ℕ → ℕ → ℕ → Bool
is_read i k a b = nat_lt a i || nat_lt b i || (nat_eq a i && nat_lt b k) || (nat_eq b i && nat_lt a k)

-- the rows tell the orders that are read, and no others
abbrev pub AreRead : Region → Seq → List Itv → List Places → ℕ → ℕ → Type 0
AreRead r p ms rows i k = (a b : ℕ) → a < length ms → b < length ms → (d : Places) → has_place (slice_index_or rows a d) b ≡ (is_read i k a b && may_stand r p (member_at ms a) (member_at ms b))
