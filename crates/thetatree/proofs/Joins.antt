-- The rules of the nodes hold: a row of white places with at most one gray place begins in the right
-- part, or it begins in the left part and goes on through all of the right part.
use Rattle.std.proofs.Common.{◌≡◌, ℕ, ◌<◌, ◌≤◌, ℤ, pos, ◌+ℤ◌, ◌≤ℤ◌, ◌<ℤ◌, Bool, true, false, cond, int_lt, Option, None, Some, IfSome, refl, inl, inr, arith}
use Rattle.std.specs.Option.{option_map}
use Rattle.std.proofs.lemmas.Bool.{cases_lt}
use Rattle.std.proofs.lemmas.Int.{ints}
use Rattle.thetatree.specs.declared.node.Best.{Best}
use Rattle.thetatree.specs.declared.node.Node.{Node}
use Rattle.thetatree.specs.code.Leaves.{Leaves, task_at}
use Rattle.thetatree.specs.code.Nodes.{greater_of, later, better, best_of, joined}
use Rattle.thetatree.proofs.Rooms.{greater_in, better_in, best_in}
use Rattle.thetatree.proofs.Parts.{IsAtMost, white_sum, extra, Begins, Within, end_from, Reaches, AtMostBest, HoldsPart}

-- the greater of two numbers is no less than each

first_below : (z a b : ℤ) → z ≤ℤ a → z ≤ℤ cond (int_lt a b) b a
first_below z a b h = picked (int_lt a b) refl
  where
    picked : (t : Bool) → int_lt a b ≡ t → z ≤ℤ cond t b a
    picked true is = let less : a <ℤ b = grind (arith, ints) in omega (arith, ints, h, less)
    picked false is = h

second_below : (z a b : ℤ) → z ≤ℤ b → z ≤ℤ cond (int_lt a b) b a
second_below z a b h = picked (int_lt a b) refl
  where
    picked : (t : Bool) → int_lt a b ≡ t → z ≤ℤ cond t b a
    picked true is = h
    picked false is = let less : b ≤ℤ a = grind (arith, ints) in omega (arith, ints, h, less)

pub at_first : (z : ℤ) (a b : Option ℤ) → IsAtMost z a → IsAtMost z (greater_of a b)
at_first z None b h = absurd h
at_first z (Some a) None h = h
at_first z (Some a) (Some b) h = first_below z a b h

pub at_second : (z : ℤ) (a b : Option ℤ) → IsAtMost z b → IsAtMost z (greater_of a b)
at_second z None b h = h
at_second z (Some a) None h = absurd h
at_second z (Some a) (Some b) h = second_below z a b h

better_first : (z : ℤ) (a b : Best) → z ≤ℤ a.value → z ≤ℤ (better a b).value
better_first z a b h = picked (int_lt a.value b.value) refl
  where
    picked : (t : Bool) → int_lt a.value b.value ≡ t → z ≤ℤ (cond t b a).value
    picked true is = let less : a.value <ℤ b.value = grind (arith, ints) in omega (arith, ints, h, less)
    picked false is = h

better_second : (z : ℤ) (a b : Best) → z ≤ℤ b.value → z ≤ℤ (better a b).value
better_second z a b h = picked (int_lt a.value b.value) refl
  where
    picked : (t : Bool) → int_lt a.value b.value ≡ t → z ≤ℤ (cond t b a).value
    picked true is = h
    picked false is = let less : b.value ≤ℤ a.value = grind (arith, ints) in omega (arith, ints, h, less)

best_first : (z : ℤ) (a b : Option Best) → AtMostBest z a → AtMostBest z (best_of a b)
best_first z None b h = absurd h
best_first z (Some a) None h = h
best_first z (Some a) (Some b) h = better_first z a b h

best_second : (z : ℤ) (a b : Option Best) → AtMostBest z b → AtMostBest z (best_of a b)
best_second z None b h = h
best_second z (Some a) None h = absurd h
best_second z (Some a) (Some b) h = better_second z a b h

-- rows that go on to the right

begins_wider : (t : Leaves) (j mid hi : ℕ) (gray : Option ℕ) → mid ≤ hi → Begins t j mid gray → Begins t j hi gray
begins_wider t j mid hi None wide begins = begins
begins_wider t j mid hi (Some g) wide begins = (begins.0, omega (arith, begins.1), begins.2, begins.3)

reaches_on : (t : Leaves) (lo mid hi : ℕ) (z n : ℤ) (gray : Option ℕ) → mid ≤ hi → n ≡ white_sum t mid hi → Reaches t lo mid z gray → Reaches t lo hi (z +ℤ n) gray
reaches_on t lo mid hi z n gray wide sum reaches = record {
  first = reaches.first;
  from = reaches.from;
  to = omega (arith, reaches.to);
  begins = begins_wider t reaches.first mid hi gray wide reaches.begins;
  is = omega (arith, ints, sum, reaches.is);
}

reaches_right : (t : Leaves) (lo mid hi : ℕ) (z : ℤ) (gray : Option ℕ) → lo ≤ mid → Reaches t mid hi z gray → Reaches t lo hi z gray
reaches_right t lo mid hi z gray wide reaches = record {
  first = reaches.first;
  from = omega (arith, reaches.from);
  to = reaches.to;
  begins = reaches.begins;
  is = reaches.is;
}

begins_gray : (t : Leaves) (j mid hi : ℕ) (gray : Option ℕ) → j < mid → Within t mid hi gray → Begins t j mid None → Begins t j hi gray
begins_gray t j mid hi None before within begins = begins
begins_gray t j mid hi (Some g) before within begins = (omega (arith, within.0), within.1, within.2, inl begins)

reaches_gray : (t : Leaves) (lo mid hi : ℕ) (z : ℤ) (b : Best) → mid ≤ hi → Within t mid hi b.leaf → b.value ≡ white_sum t mid hi +ℤ extra t b.leaf
    → Reaches t lo mid z None → Reaches t lo hi (b.value +ℤ z) b.leaf
reaches_gray t lo mid hi z b wide within is reaches = record {
  first = reaches.first;
  from = reaches.from;
  to = omega (arith, reaches.to);
  begins = begins_gray t reaches.first mid hi b.leaf reaches.to within reaches.begins;
  is = omega (arith, ints, is, reaches.is);
}

within_left : (t : Leaves) (lo mid hi : ℕ) (gray : Option ℕ) → mid ≤ hi → Within t lo mid gray → Within t lo hi gray
within_left t lo mid hi None wide within = tt
within_left t lo mid hi (Some g) wide within = (within.0, omega (arith, within.1), within.2)

within_right : (t : Leaves) (lo mid hi : ℕ) (gray : Option ℕ) → lo ≤ mid → Within t mid hi gray → Within t lo hi gray
within_right t lo mid hi None wide within = tt
within_right t lo mid hi (Some g) wide within = (omega (arith, within.0), within.1, within.2)

-- each number of a join is reached

ect_reached : (t : Leaves) (lo mid hi : ℕ) (l r : Node) → lo ≤ mid → mid ≤ hi → HoldsPart t lo mid l → HoldsPart t mid hi r → IfSome (joined l r).ect (λ z. Reaches t lo hi z None)
ect_reached t lo mid hi l r wide wide' left right =
    greater_in (λ z. Reaches t lo hi z None) r.ect (option_map (λ z. z +ℤ r.sum) l.ect) (later_part r.ect right.ect_reached) (first_part l.ect left.ect_reached)
  where
    later_part : (o : Option ℤ) → IfSome o (λ z. Reaches t mid hi z None) → IfSome o (λ z. Reaches t lo hi z None)
    later_part None reaches = tt
    later_part (Some z) reaches = reaches_right t lo mid hi z None wide reaches

    first_part : (o : Option ℤ) → IfSome o (λ z. Reaches t lo mid z None) → IfSome (option_map (λ z. z +ℤ r.sum) o) (λ z. Reaches t lo hi z None)
    first_part None reaches = tt
    first_part (Some z) reaches = reaches_on t lo mid hi z r.sum None wide' right.sum reaches

gray_ect_reached : (t : Leaves) (lo mid hi : ℕ) (l r : Node) → lo ≤ mid → mid ≤ hi → HoldsPart t lo mid l → HoldsPart t mid hi r → IfSome (joined l r).gray_ect (λ b. Reaches t lo hi b.value b.leaf)
gray_ect_reached t lo mid hi l r wide wide' left right =
    best_in (λ b. Reaches t lo hi b.value b.leaf) r.gray_ect (best_of (option_map (later r.sum) l.gray_ect) (option_map (λ z. later z r.gray_sum) l.ect))
    (later_part r.gray_ect right.gray_ect_reached)
    (best_in (λ b. Reaches t lo hi b.value b.leaf) (option_map (later r.sum) l.gray_ect) (option_map (λ z. later z r.gray_sum) l.ect)
    (gray_first l.gray_ect left.gray_ect_reached) (gray_after l.ect left.ect_reached))
  where
    later_part : (o : Option Best) → IfSome o (λ b. Reaches t mid hi b.value b.leaf) → IfSome o (λ b. Reaches t lo hi b.value b.leaf)
    later_part None reaches = tt
    later_part (Some b) reaches = reaches_right t lo mid hi b.value b.leaf wide reaches

    gray_first : (o : Option Best) → IfSome o (λ b. Reaches t lo mid b.value b.leaf) → IfSome (option_map (later r.sum) o) (λ b. Reaches t lo hi b.value b.leaf)
    gray_first None reaches = tt
    gray_first (Some b) reaches = reaches_on t lo mid hi b.value r.sum b.leaf wide' right.sum reaches

    gray_after : (o : Option ℤ) → IfSome o (λ z. Reaches t lo mid z None) → IfSome (option_map (λ z. later z r.gray_sum) o) (λ b. Reaches t lo hi b.value b.leaf)
    gray_after None reaches = tt
    gray_after (Some z) reaches = reaches_gray t lo mid hi z r.gray_sum wide' right.gray_sum_within right.gray_sum_is reaches

-- and no row passes it

ect_greatest : (t : Leaves) (lo mid hi : ℕ) (l r : Node) → HoldsPart t lo mid l → HoldsPart t mid hi r
    → (j : ℕ) → lo ≤ j → j < hi → Begins t j hi None → IsAtMost (end_from t j hi None) (joined l r).ect
ect_greatest t lo mid hi l r left right j from to begins = elim (cases_lt j mid) [
  | inl before ↦ at_second (end_from t j hi None) r.ect (option_map (λ z. z +ℤ r.sum) l.ect) (on l.ect (left.ect_greatest j from before begins))
  | inr after ↦ at_first (end_from t j hi None) r.ect (option_map (λ z. z +ℤ r.sum) l.ect) (right.ect_greatest j after to begins)
]
  where
    on : (o : Option ℤ) → IsAtMost (end_from t j mid None) o → IsAtMost (end_from t j hi None) (option_map (λ z. z +ℤ r.sum) o)
    on None h = absurd h
    on (Some z) h = omega (arith, ints, h, right.sum)

gray_sum_greatest : (t : Leaves) (lo mid hi : ℕ) (l r : Node) → HoldsPart t lo mid l → HoldsPart t mid hi r
    → (gray : Option ℕ) → Within t lo hi gray → (white_sum t lo hi +ℤ extra t gray) ≤ℤ (joined l r).gray_sum.value
gray_sum_greatest t lo mid hi l r left right None within = better_first (white_sum t lo hi +ℤ pos 0) (later r.sum l.gray_sum) (later l.sum r.gray_sum)
    (omega (arith, ints, left.gray_sum_greatest None tt, right.sum))
gray_sum_greatest t lo mid hi l r left right (Some g) within = elim (cases_lt g mid) [
  | inl before ↦ better_first (white_sum t lo hi +ℤ (task_at t g).p) (later r.sum l.gray_sum) (later l.sum r.gray_sum)
      (omega (arith, ints, left.gray_sum_greatest (Some g) (within.0, before, within.2), right.sum))
  | inr after ↦ better_second (white_sum t lo hi +ℤ (task_at t g).p) (later r.sum l.gray_sum) (later l.sum r.gray_sum)
      (omega (arith, ints, right.gray_sum_greatest (Some g) (after, within.1, within.2), left.sum))
]

-- a row from a white place of the left part, with a gray place of the right part or none
row_across : (t : Leaves) (lo mid hi : ℕ) (l r : Node) → HoldsPart t lo mid l → HoldsPart t mid hi r
    → (gray : Option ℕ) (j : ℕ) → lo ≤ j → j < mid → Begins t j mid None → Within t mid hi gray → AtMostBest (end_from t j hi gray) (joined l r).gray_ect
row_across t lo mid hi l r left right gray j from before begins within =
    best_second (end_from t j hi gray) r.gray_ect (best_of (option_map (later r.sum) l.gray_ect) (option_map (λ z. later z r.gray_sum) l.ect))
    (best_second (end_from t j hi gray) (option_map (later r.sum) l.gray_ect) (option_map (λ z. later z r.gray_sum) l.ect)
    (on l.ect (left.ect_greatest j from before begins)))
  where
    on : (o : Option ℤ) → IsAtMost (end_from t j mid None) o → AtMostBest (end_from t j hi gray) (option_map (λ z. later z r.gray_sum) o)
    on None h = absurd h
    on (Some z) h = omega (arith, ints, h, right.gray_sum_greatest gray within)

-- a row with its gray place in the left part
row_left : (t : Leaves) (lo mid hi : ℕ) (l r : Node) → HoldsPart t lo mid l → HoldsPart t mid hi r
    → (gray : Option ℕ) (j : ℕ) → lo ≤ j → j < mid → Begins t j mid gray → AtMostBest (end_from t j hi gray) (joined l r).gray_ect
row_left t lo mid hi l r left right gray j from before begins =
    best_second (end_from t j hi gray) r.gray_ect (best_of (option_map (later r.sum) l.gray_ect) (option_map (λ z. later z r.gray_sum) l.ect))
    (best_first (end_from t j hi gray) (option_map (later r.sum) l.gray_ect) (option_map (λ z. later z r.gray_sum) l.ect)
    (on l.gray_ect (left.gray_ect_greatest gray j from before begins)))
  where
    on : (o : Option Best) → AtMostBest (end_from t j mid gray) o → AtMostBest (end_from t j hi gray) (option_map (later r.sum) o)
    on None h = absurd h
    on (Some b) h = omega (arith, ints, h, right.sum)

-- a row that begins in the left part
row_from_left : (t : Leaves) (lo mid hi : ℕ) (l r : Node) → HoldsPart t lo mid l → HoldsPart t mid hi r
    → (gray : Option ℕ) (j : ℕ) → lo ≤ j → j < mid → Begins t j hi gray → AtMostBest (end_from t j hi gray) (joined l r).gray_ect
row_from_left t lo mid hi l r left right None j from before begins = row_across t lo mid hi l r left right None j from before begins tt
row_from_left t lo mid hi l r left right (Some g) j from before begins = elim (cases_lt g mid) [
  | inl gray_left ↦ row_left t lo mid hi l r left right (Some g) j from before (begins.0, gray_left, begins.2, begins.3)
  | inr gray_right ↦ elim begins.3 [
    | inl white ↦ row_across t lo mid hi l r left right (Some g) j from before white (gray_right, begins.1, begins.2)
    | inr same ↦ absurd (omega (arith, gray_right, before, same))
  ]
]

gray_ect_greatest : (t : Leaves) (lo mid hi : ℕ) (l r : Node) → HoldsPart t lo mid l → HoldsPart t mid hi r
    → (gray : Option ℕ) (j : ℕ) → lo ≤ j → j < hi → Begins t j hi gray → AtMostBest (end_from t j hi gray) (joined l r).gray_ect
gray_ect_greatest t lo mid hi l r left right gray j from to begins = elim (cases_lt j mid) [
  | inl before ↦ row_from_left t lo mid hi l r left right gray j from before begins
  | inr after ↦ best_first (end_from t j hi gray) r.gray_ect (best_of (option_map (later r.sum) l.gray_ect) (option_map (λ z. later z r.gray_sum) l.ect))
      (right.gray_ect_greatest gray j after to begins)
]

pub joined_holds : (t : Leaves) (lo mid hi : ℕ) (l r : Node) → lo ≤ mid → mid ≤ hi → HoldsPart t lo mid l → HoldsPart t mid hi r → HoldsPart t lo hi (joined l r)
joined_holds t lo mid hi l r wide wide' left right = record {
  sum = omega (arith, ints, left.sum, right.sum);
  ect_reached = ect_reached t lo mid hi l r wide wide' left right;
  ect_greatest = ect_greatest t lo mid hi l r left right;
  gray_sum_within = better_in (λ b. Within t lo hi b.leaf) (later r.sum l.gray_sum) (later l.sum r.gray_sum)
      (within_left t lo mid hi l.gray_sum.leaf wide' left.gray_sum_within) (within_right t lo mid hi r.gray_sum.leaf wide right.gray_sum_within);
  gray_sum_is = better_in (λ b. b.value ≡ white_sum t lo hi +ℤ extra t b.leaf) (later r.sum l.gray_sum) (later l.sum r.gray_sum)
      (omega (arith, ints, left.gray_sum_is, right.sum)) (omega (arith, ints, left.sum, right.gray_sum_is));
  gray_sum_greatest = gray_sum_greatest t lo mid hi l r left right;
  gray_ect_reached = gray_ect_reached t lo mid hi l r wide wide' left right;
  gray_ect_greatest = gray_ect_greatest t lo mid hi l r left right;
}
