-- The rule of the nodes holds: a row of places that are on begins in the right part, or it begins in the
-- left part and goes on through all of the right part.
use Rattle.std.proofs.Common.{◌≡◌, ℕ, ◌<◌, ◌≤◌, ℤ, ◌+ℤ◌, ◌≤ℤ◌, ◌<ℤ◌, Bool, true, false, cond, int_lt, Option, None, Some, IfSome, refl, inl, inr, arith}
use Rattle.std.specs.Option.{option_map}
use Rattle.std.proofs.lemmas.Bool.{cases_lt}
use Rattle.std.proofs.lemmas.Int.{ints}
use Rattle.envelope.specs.declared.node.Node.{Node}
use Rattle.envelope.specs.code.Bars.{Bars, is_on}
use Rattle.envelope.specs.code.Nodes.{greater_of, joined}
use Rattle.envelope.proofs.Rooms.{greater_in}
use Rattle.envelope.proofs.Parts.{IsAtMost, row_sum, reach_from, Reaches, HoldsPart}

-- the greater of two numbers is no less than each

first_below : (z a b : ℤ) → z ≤ℤ a → z ≤ℤ cond (int_lt a b) b a
first_below z a b h = picked (int_lt a b) refl
  where
    picked : (t : Bool) → int_lt a b ≡ t → z ≤ℤ cond t b a
    picked true is = let less : a <ℤ b = grind (arith, ints) in omega (arith, ints, h, less)
    picked false is = h

second_below : (z a b : ℤ) → z ≤ℤ b → z ≤ℤ cond (int_lt a b) b a
second_below z a b h = picked (int_lt a b) refl
  where
    picked : (t : Bool) → int_lt a b ≡ t → z ≤ℤ cond t b a
    picked true is = h
    picked false is = let less : b ≤ℤ a = grind (arith, ints) in omega (arith, ints, h, less)

pub at_first : (z : ℤ) (a b : Option ℤ) → IsAtMost z a → IsAtMost z (greater_of a b)
at_first z None b h = absurd h
at_first z (Some a) None h = h
at_first z (Some a) (Some b) h = first_below z a b h

pub at_second : (z : ℤ) (a b : Option ℤ) → IsAtMost z b → IsAtMost z (greater_of a b)
at_second z None b h = h
at_second z (Some a) None h = absurd h
at_second z (Some a) (Some b) h = second_below z a b h

-- rows that go on to the right

reaches_on : (t : Bars) (lo mid hi : ℕ) (z n : ℤ) → mid ≤ hi → n ≡ row_sum t mid hi → Reaches t lo mid z → Reaches t lo hi (z +ℤ n)
reaches_on t lo mid hi z n wide sum reaches = record {
  first = reaches.first;
  from = reaches.from;
  to = omega (arith, reaches.to);
  on = reaches.on;
  is = omega (arith, ints, sum, reaches.is);
}

reaches_right : (t : Bars) (lo mid hi : ℕ) (z : ℤ) → lo ≤ mid → Reaches t mid hi z → Reaches t lo hi z
reaches_right t lo mid hi z wide reaches = record {
  first = reaches.first;
  from = omega (arith, reaches.from);
  to = reaches.to;
  on = reaches.on;
  is = reaches.is;
}

-- the number of a join is reached

env_reached : (t : Bars) (lo mid hi : ℕ) (l r : Node) → lo ≤ mid → mid ≤ hi → HoldsPart t lo mid l → HoldsPart t mid hi r → IfSome (joined l r).env (Reaches t lo hi)
env_reached t lo mid hi l r wide wide' left right =
    greater_in (Reaches t lo hi) r.env (option_map (λ z. z +ℤ r.sum) l.env) (later_part r.env right.reached) (first_part l.env left.reached)
  where
    later_part : (o : Option ℤ) → IfSome o (Reaches t mid hi) → IfSome o (Reaches t lo hi)
    later_part None reaches = tt
    later_part (Some z) reaches = reaches_right t lo mid hi z wide reaches

    first_part : (o : Option ℤ) → IfSome o (Reaches t lo mid) → IfSome (option_map (λ z. z +ℤ r.sum) o) (Reaches t lo hi)
    first_part None reaches = tt
    first_part (Some z) reaches = reaches_on t lo mid hi z r.sum wide' right.sum reaches

-- and no row passes it

env_greatest : (t : Bars) (lo mid hi : ℕ) (l r : Node) → HoldsPart t lo mid l → HoldsPart t mid hi r
    → (j : ℕ) → lo ≤ j → j < hi → is_on t j ≡ true → IsAtMost (reach_from t j hi) (joined l r).env
env_greatest t lo mid hi l r left right j from to on_j = elim (cases_lt j mid) [
  | inl before ↦ at_second (reach_from t j hi) r.env (option_map (λ z. z +ℤ r.sum) l.env) (on l.env (left.greatest j from before on_j))
  | inr after ↦ at_first (reach_from t j hi) r.env (option_map (λ z. z +ℤ r.sum) l.env) (right.greatest j after to on_j)
]
  where
    on : (o : Option ℤ) → IsAtMost (reach_from t j mid) o → IsAtMost (reach_from t j hi) (option_map (λ z. z +ℤ r.sum) o)
    on None h = absurd h
    on (Some z) h = omega (arith, ints, h, right.sum)

pub joined_holds : (t : Bars) (lo mid hi : ℕ) (l r : Node) → lo ≤ mid → mid ≤ hi → HoldsPart t lo mid l → HoldsPart t mid hi r → HoldsPart t lo hi (joined l r)
joined_holds t lo mid hi l r wide wide' left right = record {
  sum = omega (arith, ints, left.sum, right.sum);
  reached = env_reached t lo mid hi l r wide wide' left right;
  greatest = env_greatest t lo mid hi l r left right;
}
