-- The ids of members at some places, picked in rising order.
use Rattle.std.specs.Prelude.{◌≡◌, ℕ, zero, suc, ◌+◌, ◌-◌, ◌<◌, ◌≤◌, Bool, true, false, ◌||◌, nat_eq, List, [], ◌∷◌, ◌++◌, map, length}
use Rattle.std.proofs.Common.{refl, ap, subst, ◌∙◌, arith, take, get_or}
use Rattle.std.proofs.lemmas.Bool.Decides.{nat_tests}
use Rattle.base_laws.specs.laws.Numbers.{differs}
use Rattle.sched_base.specs.declared.ids.Itv.{Itv}
use Rattle.task_sets.specs.Times.{has}
use Rattle.task_sets.specs.laws.Ects.{up_from, keep}
use Rattle.prop_sets.specs.code.Busy.{IsNext, IsNextOf, name_at, ids_of}
use Rattle.prop_sets.proofs.Marking.{one_picked, one_passed, take_more, take_all}

-- names of a list of places, one after the other
has_push : (f : ℕ → ℕ) (xs : List ℕ) (y x : ℕ) → has (map f (xs ++ y ∷ [])) x ≡ (has (map f xs) x || nat_eq (f y) x)
has_push f [] y x = last (nat_eq (f y) x)
  where
    last : (b : Bool) → (b || false) ≡ b
    last true = refl
    last false = refl
has_push f (z ∷ zs) y x = step (nat_eq (f z) x) (has_push f zs y x)
  where
    step : (b : Bool) → has (map f (zs ++ y ∷ [])) x ≡ (has (map f zs) x || nat_eq (f y) x) → (b || has (map f (zs ++ y ∷ [])) x) ≡ ((b || has (map f zs) x) || nat_eq (f y) x)
    step true h = refl
    step false h = h

-- one place more
has_more : (xs : List Itv) (set : List ℕ) (k d x : ℕ) → k < length set → has (map (name_at xs) (take (k + 1) set)) x ≡ (has (map (name_at xs) (take k set)) x || nat_eq (name_at xs (get_or set k d)) x)
has_more xs set k d x low = ap (λ l. has (map (name_at xs) l) x) (take_more set k d low) ∙ has_push (name_at xs) (take k set) (get_or set k d) x

or_true : (a b : Bool) → b ≡ true → (a || b) ≡ true
or_true true b on = refl
or_true false b on = on

or_left : (a b : Bool) → a ≡ true → (a || b) ≡ true
or_left a b on = ap (λ c. c || b) on

is_itself : (n : ℕ) → nat_eq n n ≡ true
is_itself n = grind (arith, nat_tests)

pub none_next : (xs : List Itv) (set : List ℕ) (from n : ℕ) → from ≤ n → IsNextOf xs set 0 from n n
none_next xs set from n low = record { since = low; within = omega arith; there = λ less. absurd (omega (arith, less)); first = λ x l h. nothing set x }
  where
    nothing : (ks : List ℕ) (x : ℕ) → has (map (name_at xs) (take 0 ks)) x ≡ false
    nothing [] x = refl
    nothing (k ∷ ks) x = refl

pub one_nearer : (xs : List Itv) (set : List ℕ) (k d from n next : ℕ) → k < length set → from ≤ name_at xs (get_or set k d) → name_at xs (get_or set k d) < next → IsNextOf xs set k from n next → IsNextOf xs set (k + 1) from n (name_at xs (get_or set k d))
one_nearer xs set k d from n next low above below old =
    record {
      since = above;
      within = omega (arith, below, old.within);
      there = λ less. has_more xs set k d y low ∙ or_true (has (map (name_at xs) (take k set)) y) (nat_eq y y) (is_itself y);
      first = λ x l h. has_more xs set k d x low ∙ ap (λ b. b || nat_eq y x) (old.first x l (omega (arith, h, below))) ∙ differs y x (λ same. omega (arith, h, same));
    }
  where
    y : ℕ
    y = name_at xs (get_or set k d)

pub one_farther : (xs : List Itv) (set : List ℕ) (k d from n next : ℕ) → k < length set → (from ≤ name_at xs (get_or set k d) → name_at xs (get_or set k d) < next → ⊥) → IsNextOf xs set k from n next → IsNextOf xs set (k + 1) from n next
one_farther xs set k d from n next low not_nearer old =
    record {
      since = old.since;
      within = old.within;
      there = λ less. has_more xs set k d next low ∙ or_left (has (map (name_at xs) (take k set)) next) (nat_eq y next) (old.there less);
      first = λ x l h. has_more xs set k d x low ∙ ap (λ b. b || nat_eq y x) (old.first x l h) ∙ differs y x (λ same. not_nearer (omega (arith, l, same)) (omega (arith, h, same)));
    }
  where
    y : ℕ
    y = name_at xs (get_or set k d)

pub all_next : (xs : List Itv) (set : List ℕ) (k from n next : ℕ) → length set ≤ k → IsNextOf xs set k from n next → IsNext (map (name_at xs) set) from n next
all_next xs set k from n next whole is = subst (λ l. IsNext (map (name_at xs) l) from n next) (take_all set k whole) is

-- what lies between two ids isn't picked
passed : (t : ℕ → Bool) (a d : ℕ) (ids : List ℕ) → ((x : ℕ) → a ≤ x → x < a + d → t x ≡ false) → ids ≡ keep t (up_from 0 a) → ids ≡ keep t (up_from 0 (a + d))
passed t a zero ids none is = let here : a ≡ a + zero = omega arith in is ∙ ap (λ i. keep t (up_from 0 i)) here
passed t a (suc d) ids none is =
    let here : (a + d) + 1 ≡ a + suc d = omega arith in
    one_passed t (a + d) ids (none (a + d) (omega arith) (omega arith)) (passed t a d ids (λ x l h. none x l (omega (arith, h))) is) ∙ ap (λ i. keep t (up_from 0 i)) here

between : (t : ℕ → Bool) (a b : ℕ) (ids : List ℕ) → a ≤ b → ((x : ℕ) → a ≤ x → x < b → t x ≡ false) → ids ≡ keep t (up_from 0 a) → ids ≡ keep t (up_from 0 b)
between t a b ids low none is =
    let here : a + (b - a) ≡ b = omega (arith, low) in
    passed t a (b - a) ids (λ x l h. none x l (omega (arith, h, low))) is ∙ ap (λ i. keep t (up_from 0 i)) here

-- the ids below the next one are picked
pub record ArePicked (xs : List Itv) (set : List ℕ) (n x : ℕ) (ids : List ℕ) : Type 0 where
  pub picked : ids ≡ ids_of xs set x
  pub within : x ≤ n
  pub there : x < n → has (map (name_at xs) set) x ≡ true

pub first_next : (xs : List Itv) (set : List ℕ) (n x : ℕ) → IsNext (map (name_at xs) set) 0 n x → ArePicked xs set n x []
first_next xs set n x next = record { picked = between (has (map (name_at xs) set)) 0 x [] (omega arith) next.first refl; within = next.within; there = next.there }

pub next_picked : (xs : List Itv) (set ids : List ℕ) (n x y : ℕ) → x < n → IsNext (map (name_at xs) set) (x + 1) n y → ArePicked xs set n x ids → ArePicked xs set n y (ids ++ x ∷ [])
next_picked xs set ids n x y low next are =
    record { picked = between (has (map (name_at xs) set)) (x + 1) y (ids ++ x ∷ []) next.since next.first (one_picked (has (map (name_at xs) set)) x ids (are.there low) are.picked); within = next.within; there = next.there }

pub all_picked : (xs : List Itv) (set ids : List ℕ) (n x : ℕ) → n ≤ x → ArePicked xs set n x ids → ids ≡ ids_of xs set n
all_picked xs set ids n x whole are = let same : x ≡ n = omega (arith, whole, are.within) in are.picked ∙ ap (ids_of xs set) same
