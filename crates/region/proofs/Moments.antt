-- Every number of a region is a moment or a length that small, and stays one.
use Rattle.std.specs.Prelude.{◌≡◌, ℕ, zero, suc, ◌+◌, ◌*◌, ◌<◌, ℤ, pos, ◌+ℤ◌, ◌-ℤ◌, Bool, true, false, not, ◌||◌, IsTrue, List, [], ◌∷◌, Option, Some, length, drop, int_le, int_lt, nat_eq, nat_lt, if◌then◌else◌}
use Rattle.std.specs.List.{list_all}
use Rattle.std.proofs.Common.{refl, ap, subst, ◌∙◌, arith, get_or, set, length-set}
use Rattle.std.proofs.lemmas.Int.{ints}
use Rattle.sched_model.specs.Words.{passes_if_any}
use Rattle.sched_model.specs.Valid.{is_moment}
use Rattle.region.specs.declared.types.SizeRange.{SizeRange}
use Rattle.region.specs.declared.types.Guess.{Guess}
use Rattle.region.specs.declared.types.Claim.{Claim}
use Rattle.region.specs.declared.types.Claim.TheVariants.{Present, Absent, StartLe, StartGe, EndLe, EndGe}
use Rattle.region.specs.declared.types.Topic.{Topic}
use Rattle.region.specs.declared.types.Topic.TheVariants.{One, Two}
use Rattle.region.specs.declared.types.Bounds.{Bounds}
use Rattle.region.specs.Cells.{unknown, bounds_of, says_absent}
use Rattle.region.specs.Claims.{is_open_at, guessed, as_present}
use Rattle.region.specs.Guesses.{topic, admits, admits_topic}
use Rattle.region.specs.Looks.{HasMoments}
use Rattle.region.specs.code.Flat.{Form, AreCells, is_range_of_moments, number_at, bounds_from, region_from, claim_number, denial_number, order_number, assumed_number, refused_number, bounds_under, members_at, IsLook}
use Rattle.region.specs.Orders.{place_of}
use Rattle.region.specs.laws.Lists.{both_true, true_both, all-at}
use Rattle.region.specs.laws.OneInterval.{ends}
use Rattle.region.specs.laws.Narrowing.{claimed}
use Rattle.region.proofs.Places.{bounds_at, number_from, named}

list_all-set : {X : Type 0} → (p : X → Bool) (xs : List X) (n : ℕ) (y : X) → list_all p xs ≡ true → p y ≡ true → list_all p (set xs n y) ≡ true
list_all-set p [] n y h here = refl
list_all-set p (x ∷ xs) zero y h here = true_both (p y) (list_all p xs) here (both_true (p x) (list_all p xs) h).1
list_all-set p (x ∷ xs) (suc n) y h here = let two = both_true (p x) (list_all p xs) h in true_both (p x) (list_all p (set xs n y)) two.0 (list_all-set p xs n y two.1 here)

pub cells_written : (f : Form) (cells : List ℤ) (i : ℕ) (v : ℤ) → AreCells f cells → is_moment v ≡ true → AreCells f (set cells i v)
cells_written f cells i v are here = record { count = length-set cells i v ∙ are.count; moments = list_all-set is_moment cells i v are.moments here; ranges = are.ranges }

pub bounds_moments : (f : Form) (cells : List ℤ) (n : ℕ) → AreCells f cells → n < length f.sizes → HasMoments (get_or (bounds_from f.sizes cells) n unknown)
bounds_moments f cells n are within = rw (bounds_at f.sizes cells n none within) (record { smin = at 1 (omega arith); smax = at 2 (omega arith); emin = at 3 (omega arith); emax = at 4 (omega arith); pmin = size.0; pmax = size.1 })
  where
    none : SizeRange
    none = record { least = pos 0; greatest = pos 0 }

    size : (is_moment (get_or f.sizes n none).least ≡ true) × (is_moment (get_or f.sizes n none).greatest ≡ true)
    size = both_true (is_moment (get_or f.sizes n none).least) (is_moment (get_or f.sizes n none).greatest) (all-at is_range_of_moments f.sizes n none are.ranges within)

    at : (k : ℕ) → k < 5 → is_moment (number_at (drop (5 * n) cells) k) ≡ true
    at k few = ap is_moment (number_from cells (5 * n) k) ∙ all-at is_moment cells (5 * n + k) (pos 0) are.moments (omega (arith, few, within, are.count))

-- what lies between moments is one
between : (a t b : ℤ) → is_moment a ≡ true → is_moment b ≡ true → int_le a t ≡ true → int_lt t b ≡ true → is_moment t ≡ true
between a t b h k from to = grind (arith, ints)

between_after : (a t b : ℤ) → is_moment a ≡ true → is_moment b ≡ true → int_lt a t ≡ true → int_le t b ≡ true → is_moment t ≡ true
between_after a t b h k from to = grind (arith, ints)

next : (a t b : ℤ) → is_moment a ≡ true → is_moment b ≡ true → int_le a t ≡ true → int_lt t b ≡ true → is_moment (t +ℤ pos 1) ≡ true
next a t b h k from to = grind (arith, ints)

last : (a t b : ℤ) → is_moment a ≡ true → is_moment b ≡ true → int_lt a t ≡ true → int_le t b ≡ true → is_moment (t -ℤ pos 1) ≡ true
last a t b h k from to = grind (arith, ints)

claim_moment_at : (g : Claim) (c : Bounds) → is_open_at g c ≡ true → HasMoments c → is_moment (claim_number g) ≡ true
claim_moment_at Present c h m = refl
claim_moment_at Absent c h m = refl
claim_moment_at (StartLe t) c h m = let e = ends (not (says_absent c.presence)) (int_le c.smin t) (int_lt t c.smax) h in between c.smin t c.smax m.smin m.smax e.0 e.1
claim_moment_at (StartGe t) c h m = let e = ends (not (says_absent c.presence)) (int_lt c.smin t) (int_le t c.smax) h in between_after c.smin t c.smax m.smin m.smax e.0 e.1
claim_moment_at (EndLe t) c h m = let e = ends (not (says_absent c.presence)) (int_le c.emin t) (int_lt t c.emax) h in between c.emin t c.emax m.emin m.emax e.0 e.1
claim_moment_at (EndGe t) c h m = let e = ends (not (says_absent c.presence)) (int_lt c.emin t) (int_le t c.emax) h in between_after c.emin t c.emax m.emin m.emax e.0 e.1

denial_moment_at : (g : Claim) (c : Bounds) → is_open_at g c ≡ true → HasMoments c → is_moment (denial_number g) ≡ true
denial_moment_at Present c h m = refl
denial_moment_at Absent c h m = refl
denial_moment_at (StartLe t) c h m = let e = ends (not (says_absent c.presence)) (int_le c.smin t) (int_lt t c.smax) h in next c.smin t c.smax m.smin m.smax e.0 e.1
denial_moment_at (StartGe t) c h m = let e = ends (not (says_absent c.presence)) (int_lt c.smin t) (int_le t c.smax) h in last c.smin t c.smax m.smin m.smax e.0 e.1
denial_moment_at (EndLe t) c h m = let e = ends (not (says_absent c.presence)) (int_le c.emin t) (int_lt t c.emax) h in next c.emin t c.emax m.emin m.emax e.0 e.1
denial_moment_at (EndGe t) c h m = let e = ends (not (says_absent c.presence)) (int_lt c.emin t) (int_le t c.emax) h in last c.emin t c.emax m.emin m.emax e.0 e.1

guessed_moments_at : (g : Claim) (c : Bounds) → is_moment (claim_number g) ≡ true → HasMoments c → HasMoments (guessed g c)
guessed_moments_at Present c h m = record { smin = m.smin; smax = m.smax; emin = m.emin; emax = m.emax; pmin = m.pmin; pmax = m.pmax }
guessed_moments_at Absent c h m = record { smin = m.smin; smax = m.smax; emin = m.emin; emax = m.emax; pmin = m.pmin; pmax = m.pmax }
guessed_moments_at (StartLe t) c h m = record { smin = m.smin; smax = h; emin = m.emin; emax = m.emax; pmin = m.pmin; pmax = m.pmax }
guessed_moments_at (StartGe t) c h m = record { smin = h; smax = m.smax; emin = m.emin; emax = m.emax; pmin = m.pmin; pmax = m.pmax }
guessed_moments_at (EndLe t) c h m = record { smin = m.smin; smax = m.smax; emin = m.emin; emax = h; pmin = m.pmin; pmax = m.pmax }
guessed_moments_at (EndGe t) c h m = record { smin = m.smin; smax = m.smax; emin = h; emax = m.emax; pmin = m.pmin; pmax = m.pmax }

order_moment : (i j : ℕ) → is_moment (order_number i j) ≡ true
order_moment i j = by_test (nat_lt i j)
  where
    by_test : (b : Bool) → is_moment (if b then pos 1 else pos 2) ≡ true
    by_test true = refl
    by_test false = refl

-- an admitted topic is open at moments
pub assumed_moment : (f : Form) (cells : List ℤ) (t : Topic) → AreCells f cells → admits_topic (region_from f cells) t ≡ true → is_moment (assumed_number f t) ≡ true
assumed_moment f cells (One x c) are h = claim_moment_at c (bounds_of (region_from f cells) x) (claimed (region_from f cells) x c h).is_open (bounds_moments f cells x.0 are (named f cells (One x c) h))
assumed_moment f cells (Two p x y) are h = order_moment (place_of (members_at f p) x) (place_of (members_at f p) y)

pub refused_moment : (f : Form) (cells : List ℤ) (t : Topic) → AreCells f cells → admits_topic (region_from f cells) t ≡ true → is_moment (refused_number f t) ≡ true
refused_moment f cells (One x c) are h = denial_moment_at c (bounds_of (region_from f cells) x) (claimed (region_from f cells) x c h).is_open (bounds_moments f cells x.0 are (named f cells (One x c) h))
refused_moment f cells (Two p x y) are h = order_moment (place_of (members_at f p) y) (place_of (members_at f p) x)

-- the bounds that a look shows
under_moments : (t : Topic) (f : Form) (cells : List ℤ) (n : ℕ) (b : Bounds) → AreCells f cells → admits_topic (region_from f cells) t ≡ true → HasMoments b → HasMoments (bounds_under t n b)
under_moments (One x c) f cells n b are h m = by_test (nat_eq x.0 n)
  where
    by_test : (s : Bool) → HasMoments (if s then guessed c b else b)
    by_test true = guessed_moments_at c b (assumed_moment f cells (One x c) are h) m
    by_test false = m
under_moments (Two p x y) f cells n b are h m = by_test (nat_eq x.0 n || nat_eq y.0 n)
  where
    by_test : (s : Bool) → HasMoments (if s then as_present b else b)
    by_test true = record { smin = m.smin; smax = m.smax; emin = m.emin; emax = m.emax; pmin = m.pmin; pmax = m.pmax }
    by_test false = m

pub shown_moments : (f : Form) (cells : List ℤ) (guess : Option Guess) (g : Guess) (n : ℕ) (b : Bounds) → IsLook f cells guess → guess ≡ Some g → HasMoments b → HasMoments (bounds_under (topic g) n b)
shown_moments f cells guess g n b look is m = under_moments (topic g) f cells n b look.are (subst (λ o. IsTrue (passes_if_any (admits (region_from f cells)) o)) is look.admitted) m
