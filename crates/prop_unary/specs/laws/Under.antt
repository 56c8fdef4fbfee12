-- What a region tells of members under a guess it told before, or the guess tells it.
use Rattle.std.specs.Prelude.{◌≡◌, ◌⊎◌, ℕ, Bool, true, false, ◌&&◌, ◌||◌, nat_eq, nat_lt}
use Rattle.std.proofs.Common.{refl, sym, ap, subst, ◌∙◌, inl, inr, arith}
use Rattle.std.proofs.lemmas.Bool.{cases_eq, true≢false, or_parts}
use Rattle.std.proofs.lemmas.Bool.Decides.{nat_tests}
use Rattle.sched_base.specs.declared.ids.Itv.{Itv}
use Rattle.sched_base.specs.declared.ids.Seq.{Seq}
use Rattle.sched_model.specs.Data.{Data, same}
use Rattle.region.specs.declared.types.OrderCell.{OrderCell}
use Rattle.region.specs.declared.types.OrderCell.TheVariants.{Forward}
use Rattle.region.specs.declared.types.Topic.{Topic}
use Rattle.region.specs.declared.types.Topic.TheVariants.{One, Two}
use Rattle.region.specs.declared.types.Guess.{Guess}
use Rattle.region.specs.declared.types.Guess.TheVariants.{Present, Absent, StartLe, StartGe, EndLe, EndGe, Before}
use Rattle.region.specs.Claims.{guessed, as_present}
use Rattle.region.specs.Orders.{order_in, is_before, place_of, says_unknown, says_forward, says_backward, known_order, cell_at}
use Rattle.region.specs.Cells.{Region, bounds_of, cells_of, is_there, says_present}
use Rattle.region.specs.Guesses.{admits_topic, assumed, topic, with_bounds}
use Rattle.region.specs.Looks.{IsRegionOf}
use Rattle.region.specs.laws.Lists.{both_true, true_both}
use Rattle.region.specs.laws.OneSequence.{same_is, has_cases, before_told}
use Rattle.region.specs.laws.Intervals.{bounds_elsewhere}
use Rattle.region.specs.laws.Pairs.{paired, pairs_at, cells_there, cells_elsewhere}
use Rattle.refute_seq.specs.Standing.{precedes}
use Rattle.refute_seq.specs.Listed.{asks_order}
use Rattle.base_laws.specs.laws.Numbers.{turned_number}

-- a member doesn't stand before itself
no_place_before : (b : Bool) (c d : OrderCell) → b ≡ false → ((b && says_forward c) || (b && says_backward d)) ≡ false
no_place_before true c d h = absurd (true≢false h)
no_place_before false c d h = refl

pub never_itself : (r : Region) (p : Seq) (x : Itv) → precedes r p x x ≡ true → ⊥
never_itself r p x h =
    let n = place_of (cells_of r p).members x in
    true≢false (sym h ∙ no_place_before (nat_lt n n) (cell_at (cells_of r p).cells n n) (cell_at (cells_of r p).cells n n) (not_less n))
  where
    not_less : (n : ℕ) → nat_lt n n ≡ false
    not_less n = grind (arith, nat_tests)

pub apart : (r : Region) (p : Seq) (x y : Itv) → precedes r p x y ≡ true → same x y ≡ false
apart r p x y h = decided (same x y) refl
  where
    decided : (b : Bool) → same x y ≡ b → same x y ≡ false
    decided false is = is
    decided true is = absurd (never_itself r p x (subst (λ (z : Itv). precedes r p x z ≡ true) (sym (same_is x y is)) h))

number_itself : (n : ℕ) → nat_eq n n ≡ true
number_itself n = grind (arith, nat_tests)

told_here : (m : Data) (r : Region) (q : Seq) (u v x y : Itv) → IsRegionOf m r → admits_topic r (Two q u v) ≡ true → precedes (assumed (Two q u v) r) q x y ≡ true → (precedes r q x y ≡ true) ⊎ (asks_order q x y (Two q u v) ≡ true)
told_here m r q u v x y of free h =
    let o = paired r q u v free in
    let is = sym (before_told (cells_of r q) u v x y (pairs_at m r q of o.within) o.is_open) ∙ sym (ap (λ s. is_before s x y) (cells_there q u v (with_bounds u as_present (with_bounds v as_present r)) o.within)) ∙ h in
    elim (has_cases (is_before (cells_of r q) x y) (same u x && same v y) is) [
      | inl before ↦ inl before
      | inr new ↦ let two = both_true (same u x) (same v y) new in
          inr (true_both (nat_eq q.0 q.0 && same x u) (same y v) (true_both (nat_eq q.0 q.0) (same x u) (number_itself q.0) (turned_number u.0 x.0 two.0)) (turned_number v.0 y.0 two.1))
    ]

pub precedes_under : (m : Data) (r : Region) (t : Topic) (p : Seq) (x y : Itv) → IsRegionOf m r → admits_topic r t ≡ true → precedes (assumed t r) p x y ≡ true → (precedes r p x y ≡ true) ⊎ (asks_order p x y t ≡ true)
precedes_under m r (One z c) p x y of free h = inl h
precedes_under m r (Two q u v) p x y of free h = elim (cases_eq p.0 q.0) [
  | inl e ↦ here p (ap (λ n. record { 0 = n }) e) h
  | inr other ↦ inl (sym (ap (λ s. is_before s x y) (cells_elsewhere q p u v (with_bounds u as_present (with_bounds v as_present r)) other)) ∙ h)
]
  where
    here : (p : Seq) → p ≡ q → precedes (assumed (Two q u v) r) p x y ≡ true → (precedes r p x y ≡ true) ⊎ (asks_order p x y (Two q u v) ≡ true)
    here p e h = subst (λ (s : Seq). (precedes r s x y ≡ true) ⊎ (asks_order s x y (Two q u v) ≡ true)) (sym e) (told_here m r q u v x y of free (subst (λ (s : Seq). precedes (assumed (Two q u v) r) s x y ≡ true) e h))

-- presences
abbrev pub touches : Topic → Itv → Bool
touches (One z c) x = same x z
touches (Two p u v) x = same x u || same x v

pub different : (i j : ℕ) → i ≡ j → nat_eq i j ≡ false → ⊥
different i j e h = grind (arith, nat_tests)

pub bounds_untouched : (r : Region) (t : Topic) (x : Itv) → touches t x ≡ false → bounds_of (assumed t r) x ≡ bounds_of r x
bounds_untouched r (One z c) x off = bounds_elsewhere z x (guessed c) r (λ e. different x.0 z.0 e off)
bounds_untouched r (Two p u v) x off =
    let two = or_parts (same x u) (same x v) off in
    bounds_elsewhere u x as_present (with_bounds v as_present r) (λ e. different x.0 u.0 e two.0) ∙ bounds_elsewhere v x as_present r (λ e. different x.0 v.0 e two.1)

pub there_before : (r : Region) (t : Topic) (x : Itv) → touches t x ≡ false → is_there (assumed t r) x ≡ true → is_there r x ≡ true
there_before r t x off h = ap (λ c. says_present c.presence) (sym (bounds_untouched r t x off)) ∙ h

-- the guess that tells an order
same_seq : (p q : Seq) → nat_eq p.0 q.0 ≡ true → p ≡ q
same_seq p q h = let e : p.0 ≡ q.0 = grind (arith, nat_tests) in ap (λ n. record { 0 = n }) e

pub before_is : (p : Seq) (x y : Itv) (g : Guess) → asks_order p x y (topic g) ≡ true → g ≡ Before p x y
before_is p x y (Before q u v) h =
    let three = both_true (nat_eq p.0 q.0 && same x u) (same y v) h in
    let two = both_true (nat_eq p.0 q.0) (same x u) three.0 in
    same_three p q x u y v (same_seq p q two.0) (same_is x u two.1) (same_is y v three.1)
  where
    same_three : (p q : Seq) (x u y v : Itv) → p ≡ q → x ≡ u → y ≡ v → Before q u v ≡ Before p x y
    same_three p q x u y v e f g = rw (e, f, g) refl
before_is p x y (Present z) h = cc
before_is p x y (Absent z) h = cc
before_is p x y (StartLe z t) h = cc
before_is p x y (StartGe z t) h = cc
before_is p x y (EndLe z t) h = cc
before_is p x y (EndGe z t) h = cc

pub asks_itself : (p : Seq) (x y : Itv) → asks_order p x y (Two p x y) ≡ true
asks_itself p x y = true_both (nat_eq p.0 p.0 && same x x) (same y y) (true_both (nat_eq p.0 p.0) (same x x) (number_itself p.0) (itself x)) (itself y)
  where
    itself : (x : Itv) → same x x ≡ true
    itself x = grind (arith, nat_tests)

-- what is told isn't open
pub order_forward : (r : Region) (p : Seq) (x y : Itv) → precedes r p x y ≡ true → order_in (cells_of r p) x y ≡ Forward
order_forward r p x y h = forward (is_before (cells_of r p) x y) (is_before (cells_of r p) y x) h
  where
    forward : (b c : Bool) → b ≡ true → known_order b c ≡ Forward
    forward true c h = refl
    forward false c h = absurd (true≢false (sym h))

pub told_closed : (r : Region) (p : Seq) (x y : Itv) → precedes r p x y ≡ true → admits_topic r (Two p x y) ≡ true → ⊥
told_closed r p x y h free = true≢false (sym (paired r p x y free).is_open.unknown ∙ ap says_unknown (order_forward r p x y h))
