-- The bars of a set as one, bar by bar.
use Rattle.std.specs.Prelude.{◌≡◌, ℕ, ◌+◌, ◌*◌, ◌^◌, ◌<◌, ◌≤◌, ℤ, pos, neg_ℤ, ◌+ℤ◌, ◌-ℤ◌, ◌*ℤ◌, ◌≤ℤ◌, int_lt, List, ◌∷◌, drop, length, map, IsTrue}
use Rattle.std.specs.Int.{int_max, int_min}
use Rattle.std.proofs.Common.{refl, sym, ap, ◌∙◌, arith, get_or}
use Rattle.std.proofs.lemmas.Int.{ints, int_max_is, int_min_is}
use Rattle.std.proofs.lemmas.List.{at_drop_all, at_drop_more}
use Rattle.sched_model.specs.Bounds.{is_moment}
use Rattle.region.specs.declared.types.Bounds.{Bounds}
use Rattle.region.specs.Looks.{HasMoments}
use Rattle.task_sets.specs.Times.{Times, est_from, lct_from, least_est, greatest_lct, sum_of}
use Rattle.refute_energy.specs.declared.bars.Bar.{Bar}
use Rattle.refute_energy.specs.Energy.{is_above}
use Rattle.refute_energy.specs.code.Bars.{Shows, ShowsSet, IsInRange, IsNear}

-- the bar of x and the first i of xs
pub record Gathered (d : ℕ → Times) (x : ℕ) (xs : List ℕ) (i : ℕ) (b : Bar) : Type 0 where
  pub est : est_from d b.est (drop i xs) ≡ least_est d x xs
  pub lct : lct_from d b.lct (drop i xs) ≡ greatest_lct d x xs
  pub energy : (b.energy +ℤ sum_of d (drop i xs)) ≡ sum_of d (x ∷ xs)
  pub starts : IsInRange b.est
  pub ends : IsInRange b.lct
  pub low : neg_ℤ (pos (2 ^ 94 * (i + 1))) ≤ℤ b.energy
  pub high : b.energy ≤ℤ pos (2 ^ 94 * (i + 1))

pub gathered_first : (d : ℕ → Times) (x : ℕ) (xs : List ℕ) (b : Bar) → Shows (d x) b → IsNear b → Gathered d x xs 0 b
gathered_first d x xs b shows near = record {
  est = ap (λ z. est_from d z xs) shows.est;
  lct = ap (λ z. lct_from d z xs) shows.lct;
  energy = ap (λ z. z +ℤ sum_of d xs) shows.energy;
  starts = near.est;
  ends = near.lct;
  low = omega (arith, ints, near.low);
  high = omega (arith, ints, near.high);
}

sooner : (a b : ℤ) → IsInRange a → IsInRange b → IsInRange (int_min a b)
sooner a b h k = (omega (arith, ints, int_min_is a b, h.0, k.0), omega (arith, ints, int_min_is a b, h.1, k.1))

later : (a b : ℤ) → IsInRange a → IsInRange b → IsInRange (int_max a b)
later a b h k = (omega (arith, ints, int_max_is a b, h.0, k.0), omega (arith, ints, int_max_is a b, h.1, k.1))

pub gathered_more : (d : ℕ → Times) (x : ℕ) (xs : List ℕ) (i : ℕ) (a b c : Bar) → i < length xs → Shows (d (get_or xs i 0)) b → IsNear b → c.est ≡ int_min a.est b.est → c.lct ≡ int_max a.lct b.lct → c.energy ≡ a.energy +ℤ b.energy → Gathered d x xs i a → Gathered d x xs (i + 1) c
gathered_more d x xs i a b c within shows near est lct energy so_far = record {
  est = ap (λ z. est_from d z (drop (i + 1) xs)) (est ∙ ap (int_min a.est) shows.est) ∙ sym (at_drop_more (est_from d a.est) xs i 0 within) ∙ so_far.est;
  lct = ap (λ z. lct_from d z (drop (i + 1) xs)) (lct ∙ ap (int_max a.lct) shows.lct) ∙ sym (at_drop_more (lct_from d a.lct) xs i 0 within) ∙ so_far.lct;
  energy = added a.energy b.energy c.energy (d (get_or xs i 0)).p (sum_of d (drop (i + 1) xs)) _ energy shows.energy (sym (at_drop_more (λ ys. a.energy +ℤ sum_of d ys) xs i 0 within) ∙ so_far.energy);
  starts = turned c.est _ est (sooner a.est b.est so_far.starts near.est);
  ends = turned c.lct _ lct (later a.lct b.lct so_far.ends near.lct);
  low = down i a.energy b.energy c.energy energy so_far.low near.low;
  high = up i a.energy b.energy c.energy energy so_far.high near.high;
}
  where
    added : (a b c p rest all : ℤ) → c ≡ a +ℤ b → b ≡ p → (a +ℤ (p +ℤ rest)) ≡ all → (c +ℤ rest) ≡ all
    added a b c p rest all h k l = omega (arith, ints, h, k, l)

    turned : (a b : ℤ) → a ≡ b → IsInRange b → IsInRange a
    turned a b h k = (omega (arith, ints, h, k.0), omega (arith, ints, h, k.1))

    down : (i : ℕ) (a b c : ℤ) → c ≡ a +ℤ b → neg_ℤ (pos (2 ^ 94 * (i + 1))) ≤ℤ a → neg_ℤ (pos (2 ^ 94)) ≤ℤ b → neg_ℤ (pos (2 ^ 94 * ((i + 1) + 1))) ≤ℤ c
    down i a b c h k l = omega (arith, ints, h, k, l)

    up : (i : ℕ) (a b c : ℤ) → c ≡ a +ℤ b → a ≤ℤ pos (2 ^ 94 * (i + 1)) → b ≤ℤ pos (2 ^ 94) → c ≤ℤ pos (2 ^ 94 * ((i + 1) + 1))
    up i a b c h k l = omega (arith, ints, h, k, l)

pub gathered_all : (d : ℕ → Times) (x : ℕ) (xs : List ℕ) (i : ℕ) (b : Bar) → length xs ≤ i → Gathered d x xs i b → ShowsSet (map d (x ∷ xs)) b
gathered_all d x xs i b past all = record {
  est = sym (at_drop_all (est_from d b.est) xs i past) ∙ all.est;
  lct = sym (at_drop_all (lct_from d b.lct) xs i past) ∙ all.lct;
  energy = whole b.energy _ (sym (at_drop_all (λ ys. b.energy +ℤ sum_of d ys) xs i past) ∙ all.energy);
}
  where
    whole : (a b : ℤ) → (a +ℤ pos 0) ≡ b → a ≡ b
    whole a b h = omega (arith, ints, h)

pub above_is : (hi : ℤ) (ts : List Times) (b : Bar) → ShowsSet ts b → int_lt (hi *ℤ (b.lct -ℤ b.est)) b.energy ≡ is_above hi ts
above_is hi ts b shows = rw (shows.est, shows.lct, shows.energy) refl

-- how much a set of few bars needs at most
pub low_enough : (i n : ℕ) (z : ℤ) → i < n → n < 2 ^ 32 → neg_ℤ (pos (2 ^ 94 * (i + 1))) ≤ℤ z → neg_ℤ (pos (2 ^ 126)) ≤ℤ z
low_enough i n z within few low = omega (arith, ints, within, few, low)

pub high_enough : (i n : ℕ) (z : ℤ) → i < n → n < 2 ^ 32 → z ≤ℤ pos (2 ^ 94 * (i + 1)) → z ≤ℤ pos (2 ^ 126)
high_enough i n z within few high = omega (arith, ints, within, few, high)

-- the bar of an interval
low_moment : (z : ℤ) → IsTrue (is_moment z) → neg_ℤ (pos 1000000000) ≤ℤ z
low_moment z h = grind (arith, ints, h)

high_moment : (z : ℤ) → IsTrue (is_moment z) → z ≤ℤ pos 1000000000
high_moment z h = grind (arith, ints, h)

pub near_from : (c : Bounds) (e a b z : ℤ) → HasMoments c → a ≡ c.smin → b ≡ c.emax → z ≡ e → neg_ℤ (pos (2 ^ 94)) ≤ℤ e → e ≤ℤ pos (2 ^ 94) → IsNear (record { est = a; lct = b; energy = z })
near_from c e a b z moments is_a is_b is_z low high = record {
  est = (let m = low_moment c.smin moments.smin in omega (arith, ints, is_a, m), let m = high_moment c.smin moments.smin in omega (arith, ints, is_a, m));
  lct = (let m = low_moment c.emax moments.emax in omega (arith, ints, is_b, m), let m = high_moment c.emax moments.emax in omega (arith, ints, is_b, m));
  low = omega (arith, ints, is_z, low);
  high = omega (arith, ints, is_z, high);
}
