-- Guesses of one form, one moment weaker than the other, and where a search by halving ends.
use Rattle.std.specs.Prelude.{◌≡◌, ◌⊎◌, ℕ, ◌+◌, ◌<◌, ◌≤◌, ℤ, pos, ◌+ℤ◌, ◌-ℤ◌, Bool, true, false, not, ◌&&◌, Some, None, length, nat_lt, int_le, int_lt, unsigned_abs}
use Rattle.std.proofs.Common.{refl, sym, ap, subst, ◌∙◌, inl, inr, arith}
use Rattle.std.proofs.lemmas.Int.{ints}
use Rattle.std.proofs.lemmas.Bool.Decides.{nat_tests}
use Rattle.sched_base.specs.declared.ids.Itv.{Itv}
use Rattle.sched_model.specs.Words.{passes_if_any}
use Rattle.region.specs.declared.types.Guess.{Guess}
use Rattle.region.specs.declared.types.Guess.TheVariants.{Present, Absent, StartLe, StartGe, EndLe, EndGe, Before}
use Rattle.region.specs.Cells.{Region, bounds_of, says_absent}
use Rattle.region.specs.Guesses.{admits}
use Rattle.region.specs.Tight.{unless_past, weaker, is_tight, moved, steps, IsTightened}
use Rattle.region.specs.laws.Lists.{both_true, true_both}

-- the tests of an open bound
record IsOpenBound (r : Region) (x : Itv) (here from to : Bool) : Type 0 where
  within : nat_lt x.0 (length r.bounds) ≡ true
  there : here ≡ true
  low : from ≡ true
  high : to ≡ true

bound : (r : Region) (x : Itv) (here low high : Bool) → (nat_lt x.0 (length r.bounds) && (here && low && high)) ≡ true → IsOpenBound r x here low high
bound r x here low high h =
    let two = both_true (nat_lt x.0 (length r.bounds)) (here && low && high) h in
    let three = both_true (here && low) high two.1 in
    let pair = both_true here low three.0 in
    record { within = two.0; there = pair.0; low = pair.1; high = three.1 }

bound_back : (r : Region) (x : Itv) (here low high low' high' : Bool) → IsOpenBound r x here low high → low' ≡ true → high' ≡ true → (nat_lt x.0 (length r.bounds) && (here && low' && high')) ≡ true
bound_back r x here low high low' high' o h k = true_both (nat_lt x.0 (length r.bounds)) _ o.within (true_both (here && low') high' (true_both here low' o.there h) k)

-- of the four forms on a bound
abbrev there_at : Region → Itv → Bool
there_at r x = not (says_absent (bounds_of r x).presence)

start_le : (r : Region) (x : Itv) (t : ℤ) → admits r (StartLe x t) ≡ true → IsOpenBound r x (there_at r x) (int_le (bounds_of r x).smin t) (int_lt t (bounds_of r x).smax)
start_le r x t h = bound r x (there_at r x) (int_le (bounds_of r x).smin t) (int_lt t (bounds_of r x).smax) h

start_ge : (r : Region) (x : Itv) (t : ℤ) → admits r (StartGe x t) ≡ true → IsOpenBound r x (there_at r x) (int_lt (bounds_of r x).smin t) (int_le t (bounds_of r x).smax)
start_ge r x t h = bound r x (there_at r x) (int_lt (bounds_of r x).smin t) (int_le t (bounds_of r x).smax) h

end_le : (r : Region) (x : Itv) (t : ℤ) → admits r (EndLe x t) ≡ true → IsOpenBound r x (there_at r x) (int_le (bounds_of r x).emin t) (int_lt t (bounds_of r x).emax)
end_le r x t h = bound r x (there_at r x) (int_le (bounds_of r x).emin t) (int_lt t (bounds_of r x).emax) h

end_ge : (r : Region) (x : Itv) (t : ℤ) → admits r (EndGe x t) ≡ true → IsOpenBound r x (there_at r x) (int_lt (bounds_of r x).emin t) (int_le t (bounds_of r x).emax)
end_ge r x t h = bound r x (there_at r x) (int_lt (bounds_of r x).emin t) (int_le t (bounds_of r x).emax) h

-- moved upwards and downwards within the cell
up_low : (a t b : ℤ) (k : ℕ) → int_le a t ≡ true → int_le a (t +ℤ pos k) ≡ true
up_low a t b k h = grind (arith, ints)

up_high : (a t b : ℤ) (k : ℕ) → int_lt t b ≡ true → k < unsigned_abs (b -ℤ t) → int_lt (t +ℤ pos k) b ≡ true
up_high a t b k h w = grind (arith, ints)

down_low : (a t b : ℤ) (k : ℕ) → int_lt a t ≡ true → k < unsigned_abs (t -ℤ a) → int_lt a (t -ℤ pos k) ≡ true
down_low a t b k h w = grind (arith, ints)

down_high : (a t b : ℤ) (k : ℕ) → int_le t b ≡ true → int_le (t -ℤ pos k) b ≡ true
down_high a t b k h = grind (arith, ints)

pub moved_admits : (r : Region) (g : Guess) (k : ℕ) → admits r g ≡ true → k < steps r g → admits r (moved g k) ≡ true
moved_admits r (Present x) k h w = h
moved_admits r (Absent x) k h w = h
moved_admits r (Before p x y) k h w = h
moved_admits r (StartLe x t) k h w = let o = start_le r x t h in bound_back r x _ _ _ _ _ o (up_low (bounds_of r x).smin t (bounds_of r x).smax k o.low) (up_high (bounds_of r x).smin t (bounds_of r x).smax k o.high w)
moved_admits r (StartGe x t) k h w = let o = start_ge r x t h in bound_back r x _ _ _ _ _ o (down_low (bounds_of r x).smin t (bounds_of r x).smax k o.low w) (down_high (bounds_of r x).smin t (bounds_of r x).smax k o.high)
moved_admits r (EndLe x t) k h w = let o = end_le r x t h in bound_back r x _ _ _ _ _ o (up_low (bounds_of r x).emin t (bounds_of r x).emax k o.low) (up_high (bounds_of r x).emin t (bounds_of r x).emax k o.high w)
moved_admits r (EndGe x t) k h w = let o = end_ge r x t h in bound_back r x _ _ _ _ _ o (down_low (bounds_of r x).emin t (bounds_of r x).emax k o.low w) (down_high (bounds_of r x).emin t (bounds_of r x).emax k o.high)

-- the next weaker guess is the one moved by one moment
past : (b : Bool) (g : Guess) → b ≡ true → None ≡ unless_past b g
past true g h = refl
past false g h = cc

not_past : (b : Bool) (g : Guess) → b ≡ false → Some g ≡ unless_past b g
not_past true g h = cc
not_past false g h = refl

up_end : (t b : ℤ) → int_lt t b ≡ true → unsigned_abs (b -ℤ t) ≤ 1 → int_le b (t +ℤ pos 1) ≡ true
up_end t b h w = grind (arith, ints)

up_more : (t b : ℤ) → int_lt t b ≡ true → 1 < unsigned_abs (b -ℤ t) → int_le b (t +ℤ pos 1) ≡ false
up_more t b h w = grind (arith, ints)

down_end : (a t : ℤ) → int_lt a t ≡ true → unsigned_abs (t -ℤ a) ≤ 1 → int_le (t -ℤ pos 1) a ≡ true
down_end a t h w = grind (arith, ints)

down_more : (a t : ℤ) → int_lt a t ≡ true → 1 < unsigned_abs (t -ℤ a) → int_le (t -ℤ pos 1) a ≡ false
down_more a t h w = grind (arith, ints)

pub weaker_none : (r : Region) (g : Guess) → admits r g ≡ true → steps r g ≤ 1 → None ≡ weaker r g
weaker_none r (Present x) h w = refl
weaker_none r (Absent x) h w = refl
weaker_none r (Before p x y) h w = refl
weaker_none r (StartLe x t) h w = past _ _ (up_end t (bounds_of r x).smax (start_le r x t h).high w)
weaker_none r (StartGe x t) h w = past _ _ (down_end (bounds_of r x).smin t (start_ge r x t h).low w)
weaker_none r (EndLe x t) h w = past _ _ (up_end t (bounds_of r x).emax (end_le r x t h).high w)
weaker_none r (EndGe x t) h w = past _ _ (down_end (bounds_of r x).emin t (end_ge r x t h).low w)

pub weaker_some : (r : Region) (g : Guess) → admits r g ≡ true → 1 < steps r g → Some (moved g 1) ≡ weaker r g
weaker_some r (Present x) h w = absurd (omega (arith, w))
weaker_some r (Absent x) h w = absurd (omega (arith, w))
weaker_some r (Before p x y) h w = absurd (omega (arith, w))
weaker_some r (StartLe x t) h w = not_past _ _ (up_more t (bounds_of r x).smax (start_le r x t h).high w)
weaker_some r (StartGe x t) h w = not_past _ _ (down_more (bounds_of r x).smin t (start_ge r x t h).low w)
weaker_some r (EndLe x t) h w = not_past _ _ (up_more t (bounds_of r x).emax (end_le r x t h).high w)
weaker_some r (EndGe x t) h w = not_past _ _ (down_more (bounds_of r x).emin t (end_ge r x t h).low w)

-- a guess moved twice
twice : (g : Guess) (i j k : ℕ) → i + j ≡ k → moved (moved g i) j ≡ moved g k
twice (Present x) i j k e = refl
twice (Absent x) i j k e = refl
twice (Before p x y) i j k e = refl
twice (StartLe x t) i j k e = let at : (t +ℤ pos i) +ℤ pos j ≡ t +ℤ pos k = omega (arith, ints, e) in ap (StartLe x) at
twice (StartGe x t) i j k e = let at : (t -ℤ pos i) -ℤ pos j ≡ t -ℤ pos k = omega (arith, ints, e) in ap (StartGe x) at
twice (EndLe x t) i j k e = let at : (t +ℤ pos i) +ℤ pos j ≡ t +ℤ pos k = omega (arith, ints, e) in ap (EndLe x) at
twice (EndGe x t) i j k e = let at : (t -ℤ pos i) -ℤ pos j ≡ t -ℤ pos k = omega (arith, ints, e) in ap (EndGe x) at

-- how many steps a moved guess has left
up_left : (t b : ℤ) (k : ℕ) → int_lt t b ≡ true → k < unsigned_abs (b -ℤ t) → unsigned_abs (b -ℤ (t +ℤ pos k)) + k ≡ unsigned_abs (b -ℤ t)
up_left t b k h w = grind (arith, ints)

down_left : (a t : ℤ) (k : ℕ) → int_lt a t ≡ true → k < unsigned_abs (t -ℤ a) → unsigned_abs ((t -ℤ pos k) -ℤ a) + k ≡ unsigned_abs (t -ℤ a)
down_left a t k h w = grind (arith, ints)

steps_left : (r : Region) (g : Guess) (k : ℕ) → admits r g ≡ true → k < steps r g → steps r (moved g k) + k ≡ steps r g
steps_left r (Present x) k h w = omega (arith, w)
steps_left r (Absent x) k h w = omega (arith, w)
steps_left r (Before p x y) k h w = omega (arith, w)
steps_left r (StartLe x t) k h w = up_left t (bounds_of r x).smax k (start_le r x t h).high w
steps_left r (StartGe x t) k h w = down_left (bounds_of r x).smin t k (start_ge r x t h).low w
steps_left r (EndLe x t) k h w = up_left t (bounds_of r x).emax k (end_le r x t h).high w
steps_left r (EndGe x t) k h w = down_left (bounds_of r x).emin t k (end_ge r x t h).low w

pub some_step : (r : Region) (g : Guess) → admits r g ≡ true → 0 < steps r g
some_step r (Present x) h = omega arith
some_step r (Absent x) h = omega arith
some_step r (Before p x y) h = omega arith
some_step r (StartLe x t) h = above t (bounds_of r x).smax (start_le r x t h).high
  where
    above : (t b : ℤ) → int_lt t b ≡ true → 0 < unsigned_abs (b -ℤ t)
    above t b h = grind (arith, ints)
some_step r (StartGe x t) h = above (bounds_of r x).smin t (start_ge r x t h).low
  where
    above : (t b : ℤ) → int_lt t b ≡ true → 0 < unsigned_abs (b -ℤ t)
    above t b h = grind (arith, ints)
some_step r (EndLe x t) h = above t (bounds_of r x).emax (end_le r x t h).high
  where
    above : (t b : ℤ) → int_lt t b ≡ true → 0 < unsigned_abs (b -ℤ t)
    above t b h = grind (arith, ints)
some_step r (EndGe x t) h = above (bounds_of r x).emin t (end_ge r x t h).low
  where
    above : (t b : ℤ) → int_lt t b ≡ true → 0 < unsigned_abs (b -ℤ t)
    above t b h = grind (arith, ints)

-- where the halving ends: at the end of the cell, or before a moment that isn't refuted
ends_at : (test : Guess → Bool) (r : Region) (g h : Guess) (lo hi : ℕ) → h ≡ moved g lo → admits r g ≡ true → lo < hi → hi ≤ lo + 1 → hi ≤ steps r g → (hi ≡ steps r g) ⊎ (test (moved g hi) ≡ false) → is_tight test r h ≡ true
ends_at test r g h lo hi is admitted less next within (inl end) =
    ap (passes_if_any (λ k. not (test k))) (sym (weaker_none r h (subst (λ z. admits r z ≡ true) (sym is) (moved_admits r g lo admitted (omega (arith, less, within))))
    (subst (λ z. steps r z ≤ 1) (sym is) (omega (arith, steps_left r g lo admitted (omega (arith, less, within)), end, next, less)))))
ends_at test r g h lo hi is admitted less next within (inr off) = by_steps (nat_lt 1 (steps r h)) refl
  where
    there : admits r h ≡ true
    there = subst (λ z. admits r z ≡ true) (sym is) (moved_admits r g lo admitted (omega (arith, less, within)))

    off_next : test (moved h 1) ≡ false
    off_next = ap (λ z. test (moved z 1)) is ∙ ap test (twice g lo 1 hi (omega (arith, less, next))) ∙ off

    by_steps : (b : Bool) → nat_lt 1 (steps r h) ≡ b → is_tight test r h ≡ true
    by_steps true w = ap (passes_if_any (λ k. not (test k))) (sym (weaker_some r h there (grind (arith, nat_tests, w)))) ∙ ap not off_next
    by_steps false w = ap (passes_if_any (λ k. not (test k))) (sym (weaker_none r h there (grind (arith, nat_tests, w))))

pub ends : (test : Guess → Bool) (r : Region) (g h : Guess) (lo hi : ℕ) → h ≡ moved g lo → admits r g ≡ true → lo < hi → hi ≤ lo + 1 → hi ≤ steps r g → test (moved g lo) ≡ true → (hi ≡ steps r g) ⊎ (test (moved g hi) ≡ false) → IsTightened test r g h
ends test r g h lo hi is admitted less next within refuted stop = record {
  form = (lo, is);
  admitted = subst (λ z. admits r z ≡ true) (sym is) (moved_admits r g lo admitted (omega (arith, less, within)));
  refutes = ap test is ∙ refuted;
  tight = ends_at test r g h lo hi is admitted less next within stop;
}
