-- The rank of some criteria is their values in one number, which stand in the order of the first that differs.
use Rattle.std.proofs.Common.{◌≡◌, ℕ, zero, suc, ◌+◌, ◌*◌, ◌<◌, ℤ, pos, negsuc, ◌+ℤ◌, ◌*ℤ◌, ◌≤ℤ◌, Bool, ◌&&◌, ◌||◌, List, [], ◌∷◌, map, refl, sym, ap, ◌∙◌, arith}
use Rattle.std.specs.Prelude.{int_lt, nat_lt, nat_eq}
use Rattle.std.specs.Int.{int_gap}
use Rattle.std.specs.Ordering.{int_eq}
use Rattle.std.proofs.lemmas.Bool.Decides.{nat_tests}
use Rattle.std.proofs.lemmas.Int.{ints}
use Rattle.std.proofs.Math.IntN.{zero-*ℤ, suc_ℤ-*ℤ}
use Rattle.base_laws.specs.Digits.{digits}
use Rattle.base_laws.specs.laws.Digits.{number, AreDigits, AreBases, comes_before, digits_told, are_digits, number_told, in_order}
use Rattle.sched_model.specs.Ranges.{Ends, lows, highs}
use Rattle.sched_model.specs.Rank.{width, weight, comes_first, values_at}
use Rattle.sched_model.specs.laws.Within.{Within, AllWithin}
use Rattle.sched_model.specs.laws.Ordered.{IsOrdered}

-- the rank as a number
abbrev pub weighed : List Ends → List ℤ → ℤ
weighed (r ∷ rs) (v ∷ vs) = (pos (weight rs) *ℤ v) +ℤ weighed rs vs
weighed _ _ = pos 0

-- how far each value is above the low end of its range
abbrev pub offsets : List Ends → List ℤ → List ℕ
offsets (r ∷ rs) (v ∷ vs) = int_gap r.0 v ∷ offsets rs vs
offsets _ _ = []

pub gap_up : (a b : ℤ) → a ≤ℤ b → b ≡ a +ℤ pos (int_gap a b)
gap_up (pos a) (pos b) h = omega (arith, ints, h)
gap_up (pos a) (negsuc b) h = absurd (omega (arith, ints, h))
gap_up (negsuc a) (pos b) h = omega (arith, ints)
gap_up (negsuc a) (negsuc b) h = omega (arith, ints, h)

pub gap_of : (a : ℤ) (n : ℕ) → int_gap a (a +ℤ pos n) ≡ n
gap_of a n = let up = gap_up a (a +ℤ pos n) (omega (arith, ints)) in omega (arith, ints, up)

-- so much above, so much is the product greater
scaled : (w d : ℕ) (l : ℤ) → pos w *ℤ (l +ℤ pos d) ≡ (pos w *ℤ l) +ℤ pos (d * w)
scaled zero d l = rw (zero-*ℤ (l +ℤ pos d), zero-*ℤ l) (omega (arith, ints))
scaled (suc w) d l =
    let first : (pos (suc w) *ℤ (l +ℤ pos d)) ≡ ((pos w *ℤ (l +ℤ pos d)) +ℤ (l +ℤ pos d)) = suc_ℤ-*ℤ (pos w) (l +ℤ pos d) in
    let second : (pos (suc w) *ℤ l) ≡ ((pos w *ℤ l) +ℤ l) = suc_ℤ-*ℤ (pos w) l in
    rw (first, second, scaled w d l) (regroup (pos w *ℤ l) l d w)
  where
    regroup : (p l : ℤ) (d w : ℕ) → (p +ℤ pos (d * w)) +ℤ (l +ℤ pos d) ≡ (p +ℤ l) +ℤ pos (d * suc w)
    regroup p l d w = omega (arith, ints)

pub are_offsets : (rs : List Ends) (vs : List ℤ) → AllWithin rs vs → AreDigits (map width rs) (offsets rs vs)
are_offsets [] [] h = tt
are_offsets [] (v ∷ vs) h = absurd h
are_offsets (r ∷ rs) [] h = absurd h
are_offsets (r ∷ rs) (v ∷ vs) h = (less r.0 v r.1 h.0.low h.0.high, are_offsets rs vs h.1)
  where
    less : (a v b : ℤ) → a ≤ℤ v → v ≤ℤ b → int_gap a v < int_gap a b + 1
    less a v b h i = let one = gap_up a v h in let other = gap_up a b (omega (arith, ints, h, i)) in omega (arith, ints, one, other, i)

pub values_told : (rs : List Ends) (vs : List ℤ) → AllWithin rs vs → values_at rs (offsets rs vs) ≡ vs
values_told [] [] h = refl
values_told [] (v ∷ vs) h = absurd h
values_told (r ∷ rs) [] h = absurd h
values_told (r ∷ rs) (v ∷ vs) h = ap (λ z. z ∷ values_at rs (offsets rs vs)) (sym (gap_up r.0 v h.0.low)) ∙ ap (λ zs. v ∷ zs) (values_told rs vs h.1)

-- a rank is as far above the least one as the number of the offsets
pub weighed_up : (rs : List Ends) (vs : List ℤ) → AllWithin rs vs → weighed rs vs ≡ weighed rs (lows rs) +ℤ pos (number (map width rs) (offsets rs vs))
weighed_up [] [] h = omega (arith, ints)
weighed_up [] (v ∷ vs) h = absurd h
weighed_up (r ∷ rs) [] h = absurd h
weighed_up (r ∷ rs) (v ∷ vs) h =
    let first : (pos (weight rs) *ℤ v) ≡ ((pos (weight rs) *ℤ r.0) +ℤ pos (int_gap r.0 v * weight rs)) = ap (λ z. pos (weight rs) *ℤ z) (gap_up r.0 v h.0.low) ∙ scaled (weight rs) (int_gap r.0 v) r.0 in
    let rest = weighed_up rs vs h.1 in
    added (pos (weight rs) *ℤ v) (pos (weight rs) *ℤ r.0) (weighed rs vs) (weighed rs (lows rs)) (int_gap r.0 v * weight rs) (number (map width rs) (offsets rs vs)) first rest
  where
    added : (x l y k : ℤ) (d n : ℕ) → x ≡ l +ℤ pos d → y ≡ k +ℤ pos n → x +ℤ y ≡ (l +ℤ k) +ℤ pos (d + n)
    added x l y k d n h i = omega (arith, ints, h, i)

pub wide : (rs : List Ends) → AreBases (map width rs)
wide [] = tt
wide (r ∷ rs) = (omega arith, wide rs)

-- the law: a rank gives back the values
pub unranked_told : (rs : List Ends) (vs : List ℤ) → AllWithin rs vs → values_at rs (digits (map width rs) (int_gap (weighed rs (lows rs)) (weighed rs vs))) ≡ vs
unranked_told rs vs h =
    ap (λ z. values_at rs (digits (map width rs) (int_gap (weighed rs (lows rs)) z))) (weighed_up rs vs h)
    ∙ ap (λ n. values_at rs (digits (map width rs) n)) (gap_of (weighed rs (lows rs)) (number (map width rs) (offsets rs vs)))
    ∙ ap (values_at rs) (digits_told (map width rs) (offsets rs vs) (are_offsets rs vs h))
    ∙ values_told rs vs h

above : (l : ℤ) (m n : ℕ) → int_lt (l +ℤ pos m) (l +ℤ pos n) ≡ nat_lt m n
above l m n = grind (arith, ints, nat_tests)

offsets_order : (rs : List Ends) (vs us : List ℤ) → AllWithin rs vs → AllWithin rs us → comes_before (offsets rs vs) (offsets rs us) ≡ comes_first vs us
offsets_order [] [] [] h i = refl
offsets_order [] [] (u ∷ us) h i = absurd i
offsets_order [] (v ∷ vs) us h i = absurd h
offsets_order (r ∷ rs) [] us h i = absurd h
offsets_order (r ∷ rs) (v ∷ vs) [] h i = absurd i
offsets_order (r ∷ rs) (v ∷ vs) (u ∷ us) h i = step r.0 v u _ _ h.0.low i.0.low (offsets_order rs vs us h.1 i.1)
  where
    step : (l v u : ℤ) (b c : Bool) → l ≤ℤ v → l ≤ℤ u → b ≡ c → (nat_lt (int_gap l v) (int_gap l u) || (nat_eq (int_gap l v) (int_gap l u) && b)) ≡ (int_lt v u || (int_eq v u && c))
    step l v u b c h i same =
        ap (λ x. nat_lt (int_gap l v) (int_gap l u) || (nat_eq (int_gap l v) (int_gap l u) && x)) same
        ∙ ap (λ x. x || (nat_eq (int_gap l v) (int_gap l u) && c)) (lesser (int_gap l v) (int_gap l u) (gap_up l v h) (gap_up l u i))
        ∙ ap (λ x. int_lt v u || (x && c)) (alike (int_gap l v) (int_gap l u) (gap_up l v h) (gap_up l u i))
      where
        lesser : (m n : ℕ) → v ≡ l +ℤ pos m → u ≡ l +ℤ pos n → nat_lt m n ≡ int_lt v u
        lesser m n h i = grind (arith, ints, nat_tests)

        alike : (m n : ℕ) → v ≡ l +ℤ pos m → u ≡ l +ℤ pos n → nat_eq m n ≡ int_eq v u
        alike m n h i = grind (arith, ints, nat_tests)

-- the law: ranks stand as the first values that differ
pub rank_order : (rs : List Ends) (vs us : List ℤ) → AllWithin rs vs → AllWithin rs us → int_lt (weighed rs vs) (weighed rs us) ≡ comes_first vs us
rank_order rs vs us h i =
    ap (λ z. int_lt z (weighed rs us)) (weighed_up rs vs h)
    ∙ ap (λ z. int_lt (weighed rs (lows rs) +ℤ pos (number (map width rs) (offsets rs vs))) z) (weighed_up rs us i)
    ∙ above (weighed rs (lows rs)) (number (map width rs) (offsets rs vs)) (number (map width rs) (offsets rs us))
    ∙ in_order (map width rs) (offsets rs vs) (offsets rs us) (are_offsets rs vs h) (are_offsets rs us i)
    ∙ offsets_order rs vs us h i

abbrev pub AreOrdered : List Ends → Type 0
AreOrdered [] = Unit {0}
AreOrdered (r ∷ rs) = IsOrdered r × AreOrdered rs

highs_within : (rs : List Ends) → AreOrdered rs → AllWithin rs (highs rs)
highs_within [] h = tt
highs_within (r ∷ rs) h = (record { low = h.0; high = omega (arith, ints) }, highs_within rs h.1)

-- the greatest rank is the last number that the weights can show
top : (rs : List Ends) → AreOrdered rs → number (map width rs) (offsets rs (highs rs)) + 1 ≡ weight rs
top [] h = omega arith
top (r ∷ rs) h = let rest = top rs h.1 in last (int_gap r.0 r.1) (weight rs) (number (map width rs) (offsets rs (highs rs))) rest
  where
    last : (g w n : ℕ) → n + 1 ≡ w → (g * w + n) + 1 ≡ (g + 1) * w
    last g w n h = omega (arith, h)

-- the values that digits are lie in the ranges, and are that far above the low ends
digits_within : (rs : List Ends) (ds : List ℕ) → AreOrdered rs → AreDigits (map width rs) ds → AllWithin rs (values_at rs ds)
digits_within [] [] h i = tt
digits_within [] (d ∷ ds) h i = absurd i
digits_within (r ∷ rs) [] h i = absurd i
digits_within (r ∷ rs) (d ∷ ds) h i = (inside r.0 r.1 d (int_gap r.0 r.1) (gap_up r.0 r.1 h.0) i.0, digits_within rs ds h.1 i.1)
  where
    inside : (l u : ℤ) (d g : ℕ) → u ≡ l +ℤ pos g → d < g + 1 → Within (l, u) (l +ℤ pos d)
    inside l u d g is less = record { low = omega (arith, ints); high = omega (arith, ints, is, less) }

offsets_told : (rs : List Ends) (ds : List ℕ) → AreDigits (map width rs) ds → offsets rs (values_at rs ds) ≡ ds
offsets_told [] [] h = refl
offsets_told [] (d ∷ ds) h = absurd h
offsets_told (r ∷ rs) [] h = absurd h
offsets_told (r ∷ rs) (d ∷ ds) h = ap (λ n. n ∷ offsets rs (values_at rs ds)) (gap_of r.0 d) ∙ ap (λ ns. d ∷ ns) (offsets_told rs ds h.1)

-- the values of which v is the rank
abbrev pub values_in : List Ends → ℤ → List ℤ
values_in rs v = values_at rs (digits (map width rs) (int_gap (weighed rs (lows rs)) v))

pub values_within : (rs : List Ends) (v : ℤ) → AreOrdered rs → AllWithin rs (values_in rs v)
values_within rs v h = digits_within rs (digits (map width rs) (int_gap (weighed rs (lows rs)) v)) h (are_digits (map width rs) (int_gap (weighed rs (lows rs)) v) (wide rs))

-- the law: on all numbers from the least rank to the greatest, the values of which a number is the rank have that rank
pub rank_told : (rs : List Ends) (v : ℤ) → AreOrdered rs → Within (weighed rs (lows rs), weighed rs (highs rs)) v → weighed rs (values_in rs v) ≡ v
rank_told rs v h w =
    let n = int_gap (weighed rs (lows rs)) v in
    let up = gap_up (weighed rs (lows rs)) v w.low in
    let most = weighed_up rs (highs rs) (highs_within rs h) in
    let less : n < weight rs = under (weighed rs (lows rs)) v (weighed rs (highs rs)) n (number (map width rs) (offsets rs (highs rs))) (weight rs) up most w.high (top rs h) in
    weighed_up rs (values_in rs v) (values_within rs v h)
    ∙ ap (λ ds. weighed rs (lows rs) +ℤ pos (number (map width rs) ds)) (offsets_told rs (digits (map width rs) n) (are_digits (map width rs) n (wide rs)))
    ∙ ap (λ k. weighed rs (lows rs) +ℤ pos k) (number_told (map width rs) n (wide rs) less)
    ∙ sym up
  where
    under : (l v h : ℤ) (n k w : ℕ) → v ≡ l +ℤ pos n → h ≡ l +ℤ pos k → v ≤ℤ h → k + 1 ≡ w → n < w
    under l v h n k w a b c d = omega (arith, ints, a, b, c, d)

-- so numbers stand as the first of these values that differ
pub numbers_order : (rs : List Ends) (v u : ℤ) → AreOrdered rs → Within (weighed rs (lows rs), weighed rs (highs rs)) v → Within (weighed rs (lows rs), weighed rs (highs rs)) u → int_lt v u ≡ comes_first (values_in rs v) (values_in rs u)
numbers_order rs v u h i j =
    sym (ap (λ z. int_lt z (weighed rs (values_in rs u))) (rank_told rs v h i) ∙ ap (λ z. int_lt v z) (rank_told rs u h j))
    ∙ rank_order rs (values_in rs v) (values_in rs u) (values_within rs v h) (values_within rs u h)
