-- The sum of the heights of a function over the moments of a window.
use Rattle.std.specs.Prelude.{◌≡◌, ℕ, zero, suc, ◌+◌, ℤ, pos, negsuc, true, ◌+ℤ◌, ◌-ℤ◌, ◌*ℤ◌, ◌≤ℤ◌, ◌<ℤ◌, List, [], ◌∷◌, map}
use Rattle.std.proofs.Common.{refl, sym, ap, ◌∙◌, subst, arith}
use Rattle.std.proofs.lemmas.Int.{ints}
use Rattle.std.proofs.Math.IntN.{*ℤ_comm, zero-*ℤ, suc_ℤ-*ℤ}
use Rattle.sched_model.specs.Words.{total}
use Rattle.sched_model.specs.Cumulative.{between}
use Rattle.task_sets.specs.Times.{has}
use Rattle.task_sets.specs.laws.Sums.{has_first, has_later}
use Rattle.refute_energy.specs.laws.Products.{rises}

-- over n moments from lo on
abbrev pub area : (ℤ → ℤ) → ℤ → ℕ → ℤ
area f lo zero = pos 0
area f lo (suc n) = f lo +ℤ area f (lo +ℤ pos 1) n

-- at each moment of a window a function is at most another
abbrev pub IsUnder : (ℤ → ℤ) → (ℤ → ℤ) → ℤ → ℕ → Type 0
IsUnder f g lo n = (t : ℤ) → lo ≤ℤ t → t <ℤ (lo +ℤ pos n) → f t ≤ℤ g t

pub area_under : (f g : ℤ → ℤ) (lo : ℤ) (n : ℕ) → IsUnder f g lo n → area f lo n ≤ℤ area g lo n
area_under f g lo zero under = omega (arith, ints)
area_under f g lo (suc n) under =
    both (f lo) (g lo) _ _ (under lo (omega (arith, ints)) (omega (arith, ints))) (area_under f g (lo +ℤ pos 1) n (λ t from to. under t (omega (arith, ints, from)) (omega (arith, ints, to))))
  where
    both : (a b c d : ℤ) → a ≤ℤ b → c ≤ℤ d → (a +ℤ c) ≤ℤ (b +ℤ d)
    both a b c d h i = omega (arith, ints, h, i)

pub area_same : (c lo : ℤ) (n : ℕ) → area (λ t. c) lo n ≡ pos n *ℤ c
area_same c lo zero = sym (zero-*ℤ c)
area_same c lo (suc n) = let first : (pos (suc n) *ℤ c) ≡ ((pos n *ℤ c) +ℤ c) = suc_ℤ-*ℤ (pos n) c in
    turn (area (λ t. c) (lo +ℤ pos 1) n) (pos n *ℤ c) (area_same c (lo +ℤ pos 1) n) ∙ sym first
  where
    turn : (a b : ℤ) → a ≡ b → (c +ℤ a) ≡ (b +ℤ c)
    turn a b h = omega (arith, ints, h)

pub area_sum : (f g : ℤ → ℤ) (lo : ℤ) (n : ℕ) → area (λ t. f t +ℤ g t) lo n ≡ area f lo n +ℤ area g lo n
area_sum f g lo zero = refl
area_sum f g lo (suc n) = swap (f lo) (g lo) _ _ _ (area_sum f g (lo +ℤ pos 1) n)
  where
    swap : (a b x y z : ℤ) → x ≡ y +ℤ z → ((a +ℤ b) +ℤ x) ≡ ((a +ℤ y) +ℤ (b +ℤ z))
    swap a b x y z h = omega (arith, ints, h)

pub area_parts : (f : ℤ → ℤ) (lo : ℤ) (a b n : ℕ) → n ≡ a + b → area f lo n ≡ area f lo a +ℤ area f (lo +ℤ pos a) b
area_parts f lo zero b n is =
    let same : n ≡ b = omega (arith, is) in
    subst (λ k. area f lo k ≡ pos 0 +ℤ area f (lo +ℤ pos 0) b) (sym same) (subst (λ z. area f lo b ≡ pos 0 +ℤ area f z b) (plain lo) (none (area f lo b)))
  where
    plain : (z : ℤ) → z ≡ z +ℤ pos 0
    plain z = omega (arith, ints)

    none : (z : ℤ) → z ≡ pos 0 +ℤ z
    none z = omega (arith, ints)
area_parts f lo (suc a) b zero is = absurd (omega (arith, is))
area_parts f lo (suc a) b (suc n) is =
    ap (λ z. f lo +ℤ z) (area_parts f (lo +ℤ pos 1) a b n (omega (arith, is))) ∙ (assoc (f lo) _ _ ∙ ap (λ z. (f lo +ℤ area f (lo +ℤ pos 1) a) +ℤ area f z b) (step lo))
  where
    assoc : (x y z : ℤ) → (x +ℤ (y +ℤ z)) ≡ ((x +ℤ y) +ℤ z)
    assoc x y z = omega (arith, ints)

    step : (z : ℤ) → ((z +ℤ pos 1) +ℤ pos a) ≡ (z +ℤ pos (suc a))
    step z = omega (arith, ints)

-- a function that isn't negative has no negative area
pub area_low : (f : ℤ → ℤ) (lo : ℤ) (n : ℕ) → ((t : ℤ) → pos 0 ≤ℤ f t) → pos 0 ≤ℤ area f lo n
area_low f lo zero low = omega (arith, ints)
area_low f lo (suc n) low = both (f lo) _ (low lo) (area_low f (lo +ℤ pos 1) n low)
  where
    both : (a b : ℤ) → pos 0 ≤ℤ a → pos 0 ≤ℤ b → pos 0 ≤ℤ (a +ℤ b)
    both a b h i = omega (arith, ints, h, i)

-- a difference as a count
pub count_of : (z : ℤ) → pos 0 ≤ℤ z → (n : ℕ) × (z ≡ pos n)
count_of (pos n) h = (n, refl)
count_of (negsuc n) h = absurd (omega (arith, ints, h))

pub tall : (u v h t : ℤ) → pos 0 ≤ℤ h → pos 0 ≤ℤ between u v h t
tall u v h t k = grind (arith, ints, k)

full : (u v h t : ℤ) → u ≤ℤ t → t <ℤ v → h ≤ℤ between u v h t
full u v h t i j = grind (arith, ints, i, j)

-- a pulse that lies in the window for some time gives its height for that time
pub pulse_area : (s e h p lo : ℤ) (n : ℕ) → pos 0 ≤ℤ h → pos 0 ≤ℤ p → lo ≤ℤ s → (s +ℤ p) ≤ℤ e → e ≤ℤ (lo +ℤ pos n) → (h *ℤ p) ≤ℤ area (between s e h) lo n
pulse_area s e h p lo n tall_h long from lasts to =
    let a = count_of (s -ℤ lo) (omega (arith, ints, from)) in
    let b = count_of (e -ℤ s) (omega (arith, ints, lasts, long)) in
    let c = count_of ((lo +ℤ pos n) -ℤ e) (omega (arith, ints, to)) in
    let whole : n ≡ a.0 + (b.0 + c.0) = counted a.0 b.0 c.0 (s -ℤ lo) (e -ℤ s) ((lo +ℤ pos n) -ℤ e) a.1 b.1 c.1 (omega (arith, ints)) in
    let start : lo +ℤ pos a.0 ≡ s = moved s lo (pos a.0) a.1 in
    let f = between s e h in
    let middle : (h *ℤ (e -ℤ s)) ≤ℤ area f s b.0 =
    subst (λ z. z ≤ℤ area f s b.0) (area_same h s b.0 ∙ (ap (λ z. z *ℤ h) (sym b.1) ∙ *ℤ_comm (e -ℤ s) h))
    (area_under (λ t. h) f s b.0 (λ t low high. full s e h t low (before (pos b.0) t b.1 high))) in
    let more : (h *ℤ p) ≤ℤ (h *ℤ (e -ℤ s)) = rises h p (e -ℤ s) tall_h (omega (arith, ints, lasts)) in
    let split : area f lo n ≡ area f lo a.0 +ℤ (area f s b.0 +ℤ area f (s +ℤ pos b.0) c.0) =
    area_parts f lo a.0 (b.0 + c.0) n whole ∙ (ap (λ z. area f lo a.0 +ℤ area f z (b.0 + c.0)) start ∙ ap (λ z. area f lo a.0 +ℤ z) (area_parts f s b.0 c.0 (b.0 + c.0) refl)) in
    sum_up (area f lo n) (area f lo a.0) (area f s b.0) (area f (s +ℤ pos b.0) c.0) (h *ℤ (e -ℤ s)) (h *ℤ p) split (area_low f lo a.0 (λ t. tall s e h t tall_h)) middle (area_low f (s +ℤ pos b.0) c.0 (λ t. tall s e h t tall_h)) more
  where
    counted : (a b c : ℕ) (x y z : ℤ) → x ≡ pos a → y ≡ pos b → z ≡ pos c → (x +ℤ (y +ℤ z)) ≡ pos n → n ≡ a + (b + c)
    counted a b c x y z i j k sum = omega (arith, ints, i, j, k, sum)

    moved : (s lo a : ℤ) → s -ℤ lo ≡ a → lo +ℤ a ≡ s
    moved s lo a h = omega (arith, ints, h)

    before : (b t : ℤ) → (e -ℤ s) ≡ b → t <ℤ (s +ℤ b) → t <ℤ e
    before b t is high = omega (arith, ints, high, is)

    sum_up : (w x y z u v : ℤ) → w ≡ x +ℤ (y +ℤ z) → pos 0 ≤ℤ x → u ≤ℤ y → pos 0 ≤ℤ z → v ≤ℤ u → v ≤ℤ w
    sum_up w x y z u v is hx hy hz hv = omega (arith, ints, is, hx, hy, hz, hv)

-- the areas of a list of functions, one by one and together
pub area_total : (g : ℕ → ℤ → ℤ) (p : ℕ → ℤ) (lo : ℤ) (n : ℕ) (ks : List ℕ) → ((k : ℕ) → has ks k ≡ true → p k ≤ℤ area (g k) lo n) → total (map p ks) ≤ℤ area (λ t. total (map (λ k. g k t) ks)) lo n
area_total g p lo n [] each = area_low (λ t. pos 0) lo n (λ t. omega (arith, ints))
area_total g p lo n (k ∷ ks) each =
    subst (λ z. (p k +ℤ total (map p ks)) ≤ℤ z) (sym (area_sum (g k) (λ t. total (map (λ j. g j t) ks)) lo n)) (both (p k) _ _ _ (each k (has_first k ks)) (area_total g p lo n ks (λ j here. each j (has_later k j ks here))))
  where
    both : (a b c d : ℤ) → a ≤ℤ b → c ≤ℤ d → (a +ℤ c) ≤ℤ (b +ℤ d)
    both a b c d h i = omega (arith, ints, h, i)
