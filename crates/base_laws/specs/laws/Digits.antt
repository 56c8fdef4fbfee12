-- The digits of a number give it back, digits are those of their number, and numbers stand as their digits do.
use Rattle.std.specs.Prelude.{◌≡◌, ℕ, ◌+◌, ◌*◌, ◌/◌, ◌%◌, ◌<◌, ◌≤◌, Bool, true, false, ◌&&◌, ◌||◌, List, [], ◌∷◌, nat_eq, nat_lt}
use Rattle.std.proofs.Common.{refl, sym, ap, ◌∙◌, arith}
use Rattle.std.proofs.lemmas.Bool.Decides.{nat_tests}
use Rattle.std.proofs.lemmas.Nat.{div-mul-add, mod-mul-add, mod_below}
use Rattle.std.proofs.Math.Nat.{one-le-mul, mul-le-mul_right, add-mul}
use Rattle.std.proofs.Math.Nat as nat
use Rattle.std.proofs.Math.Arith.{mod-mul}
use Rattle.base_laws.specs.Digits.{size_of, digits}

-- the number that digits are
abbrev pub number : List ℕ → List ℕ → ℕ
number (w ∷ ws) (d ∷ ds) = d * size_of ws + number ws ds
number _ _ = 0

-- as many digits as bases, each below its own
abbrev pub AreDigits : List ℕ → List ℕ → Type 0
AreDigits [] [] = Unit {0}
AreDigits (w ∷ ws) (d ∷ ds) = (d < w) × AreDigits ws ds
AreDigits [] (d ∷ ds) = ⊥
AreDigits (w ∷ ws) [] = ⊥

abbrev pub AreBases : List ℕ → Type 0
AreBases [] = Unit {0}
AreBases (w ∷ ws) = (0 < w) × AreBases ws

-- on the first place where they differ, the first list has the lesser number
abbrev pub comes_before : List ℕ → List ℕ → Bool
comes_before (d ∷ ds) (e ∷ es) = nat_lt d e || (nat_eq d e && comes_before ds es)
comes_before _ _ = false

pub some : (ws : List ℕ) → AreBases ws → 1 ≤ size_of ws
some [] h = omega arith
some (w ∷ ws) h = one-le-mul h.0 (some ws h.1)

-- a number is below the product of its bases
pub below : (ws ds : List ℕ) → AreDigits ws ds → number ws ds < size_of ws
below [] [] h = omega arith
below [] (d ∷ ds) h = absurd h
below (w ∷ ws) [] h = absurd h
below (w ∷ ws) (d ∷ ds) h = under d w (size_of ws) (number ws ds) h.0 (below ws ds h.1)
  where
    under : (d w s n : ℕ) → d < w → n < s → d * s + n < w * s
    under d w s n h i = let m = mul-le-mul_right s h in let e = add-mul d 1 s in omega (arith, m, e, i)

-- the digits of a number, behind whatever stands before them
told : (ws ds : List ℕ) (q : ℕ) → AreDigits ws ds → digits ws (q * size_of ws + number ws ds) ≡ ds
told [] [] q h = refl
told [] (d ∷ ds) q h = absurd h
told (w ∷ ws) [] q h = absurd h
told (w ∷ ws) (d ∷ ds) q h =
    let n = below ws ds h.1 in
    let e = regroup q w (size_of ws) d (number ws ds) in
    let first = ap (λ k. k / size_of ws % w) e ∙ ap (λ k. k % w) (div-mul-add (q * w + d) (size_of ws) (number ws ds) n) ∙ mod-mul-add q w d h.0 in
    let rest = ap (digits ws) e ∙ told ws ds (q * w + d) h.1 in
    both_same _ _ _ _ first rest
  where
    regroup : (q w s d n : ℕ) → q * (w * s) + (d * s + n) ≡ (q * w + d) * s + n
    regroup q w s d n = omega arith

    both_same : (x y : ℕ) (xs ys : List ℕ) → x ≡ y → xs ≡ ys → x ∷ xs ≡ y ∷ ys
    both_same x y xs ys h i = ap (λ z. z ∷ xs) h ∙ ap (λ zs. y ∷ zs) i

pub digits_told : (ws ds : List ℕ) → AreDigits ws ds → digits ws (number ws ds) ≡ ds
digits_told ws ds h = ap (digits ws) (none_before (size_of ws) (number ws ds)) ∙ told ws ds 0 h
  where
    none_before : (s n : ℕ) → n ≡ 0 * s + n
    none_before s n = omega arith

pub are_digits : (ws : List ℕ) (n : ℕ) → AreBases ws → AreDigits ws (digits ws n)
are_digits [] n h = tt
are_digits (w ∷ ws) n h = (mod_below (n / size_of ws) w h.0, are_digits ws n h.1)

-- the number of the digits of n, whose digits before these are left out
left : (ws : List ℕ) (n : ℕ) → AreBases ws → number ws (digits ws n) ≡ n % size_of ws
left [] n h = sym (nat.mod-one n)
left (w ∷ ws) n h = ap (λ k. n / size_of ws % w * size_of ws + k) (left ws n h.1) ∙ sym (mod-mul n h.0 (some ws h.1))

pub number_told : (ws : List ℕ) (n : ℕ) → AreBases ws → n < size_of ws → number ws (digits ws n) ≡ n
number_told ws n h less = left ws n h ∙ nat.mod-eq_of_lt less

-- numbers stand as their digits do
pub in_order : (ws ds es : List ℕ) → AreDigits ws ds → AreDigits ws es → nat_lt (number ws ds) (number ws es) ≡ comes_before ds es
in_order [] [] [] h i = refl
in_order [] [] (e ∷ es) h i = absurd i
in_order [] (d ∷ ds) es h i = absurd h
in_order (w ∷ ws) [] es h i = absurd h
in_order (w ∷ ws) (d ∷ ds) [] h i = absurd i
in_order (w ∷ ws) (d ∷ ds) (e ∷ es) h i =
    by_case d e (size_of ws) (number ws ds) (number ws es) (comes_before ds es) (below ws ds h.1) (below ws es i.1) (in_order ws ds es h.1 i.1)
  where
    up : (d e s m n : ℕ) → d < e → m < s → d * s + m < e * s + n
    up d e s m n less h = let k = mul-le-mul_right s less in let a = add-mul d 1 s in omega (arith, k, a, h)

    sure : (x y : ℕ) → x < y → nat_lt x y ≡ true
    sure x y h = grind (arith, nat_tests)

    never : (x y : ℕ) → y < x → nat_lt x y ≡ false
    never x y h = grind (arith, nat_tests)

    same : (k m n : ℕ) → nat_lt (k + m) (k + n) ≡ nat_lt m n
    same k m n = grind (arith, nat_tests)

    by_case : (d e s m n : ℕ) (c : Bool) → m < s → n < s → nat_lt m n ≡ c → nat_lt (d * s + m) (e * s + n) ≡ (nat_lt d e || (nat_eq d e && c))
    by_case d e s m n c h i k = decided (nat_lt d e) (nat_eq d e) refl refl
      where
        decided : (b q : Bool) → nat_lt d e ≡ b → nat_eq d e ≡ q → nat_lt (d * s + m) (e * s + n) ≡ (b || (q && c))
        decided true q is j = sure (d * s + m) (e * s + n) (up d e s m n (grind (arith, nat_tests, is)) h)
        decided false true is j = let one : d ≡ e = grind (arith, nat_tests, j) in ap (λ x. nat_lt (x * s + m) (e * s + n)) one ∙ same (e * s) m n ∙ k
        decided false false is j = never (d * s + m) (e * s + n) (up e d s n m (grind (arith, nat_tests, is, j)) i)
