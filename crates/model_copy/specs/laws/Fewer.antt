-- What is summed over elements at rising places is no more than what is summed over all.
use Rattle.std.specs.Prelude.{◌≡◌, ℕ, zero, suc, ◌+◌, ◌≤◌, List, [], ◌∷◌, Option, Some, None, All, filter_map, slice_get, sum_by, drop}
use Rattle.std.specs.List.{cons_option}
use Rattle.std.proofs.Common.{refl, sym, subst, arith}
use Rattle.std.proofs.lemmas.List.Elements.{All-head}
use Rattle.std.proofs.lemmas.List.Sums.{sum_by-cons}
use Rattle.sched_base.specs.declared.ids.Con.{Con}
use Rattle.model_copy.specs.code.Reduced.{Rises}

nat_le_same : (n : ℕ) → n ≤ n
nat_le_same n = omega arith

add_less : (a b c d : ℕ) → a ≤ b → d ≡ c + b → a ≤ d
add_less a b c d h is = omega (arith, h, is)

join_less : (a b c d e : ℕ) → e ≡ a + b → b ≤ c → a + c ≤ d → e ≤ d
join_less a b c d e is h k = omega (arith, is, h, k)

one_less : (a b c d : ℕ) → a + b ≡ c → c ≤ d → a + b ≤ d
one_less a b c d is h = omega (arith, is, h)

through : (a b c : ℕ) → a ≤ b → b ≤ c → a ≤ c
through a b c h k = omega (arith, h, k)

zero_less : (n : ℕ) → 0 ≤ n
zero_less n = omega arith

-- the sum from a place on
abbrev from : {X : Type 0} → (X → ℕ) → List X → ℕ → ℕ
from f xs k = sum_by f (drop k xs)

whole : {X : Type 0} (f : X → ℕ) (x : X) (xs : List X) → from f (x ∷ xs) zero ≡ f x + from f xs zero
whole f x xs = sum_by-cons f x xs

from_less : {X : Type 0} (f : X → ℕ) (xs : List X) (k c : ℕ) → k ≤ c → from f xs c ≤ from f xs k
from_less f [] zero zero h = nat_le_same (from f [] zero)
from_less f [] zero (suc c) h = nat_le_same 0
from_less f [] (suc k) zero h = nat_le_same 0
from_less f [] (suc k) (suc c) h = nat_le_same 0
from_less f (x ∷ xs) zero zero h = nat_le_same (from f (x ∷ xs) zero)
from_less f (x ∷ xs) zero (suc c) h = add_less (from f xs c) (from f xs zero) (f x) (from f (x ∷ xs) zero) (from_less f xs zero c (omega arith)) (whole f x xs)
from_less f (x ∷ xs) (suc k) zero h = absurd (omega (arith, h))
from_less f (x ∷ xs) (suc k) (suc c) h = from_less f xs k c (omega (arith, h))

from_at : {X : Type 0} (f : X → ℕ) (xs : List X) (c : ℕ) (x : X) → slice_get xs c ≡ Some x → f x + from f xs (suc c) ≡ from f xs c
from_at f [] c x is = cc
from_at f (y ∷ ys) zero x is = subst (λ z. f z + from f ys zero ≡ from f (y ∷ ys) zero) (same y x is) (sym (whole f y ys))
  where
    same : {X : Type 0} (y x : X) → Some y ≡ Some x → y ≡ x
    same y x h = cc
from_at f (y ∷ ys) (suc c) x is = from_at f ys c x is

-- of rising places the later ones lie behind the first
behind : (c : Con) (cs : List Con) → Rises (c ∷ cs) → All (λ (d : Con). suc c.0 ≤ d.0) cs
behind c cs rises = λ n d within. omega (arith, rises zero (suc n) d (omega arith) (omega (arith, within)))

rises_tail : (c : Con) (cs : List Con) → Rises (c ∷ cs) → Rises cs
rises_tail c cs rises = λ i j d less within. rises (suc i) (suc j) d (omega (arith, less)) (omega (arith, within))

at_one : {X : Type 0} (f : X → ℕ) (xs : List X) (k c : ℕ) (rest : List X) (o : Option X) → slice_get xs c ≡ o → k ≤ c → sum_by f rest ≤ from f xs (suc c) → sum_by f (cons_option o rest) ≤ from f xs k
at_one f xs k c rest None is less others = through (sum_by f rest) (from f xs (suc c)) (from f xs k) others (from_less f xs k (suc c) (omega (arith, less)))
at_one f xs k c rest (Some x) is less others =
    join_less (f x) (sum_by f rest) (from f xs (suc c)) (from f xs k) (sum_by f (x ∷ rest)) (sum_by-cons f x rest) others
    (one_less (f x) (from f xs (suc c)) (from f xs c) (from f xs k) (from_at f xs c x is) (from_less f xs k c less))

fewer_from : {X : Type 0} (f : X → ℕ) (xs : List X) (k : ℕ) (cs : List Con) → Rises cs → All (λ (c : Con). k ≤ c.0) cs → sum_by f (filter_map (λ c. slice_get xs c.0) cs) ≤ from f xs k
fewer_from f xs k [] rises above = zero_less (from f xs k)
fewer_from f xs k (c ∷ cs) rises above =
    at_one f xs k c.0 (filter_map (λ (d : Con). slice_get xs d.0) cs) (slice_get xs c.0) refl (All-head (λ (d : Con). k ≤ d.0) c cs above) (fewer_from f xs (suc c.0) cs (rises_tail c cs rises) (behind c cs rises))

pub fewer : {X : Type 0} (f : X → ℕ) (xs : List X) (cs : List Con) → Rises cs → sum_by f (filter_map (λ c. slice_get xs c.0) cs) ≤ sum_by f xs
fewer f xs cs rises = fewer_from f xs zero cs rises (λ n d within. omega arith)
