-- The sizes of job shops, and how long lists are.
use Rattle.std.proofs.Common.{◌≡◌, ℕ, zero, suc, ◌+◌, ◌*◌, ◌/◌, ◌%◌, ◌<◌, ◌≤◌, ◌==◌, Bool, true, List, [], ◌∷◌, map, length, nat_le, arith}
use Rattle.std.specs.List.{flat_map, list_all, range_with_len}
use Rattle.std.proofs.lemmas.Bool.{and_parts}
use Rattle.std.proofs.lemmas.List.{length-append}
use Rattle.std.proofs.lemmas.List.FromFn.{length-range_with_len, length-map-range_with_len}
use Rattle.std.proofs.lemmas.List.Sums.{length-filter, count_by-le-length}
use Rattle.base_laws.specs.laws.Numbers.{at_most}
use Rattle.base_laws.specs.laws.Truth.{five_true}
use Rattle.modelgen.specs.Draws.{after, draw}
use Rattle.modelgen.specs.Generated.{name, operations_on, are_within}
use Rattle.generated_models.specs.Shops.{by_jobs}
use Rattle.generated_models.proofs.shop.Lists.{kept_pass, joined_pass}

pub record Sizes (jobs machines : ℕ) : Type 0 where
  pub some_jobs : 1 ≤ jobs
  pub few_jobs : jobs ≤ 500
  pub some_machines : 1 ≤ machines
  pub few_machines : machines ≤ 200
  pub few : jobs * machines ≤ 2000

pub sizes : (jobs machines : ℕ) → are_within jobs machines ≡ true → Sizes jobs machines
sizes jobs machines within =
    let parts = five_true (nat_le 1 jobs) (nat_le jobs 500) (nat_le 1 machines) (nat_le machines 200) (nat_le (jobs * machines) 2000) within in
    record { some_jobs = at_most 1 jobs parts.0; few_jobs = at_most jobs 500 parts.1; some_machines = at_most 1 machines parts.2; few_machines = at_most machines 200 parts.3; few = at_most (jobs * machines) 2000 parts.4 }

pub draw_small : (x n : ℕ) → draw x n ≤ 20
draw_small x n = let s = after x (n + 1) / 65536 in by s where
  by : (s : ℕ) → 1 + s % 20 ≤ 20
  by s = omega arith

-- a list of lists, none of which is longer than c
pub joined_length : {X Y : Type 0} (f : X → List Y) (c : ℕ) (xs : List X) → list_all (λ x. nat_le (length (f x)) c) xs ≡ true → length (flat_map f xs) ≤ length xs * c
joined_length f c [] all = omega arith
joined_length f c (x ∷ xs) all =
    let parts = and_parts (nat_le (length (f x)) c) (list_all (λ x. nat_le (length (f x)) c) xs) all in
    let here = at_most (length (f x)) c parts.0 in
    let rest = joined_length f c xs parts.1 in
    omega (arith, here, rest, length-append (f x) (flat_map f xs))

pub numbers_length : {Y : Type 0} (f : ℕ → List Y) (c a n : ℕ) → ((i : ℕ) → length (f i) ≤ c) → length (flat_map f (range_with_len a n)) ≤ n * c
numbers_length f c a zero each = omega arith
numbers_length f c a (suc n) each =
    let here = each a in
    let rest = numbers_length f c (a + 1) n each in
    omega (arith, here, rest, length-append (f a) (flat_map f (range_with_len (a + 1) n)))

-- one item at most for each operation
pub few_blocks : {jobs machines : ℕ} {Y : Type 0} → Sizes jobs machines → (f : ℕ → ℕ → Y) (a n : ℕ) → n ≤ machines → length (by_jobs jobs (λ j. map (f j) (range_with_len a n))) ≤ 2000
few_blocks {jobs} {machines} z f a n narrow =
    let few = z.few in
    let all = numbers_length (λ j. map (f j) (range_with_len a n)) machines 0 jobs (λ j. let size = length-map-range_with_len (f j) a n in omega (arith, narrow, size)) in
    omega (arith, all, few)

pub operations_length : (machines q j : ℕ) → length (operations_on machines q j) ≤ machines
operations_length machines q j =
    let p = λ (k : ℕ). (j + k) % machines == q in
    omega (arith, length-filter p (range_with_len 0 machines), count_by-le-length p (range_with_len 0 machines), length-range_with_len 0 machines)

-- what the names of a machine's operations pass
pub all_members : (jobs machines q : ℕ) (p : List ℕ → Bool) → ((j k : ℕ) → j < jobs → k < machines → p (name j k) ≡ true) → list_all p (by_jobs jobs (λ j. map (name j) (operations_on machines q j))) ≡ true
all_members jobs machines q p each = joined_pass p (λ j. map (name j) (operations_on machines q j)) 0 jobs
    (λ j low high. kept_pass p (name j) (λ k. (j + k) % machines == q) 0 machines (λ k more less. each j k (omega (arith, high)) (omega (arith, less))))
