-- The lists of queues of which one is changed.
use Rattle.std.proofs.Common.{◌≡◌, ℕ, zero, suc, ◌+◌, ◌<◌, List, [], ◌∷◌, length, set, replicate, get_or, slice_get, map, Some, None, refl, sym, ap, arith, ◌∙◌}
use Rattle.iqueue.specs.code.Queue.{Queue, without, woken, AreDistinctBelow}
use Rattle.wake_levels.specs.declared.levels.Turn.{Turn}
use Rattle.wake_levels.specs.code.Waking.{Waking, next_level, first_turn, without_on_all, woken_on}
use Rattle.wake_levels.specs.code.Queues.{lists_of, AreBelow, queue_without}

abbrev pub waking : ℕ → List (List ℕ) → Waking
waking n kss = record { below = n; levels = kss }

pub lists_count : (qs : List Queue) → length (lists_of qs) ≡ length qs
lists_count [] = refl
lists_count (q ∷ qs) = ap suc (lists_count qs)

pub set_count : (qs : List Queue) (i : ℕ) (w : Queue) → length (set qs i w) ≡ length qs
set_count [] i w = refl
set_count (q ∷ qs) zero w = refl
set_count (q ∷ qs) (suc i) w = ap suc (set_count qs i w)

pub below_at : (qs : List Queue) (i n : ℕ) (q : Queue) → i < length qs → q ≡ get_or qs i q → AreBelow n qs → q.below ≡ n
below_at [] i n q within at are = absurd (omega (arith, within))
below_at (p ∷ qs) zero n q within at are = ap (λ (q : Queue). q.below) at ∙ are.0
below_at (p ∷ qs) (suc i) n q within at are = below_at qs i n q (omega (arith, within)) at are.1

pub below_set : (qs : List Queue) (i n : ℕ) (w : Queue) → w.below ≡ n → AreBelow n qs → AreBelow n (set qs i w)
below_set [] i n w low are = are
below_set (q ∷ qs) zero n w low are = (low, are.1)
below_set (q ∷ qs) (suc i) n w low are = (are.0, below_set qs i n w low are.1)

pub list_at : (qs : List Queue) (i : ℕ) (q : Queue) → i < length qs → q ≡ get_or qs i q → get_or (lists_of qs) i [] ≡ q.list
list_at [] i q within at = absurd (omega (arith, within))
list_at (p ∷ qs) zero q within at = sym (ap (λ (q : Queue). q.list) at)
list_at (p ∷ qs) (suc i) q within at = list_at qs i q (omega (arith, within)) at

pub woken_at : (qs : List Queue) (i k : ℕ) (q w : Queue) → i < length qs → q ≡ get_or qs i q → w ≡ record q { list = woken k q.list } → lists_of (set qs i w) ≡ woken_on k i (lists_of qs)
woken_at [] i k q w within at is = absurd (omega (arith, within))
woken_at (p ∷ qs) zero k q w within at is = ap (λ (ks : List ℕ). ks ∷ lists_of qs) (ap (λ (q : Queue). q.list) is ∙ ap (λ (q : Queue). woken k q.list) at)
woken_at (p ∷ qs) (suc i) k q w within at is = ap (λ kss. p.list ∷ kss) (woken_at qs i k q w (omega (arith, within)) at is)

abbrev pub turn_of : ℕ → ℕ → Turn
turn_of k n = record { k = k; level = n }

-- the turn of levels of which the first ones are empty
pub turn_at : (kss : List (List ℕ)) (i k : ℕ) → i < length kss → ((j : ℕ) → j < i → get_or kss j [] ≡ []) → slice_get (get_or kss i []) 0 ≡ Some k → first_turn kss ≡ Some (turn_of k i)
turn_at [] i k within before here = absurd (omega (arith, within))
turn_at ([] ∷ kss) zero k within before here = cc
turn_at ((j ∷ ks) ∷ kss) zero k within before here = let same : j ≡ k = cc in rw same refl
turn_at ([] ∷ kss) (suc i) k within before here = rw (turn_at kss i k (omega (arith, within)) (λ j less. before (suc j) (omega (arith, less))) here) (level_up k i)
  where
    level_up : (k i : ℕ) → Some (next_level (turn_of k i)) ≡ Some (turn_of k (suc i))
    level_up k i = let next : i + 1 ≡ suc i = omega arith in ap (λ n. Some (turn_of k n)) next
turn_at ((j ∷ ks) ∷ kss) (suc i) k within before here = let none : j ∷ ks ≡ [] = before 0 (omega arith) in cc

pub no_turn : (kss : List (List ℕ)) → ((j : ℕ) → j < length kss → get_or kss j [] ≡ []) → first_turn kss ≡ None
no_turn [] all = refl
no_turn ([] ∷ kss) all = rw (no_turn kss (λ j less. all (suc j) (omega (arith, less)))) refl
no_turn ((k ∷ ks) ∷ kss) all = let none : k ∷ ks ≡ [] = all 0 (omega arith) in cc

-- queues of which the first ones are without a number
abbrev pub unwoken_below : ℕ → ℕ → List Queue → List Queue
unwoken_below k zero qs = qs
unwoken_below k (suc i) [] = []
unwoken_below k (suc i) (q ∷ qs) = queue_without k q ∷ unwoken_below k i qs

pub unwoken_all : (k i : ℕ) (qs : List Queue) → i ≡ length qs → unwoken_below k i qs ≡ map (queue_without k) qs
unwoken_all k zero [] is = refl
unwoken_all k zero (q ∷ qs) is = absurd (omega (arith, is))
unwoken_all k (suc i) [] is = refl
unwoken_all k (suc i) (q ∷ qs) is = ap (λ ps. queue_without k q ∷ ps) (unwoken_all k i qs (omega (arith, is)))

pub below_unwoken : (n k i : ℕ) (qs : List Queue) → AreBelow n qs → AreBelow n (unwoken_below k i qs)
below_unwoken n k zero qs are = are
below_unwoken n k (suc i) [] are = are
below_unwoken n k (suc i) (q ∷ qs) are = (are.0, below_unwoken n k i qs are.1)

unwoken_next : (k i : ℕ) (qs : List Queue) (q : Queue) → i < length qs → q ≡ get_or (unwoken_below k i qs) i q → set (unwoken_below k i qs) i (queue_without k q) ≡ unwoken_below k (suc i) qs
unwoken_next k i [] q within at = absurd (omega (arith, within))
unwoken_next k zero (p ∷ qs) q within at = ap (λ r. queue_without k r ∷ qs) at
unwoken_next k (suc i) (p ∷ qs) q within at = ap (λ ps. queue_without k p ∷ ps) (unwoken_next k i qs q (omega (arith, within)) at)

pub unwoken_more : (k i : ℕ) (qs : List Queue) (q w : Queue) → i < length qs → q ≡ get_or (unwoken_below k i qs) i q → w ≡ record q { list = without k q.list } → set (unwoken_below k i qs) i w ≡ unwoken_below k (i + 1) qs
unwoken_more k i qs q w within at is =
    let next : suc i ≡ i + 1 = omega arith in
    ap (set (unwoken_below k i qs) i) is ∙ unwoken_next k i qs q within at ∙ ap (λ j. unwoken_below k j qs) next

pub lists_without : (k : ℕ) (qs : List Queue) → lists_of (map (queue_without k) qs) ≡ without_on_all k (lists_of qs)
lists_without k [] = refl
lists_without k (q ∷ qs) = ap (λ kss. without k q.list ∷ kss) (lists_without k qs)

pub below_without : (n k : ℕ) (qs : List Queue) → AreBelow n qs → AreBelow n (map (queue_without k) qs)
below_without n k [] are = are
below_without n k (q ∷ qs) are = (are.0, below_without n k qs are.1)

pub some_without : (k : ℕ) (qs : List Queue) → 0 < length qs → 0 < length (map (queue_without k) qs)
some_without k [] some = some
some_without k (q ∷ qs) some = omega arith

pub some_queues : (qs : List Queue) (i : ℕ) (w : Queue) → 0 < length qs → 0 < length (set qs i w)
some_queues qs i w some = omega (arith, some, set_count qs i w)

pub below_all : (n i : ℕ) → AreBelow n (replicate i (record { below = n; list = [] }))
below_all n zero = tt
below_all n (suc i) = (refl, below_all n i)

pub some_all : (q : Queue) (i : ℕ) → 0 < i → 0 < length (replicate i q)
some_all q zero h = omega (arith, h)
some_all q (suc i) h = omega arith

pub lists_all : (n i : ℕ) → lists_of (replicate i (record { below = n; list = [] })) ≡ replicate i []
lists_all n zero = refl
lists_all n (suc i) = ap (λ kss. [] ∷ kss) (lists_all n i)

-- a first number of a queue is below its bound
pub first_below : (n k : ℕ) (ks : List ℕ) → Some k ≡ slice_get ks 0 → AreDistinctBelow n ks → k < n
first_below n k [] is distinct = cc
first_below n k (j ∷ ks) is distinct = let same : k ≡ j = cc in rw same distinct.0

pub empty_list : (ks : List ℕ) → None ≡ slice_get ks 0 → ks ≡ []
empty_list [] is = refl
empty_list (k ∷ ks) is = cc
