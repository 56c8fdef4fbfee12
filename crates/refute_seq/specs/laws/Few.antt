-- The numbers of a witness that refutes are few: a set has no more members than the model has intervals.
use Rattle.std.specs.Prelude.{◌≡◌, ℕ, ◌+◌, ◌<◌, ◌≤◌, Bool, true, not, ◌&&◌, List, [], ◌∷◌, ◌++◌, Option, Some, None, length, nat_lt, slice_get}
use Rattle.std.specs.List.{list_all}
use Rattle.std.proofs.Common.{arith, length-append}
use Rattle.base_laws.specs.laws.Truth.{three_true, four_true}
use Rattle.sched_base.specs.declared.ids.Seq.{Seq}
use Rattle.sched_model.specs.declared.types.Constraint.{Constraint}
use Rattle.sched_model.specs.declared.types.Constraint.TheVariants as constraint
use Rattle.sched_model.specs.Words.{adjacent, passes, is_empty}
use Rattle.sched_model.specs.Data as model
use Rattle.sched_model.specs.Data.{Data, members_of}
use Rattle.sched_model.specs.Valid.{IsValid}
use Rattle.sched_model.specs.laws.Limits.{limits_of}
use Rattle.region.specs.Cells.{Region, is_there}
use Rattle.region.specs.Looks.{Seen}
use Rattle.region.specs.laws.Lists.{both_true}
use Rattle.region.specs.laws.OneSequence.{below_is}
use Rattle.task_sets.specs.Times.{has, is_set, is_task_set, is_outside, overload_row, edge_row, not_end_row, detect_row, turned}
use Rattle.task_sets.specs.laws.Sums.{has_first, has_later, all_have}
use Rattle.refute_seq.specs.declared.witness.SeqWitness.{SeqWitness}
use Rattle.refute_seq.specs.declared.witness.SeqWitness.TheVariants.{Pair, Triple, Overload, Edge, NotEnd, Detect}
use Rattle.refute_seq.specs.Witness.{set_numbers, numbers_of, is_valid}
use Rattle.refute_seq.specs.Sets.{times_of, is_task, without_overlap}
use Rattle.refute_seq.specs.OnSequence.{refutes, row_of}
use Rattle.refute_seq.specs.laws.Known.{member_is}
use Rattle.refute_seq.specs.laws.SetNumbers.{set_count}
use Rattle.refute_seq.specs.laws.Tasks.{itv}

-- a rising list of numbers below some has no more
rising_few : (n x : ℕ) (xs : List ℕ) → adjacent nat_lt (x ∷ xs) ≡ true → ((y : ℕ) → has (x ∷ xs) y ≡ true → y < n) → x + length (x ∷ xs) ≤ n
rising_few n x [] rises low = let last = low x (has_first x []) in omega (arith, last)
rising_few n x (y ∷ ys) rises low =
    let two = both_true (nat_lt x y) (adjacent nat_lt (y ∷ ys)) rises in
    let less = below_is x y two.0 in
    let rest = rising_few n y ys two.1 (λ z here. low z (has_later x z (y ∷ ys) here)) in
    omega (arith, less, rest)

few_of : (n : ℕ) (s : List ℕ) → adjacent nat_lt s ≡ true → ((y : ℕ) → has s y ≡ true → y < n) → length s ≤ n
few_of n [] rises low = omega arith
few_of n (x ∷ xs) rises low = let most = rising_few n x xs rises low in omega (arith, most)

in_set : (t : ℕ → Bool) (s : List ℕ) (y : ℕ) → is_set t s ≡ true → has s y ≡ true → t y ≡ true
in_set t s y h here = all_have t s y (both_true (adjacent nat_lt s) (list_all t s) h).1 here

set_few : (n : ℕ) (t : ℕ → Bool) (s : List ℕ) → ((y : ℕ) → t y ≡ true → y < n) → is_set t s ≡ true → length s ≤ n
set_few n t s low h = few_of n s (both_true (adjacent nat_lt s) (list_all t s) h).0 (λ y here. low y (in_set t s y h here))

task_below : (m : Data) (r : Region) (p : Seq) (y : ℕ) → IsValid m → is_task m r p y ≡ true → y < length m.intervals
task_below m r p y valid h = below_is y (length m.intervals) (member_is m p (itv y) valid (both_true (model.has (members_of m p) (itv y)) (is_there r (itv y)) h).0)

tasks_few : (m : Data) (r : Region) (p : Seq) (s : List ℕ) → IsValid m → is_task_set (is_task m r p) s ≡ true → length s ≤ 2000
tasks_few m r p s valid h =
    let few = set_few (length m.intervals) (is_task m r p) s (λ y on. task_below m r p y valid on) (both_true (is_set (is_task m r p) s) (not (is_empty s)) h).0 in
    let most = (limits_of m valid.limits).intervals in
    omega (arith, few, most)

part_few : (m : Data) (r : Region) (p : Seq) (s u : List ℕ) → IsValid m → is_task_set (is_task m r p) s ≡ true → is_set (has s) u ≡ true → length u ≤ 2000
part_few m r p s u valid h part =
    let few = set_few (length m.intervals) (has s) u (λ y on. task_below m r p y valid (in_set (is_task m r p) s y (both_true (is_set (is_task m r p) s) (not (is_empty s)) h).0 on)) part in
    let most = (limits_of m valid.limits).intervals in
    omega (arith, few, most)

-- a row that holds of a constraint without overlap holds of its sequence
row_found : (row : Seq → Bool) (o : Option Constraint) → passes (without_overlap row) o ≡ true → (p : Seq) × (row p ≡ true)
row_found row (Some (constraint.NoOverlap p matrix direct)) h = (p, h)
row_found row None h = cc
row_found row (Some other) h = cc

row_holds : (m : Data) (l : Seen) (w : SeqWitness) → refutes m l w ≡ true → row_of m l w ≡ true
row_holds m l w h = (both_true (is_valid w) (row_of m l w) h).1

pub refuting_few : (m : Data) (l : Seen) (w : SeqWitness) → IsValid m → refutes m l w ≡ true → length (numbers_of w) ≤ 6007
refuting_few m l (Pair c a b k) valid h = omega arith
refuting_few m l (Triple p x y z) valid h = omega arith
refuting_few m l (Overload c s) valid h =
    let row = row_found (λ p. overload_row (times_of l.region) (is_task m l.region p) s) (slice_get m.constraints c) (row_holds m l (Overload c s) h) in
    let few = tasks_few m l.region row.0 s valid (both_true (is_task_set (is_task m l.region row.0) s) _ row.1).0 in
    omega (arith, few, set_count s)
refuting_few m l (Edge c side i s u v) valid h =
    let row = row_found (λ p. nat_lt side 2 && edge_row (turned side (times_of l.region)) (is_task m l.region p) i s u v) (slice_get m.constraints c) (row_holds m l (Edge c side i s u v) h) in
    let t = is_task m l.region row.0 in
    let front = (both_true (is_outside t i s && is_task_set t s && is_set (has s) u && is_task_set (has s) v) _ (both_true (nat_lt side 2) _ row.1).1).0 in
    let four = four_true (is_outside t i s) (is_task_set t s) (is_set (has s) u) (is_task_set (has s) v) front in
    let all = tasks_few m l.region row.0 s valid four.1 in
    let first = part_few m l.region row.0 s u valid four.1 four.2 in
    let second = part_few m l.region row.0 s v valid four.1 (both_true (is_set (has s) v) (not (is_empty v)) four.3).0 in
    omega (arith, all, first, second, set_count s, set_count u, set_count v, length-append (set_numbers s) (set_numbers u ++ set_numbers v), length-append (set_numbers u) (set_numbers v))
refuting_few m l (NotEnd c side i s) valid h =
    let row = row_found (λ p. nat_lt side 2 && not_end_row (turned side (times_of l.region)) (is_task m l.region p) i s) (slice_get m.constraints c) (row_holds m l (NotEnd c side i s) h) in
    let t = is_task m l.region row.0 in
    let few = tasks_few m l.region row.0 s valid (three_true (is_outside t i s) (is_task_set t s) _ (both_true (nat_lt side 2) _ row.1).1).1 in
    omega (arith, few, set_count s)
refuting_few m l (Detect c side i s) valid h =
    let row = row_found (λ p. nat_lt side 2 && detect_row (turned side (times_of l.region)) (is_task m l.region p) i s) (slice_get m.constraints c) (row_holds m l (Detect c side i s) h) in
    let t = is_task m l.region row.0 in
    let few = tasks_few m l.region row.0 s valid (three_true (is_outside t i s) (is_task_set t s) _ (both_true (nat_lt side 2) _ row.1).1).1 in
    omega (arith, few, set_count s)
