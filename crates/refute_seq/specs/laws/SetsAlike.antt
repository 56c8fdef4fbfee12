-- The rows over sets read the bounds of the members of their sequence alone.
use Rattle.std.specs.Prelude.{◌≡◌, ℕ, Bool, true, false, not, ◌&&◌, List, [], ◌∷◌, Option, Some, None, map, nat_lt, slice_get}
use Rattle.std.specs.List.{list_all}
use Rattle.std.proofs.Common.{refl, ap, ◌∙◌}
use Rattle.base_laws.specs.laws.Lists.{same_lists}
use Rattle.base_laws.specs.laws.Truth.{four_true}
use Rattle.sched_base.specs.declared.ids.Itv.{Itv}
use Rattle.sched_base.specs.declared.ids.Seq.{Seq}
use Rattle.sched_model.specs.declared.types.Constraint.{Constraint}
use Rattle.sched_model.specs.declared.types.Constraint.TheVariants as constraint
use Rattle.sched_model.specs.Words.{passes, is_empty, adjacent}
use Rattle.sched_model.specs.Data as model
use Rattle.sched_model.specs.Data.{Data, members_of}
use Rattle.region.specs.Cells.{Region, bounds_of, is_there, says_present}
use Rattle.region.specs.Looks.{Seen}
use Rattle.region.specs.laws.Lists.{both_true}
use Rattle.task_sets.specs.Times.{Times, has, is_set, is_task_set, is_outside, is_overload, is_edge, is_not_end, is_detected, overload_row, edge_row, seen_in, turned}
use Rattle.task_sets.specs.laws.Sums.{has_first, has_later, all_have}
use Rattle.refute_seq.specs.Sets.{times_in, times_of, is_task, without_overlap, overload_at, edge_at, not_end_at, detect_at}
use Rattle.refute_seq.specs.laws.Tasks.{itv}

-- the same are tasks, with the same numbers
record SameTasks (d e : ℕ → Times) (t u : ℕ → Bool) : Type 0 where
  tasks : (n : ℕ) → t n ≡ u n
  numbers : (n : ℕ) → t n ≡ true → d n ≡ e n

-- the second of two tests counts where the first passes
behind : (b c p q : Bool) → b ≡ c → (b ≡ true → p ≡ q) → (b && p) ≡ (c && q)
behind true true p q first second = second refl
behind true false p q first second = cc
behind false true p q first second = cc
behind false false p q first second = refl

pub all_same : (t u : ℕ → Bool) (s : List ℕ) → ((n : ℕ) → t n ≡ u n) → list_all t s ≡ list_all u s
all_same t u [] same = refl
all_same t u (n ∷ s) same = ap (λ b. b && list_all t s) (same n) ∙ ap (λ b. u n && b) (all_same t u s same)

pub set_same : (t u : ℕ → Bool) (s : List ℕ) → ((n : ℕ) → t n ≡ u n) → is_task_set t s ≡ is_task_set u s
set_same t u s same = ap (λ b. adjacent nat_lt s && b && not (is_empty s)) (all_same t u s same)

map_same : (d e : ℕ → Times) (s : List ℕ) → ((n : ℕ) → has s n ≡ true → d n ≡ e n) → map d s ≡ map e s
map_same d e [] same = refl
map_same d e (n ∷ s) same = same_lists (d n) (e n) (map d s) (map e s) (same n (has_first n s)) (map_same d e s (λ k here. same k (has_later n k s here)))

-- who is in a set of tasks is one
in_set : (t : ℕ → Bool) (s : List ℕ) (n : ℕ) → is_set t s ≡ true → has s n ≡ true → t n ≡ true
in_set t s n h here = all_have t s n (both_true (adjacent nat_lt s) (list_all t s) h).1 here

in_task_set : (t : ℕ → Bool) (s : List ℕ) (n : ℕ) → is_task_set t s ≡ true → has s n ≡ true → t n ≡ true
in_task_set t s n h here = in_set t s n (both_true (is_set t s) (not (is_empty s)) h).0 here

tasks_same : (d e : ℕ → Times) (t u : ℕ → Bool) (s : List ℕ) → SameTasks d e t u → is_task_set t s ≡ true → map d s ≡ map e s
tasks_same d e t u s same h = map_same d e s (λ n here. same.numbers n (in_task_set t s n h here))

overload_same : (d e : ℕ → Times) (t u : ℕ → Bool) (s : List ℕ) → SameTasks d e t u → overload_row d t s ≡ overload_row e u s
overload_same d e t u s same = behind (is_task_set t s) (is_task_set u s) (is_overload (map d s)) (is_overload (map e s)) (set_same t u s same.tasks) (λ h. ap is_overload (tasks_same d e t u s same h))

-- a task beside a set
pub front_same : (t u : ℕ → Bool) (i : ℕ) (s : List ℕ) → ((n : ℕ) → t n ≡ u n) → (is_outside t i s && is_task_set t s) ≡ (is_outside u i s && is_task_set u s)
front_same t u i s same = ap (λ b. b && not (has s i) && is_task_set t s) (same i) ∙ ap (λ b. is_outside u i s && b) (set_same t u s same)

-- a row of a task and a set, as a test of their numbers
beside : (f : Times → List Times → Bool) (d e : ℕ → Times) (t u : ℕ → Bool) (i : ℕ) (s : List ℕ) → SameTasks d e t u → (is_outside t i s && is_task_set t s && f (d i) (map d s)) ≡ (is_outside u i s && is_task_set u s && f (e i) (map e s))
beside f d e t u i s same = behind (is_outside t i s && is_task_set t s) (is_outside u i s && is_task_set u s) (f (d i) (map d s)) (f (e i) (map e s)) (front_same t u i s same.tasks) (λ h.
    let two = both_true (is_outside t i s) (is_task_set t s) h in
    ap (λ x. f x (map d s)) (same.numbers i (both_true (t i) (not (has s i)) two.0).0) ∙ ap (f (e i)) (tasks_same d e t u s same two.1))

edge_same : (d e : ℕ → Times) (t u : ℕ → Bool) (i : ℕ) (s p q : List ℕ) → SameTasks d e t u → edge_row d t i s p q ≡ edge_row e u i s p q
edge_same d e t u i s p q same =
    behind (is_outside t i s && is_task_set t s && is_set (has s) p && is_task_set (has s) q) (is_outside u i s && is_task_set u s && is_set (has s) p && is_task_set (has s) q)
    (is_edge (d i) (map d s) (map d p) (map d q)) (is_edge (e i) (map e s) (map e p) (map e q))
    (ap (λ b. b && is_set (has s) p && is_task_set (has s) q) (front_same t u i s same.tasks)) (λ h.
    let four = four_true (is_outside t i s) (is_task_set t s) (is_set (has s) p) (is_task_set (has s) q) h in
    let each : (n : ℕ) → has s n ≡ true → d n ≡ e n = λ n here. same.numbers n (in_task_set t s n four.1 here) in
    ap (λ x. is_edge x (map d s) (map d p) (map d q)) (same.numbers i (both_true (t i) (not (has s i)) four.0).0)
    ∙ ap (λ xs. is_edge (e i) xs (map d p) (map d q)) (map_same d e s each)
    ∙ ap (λ xs. is_edge (e i) (map e s) xs (map d q)) (map_same d e p (λ n here. each n (in_set (has s) p n four.2 here)))
    ∙ ap (λ xs. is_edge (e i) (map e s) (map e p) xs) (map_same d e q (λ n here. each n (in_task_set (has s) q n four.3 here))))

-- two regions show the same of the members of a sequence
abbrev pub SameTimes : Data → Region → Region → Seq → Type 0
SameTimes m r q p = (x : Itv) → model.has (members_of m p) x ≡ true → bounds_of r x ≡ bounds_of q x

task_same : (m : Data) (r q : Region) (p : Seq) (n : ℕ) → SameTimes m r q p → is_task m r p n ≡ is_task m q p n
task_same m r q p n h = behind (model.has (members_of m p) (itv n)) (model.has (members_of m p) (itv n)) (is_there r (itv n)) (is_there q (itv n)) refl (λ here. ap (λ c. says_present c.presence) (h (itv n) here))

same_tasks : (m : Data) (r q : Region) (p : Seq) (side : ℕ) → SameTimes m r q p → SameTasks (turned side (times_of r)) (turned side (times_of q)) (is_task m r p) (is_task m q p)
same_tasks m r q p side h = record {
  tasks = λ n. task_same m r q p n h;
  numbers = λ n on. ap (λ c. seen_in side (times_in c)) (h (itv n) (both_true (model.has (members_of m p) (itv n)) (is_there r (itv n)) on).0);
}

-- and of the members of the sequence of a constraint without overlap
abbrev pub SameMembers : Data → Region → Region → Option Constraint → Type 0
SameMembers m r q (Some (constraint.NoOverlap p matrix direct)) = SameTimes m r q p
SameMembers m r q _ = Unit {0}

row_same : (m : Data) (r q : Region) (f g : Seq → Bool) (o : Option Constraint) → ((p : Seq) → SameTimes m r q p → f p ≡ g p) → SameMembers m r q o → passes (without_overlap f) o ≡ passes (without_overlap g) o
row_same m r q f g None same h = refl
row_same m r q f g (Some (constraint.NoOverlap p matrix direct)) same h = same p h
row_same m r q f g (Some other) same h = refl

pub overload_alike : (m : Data) (l k : Seen) (c : ℕ) (s : List ℕ) → SameMembers m l.region k.region (slice_get m.constraints c) → overload_at m l c s ≡ overload_at m k c s
overload_alike m l k c s h = row_same m l.region k.region _ _ (slice_get m.constraints c) (λ p same.
    overload_same (times_of l.region) (times_of k.region) (is_task m l.region p) (is_task m k.region p) s (same_tasks m l.region k.region p 0 same)) h

pub edge_alike : (m : Data) (l k : Seen) (c side i : ℕ) (s u v : List ℕ) → SameMembers m l.region k.region (slice_get m.constraints c) → edge_at m l c side i s u v ≡ edge_at m k c side i s u v
edge_alike m l k c side i s u v h = row_same m l.region k.region _ _ (slice_get m.constraints c) (λ p same.
    ap (λ b. nat_lt side 2 && b) (edge_same (turned side (times_of l.region)) (turned side (times_of k.region)) (is_task m l.region p) (is_task m k.region p) i s u v (same_tasks m l.region k.region p side same))) h

pub not_end_alike : (m : Data) (l k : Seen) (c side i : ℕ) (s : List ℕ) → SameMembers m l.region k.region (slice_get m.constraints c) → not_end_at m l c side i s ≡ not_end_at m k c side i s
not_end_alike m l k c side i s h = row_same m l.region k.region _ _ (slice_get m.constraints c) (λ p same.
    ap (λ b. nat_lt side 2 && b) (beside is_not_end (turned side (times_of l.region)) (turned side (times_of k.region)) (is_task m l.region p) (is_task m k.region p) i s (same_tasks m l.region k.region p side same))) h

pub detect_alike : (m : Data) (l k : Seen) (c side i : ℕ) (s : List ℕ) → SameMembers m l.region k.region (slice_get m.constraints c) → detect_at m l c side i s ≡ detect_at m k c side i s
detect_alike m l k c side i s h = row_same m l.region k.region _ _ (slice_get m.constraints c) (λ p same.
    ap (λ b. nat_lt side 2 && b) (beside is_detected (turned side (times_of l.region)) (turned side (times_of k.region)) (is_task m l.region p) (is_task m k.region p) i s (same_tasks m l.region k.region p side same))) h
