-- Each witness of this crate's kinds has one propagator, and one that has none refutes nothing.
use Rattle.std.specs.Prelude.{◌≡◌, ℕ, zero, suc, ◌+◌, ◌-◌, ◌<◌, ◌≤◌, ℤ, Bool, true, false, ◌&&◌, length, Option, nat_eq, nat_lt, cond}
use Rattle.std.proofs.Common.{refl, sym, ap, subst, ◌∙◌, arith}
use Rattle.std.proofs.lemmas.Bool.{true≢false, and_parts}
use Rattle.std.proofs.lemmas.Bool.Decides.{nat_tests}
use Rattle.sched_model.specs.Data.{Data}
use Rattle.region.specs.Cells.{Region}
use Rattle.region.specs.Looks.{Seen, IsRegionOf, is_narrowed}
use Rattle.region.specs.laws.Lists.{placewise-length}
use Rattle.refute_basic.specs.declared.witness.BasicWitness.{BasicWitness}
use Rattle.refute_basic.specs.declared.witness.BasicWitness.TheVariants.{Size, Arc, Cycle, Expr, Obj, Leaf}
use Rattle.refute_basic.specs.Size.{size_row}
use Rattle.refute_basic.specs.Expr.{is_never_true, expr_row}
use Rattle.refute_basic.specs.Basic.{refutes}
use Rattle.refute_basic.specs.laws.Size.{none_past}
use Rattle.prop_basic.specs.code.Tasks.{size_of, is_own, looks_after, witness_at, quiet, IsSilent}
use Rattle.base_laws.specs.laws.Truth.{never_both}
use Rattle.sched_model.specs.laws.Words.{none_past as nothing_past}
use Rattle.sched_model.specs.Bounds.{is_number}

same_number : (i j : ℕ) → nat_eq i j ≡ true → i ≡ j
same_number i j h = grind (arith, nat_tests)

is_same : (i j : ℕ) → i ≡ j → nat_eq i j ≡ true
is_same i j h = grind (arith, nat_tests)

below : (i n : ℕ) → nat_lt i n ≡ true → i < n
below i n h = grind (arith, nat_tests)

pub is_below : (i n : ℕ) → i < n → nat_lt i n ≡ true
is_below i n h = grind (arith, nat_tests)

not_below : (n c : ℕ) → nat_lt (n + c) n ≡ false
not_below n c = grind (arith, nat_tests)

past : (i n : ℕ) → nat_lt i n ≡ false → n ≤ i
past i n h = grind (arith, nat_tests)

rest : (n c : ℕ) → n + c - n ≡ c
rest n c = omega arith

pub size_at : (m : Data) (x : ℕ) → nat_lt x (length m.intervals) ≡ true → witness_at m (suc x) ≡ Size x
size_at m x h = ap (λ b. cond b (Size x) (Expr (x - length m.intervals))) h

pub expr_at : (m : Data) (c : ℕ) → witness_at m (suc (length m.intervals + c)) ≡ Expr c
expr_at m c = ap (λ b. cond b (Size (length m.intervals + c)) (Expr (length m.intervals + c - length m.intervals))) (not_below (length m.intervals) c) ∙ ap Expr (rest (length m.intervals) c)

-- a propagator looks after its witness alone
pub owned : (m : Data) (k : ℕ) (w : BasicWitness) → looks_after m k w ≡ true → w ≡ witness_at m k
owned m k Obj h = ap (witness_at m) (sym (same_number k 0 h))
owned m k (Size x) h =
    let two = and_parts (nat_lt x (length m.intervals)) (nat_eq k (1 + x)) h in
    let at : k ≡ suc x = let e = same_number k (1 + x) two.1 in omega (arith, e) in
    sym (ap (witness_at m) at ∙ size_at m x two.0)
owned m k (Expr c) h =
    let two = and_parts (nat_lt c (length m.constraints)) (nat_eq k (1 + (length m.intervals + c))) h in
    let at : k ≡ suc (length m.intervals + c) = let e = same_number k (1 + (length m.intervals + c)) two.1 in omega (arith, e) in
    sym (ap (witness_at m) at ∙ expr_at m c)
owned m k (Arc c d) h = cc
owned m k (Cycle arcs) h = cc
owned m k (Leaf i u) h = cc

-- and does look after it
pub owner : (m : Data) (k : ℕ) → k < size_of m → looks_after m k (witness_at m k) ≡ true
owner m zero within = refl
owner m (suc i) within = by_case (nat_lt i (length m.intervals)) refl
  where
    both : (p q : Bool) → p ≡ true → q ≡ true → (p && q) ≡ true
    both true q h k = k
    both false q h k = cc

    by_case : (b : Bool) → nat_lt i (length m.intervals) ≡ b → looks_after m (suc i) (cond b (Size i) (Expr (i - length m.intervals))) ≡ true
    by_case true is = both (nat_lt i (length m.intervals)) (nat_eq (suc i) (1 + i)) is (is_same (suc i) (1 + i) (omega arith))
    by_case false is =
        let more = past i (length m.intervals) is in
        both (nat_lt (i - length m.intervals) (length m.constraints)) (nat_eq (suc i) (1 + (length m.intervals + (i - length m.intervals))))
        (is_below (i - length m.intervals) (length m.constraints) (omega (arith, more, within))) (is_same (suc i) (1 + (length m.intervals + (i - length m.intervals))) (omega (arith, more)))

pub owns : (m : Data) (k : ℕ) → is_own (witness_at m k) ≡ true
owns m zero = refl
owns m (suc i) = by_case (nat_lt i (length m.intervals))
  where
    by_case : (b : Bool) → is_own (cond b (Size i) (Expr (i - length m.intervals))) ≡ true
    by_case true = refl
    by_case false = refl

-- no other witness of these kinds refutes anything
pub unowned : (m : Data) (l : Seen) (w : BasicWitness) → IsRegionOf m l.region → is_own w ≡ true → ((k : ℕ) → k < size_of m → looks_after m k w ≡ false) → refutes m l w ≡ false
unowned m l Obj of own none = absurd (true≢false (none 0 (omega arith)))
unowned m l (Arc c d) of own none = cc
unowned m l (Cycle arcs) of own none = cc
unowned m l (Leaf k u) of own none = cc
unowned m l (Size x) of own none = by_case (nat_lt x (length m.intervals)) refl
  where
    same : length m.intervals ≡ length l.region.bounds
    same = placewise-length is_narrowed m.intervals l.region.bounds of.bounds

    by_case : (b : Bool) → nat_lt x (length m.intervals) ≡ b → refutes m l (Size x) ≡ false
    by_case true is =
        let within = below x (length m.intervals) is in
        absurd (true≢false (sym (is_same (1 + x) (1 + x) refl) ∙ ap (λ b. b && nat_eq (1 + x) (1 + x)) (sym is) ∙ none (1 + x) (omega (arith, within))))
    by_case false is = let more = past x (length m.intervals) is in never_both (is_number x) (size_row l x) (sym (none_past l x (omega (arith, more, same))))
unowned m l (Expr c) of own none = by_case (nat_lt c (length m.constraints)) refl
  where
    by_case : (b : Bool) → nat_lt c (length m.constraints) ≡ b → refutes m l (Expr c) ≡ false
    by_case true is =
        let within = below c (length m.constraints) is in
        let k = 1 + (length m.intervals + c) in
        absurd (true≢false (sym (is_same k k refl) ∙ ap (λ b. b && nat_eq k k) (sym is) ∙ none k (omega (arith, within))))
    by_case false is = never_both (is_number c) (expr_row m l c) (nothing_past (is_never_true m l.region) m.constraints c (past c (length m.constraints) is))

-- a propagator is quiet where its witness is silent
pub quiet_from : (m : Data) (k : ℕ) (r : Region) (best : Option ℤ) → IsSilent m r best (witness_at m k) → quiet m k r best
quiet_from m k r best silent = record { unrefuted = λ w guess mine asked. subst (IsSilent m r best) (sym (owned m k w mine)) silent guess asked }

pub silent_from : (m : Data) (k : ℕ) (r : Region) (best : Option ℤ) → k < size_of m → quiet m k r best → IsSilent m r best (witness_at m k)
silent_from m k r best within still guess asked = still.unrefuted (witness_at m k) guess (owner m k within) asked
