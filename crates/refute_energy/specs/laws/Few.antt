-- A witness that refutes names no more places than a function may have parts.
use Rattle.std.specs.Prelude.{◌≡◌, ℕ, ◌+◌, ◌<◌, ◌≤◌, ℤ, true, ◌&&◌, IsTrue, List, [], ◌∷◌, length, nat_lt, Option, Some, None, slice_get}
use Rattle.std.proofs.Common.{arith}
use Rattle.std.proofs.lemmas.Bool.{and_parts}
use Rattle.sched_base.specs.declared.ids.Cum.{Cum}
use Rattle.sched_model.specs.declared.types.Part.{Part}
use Rattle.sched_model.specs.declared.types.Window.TheVariants as window
use Rattle.sched_model.specs.declared.types.Constraint.{Constraint}
use Rattle.sched_model.specs.declared.types.Constraint.TheVariants as constraint
use Rattle.sched_model.specs.Words.{passes}
use Rattle.sched_model.specs.Data.{Data, parts_of}
use Rattle.sched_model.specs.Valid.{IsValid}
use Rattle.region.specs.Cells.{Region}
use Rattle.region.specs.Looks.{Seen}
use Rattle.task_sets.specs.Times.{has, is_task_set, rises_from}
use Rattle.task_sets.specs.laws.Sums.{above_all, has_first, has_later}
use Rattle.task_sets.specs.laws.Cuts.{task_set_of}
use Rattle.refute_cumul.specs.laws.Sides.{few_parts, has_room}
use Rattle.refute_energy.specs.declared.witness.EnergyWitness.{EnergyWitness}
use Rattle.refute_energy.specs.Witness.{is_valid}
use Rattle.refute_energy.specs.Energy.{is_bar_at, is_capacity, overflows, energy_of, energy_row}
use Rattle.refute_energy.specs.OnEnergy.{refutes}
use Rattle.refute_energy.specs.laws.Bars.{bars_below}

pub parts_few : (m : Data) (f : Cum) → IsValid m → length (parts_of m f) ≤ 100000
parts_few m f valid = has_room m 100000 (λ i d h. few_parts m i d valid h) f

short : (x : ℕ) (xs : List ℕ) (n : ℕ) → rises_from x xs ≡ true → ((k : ℕ) → has (x ∷ xs) k ≡ true → k < n) → x + length (x ∷ xs) ≤ n
short x [] n rises below = let low = below x (has_first x []) in omega (arith, low)
short x (y ∷ ys) n rises below =
    let rest = short y ys n (and_parts (nat_lt x y) (rises_from y ys) rises).1 (λ k here. below k (has_later x k (y ∷ ys) here)) in
    let less : x < y = above_all x (y ∷ ys) y rises (has_first y ys) in
    omega (arith, rest, less)

-- places that rise are no more than there are parts
pub short_set : (r : Region) (is : List Part) (s : List ℕ) → length is ≤ 100000 → is_task_set (is_bar_at r is) s ≡ true → length s ≤ 100000
short_set r is [] few h = omega arith
short_set r is (x ∷ xs) few h =
    let set = task_set_of (is_bar_at r is) x xs h in
    let most = short x xs (length is) set.rises (λ k here. bars_below r is k (set.inside k here)) in
    omega (arith, most, few)

of_function : (m : Data) (r : Region) (s : List ℕ) (f : Cum) (hi : ℤ) → IsValid m → (is_capacity hi (parts_of m f) && overflows r (parts_of m f) hi s) ≡ true → length s ≤ 100000
of_function m r s f hi valid h =
    let over = (and_parts (is_capacity hi (parts_of m f)) (overflows r (parts_of m f) hi s) h).1 in short_set r (parts_of m f) s (parts_few m f valid) (and_parts (is_task_set (is_bar_at r (parts_of m f)) s) _ over).0

of_constraint : (m : Data) (r : Region) (s : List ℕ) (o : Option Constraint) → IsValid m → passes (energy_of m r s) o ≡ true → length s ≤ 100000
of_constraint m r s (Some (constraint.CumulIn f window.Always lo hi)) valid h = of_function m r s f hi valid h
of_constraint m r s (Some (constraint.CumulIn f (window.Moments u v) lo hi)) valid h = cc
of_constraint m r s (Some (constraint.CumulIn f (window.During x) lo hi)) valid h = cc
of_constraint m r s None valid h = cc
of_constraint m r s (Some other) valid h = cc

pub refuting_few : (m : Data) (l : Seen) (w : EnergyWitness) → IsValid m → IsTrue (refutes m l w) → length w.parts ≤ 100000
refuting_few m l w valid h = of_constraint m l.region w.parts (slice_get m.constraints w.c.0) valid (and_parts (is_valid w) (energy_row m l w.c.0 w.parts) h).1
