-- A witness that names others than members of its sequence refutes nothing.
use Rattle.std.specs.Prelude.{◌≡◌, ℕ, Bool, true, false, ◌&&◌, Option, Some, None, slice_get}
use Rattle.std.proofs.Common.{subst}
use Rattle.sched_base.specs.declared.ids.Itv.{Itv}
use Rattle.sched_base.specs.declared.ids.Seq.{Seq}
use Rattle.sched_model.specs.declared.types.Constraint.{Constraint}
use Rattle.sched_model.specs.declared.types.Constraint.TheVariants as constraint
use Rattle.sched_model.specs.Words.{passes}
use Rattle.sched_model.specs.Data.{Data, has, members_of}
use Rattle.region.specs.Cells.{Region}
use Rattle.region.specs.Looks.{Seen, IsRegionOf}
use Rattle.region.specs.laws.Lists.{both_true, true_both}
use Rattle.region.specs.laws.Narrowing.{members_are}
use Rattle.base_laws.specs.laws.Truth.{never_both, fails_before, three_true, all_three}
use Rattle.refute_seq.specs.declared.witness.SeqWitness.{SeqWitness}
use Rattle.refute_seq.specs.declared.witness.SeqWitness.TheVariants.{Pair, Triple, Overload, Edge, NotEnd, Detect}
use Rattle.refute_seq.specs.Witness.{is_valid}
use Rattle.refute_seq.specs.Standing.{stand}
use Rattle.refute_seq.specs.Pair.{pair_of}
use Rattle.refute_seq.specs.Triple.{are_in_circle}
use Rattle.refute_seq.specs.OnSequence.{refutes, row_of}
use Rattle.refute_basic.specs.laws.Told.{told, told_members}
use Rattle.prop_unary.specs.code.Tasks.{is_own, sequence_in}

-- two members of a sequence that is there, and what a witness names
abbrev pub are_two : Data → Option Seq → Itv → Itv → Bool
are_two m None a b = false
are_two m (Some p) a b = has (members_of m p) a && has (members_of m p) b

abbrev pub are_members : Data → SeqWitness → Bool
are_members m (Pair c a b k) = are_two m (sequence_in (slice_get m.constraints c)) (record { 0 = a }) (record { 0 = b })
are_members m (Triple p x y z) = has (members_of m (record { 0 = p })) (record { 0 = x }) && has (members_of m (record { 0 = p })) (record { 0 = y }) && has (members_of m (record { 0 = p })) (record { 0 = z })
are_members m w = false

pub stand_members : (m : Data) (r : Region) (p : Seq) (x y : Itv) → IsRegionOf m r → stand r p x y ≡ true → (has (members_of m p) x ≡ true) × (has (members_of m p) y ≡ true)
stand_members m r p x y of h =
    let both = told_members m r p x y of (told r p x y h).order in
    let is = members_are m r p of in
    (subst (λ ms. has ms x ≡ true) is both.first, subst (λ ms. has ms y ≡ true) is both.second)

pair_members : (m : Data) (r : Region) (k : ℕ) (a b : Itv) (o : Option Constraint) → IsRegionOf m r → passes (pair_of m r k a b) o ≡ true → are_two m (sequence_in o) a b ≡ true
pair_members m r k a b None of h = h
pair_members m r k a b (Some (constraint.NoOverlap p matrix direct)) of h =
    let two = stand_members m r p a b of (both_true (stand r p a b) _ h).0 in
    true_both (has (members_of m p) a) (has (members_of m p) b) two.0 two.1
pair_members m r k a b (Some other) of h = h

circle_members : (m : Data) (r : Region) (p : Seq) (x y z : Itv) → IsRegionOf m r → are_in_circle r p x y z ≡ true → (has (members_of m p) x && has (members_of m p) y && has (members_of m p) z) ≡ true
circle_members m r p x y z of h =
    let each = three_true (stand r p x y) (stand r p y z) (stand r p z x) h in
    let one = stand_members m r p x y of each.0 in
    let other = stand_members m r p y z of each.1 in
    all_three (has (members_of m p) x) (has (members_of m p) y) (has (members_of m p) z) one.0 one.1 other.1

row_members : (m : Data) (l : Seen) (w : SeqWitness) → IsRegionOf m l.region → is_own w ≡ true → row_of m l w ≡ true → are_members m w ≡ true
row_members m l (Pair c a b k) of own h = pair_members m l.region k (record { 0 = a }) (record { 0 = b }) (slice_get m.constraints c) of h
row_members m l (Triple p x y z) of own h = circle_members m l.region (record { 0 = p }) (record { 0 = x }) (record { 0 = y }) (record { 0 = z }) of h
row_members m l (Overload c s) of own h = cc
row_members m l (Edge c side i s u v) of own h = cc
row_members m l (NotEnd c side i s) of own h = cc
row_members m l (Detect c side i s) of own h = cc

pub strangers : (m : Data) (l : Seen) (w : SeqWitness) → IsRegionOf m l.region → is_own w ≡ true → are_members m w ≡ false → refutes m l w ≡ false
strangers m l w of own none = never_both (is_valid w) (row_of m l w) (fails_before (row_of m l w) (are_members m w) (row_members m l w of own) none)
