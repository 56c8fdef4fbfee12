-- A quiet propagator stays quiet where nothing that it watches changes.
use Rattle.std.specs.Prelude.{◌≡◌, ℕ, ℤ, Bool, true, false, not, ◌&&◌, nat_eq, nat_lt, IsTrue, List, [], ◌∷◌, Option, Some, None, slice_get}
use Rattle.std.proofs.Common.{refl, sym, ap, subst, ◌∙◌, arith}
use Rattle.std.proofs.lemmas.Bool.{and_parts}
use Rattle.std.proofs.lemmas.Bool.Decides.{nat_tests}
use Rattle.base_laws.specs.laws.Truth.{three_true}
use Rattle.base_laws.specs.laws.Items.{any_weaker}
use Rattle.sched_base.specs.declared.ids.Itv.{Itv}
use Rattle.sched_base.specs.declared.ids.Seq.{Seq}
use Rattle.sched_model.specs.Words.{passes}
use Rattle.sched_model.specs.Data.{Data, has, members_of}
use Rattle.region.specs.declared.types.CellName.{CellName}
use Rattle.region.specs.declared.types.Topic.{Topic}
use Rattle.region.specs.declared.types.Topic.TheVariants.{One, Two}
use Rattle.region.specs.declared.types.Claim.TheVariants.{Present, Absent, StartLe, StartGe, EndLe, EndGe}
use Rattle.region.specs.declared.types.Guess.{Guess}
use Rattle.region.specs.Cells.{Region}
use Rattle.region.specs.Guesses.{SameCell, topic, looked_at}
use Rattle.region.specs.Looks.{IsRegionOf, seen_at}
use Rattle.findings.specs.code.Reads.{AreAlike, LooksOnlyAt, is_among}
use Rattle.findings.specs.laws.Alike.{alike_from_cells}
use Rattle.findings.specs.laws.Kept.{asked_admits, asked_alike, refuted_alike}
use Rattle.task_sets.specs.Times.{has as holds, is_task_set, is_set, is_outside}
use Rattle.task_sets.specs.laws.Cuts.{task_set_of}
use Rattle.refute_seq.specs.declared.witness.SeqWitness.{SeqWitness}
use Rattle.refute_seq.specs.declared.witness.SeqWitness.TheVariants.{Pair, Triple, Overload, Edge, NotEnd, Detect}
use Rattle.refute_seq.specs.Witness.{is_valid}
use Rattle.refute_seq.specs.Sets.{is_task}
use Rattle.refute_seq.specs.Listed.{lists, asks_member, asks_start, asks_end}
use Rattle.refute_seq.specs.OnSequence.{refutes, row_of}
use Rattle.refute_seq.specs.laws.SetsAlike.{overload_alike, edge_alike, not_end_alike, detect_alike}
use Rattle.findings.specs.code.Tables.{members_in}
use Rattle.prop_sets.specs.code.Tasks.{IsSilent, quiet, looks_after, sequence_at, members_at, reads_all, watching, watching_best}
use Rattle.prop_sets.specs.laws.BySequence.{overload_in, edge_in, not_end_in, detect_in, overload_by, edge_by, not_end_by, detect_by, same_members}

same_number : (i j : ℕ) → nat_eq i j ≡ true → i ≡ j
same_number i j h = grind (arith, nat_tests)

-- whether a witness refutes depends on the bounds of the members alone
overload_looks : (m : Data) (c : ℕ) (s : List ℕ) → LooksOnlyAt refutes m (Overload c s) (reads_all (members_at m c))
overload_looks m c s l k of also alike best = ap (λ b. is_valid (Overload c s) && b) (overload_alike m l k c s (same_members m l.region k.region (slice_get m.constraints c) alike.bounds))

edge_looks : (m : Data) (c side i : ℕ) (s u v : List ℕ) → LooksOnlyAt refutes m (Edge c side i s u v) (reads_all (members_at m c))
edge_looks m c side i s u v l k of also alike best = ap (λ b. is_valid (Edge c side i s u v) && b) (edge_alike m l k c side i s u v (same_members m l.region k.region (slice_get m.constraints c) alike.bounds))

not_end_looks : (m : Data) (c side i : ℕ) (s : List ℕ) → LooksOnlyAt refutes m (NotEnd c side i s) (reads_all (members_at m c))
not_end_looks m c side i s l k of also alike best = ap (λ b. is_valid (NotEnd c side i s) && b) (not_end_alike m l k c side i s (same_members m l.region k.region (slice_get m.constraints c) alike.bounds))

detect_looks : (m : Data) (c side i : ℕ) (s : List ℕ) → LooksOnlyAt refutes m (Detect c side i s) (reads_all (members_at m c))
detect_looks m c side i s l k of also alike best = ap (λ b. is_valid (Detect c side i s) && b) (detect_alike m l k c side i s (same_members m l.region k.region (slice_get m.constraints c) alike.bounds))

-- whom a row that holds speaks of is a member
task_member : (m : Data) (q : Region) (p : Seq) (y : ℕ) → is_task m q p y ≡ true → has (members_of m p) (record { 0 = y }) ≡ true
task_member m q p y h = (and_parts (has (members_of m p) (record { 0 = y })) _ h).0

overload_members : (m : Data) (q : Region) (s : List ℕ) (o : Option Seq) → passes (overload_in m q s) o ≡ true → (y : ℕ) → holds s y ≡ true → has (members_in m o) (record { 0 = y }) ≡ true
overload_members m q s None h y here = cc
overload_members m q [] (Some p) h y here = cc
overload_members m q (x ∷ xs) (Some p) h y here = task_member m q p y ((task_set_of (is_task m q p) x xs (and_parts (is_task_set (is_task m q p) (x ∷ xs)) _ h).0).inside y here)

edge_member : (m : Data) (q : Region) (side i : ℕ) (s u v : List ℕ) (o : Option Seq) → passes (edge_in m q side i s u v) o ≡ true → has (members_in m o) (record { 0 = i }) ≡ true
edge_member m q side i s u v None h = cc
edge_member m q side i s u v (Some p) h =
    let t = is_task m q p in
    let a = and_parts (is_outside t i s && is_task_set t s && is_set (holds s) u && is_task_set (holds s) v) _ (and_parts (nat_lt side 2) _ h).1 in
    let b = and_parts (is_outside t i s && is_task_set t s && is_set (holds s) u) (is_task_set (holds s) v) a.0 in
    task_member m q p i (and_parts (t i) _ (three_true (is_outside t i s) (is_task_set t s) (is_set (holds s) u) b.0).0).0

not_end_member : (m : Data) (q : Region) (side i : ℕ) (s : List ℕ) (o : Option Seq) → passes (not_end_in m q side i s) o ≡ true → has (members_in m o) (record { 0 = i }) ≡ true
not_end_member m q side i s None h = cc
not_end_member m q side i s (Some p) h =
    let t = is_task m q p in
    task_member m q p i (and_parts (t i) _ (three_true (is_outside t i s) (is_task_set t s) _ (and_parts (nat_lt side 2) _ h).1).0).0

detect_member : (m : Data) (q : Region) (side i : ℕ) (s : List ℕ) (o : Option Seq) → passes (detect_in m q side i s) o ≡ true → has (members_in m o) (record { 0 = i }) ≡ true
detect_member m q side i s None h = cc
detect_member m q side i s (Some p) h =
    let t = is_task m q p in
    task_member m q p i (and_parts (t i) _ (three_true (is_outside t i s) (is_task_set t s) _ (and_parts (nat_lt side 2) _ h).1).0).0

-- so the guesses that it lists are on members
member_among : (xs : List Itv) (s : List ℕ) (t : Topic) → ((y : ℕ) → holds s y ≡ true → has xs (record { 0 = y }) ≡ true) → asks_member s t ≡ true → is_among xs [] t ≡ true
member_among xs s (One z Present) each h = each z.0 (any_weaker (λ n. nat_eq z.0 n) (λ n. nat_eq n z.0) (λ n e. turned z.0 n e) s h)
  where
    turned : (i j : ℕ) → nat_eq i j ≡ true → nat_eq j i ≡ true
    turned i j h = grind (arith, nat_tests)
member_among xs s (One z Absent) each h = cc
member_among xs s (One z (StartLe t)) each h = cc
member_among xs s (One z (StartGe t)) each h = cc
member_among xs s (One z (EndLe t)) each h = cc
member_among xs s (One z (EndGe t)) each h = cc
member_among xs s (Two p u v) each h = cc

named : (xs : List Itv) (z : Itv) (i : ℕ) → has xs (record { 0 = i }) ≡ true → nat_eq z.0 i ≡ true → has xs z ≡ true
named xs z i here h = subst (λ n. has xs (record { 0 = n }) ≡ true) (sym (same_number z.0 i h)) here

start_among : (xs : List Itv) (side i : ℕ) (t : Topic) → has xs (record { 0 = i }) ≡ true → asks_start side i t ≡ true → is_among xs [] t ≡ true
start_among xs side i (One z Present) here h = named xs z i here h
start_among xs side i (One z (StartLe t)) here h = named xs z i here (and_parts (nat_eq z.0 i) _ h).0
start_among xs side i (One z (EndGe t)) here h = named xs z i here (and_parts (nat_eq z.0 i) _ h).0
start_among xs side i (One z Absent) here h = cc
start_among xs side i (One z (StartGe t)) here h = cc
start_among xs side i (One z (EndLe t)) here h = cc
start_among xs side i (Two p u v) here h = cc

end_among : (xs : List Itv) (side i : ℕ) (t : Topic) → has xs (record { 0 = i }) ≡ true → asks_end side i t ≡ true → is_among xs [] t ≡ true
end_among xs side i (One z Present) here h = named xs z i here h
end_among xs side i (One z (StartLe t)) here h = named xs z i here (and_parts (nat_eq z.0 i) _ h).0
end_among xs side i (One z (EndGe t)) here h = named xs z i here (and_parts (nat_eq z.0 i) _ h).0
end_among xs side i (One z Absent) here h = cc
end_among xs side i (One z (StartGe t)) here h = cc
end_among xs side i (One z (EndLe t)) here h = cc
end_among xs side i (Two p u v) here h = cc

-- a witness that is silent stays so
silent_kept : (m : Data) (c : ℕ) (w : SeqWitness) (r q : Region) (a b : Option ℤ) → LooksOnlyAt refutes m w (reads_all (members_at m c))
    → ((guess : Option Guess) → row_of m (seen_at q b guess) w ≡ true → (g : Guess) → lists m w g ≡ true → is_among (members_at m c) [] (topic g) ≡ true)
    → IsRegionOf m r → IsRegionOf m q → AreAlike (reads_all (members_at m c)) r q → IsSilent m r a w → IsSilent m q b w
silent_kept m c w r q a b looks among of also alike silent guess asked = by_case (refutes m (seen_at q b guess) w) refl
  where
    by_case : (t : Bool) → refutes m (seen_at q b guess) w ≡ t → refutes m (seen_at q b guess) w ≡ false
    by_case false is = is
    by_case true is =
        let row = (and_parts (is_valid w) (row_of m (seen_at q b guess) w) is).1 in
        let here = asked_alike m (reads_all (members_at m c)) (lists m w) guess r q of also (among guess row) alike asked in
        sym (refuted_alike refutes m w (reads_all (members_at m c)) r q a b guess looks of also alike (λ uses. cc uses) (asked_admits (lists m w) r guess here) (asked_admits (lists m w) q guess asked)) ∙ silent guess here

pub unwatched : (later : Bool) (m : Data) (k : ℕ) (r q : Region) (b c : Option ℤ) → IsRegionOf m r → IsRegionOf m q → ((cell : CellName) → IsTrue (watching m k cell) → SameCell cell r q) → (IsTrue (watching_best m k) → b ≡ c) → quiet later m k r b → quiet later m k q c
unwatched later m k r q b c of also cells best still = record { unrefuted = λ w guess mine asked. kept w mine guess asked }
  where
    alike : AreAlike (reads_all (members_at m k)) r q
    alike = alike_from_cells m (reads_all (members_at m k)) r q of also cells

    silent : (w : SeqWitness) → looks_after later m k w ≡ true → IsSilent m r b w
    silent w mine guess asked = still.unrefuted w guess mine asked

    itself : nat_eq k k ≡ true
    itself = grind (arith, nat_tests)

    back : (n : ℕ) (P : ℕ → Type 0) → nat_eq k n ≡ true → P k → P n
    back n P same h = subst P (same_number k n same) h

    -- a kind of the round that is silent stays so, whatever the number
    of_round : (t : Bool) (w : ℕ → SeqWitness) (n : ℕ) → ((t && nat_eq k k) ≡ true → IsSilent m q c (w k)) → (t && nat_eq k n) ≡ true → IsSilent m q c (w n)
    of_round t w n on mine = back n (λ i. (t && nat_eq k i) ≡ true → IsSilent m q c (w i)) (and_parts t (nat_eq k n) mine).1 on mine

    kept : (w : SeqWitness) → looks_after later m k w ≡ true → IsSilent m q c w
    kept (Pair d x y n) mine = cc
    kept (Triple p x y z) mine = cc
    kept (Overload d s) mine = back d (λ n. IsSilent m q c (Overload n s)) mine (silent_kept m k (Overload k s) r q b c (overload_looks m k s)
        (λ guess row g listed. member_among (members_at m k) s (topic g) (overload_members m (looked_at guess q) s (sequence_at m k) (sym (overload_by m (looked_at guess q) s (slice_get m.constraints k)) ∙ row)) listed)
        of also alike (silent (Overload k s) itself))
    kept (Edge d side i s u v) mine = of_round later (λ n. Edge n side i s u v) d (λ on. silent_kept m k (Edge k side i s u v) r q b c (edge_looks m k side i s u v)
        (λ guess row g listed. start_among (members_at m k) side i (topic g) (edge_member m (looked_at guess q) side i s u v (sequence_at m k) (sym (edge_by m (looked_at guess q) side i s u v (slice_get m.constraints k)) ∙ row)) listed)
        of also alike (silent (Edge k side i s u v) on)) mine
    kept (NotEnd d side i s) mine = of_round later (λ n. NotEnd n side i s) d (λ on. silent_kept m k (NotEnd k side i s) r q b c (not_end_looks m k side i s)
        (λ guess row g listed. end_among (members_at m k) side i (topic g) (not_end_member m (looked_at guess q) side i s (sequence_at m k) (sym (not_end_by m (looked_at guess q) side i s (slice_get m.constraints k)) ∙ row)) listed)
        of also alike (silent (NotEnd k side i s) on)) mine
    kept (Detect d side i s) mine = of_round (not later) (λ n. Detect n side i s) d (λ on. silent_kept m k (Detect k side i s) r q b c (detect_looks m k side i s)
        (λ guess row g listed. start_among (members_at m k) side i (topic g) (detect_member m (looked_at guess q) side i s (sequence_at m k) (sym (detect_by m (looked_at guess q) side i s (slice_get m.constraints k)) ∙ row)) listed)
        of also alike (silent (Detect k side i s) on)) mine
