-- Where the passes of a round find nothing on either side, the propagator of the constraint is quiet.
use Rattle.std.proofs.lemmas.Bool.{and_parts as both}
use Rattle.base_laws.specs.laws.Truth.{three_true as three}
use Rattle.std.specs.Prelude.{◌≡◌, ℕ, zero, suc, ℤ, Bool, true, false, not, ◌&&◌, nat_eq, nat_lt, List, [], ◌∷◌, Option, Some, None, slice_get}
use Rattle.std.specs.List.{list_any}
use Rattle.std.proofs.Common.{refl, sym, subst, ◌∙◌, inl, arith}
use Rattle.std.proofs.lemmas.Bool.Decides.{nat_tests}
use Rattle.base_laws.specs.laws.Numbers.{turned_number}
use Rattle.base_laws.specs.laws.Items.{any_weaker}
use Rattle.sched_base.specs.declared.ids.Itv.{Itv}
use Rattle.sched_base.specs.declared.ids.Seq.{Seq}
use Rattle.sched_model.specs.Words.{passes}
use Rattle.sched_model.specs.Valid.{IsValid}
use Rattle.sched_model.specs.Data.{Data, has, members_of}
use Rattle.region.specs.declared.types.Topic.{Topic}
use Rattle.region.specs.declared.types.Topic.TheVariants.{One, Two}
use Rattle.region.specs.declared.types.Claim.TheVariants.{Present, Absent, StartLe, StartGe, EndLe, EndGe}
use Rattle.region.specs.declared.types.Guess.{Guess}
use Rattle.region.specs.Cells.{Region, is_there}
use Rattle.region.specs.Guesses.{admits, admits_topic, assumed, topic, looked_at}
use Rattle.region.specs.Looks.{IsRegionOf, seen_at}
use Rattle.region.specs.laws.Lists.{both_true}
use Rattle.findings.specs.Ends.{is_end, is_open_end, is_asked}
use Rattle.task_sets.specs.Times.{has as holds, is_task_set, is_set, is_outside, is_overload, overload_row, turned}
use Rattle.task_sets.specs.laws.Mirror.{overload_row_turned}
use Rattle.task_sets.specs.laws.Sums.{has_first, same_number}
use Rattle.task_sets.specs.laws.Cuts.{task_set_of, no_task_set}
use Rattle.task_sets.specs.laws.NotEndCuts.{not_end_detects}
use Rattle.refute_seq.specs.declared.witness.SeqWitness.{SeqWitness}
use Rattle.refute_seq.specs.declared.witness.SeqWitness.TheVariants.{Pair, Triple, Overload, Edge, NotEnd, Detect}
use Rattle.refute_seq.specs.Witness.{is_valid}
use Rattle.refute_seq.specs.Sets.{times_of, is_task, overload_of, edge_of, not_end_of, detect_of}
use Rattle.refute_seq.specs.Listed.{lists, asks_member}
use Rattle.refute_seq.specs.OnSequence.{refutes}
use Rattle.prop_sets.specs.code.Tasks.{quiet, IsSilent, looks_after, sequence_at}
use Rattle.prop_sets.specs.code.Rows.{asks_early, asks_late, chosen_row, AreRows}
use Rattle.prop_sets.specs.code.Sides.{NoEdge, NoDetect, NoNotEnd, IsSideQuiet}
use Rattle.prop_sets.specs.laws.Under.{IsSeen, narrow, seen_plain, seen_topic, seen_asked, starts_told, ends_told}
use Rattle.prop_sets.specs.code.Reordered.{IsReordered}
use Rattle.theta_passes.specs.declared.rows.Row.{Row}
use Rattle.theta_passes.specs.code.Over.{NoOverloads}
use Rattle.prop_sets.specs.laws.Members.{has_same, those_apart, overload_those, edge_those, detect_those}
use Rattle.prop_sets.specs.laws.BySequence.{overload_in, edge_in, not_end_in, detect_in, overload_by, edge_by, not_end_by, detect_by}
use Rattle.prop_sets.specs.laws.Placed.{IsNoted}
use Rattle.prop_sets.specs.laws.Quieting.{overload_none, edge_none, late_none}

-- what is refuted is true of the sequence
row_true : (w : SeqWitness) (b : Bool) → (is_valid w && b) ≡ true → b ≡ true
row_true w b h = (both_true (is_valid w) b h).1

in_sequence : (f : Seq → Bool) (o : Option Seq) (p : Seq) → o ≡ Some p → passes f o ≡ true → f p ≡ true
in_sequence f o p is h = subst (λ o. passes f o ≡ true) is h

unless : (b : Bool) → (b ≡ true → ⊥) → b ≡ false
unless true none = absurd (none refl)
unless false none = refl

-- of two sides
sides : (P : ℕ → Type 0) (side : ℕ) → nat_lt side 2 ≡ true → P 0 → P 1 → P side
sides P zero h a b = a
sides P (suc zero) h a b = b
sides P (suc (suc n)) h a b = absurd (more n h)
  where
    more : (n : ℕ) → nat_lt (suc (suc n)) 2 ≡ true → ⊥
    more n h = grind (arith, nat_tests)

-- who a set's row speaks of is there
task_of : (m : Data) (q : Region) (p : Seq) (x : ℕ) → is_task m q p x ≡ true → (has (members_of m p) (record { 0 = x }) ≡ true) × (is_there q (record { 0 = x }) ≡ true)
task_of m q p x h = both_true (has (members_of m p) (record { 0 = x })) (is_there q (record { 0 = x })) h

-- where both sides are quiet in a round
record IsCalm (later : Bool) (m : Data) (c : ℕ) (p : Seq) (r : Region) : Type 0 where
  valid : IsValid m
  of : IsRegionOf m r
  sequence : sequence_at m c ≡ Some p
  xs : List Itv
  ys : List Itv
  first_members : IsReordered (members_of m p) xs
  second_members : IsReordered (members_of m p) ys
  first : IsSideQuiet later 0 r xs
  second : IsSideQuiet later 1 r ys

-- what is quiet on a side is so of the members in some order
record IsTold (m : Data) (p : Seq) (told : List Itv → Type 0) : Type 0 where
  zs : List Itv
  members : IsReordered (members_of m p) zs
  quiet : told zs

on_side : (later : Bool) (m : Data) (c : ℕ) (p : Seq) (r : Region) (told : ℕ → List Itv → Type 0) (calm : IsCalm later m c p r) (side : ℕ) → nat_lt side 2 ≡ true → told 0 calm.xs → told 1 calm.ys → IsTold m p (told side)
on_side later m c p r told calm side two first second =
    sides (λ n. IsTold m p (told n)) side two (record { zs = calm.xs; members = calm.first_members; quiet = first }) (record { zs = calm.ys; members = calm.second_members; quiet = second })

in_those : (m : Data) (p : Seq) (zs : List Itv) → IsReordered (members_of m p) zs → (i : Itv) → has (members_of m p) i ≡ true → has zs i ≡ true
in_those m p zs members i here = has_same (members_of m p) zs members i ∙ here

noted : (later : Bool) (m : Data) (c : ℕ) (p : Seq) (r : Region) (side : ℕ) (chosen early : Bool) (zs : List Itv) (rows : List Row) → IsCalm later m c p r → IsReordered (members_of m p) zs → AreRows (chosen_row chosen side early) r zs rows → IsNoted side chosen early r zs rows
noted later m c p r side chosen early zs rows calm members are = record { are = are; narrow = λ x. narrow m r x calm.valid calm.of; apart = those_apart m p zs calm.valid members }

-- OVERLOAD is asked for in both rounds, of rows of one kind or the other
pub record HasRoom (r : Region) (xs : List Itv) : Type 0 where
  pub chosen : Bool
  pub rows : List Row
  pub are : AreRows (chosen_row chosen 0 true) r xs rows
  pub overloads : NoOverloads rows

pub room_by_edge : (r : Region) (xs : List Itv) → NoEdge 0 r xs → HasRoom r xs
room_by_edge r xs told = record { chosen = true; rows = told.rows; are = record { size = told.are.size; each = told.are.each }; overloads = told.overloads }

room : (later : Bool) (r : Region) (xs : List Itv) → IsSideQuiet later 0 r xs → HasRoom r xs
room false r xs h = let told = h.0 in record { chosen = false; rows = told.rows; are = record { size = told.are.size; each = told.are.each }; overloads = told.overloads }
room true r xs h = room_by_edge r xs h.0

pub record IsEased (m : Data) (c : ℕ) (p : Seq) (r : Region) : Type 0 where
  pub valid : IsValid m
  pub of : IsRegionOf m r
  pub sequence : sequence_at m c ≡ Some p
  pub xs : List Itv
  pub members : IsReordered (members_of m p) xs
  pub room : HasRoom r xs

eased : (later : Bool) (m : Data) (c : ℕ) (p : Seq) (r : Region) → IsCalm later m c p r → IsEased m c p r
eased later m c p r calm = record { valid = calm.valid; of = calm.of; sequence = calm.sequence; xs = calm.xs; members = calm.first_members; room = room later r calm.xs calm.first }

overload_member : (m : Data) (c : ℕ) (p : Seq) (r q : Region) (s : List ℕ) (i : Itv) → IsEased m c p r → has (members_of m p) i ≡ true → IsSeen r q i true → overload_row (times_of q) (is_task m q p) s ≡ true → ⊥
overload_member m c p r q s i eased here h is =
    let room = eased.room in
    let xs = eased.xs in
    overload_none 0 room.chosen true r q i xs room.rows s (record { are = room.are; narrow = λ x. narrow m r x eased.valid eased.of; apart = those_apart m p xs eased.valid eased.members }) room.overloads (in_those m p xs eased.members i here) h
    (overload_those m p q xs (turned 0 (times_of q)) s eased.members ∙ overload_row_turned 0 (times_of q) (is_task m q p) s ∙ is)

listed_member : (s : List ℕ) (z : Itv) → list_any (λ n. nat_eq z.0 n) s ≡ true → holds s z.0 ≡ true
listed_member s z h = any_weaker (λ n. nat_eq z.0 n) (λ n. nat_eq n z.0) (λ n e. turned_number z.0 n e) s h

-- OVERLOAD: a guess that a member of the set is present
overload_under : (m : Data) (c : ℕ) (p : Seq) (r : Region) (x : ℕ) (xs : List ℕ) (t : Topic) → IsEased m c p r → asks_member (x ∷ xs) t ≡ true → admits_topic r t ≡ true → overload_row (times_of (assumed t r)) (is_task m (assumed t r) p) (x ∷ xs) ≡ true → ⊥
overload_under m c p r x xs (One z Present) eased listed free is =
    let q = assumed (One z Present) r in
    let set = task_set_of (is_task m q p) x xs (both (is_task_set (is_task m q p) (x ∷ xs)) _ is).0 in
    let two = task_of m q p z.0 (set.inside z.0 (listed_member (x ∷ xs) z listed)) in
    overload_member m c p r q (x ∷ xs) z eased two.0 (seen_topic true r z (One z Present) free (inl refl)) is
overload_under m c p r x xs (One z Absent) eased listed free is = cc
overload_under m c p r x xs (One z (StartLe t)) eased listed free is = cc
overload_under m c p r x xs (One z (StartGe t)) eased listed free is = cc
overload_under m c p r x xs (One z (EndLe t)) eased listed free is = cc
overload_under m c p r x xs (One z (EndGe t)) eased listed free is = cc
overload_under m c p r x xs (Two u v w) eased listed free is = cc

overload_asked : (m : Data) (c : ℕ) (p : Seq) (r : Region) (s : List ℕ) (guess : Option Guess) → IsEased m c p r → is_asked (lists m (Overload c s)) r guess ≡ true → overload_row (times_of (looked_at guess r)) (is_task m (looked_at guess r) p) s ≡ true → ⊥
overload_asked m c p r [] guess eased asked is = no_task_set (is_task m (looked_at guess r) p) (both (is_task_set (is_task m (looked_at guess r) p) []) (is_overload []) is).0
overload_asked m c p r (x ∷ xs) None eased asked is =
    let set = task_set_of (is_task m r p) x xs (both (is_task_set (is_task m r p) (x ∷ xs)) _ is).0 in
    let two = task_of m r p x (set.inside x (has_first x xs)) in
    overload_member m c p r r (x ∷ xs) (record { 0 = x }) eased two.0 (seen_plain true r (record { 0 = x }) two.1) is
overload_asked m c p r (x ∷ xs) (Some g) eased asked is =
    let two = both_true (lists m (Overload c (x ∷ xs)) g) (is_open_end r g) asked in
    overload_under m c p r x xs (topic g) eased two.0 (both_true (admits r g) (is_end r (topic g)) two.1).0 is

pub overload_silent : (m : Data) (c : ℕ) (p : Seq) (r : Region) (best : Option ℤ) (s : List ℕ) → IsEased m c p r → IsSilent m r best (Overload c s)
overload_silent m c p r best s eased guess asked = unless (refutes m (seen_at r best guess) (Overload c s)) (λ h.
    let q = looked_at guess r in
    let row = row_true (Overload c s) (passes (overload_of m q s) (slice_get m.constraints c)) h in
    overload_asked m c p r s guess eased asked (in_sequence (overload_in m q s) (sequence_at m c) p eased.sequence (sym (overload_by m q s (slice_get m.constraints c)) ∙ row)))

edge_silent : (m : Data) (c : ℕ) (p : Seq) (r : Region) (best : Option ℤ) (side i : ℕ) (s u v : List ℕ) → IsCalm true m c p r → IsSilent m r best (Edge c side i s u v)
edge_silent m c p r best side i s u v calm guess asked = unless (refutes m (seen_at r best guess) (Edge c side i s u v)) (λ h.
    let q = looked_at guess r in
    let t = is_task m q p in
    let row = row_true (Edge c side i s u v) (passes (edge_of m q side i s u v) (slice_get m.constraints c)) h in
    let two = both_true (nat_lt side 2) _ (in_sequence (edge_in m q side i s u v) (sequence_at m c) p calm.sequence (sym (edge_by m q side i s u v (slice_get m.constraints c)) ∙ row)) in
    let a = both (is_outside t i s && is_task_set t s && is_set (holds s) u && is_task_set (holds s) v) _ two.1 in
    let b = both (is_outside t i s && is_task_set t s && is_set (holds s) u) (is_task_set (holds s) v) a.0 in
    let one = task_of m q p i (both (t i) _ (three (is_outside t i s) (is_task_set t s) (is_set (holds s) u) b.0).0).0 in
    let on = on_side true m c p r (λ n. NoEdge n r) calm side two.0 calm.first.0 calm.second.0 in
    let told = on.quiet in
    edge_none side r q (record { 0 = i }) on.zs told.rows s u v (noted true m c p r side true (asks_early side) on.zs told.rows calm on.members (record { size = told.are.size; each = told.are.each })) told.overloads told.pass (in_those m p on.zs on.members (record { 0 = i }) one.0)
    (seen_asked (asks_early side) r (record { 0 = i }) (lists m (Edge c side i s u v)) guess (λ g listed end. starts_told side r (record { 0 = i }) (topic g) listed end) asked one.1) (edge_those m p q on.zs (turned side (times_of q)) i s u v on.members ∙ two.1))

detect_silent : (m : Data) (c : ℕ) (p : Seq) (r : Region) (best : Option ℤ) (side i : ℕ) (s : List ℕ) → IsCalm false m c p r → IsSilent m r best (Detect c side i s)
detect_silent m c p r best side i s calm guess asked = unless (refutes m (seen_at r best guess) (Detect c side i s)) (λ h.
    let q = looked_at guess r in
    let t = is_task m q p in
    let row = row_true (Detect c side i s) (passes (detect_of m q side i s) (slice_get m.constraints c)) h in
    let two = both_true (nat_lt side 2) _ (in_sequence (detect_in m q side i s) (sequence_at m c) p calm.sequence (sym (detect_by m q side i s (slice_get m.constraints c)) ∙ row)) in
    let a = three (is_outside t i s) (is_task_set t s) _ two.1 in
    let one = task_of m q p i (both (t i) _ a.0).0 in
    let on = on_side false m c p r (λ n. NoDetect n r) calm side two.0 calm.first.1 calm.second in
    let told = on.quiet in
    late_none side (asks_early side) r q (record { 0 = i }) on.zs told.rows s (noted false m c p r side false (asks_early side) on.zs told.rows calm on.members (record { size = told.are.size; each = told.are.each })) told.pass (in_those m p on.zs on.members (record { 0 = i }) one.0)
    (seen_asked (asks_early side) r (record { 0 = i }) (lists m (Detect c side i s)) guess (λ g listed end. starts_told side r (record { 0 = i }) (topic g) listed end) asked one.1) (detect_those m p q on.zs (turned side (times_of q)) i s on.members ∙ two.1))

not_end_silent : (m : Data) (c : ℕ) (p : Seq) (r : Region) (best : Option ℤ) (side i : ℕ) (s : List ℕ) → IsCalm true m c p r → IsSilent m r best (NotEnd c side i s)
not_end_silent m c p r best side i s calm guess asked = unless (refutes m (seen_at r best guess) (NotEnd c side i s)) (λ h.
    let q = looked_at guess r in
    let t = is_task m q p in
    let row = row_true (NotEnd c side i s) (passes (not_end_of m q side i s) (slice_get m.constraints c)) h in
    let two = both_true (nat_lt side 2) _ (in_sequence (not_end_in m q side i s) (sequence_at m c) p calm.sequence (sym (not_end_by m q side i s (slice_get m.constraints c)) ∙ row)) in
    let a = three (is_outside t i s) (is_task_set t s) _ two.1 in
    let one = task_of m q p i (both (t i) _ a.0).0 in
    let on = on_side true m c p r (λ n. NoNotEnd n r) calm side two.0 calm.first.1 calm.second.1 in
    let told = on.quiet in
    late_none side (asks_late side) r q (record { 0 = i }) on.zs told.rows s (noted true m c p r side false (asks_late side) on.zs told.rows calm on.members (record { size = told.are.size; each = told.are.each })) told.pass (in_those m p on.zs on.members (record { 0 = i }) one.0)
    (seen_asked (asks_late side) r (record { 0 = i }) (lists m (NotEnd c side i s)) guess (λ g listed end. ends_told side r (record { 0 = i }) (topic g) listed end) asked one.1)
    (detect_those m p q on.zs (turned side (times_of q)) i s on.members ∙ not_end_detects (turned side (times_of q)) t i s two.1))

-- each witness of a constraint by its number, and a round by its kinds
at_number : (P : ℕ → Type 0) (c d : ℕ) → nat_eq c d ≡ true → P c → P d
at_number P c d same h = subst P (same_number c d same) h

not_later : (later : Bool) → not later ≡ true → later ≡ false
not_later false h = refl
not_later true h = cc

pub sets_quiet : (later : Bool) (m : Data) (c : ℕ) (p : Seq) (r : Region) (best : Option ℤ) → IsValid m → IsRegionOf m r → sequence_at m c ≡ Some p → (xs ys : List Itv) → IsReordered (members_of m p) xs → IsReordered (members_of m p) ys → IsSideQuiet later 0 r xs → IsSideQuiet later 1 r ys → quiet later m c r best
sets_quiet later m c p r best valid of sequence xs ys one_order other_order first second = record { unrefuted = λ w guess mine asked. silent w mine guess asked }
  where
    calm : IsCalm later m c p r
    calm = record { valid = valid; of = of; sequence = sequence; xs = xs; ys = ys; first_members = one_order; second_members = other_order; first = first; second = second }

    silent : (w : SeqWitness) → looks_after later m c w ≡ true → IsSilent m r best w
    silent (Pair d a b k) mine = cc
    silent (Triple q x y z) mine = cc
    silent (Overload d s) mine = at_number (λ n. IsSilent m r best (Overload n s)) c d mine (overload_silent m c p r best s (eased later m c p r calm))
    silent (Edge d side i s u v) mine =
        let two = both_true later (nat_eq c d) mine in
        at_number (λ n. IsSilent m r best (Edge n side i s u v)) c d two.1 (edge_silent m c p r best side i s u v (subst (λ t. IsCalm t m c p r) two.0 calm))
    silent (NotEnd d side i s) mine =
        let two = both_true later (nat_eq c d) mine in
        at_number (λ n. IsSilent m r best (NotEnd n side i s)) c d two.1 (not_end_silent m c p r best side i s (subst (λ t. IsCalm t m c p r) two.0 calm))
    silent (Detect d side i s) mine =
        let two = both_true (not later) (nat_eq c d) mine in
        at_number (λ n. IsSilent m r best (Detect n side i s)) c d two.1 (detect_silent m c p r best side i s (subst (λ t. IsCalm t m c p r) (not_later later two.0) calm))
