-- A propagator is quiet exactly where no row of its constraint refutes, as the region stands or under an open end guess.
use Rattle.std.specs.Prelude.{◌≡◌, ◌⊎◌, ℕ, ◌<◌, ◌≤◌, ℤ, Bool, true, false, not, List, [], ◌∷◌, length, Option, Some, None, slice_get, nat_lt}
use Rattle.std.proofs.Common.{inl, inr, refl, sym, ap, subst, ◌∙◌, arith}
use Rattle.std.proofs.lemmas.Bool.{true≢false, cases_eq}
use Rattle.std.proofs.lemmas.Bool.Decides.{nat_tests}
use Rattle.std.proofs.lemmas.List.{get_or_past}
use Rattle.sched_base.specs.declared.ids.Itv.{Itv}
use Rattle.sched_model.specs.Words.{passes_if_any}
use Rattle.sched_model.specs.Data.{Data}
use Rattle.region.specs.declared.types.Presence.{Presence}
use Rattle.region.specs.declared.types.Presence.TheVariants as presence
use Rattle.region.specs.declared.types.Claim.TheVariants as claim
use Rattle.region.specs.declared.types.Topic.{Topic}
use Rattle.region.specs.declared.types.Topic.TheVariants.{One, Two}
use Rattle.region.specs.declared.types.Guess.{Guess}
use Rattle.region.specs.Claims.{as_absent}
use Rattle.region.specs.Cells.{Region, bounds_of, unknown, says_present}
use Rattle.region.specs.Guesses.{topic, assumed, looked_at, with_bounds}
use Rattle.region.specs.Topics.{asks_each}
use Rattle.region.specs.Looks.{seen_at}
use Rattle.region.specs.Tight.{is_tight, weaker}
use Rattle.region.specs.laws.Intervals.{bounds_there, bounds_elsewhere}
use Rattle.region.specs.laws.Lists.{both_true, true_both, length-changed_at}
use Rattle.findings.specs.Ends.{is_open_end, is_asked}
use Rattle.findings.specs.Found.{IsFound, IsFinding}
use Rattle.findings.specs.code.Reads.{AreUnrefuted, is_among}
use Rattle.refute_hier.specs.declared.parts.Role.TheVariants.{Clashes}
use Rattle.refute_hier.specs.declared.witness.HierWitness.{HierWitness}
use Rattle.refute_hier.specs.declared.witness.HierWitness.TheVariants as witness
use Rattle.refute_hier.specs.Witness.{constraint_of}
use Rattle.refute_hier.specs.Parts.{clash, plays, plays_in, some_part}
use Rattle.refute_hier.specs.Hier.{refutes}
use Rattle.refute_hier.specs.Listed.{family_of, asks_present, lists}
use Rattle.region.specs.laws.Found.{never}
use Rattle.refute_hier.specs.declared.family.Kind.{Kind}
use Rattle.refute_hier.specs.declared.family.Kind.TheVariants.{Span, Alternative, Synchronize}
use Rattle.refute_hier.specs.code.Rows.{as_constraint, some_case, some_refutes, IsWitness}
use Rattle.refute_hier.specs.SeqRel.{related_in}
use Rattle.refute_hier.specs.laws.Families.{none_refutes, witness_refutes}
use Rattle.refute_hier.specs.laws.Relations.{unrelated}
use Rattle.prop_hier.specs.code.Rows.{refutes_under}
use Rattle.prop_hier.specs.code.Tasks.{looks_after, quiet}
use Rattle.prop_hier.specs.laws.Owners.{owned, owner}
use Rattle.refute_hier.specs.laws.Rows.{witness_from}
use Rattle.refute_hier.specs.laws.Parts.{IsFamily}
use Rattle.prop_hier.specs.laws.Related.{none_related}
use Rattle.prop_hier.specs.laws.Unwatched.{is_of_parts, lists_among}
use Rattle.base_laws.specs.laws.Items.{any_weaker}
use Rattle.base_laws.specs.laws.Truth.{fails_before}
use Rattle.findings.specs.laws.Kept.{asked_more}

abbrev pub Unrefuted : Kind → Region → Itv → List Itv → Type 0
Unrefuted kind r a bs = AreUnrefuted (refutes_under kind r a bs) r (a ∷ bs) []

family_is : (kind : Kind) (a : Itv) (bs : List Itv) → family_of (Some (as_constraint kind a bs)) ≡ a ∷ bs
family_is Span a bs = refl
family_is (Alternative n) a bs = refl
family_is Synchronize a bs = refl

members_of : (m : Data) (c : ℕ) (kind : Kind) (a : Itv) (bs : List Itv) → slice_get m.constraints c ≡ Some (as_constraint kind a bs) → family_of (slice_get m.constraints c) ≡ a ∷ bs
members_of m c kind a bs is = ap family_of is ∙ family_is kind a bs

-- the propagator is quiet where no row refutes
quiet_of_parts : (m : Data) (c : ℕ) (r : Region) (best : Option ℤ) (kind : Kind) (a : Itv) (bs : List Itv) (w : HierWitness) (guess : Option Guess) → slice_get m.constraints c ≡ Some (as_constraint kind a bs) → Unrefuted kind r a bs → is_of_parts w ≡ true → constraint_of w ≡ c
    → is_asked (lists m w) r guess ≡ true → refutes m (seen_at r best guess) w ≡ false
quiet_of_parts m c r best kind a bs w guess is none parts names asked =
    let members : family_of (slice_get m.constraints (constraint_of w)) ≡ a ∷ bs = ap (λ n. family_of (slice_get m.constraints n)) names ∙ members_of m c kind a bs is in
    none_refutes m (seen_at r best guess) kind a bs c w is names
    (none guess (asked_more (lists m w) (λ g. is_among (a ∷ bs) [] (topic g)) r guess (λ g listed. subst (λ xs. is_among xs [] (topic g) ≡ true) members (lists_among m w g parts listed)) asked))

unrelated_kind : (kind : Kind) (a : Itv) (bs : List Itv) → None ≡ related_in (as_constraint kind a bs)
unrelated_kind Span a bs = refl
unrelated_kind (Alternative n) a bs = refl
unrelated_kind Synchronize a bs = refl

pub quiet_from : (m : Data) (c : ℕ) (r : Region) (best : Option ℤ) (kind : Kind) (a : Itv) (bs : List Itv) → slice_get m.constraints c ≡ Some (as_constraint kind a bs) → Unrefuted kind r a bs → quiet m c r best
quiet_from m c r best kind a bs is none = record { unrefuted = λ w guess mine asked. at w guess (sym (owned m c w mine)) asked }
  where
    at : (w : HierWitness) (guess : Option Guess) → constraint_of w ≡ c → is_asked (lists m w) r guess ≡ true → refutes m (seen_at r best guess) w ≡ false
    at (witness.Span n k i) guess names asked = quiet_of_parts m c r best kind a bs (witness.Span n k i) guess is none refl names asked
    at (witness.Alt n k i j) guess names asked = quiet_of_parts m c r best kind a bs (witness.Alt n k i j) guess is none refl names asked
    at (witness.Sync n i) guess names asked = quiet_of_parts m c r best kind a bs (witness.Sync n i) guess is none refl names asked
    at (witness.SeqRel n x) guess names asked =
        none_related m (seen_at r best guess) n (record { 0 = x }) (as_constraint kind a bs) (ap (slice_get m.constraints) names ∙ is) (unrelated (looked_at guess r) (as_constraint kind a bs) (record { 0 = x }) (unrelated_kind kind a bs))

-- guesses that a constraint of a kind lists
abbrev pub asks_kind : Kind → List Itv → Topic → Bool
asks_kind Span xs t = asks_each xs t
asks_kind (Alternative n) xs t = asks_each xs t
asks_kind Synchronize xs t = asks_present xs t

lists_is : (m : Data) (kind : Kind) (r : Region) (a : Itv) (bs : List Itv) (c : ℕ) (w : HierWitness) (g : Guess) → IsWitness kind r a bs c w → slice_get m.constraints c ≡ Some (as_constraint kind a bs) → lists m w g ≡ asks_kind kind (a ∷ bs) (topic g)
lists_is m Span r a bs c (witness.Span n k i) g one is = ap (λ d. asks_each (family_of (slice_get m.constraints d)) (topic g)) one.constraint ∙ ap (λ xs. asks_each xs (topic g)) (members_of m c Span a bs is)
lists_is m Span r a bs c (witness.Alt n k i j) g one is = never one.row
lists_is m Span r a bs c (witness.Sync n i) g one is = never one.row
lists_is m Span r a bs c (witness.SeqRel n x) g one is = never one.row
lists_is m (Alternative count) r a bs c (witness.Span n k i) g one is = never one.row
lists_is m (Alternative count) r a bs c (witness.Alt n k i j) g one is = ap (λ d. asks_each (family_of (slice_get m.constraints d)) (topic g)) one.constraint ∙ ap (λ xs. asks_each xs (topic g)) (members_of m c (Alternative count) a bs is)
lists_is m (Alternative count) r a bs c (witness.Sync n i) g one is = never one.row
lists_is m (Alternative count) r a bs c (witness.SeqRel n x) g one is = never one.row
lists_is m Synchronize r a bs c (witness.Span n k i) g one is = never one.row
lists_is m Synchronize r a bs c (witness.Alt n k i j) g one is = never one.row
lists_is m Synchronize r a bs c (witness.Sync n i) g one is = ap (λ d. asks_present (family_of (slice_get m.constraints d)) (topic g)) one.constraint ∙ ap (λ xs. asks_present xs (topic g)) (members_of m c Synchronize a bs is)
lists_is m Synchronize r a bs c (witness.SeqRel n x) g one is = never one.row

-- no row refutes under a guess that is listed, where the propagator is quiet
unrefuted_at : (m : Data) (c : ℕ) (r : Region) (best : Option ℤ) (kind : Kind) (a : Itv) (bs : List Itv) (guess : Option Guess) → IsFamily m c kind a bs → quiet m c r best → is_asked (λ g. asks_kind kind (a ∷ bs) (topic g)) r guess ≡ true
    → refutes_under kind r a bs guess ≡ false
unrefuted_at m c r best kind a bs guess of still asked = by_case (refutes_under kind r a bs guess) refl
  where
    by_case : (b : Bool) → refutes_under kind r a bs guess ≡ b → refutes_under kind r a bs guess ≡ false
    by_case false h = h
    by_case true h =
        let w = witness_from kind (looked_at guess r) a bs c of.few h in
        let mine : looks_after m c w.witness ≡ true = subst (λ n. looks_after m n w.witness ≡ true) w.is.constraint (owner m w.witness) in
        absurd (true≢false (sym (witness_refutes m (seen_at r best guess) kind a bs c w.witness of.is w.is)
        ∙ still.unrefuted w.witness guess mine (asked_more (λ g. asks_kind kind (a ∷ bs) (topic g)) (lists m w.witness) r guess (λ g h. lists_is m kind (looked_at guess r) a bs c w.witness g w.is of.is ∙ h) asked)))

among_each : (xs : List Itv) (t : Topic) → is_among xs [] t ≡ true → asks_each xs t ≡ true
among_each xs (One x c) h = h
among_each xs (Two p x y) h = cc

-- an interval that is taken as absent makes no further row of a synchronization refute
same_or_away : (r : Region) (x y : Itv) → (bounds_of (with_bounds x as_absent r) y ≡ bounds_of r y) ⊎ (says_present (bounds_of (with_bounds x as_absent r) y).presence ≡ false)
same_or_away r x y = decided (cases_eq y.0 x.0)
  where
    past : (i n : ℕ) → nat_lt i n ≡ false → n ≤ i
    past i n h = grind (arith, nat_tests)

    below : (i n : ℕ) → nat_lt i n ≡ true → i < n
    below i n h = grind (arith, nat_tests)

    itv : ℕ → Itv
    itv n = record { 0 = n }

    one : (y : Itv) → y ≡ x → (b : Bool) → nat_lt x.0 (length r.bounds) ≡ b → (bounds_of (with_bounds x as_absent r) y ≡ bounds_of r y) ⊎ (says_present (bounds_of (with_bounds x as_absent r) y).presence ≡ false)
    one y same true is = inr (ap (λ z. says_present (bounds_of (with_bounds x as_absent r) z).presence) same ∙ ap (λ c. says_present c.presence) (bounds_there x as_absent r (below x.0 (length r.bounds) is)))
    one y same false is =
        let beyond = past x.0 (length r.bounds) is in
        let size = length-changed_at x.0 as_absent r.bounds in
        let there : bounds_of (with_bounds x as_absent r) x ≡ unknown = get_or_past (with_bounds x as_absent r).bounds x.0 unknown (omega (arith, beyond, size)) in
        let here : bounds_of r x ≡ unknown = get_or_past r.bounds x.0 unknown beyond in
        inl (ap (bounds_of (with_bounds x as_absent r)) same ∙ there ∙ sym here ∙ sym (ap (bounds_of r) same))

    decided : (y.0 ≡ x.0) ⊎ (y.0 ≡ x.0 → ⊥) → (bounds_of (with_bounds x as_absent r) y ≡ bounds_of r y) ⊎ (says_present (bounds_of (with_bounds x as_absent r) y).presence ≡ false)
    decided (inl e) = one y (ap itv e) (nat_lt x.0 (length r.bounds)) refl
    decided (inr other) = inl (bounds_elsewhere x y as_absent r other)

sync_present : (q : Region) (a : Itv) (bs : List Itv) (p : Presence) → some_case Synchronize p q a bs ≡ true → (says_present p ≡ true) × (some_part q Clashes a bs ≡ true)
sync_present q a bs presence.Absent h = never h
sync_present q a bs presence.Maybe h = never h
sync_present q a bs presence.Present h = (refl, h)

present_sync : (q : Region) (a : Itv) (bs : List Itv) (p : Presence) → says_present p ≡ true → some_part q Clashes a bs ≡ true → some_case Synchronize p q a bs ≡ true
present_sync q a bs presence.Absent there h = never there
present_sync q a bs presence.Maybe there h = never there
present_sync q a bs presence.Present there h = h

unless_away : {P : Type 0} (b : Bool) → b ≡ true → P ⊎ (b ≡ false) → P
unless_away b h (inl p) = p
unless_away b h (inr none) = absurd (true≢false (sym h ∙ none))

absent_sync : (r : Region) (x a : Itv) (bs : List Itv) → some_refutes Synchronize (with_bounds x as_absent r) a bs ≡ true → some_refutes Synchronize r a bs ≡ true
absent_sync r x a bs h =
    let q = with_bounds x as_absent r in
    let two = sync_present q a bs (bounds_of q a).presence h in
    let whole : bounds_of q a ≡ bounds_of r a = unless_away (says_present (bounds_of q a).presence) two.0 (same_or_away r x a) in
    present_sync r a bs (bounds_of r a).presence (subst (λ c. says_present c.presence ≡ true) whole two.0)
    (any_weaker (plays_in q Clashes a) (plays_in r Clashes a)
    (λ b plays_there.
    let part : bounds_of q b ≡ bounds_of r b = unless_away (says_present (bounds_of q b).presence) (both_true (says_present (bounds_of q b).presence) (clash (bounds_of q a) (bounds_of q b)) plays_there).0 (same_or_away r x b) in
    subst (λ c. plays Clashes (bounds_of r a) c ≡ true) part (subst (λ c. plays Clashes c (bounds_of q b) ≡ true) whole plays_there))
    bs two.1)

sync_at : (m : Data) (c : ℕ) (r : Region) (best : Option ℤ) (a : Itv) (bs : List Itv) (g : Guess) (t : Topic) → topic g ≡ t → IsFamily m c Synchronize a bs → quiet m c r best → is_among (a ∷ bs) [] t ≡ true → is_open_end r g ≡ true
    → refutes_under Synchronize r a bs (Some g) ≡ false
sync_at m c r best a bs g (One x claim.Absent) is of still among open_end =
    fails_before (refutes_under Synchronize r a bs (Some g)) (some_refutes Synchronize r a bs)
    (λ h. absent_sync r x a bs (sym (ap (λ t. some_refutes Synchronize (assumed t r) a bs) is) ∙ h)) (unrefuted_at m c r best Synchronize a bs None of still refl)
sync_at m c r best a bs g (One x claim.Present) is of still among open_end = unrefuted_at m c r best Synchronize a bs (Some g) of still (true_both (asks_present (a ∷ bs) (topic g)) (is_open_end r g) (ap (asks_present (a ∷ bs)) is ∙ among) open_end)
sync_at m c r best a bs g (One x (claim.StartLe t)) is of still among open_end = unrefuted_at m c r best Synchronize a bs (Some g) of still (true_both (asks_present (a ∷ bs) (topic g)) (is_open_end r g) (ap (asks_present (a ∷ bs)) is ∙ among) open_end)
sync_at m c r best a bs g (One x (claim.StartGe t)) is of still among open_end = unrefuted_at m c r best Synchronize a bs (Some g) of still (true_both (asks_present (a ∷ bs) (topic g)) (is_open_end r g) (ap (asks_present (a ∷ bs)) is ∙ among) open_end)
sync_at m c r best a bs g (One x (claim.EndLe t)) is of still among open_end = unrefuted_at m c r best Synchronize a bs (Some g) of still (true_both (asks_present (a ∷ bs) (topic g)) (is_open_end r g) (ap (asks_present (a ∷ bs)) is ∙ among) open_end)
sync_at m c r best a bs g (One x (claim.EndGe t)) is of still among open_end = unrefuted_at m c r best Synchronize a bs (Some g) of still (true_both (asks_present (a ∷ bs) (topic g)) (is_open_end r g) (ap (asks_present (a ∷ bs)) is ∙ among) open_end)
sync_at m c r best a bs g (Two p x y) is of still among open_end = cc

-- so no row refutes where the propagator is quiet
pub unrefuted_from : (m : Data) (c : ℕ) (r : Region) (best : Option ℤ) (kind : Kind) (a : Itv) (bs : List Itv) → IsFamily m c kind a bs → quiet m c r best → Unrefuted kind r a bs
unrefuted_from m c r best Span a bs of still guess asked =
    unrefuted_at m c r best Span a bs guess of still (asked_more (λ g. is_among (a ∷ bs) [] (topic g)) (λ g. asks_each (a ∷ bs) (topic g)) r guess (λ g h. among_each (a ∷ bs) (topic g) h) asked)
unrefuted_from m c r best (Alternative n) a bs of still guess asked =
    unrefuted_at m c r best (Alternative n) a bs guess of still (asked_more (λ g. is_among (a ∷ bs) [] (topic g)) (λ g. asks_each (a ∷ bs) (topic g)) r guess (λ g h. among_each (a ∷ bs) (topic g) h) asked)
unrefuted_from m c r best Synchronize a bs of still None asked = unrefuted_at m c r best Synchronize a bs None of still refl
unrefuted_from m c r best Synchronize a bs of still (Some g) asked =
    let two = both_true (is_among (a ∷ bs) [] (topic g)) (is_open_end r g) asked in
    sync_at m c r best a bs g (topic g) refl of still two.0 two.1

-- what is found of all rows is found of a witness that refutes there
still_tight : (m : Data) (r : Region) (best : Option ℤ) (kind : Kind) (a : Itv) (bs : List Itv) (c : ℕ) (w : HierWitness) (guess : Option Guess) → slice_get m.constraints c ≡ Some (as_constraint kind a bs) → constraint_of w ≡ c
    → passes_if_any (is_tight (λ h. refutes_under kind r a bs (Some h)) r) guess ≡ true → passes_if_any (is_tight (λ h. refutes m (seen_at r best (Some h)) w) r) guess ≡ true
still_tight m r best kind a bs c w None is names h = refl
still_tight m r best kind a bs c w (Some g) is names h = at (weaker r g) h
  where
    false_of : (b : Bool) → not b ≡ true → b ≡ false
    false_of true h = never h
    false_of false h = refl

    at : (o : Option Guess) → passes_if_any (λ h. not (refutes_under kind r a bs (Some h))) o ≡ true → passes_if_any (λ h. not (refutes m (seen_at r best (Some h)) w)) o ≡ true
    at None h = refl
    at (Some k) h = ap not (none_refutes m (seen_at r best (Some k)) kind a bs c w is names (false_of (refutes_under kind r a bs (Some k)) h))

pub finding_from : (m : Data) (r : Region) (best : Option ℤ) (kind : Kind) (a : Itv) (bs : List Itv) (c : ℕ) (w : HierWitness) (guess : Option Guess) → slice_get m.constraints c ≡ Some (as_constraint kind a bs)
    → IsFound (refutes_under kind r a bs) r guess → IsWitness kind (looked_at guess r) a bs c w → IsFinding refutes m r best (record { guess = guess; witness = w })
finding_from m r best kind a bs c w guess is found one = record {
  admitted = found.admitted;
  refuted = witness_refutes m (seen_at r best guess) kind a bs c w is one;
  tight = still_tight m r best kind a bs c w guess is one.constraint found.tight;
}
