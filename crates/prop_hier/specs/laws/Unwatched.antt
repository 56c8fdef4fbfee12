-- A quiet propagator stays quiet where nothing that it watches changes.
use Rattle.std.specs.Prelude.{◌≡◌, ℕ, ℤ, Bool, true, false, ◌&&◌, List, [], ◌∷◌, Option, Some, None, IsTrue, slice_get}
use Rattle.std.proofs.Common.{refl, sym, ap, subst, ◌∙◌}
use Rattle.base_laws.specs.laws.Truth.{alone, never_both}
use Rattle.sched_base.specs.declared.ids.Itv.{Itv}
use Rattle.sched_model.specs.declared.types.Constraint.{Constraint}
use Rattle.sched_model.specs.declared.types.Constraint.TheVariants as constraint
use Rattle.sched_model.specs.Words.{passes, passes_if_any}
use Rattle.sched_model.specs.Data.{Data, has}
use Rattle.region.specs.declared.types.CellName.{CellName}
use Rattle.region.specs.declared.types.CellName.TheVariants as cell
use Rattle.region.specs.declared.types.Claim.TheVariants.{Present, Absent, StartLe, StartGe, EndLe, EndGe}
use Rattle.region.specs.declared.types.Topic.{Topic}
use Rattle.region.specs.declared.types.Topic.TheVariants.{One, Two}
use Rattle.region.specs.declared.types.Guess.{Guess}
use Rattle.region.specs.Cells.{Region}
use Rattle.region.specs.Guesses.{SameCell, admits, topic, looked_at}
use Rattle.region.specs.Looks.{IsRegionOf, seen_at}
use Rattle.region.specs.laws.Lists.{both_true, true_both}
use Rattle.region.specs.laws.Narrowing.{looked_stays}
use Rattle.findings.specs.Ends.{is_asked, is_open_end}
use Rattle.findings.specs.Found.{IsQuiet}
use Rattle.findings.specs.code.Reads.{Reads, AreAlike, LooksOnlyAt, is_among}
use Rattle.findings.specs.laws.Alike.{alike_from_cells}
use Rattle.findings.specs.laws.Kept.{asked_admits, refuted_alike, quiet_kept}
use Rattle.findings.specs.laws.Members.{each_among}
use Rattle.refute_hier.specs.declared.witness.HierWitness.{HierWitness}
use Rattle.refute_hier.specs.declared.witness.HierWitness.TheVariants.{Span, Alt, Sync, SeqRel}
use Rattle.refute_hier.specs.Witness.{is_valid, constraint_of}
use Rattle.refute_hier.specs.SeqRel.{seqrel_of, seqrel_row}
use Rattle.refute_hier.specs.Hier.{refutes}
use Rattle.refute_hier.specs.Listed.{family_of, asks_present, asks_related, lists}
use Rattle.refute_hier.specs.laws.Alike.{span_alike, alt_alike, sync_alike}
use Rattle.prop_hier.specs.code.Related.{pairs_of, asks_pairs}
use Rattle.prop_hier.specs.code.Tables.{watch_of, watches}
use Rattle.prop_hier.specs.code.Tasks.{looks_after, watching, watching_best, quiet, is_cell_of}
use Rattle.prop_hier.specs.laws.Owners.{owned}
use Rattle.prop_hier.specs.laws.Related.{asks_is, reads_related, read_watched, looks_related, open_alike, none_related}

-- witnesses of a constraint on an interval and its parts look at no more than these
abbrev pub is_of_parts : HierWitness → Bool
is_of_parts (SeqRel c x) = false
is_of_parts w = true

abbrev reads_of : Data → HierWitness → Reads
reads_of m w = record { intervals = family_of (slice_get m.constraints (constraint_of w)); pairs = []; best = false }

looks : (m : Data) (w : HierWitness) → is_of_parts w ≡ true → LooksOnlyAt refutes m w (reads_of m w)
looks m (Span c n i) parts l k of also alike best = ap (λ b. is_valid (Span c n i) && b) (span_alike m l k c n i alike.bounds)
looks m (Alt c n i j) parts l k of also alike best = ap (λ b. is_valid (Alt c n i j) && b) (alt_alike m l k c n i j alike.bounds)
looks m (Sync c i) parts l k of also alike best = ap (λ b. is_valid (Sync c i) && b) (sync_alike m l k c i alike.bounds)
looks m (SeqRel c x) parts l k of also alike best = cc

-- and their rows list guesses on these alone
present_among : (xs : List Itv) (t : Topic) → asks_present xs t ≡ true → is_among xs [] t ≡ true
present_among xs (One x Present) h = h
present_among xs (One x Absent) h = cc
present_among xs (One x (StartLe t)) h = h
present_among xs (One x (StartGe t)) h = h
present_among xs (One x (EndLe t)) h = h
present_among xs (One x (EndGe t)) h = h
present_among xs (Two p x y) h = cc

pub lists_among : (m : Data) (w : HierWitness) (g : Guess) → is_of_parts w ≡ true → lists m w g ≡ true → is_among (family_of (slice_get m.constraints (constraint_of w))) [] (topic g) ≡ true
lists_among m (Span c n i) g parts h = each_among (family_of (slice_get m.constraints c)) (topic g) h
lists_among m (Alt c n i j) g parts h = each_among (family_of (slice_get m.constraints c)) (topic g) h
lists_among m (Sync c i) g parts h = present_among (family_of (slice_get m.constraints c)) (topic g) h
lists_among m (SeqRel c x) g parts h = cc

-- these cells are watched
parts_watched : (xs : List Itv) (c : CellName) → is_cell_of xs c ≡ true → watches (record { intervals = xs; sequences = [] }) c ≡ true
parts_watched xs (cell.Presence x) h = alone (has xs x) h
parts_watched xs (cell.StartMin x) h = h
parts_watched xs (cell.StartMax x) h = h
parts_watched xs (cell.EndMin x) h = h
parts_watched xs (cell.EndMax x) h = h
parts_watched xs (cell.Order p x y) h = cc

no_parts : {P : Type 0} (c : CellName) → is_cell_of [] c ≡ true → P
no_parts (cell.Presence x) h = cc
no_parts (cell.StartMin x) h = cc
no_parts (cell.StartMax x) h = cc
no_parts (cell.EndMin x) h = cc
no_parts (cell.EndMax x) h = cc
no_parts (cell.Order p x y) h = cc

family_watched : (m : Data) (o : Option Constraint) (c : CellName) → is_cell_of (family_of o) c ≡ true → watches (watch_of m o) c ≡ true
family_watched m None c h = no_parts c h
family_watched m (Some (constraint.Span a bs)) c h = parts_watched (a ∷ bs) c h
family_watched m (Some (constraint.Alternative a bs n)) c h = parts_watched (a ∷ bs) c h
family_watched m (Some (constraint.Synchronize a bs)) c h = parts_watched (a ∷ bs) c h
family_watched m (Some (constraint.Temporal from to equal x y z)) c h = no_parts c h
family_watched m (Some (constraint.Logic e)) c h = no_parts c h
family_watched m (Some (constraint.NoOverlap p matrix direct)) c h = no_parts c h
family_watched m (Some (constraint.First p x)) c h = no_parts c h
family_watched m (Some (constraint.Last p x)) c h = no_parts c h
family_watched m (Some (constraint.Before p x y)) c h = no_parts c h
family_watched m (Some (constraint.Prev p x y)) c h = no_parts c h
family_watched m (Some (constraint.CumulIn f w lo hi)) c h = no_parts c h
family_watched m (Some (constraint.AlwaysEqual g x v p q)) c h = no_parts c h
family_watched m (Some (constraint.AlwaysNoState g x)) c h = no_parts c h

-- the witnesses that a propagator looks after and that are of these kinds
abbrev mine_of_parts : ℕ → Data → HierWitness → Bool
mine_of_parts k n w = looks_after n k w && is_of_parts w

parts_kept : (m : Data) (k : ℕ) (r q : Region) (b c : Option ℤ) → IsRegionOf m r → IsRegionOf m q → ((cell : CellName) → IsTrue (watching m k cell) → SameCell cell r q) → quiet m k r b → IsQuiet refutes lists (mine_of_parts k) m q c
parts_kept m k r q b c of also cells still =
    quiet_kept refutes lists (mine_of_parts k) m (reads_of m) r q b c
    (λ w mine. looks m w (both_true (looks_after m k w) (is_of_parts w) mine).1)
    (λ w g mine listed. lists_among m w g (both_true (looks_after m k w) (is_of_parts w) mine).1 listed)
    of also
    (λ w cell mine read. cells cell (family_watched m (slice_get m.constraints k) cell (subst (λ n. is_cell_of (family_of (slice_get m.constraints n)) cell ≡ true) (sym (owned m k w (both_true (looks_after m k w) (is_of_parts w) mine).0)) read)))
    (λ w mine uses. cc uses)
    (record { unrefuted = λ w guess mine asked. still.unrefuted w guess (both_true (looks_after m k w) (is_of_parts w) mine).0 asked })

-- a relation of the members of a sequence
asked_here : (m : Data) (n : ℕ) (x : Itv) (d : Constraint) (guess : Option Guess) (r q : Region) → IsRegionOf m r → IsRegionOf m q → slice_get m.constraints n ≡ Some d → AreAlike (reads_related d x) r q → is_asked (lists m (SeqRel n x.0)) q guess ≡ true
    → is_asked (lists m (SeqRel n x.0)) r guess ≡ true
asked_here m n x d None r q of also is alike asked = refl
asked_here m n x d (Some g) r q of also is alike asked =
    let two = both_true (lists m (SeqRel n x.0) g) (is_open_end q g) asked in
    let pairs : asks_pairs (pairs_of d x) (topic g) ≡ true = sym (asks_is d x (topic g)) ∙ sym (ap (λ o. asks_related o x (topic g)) is) ∙ two.0 in
    true_both (lists m (SeqRel n x.0) g) (is_open_end r g) two.0 (open_alike m (reads_related d x) g r q of also alike pairs ∙ two.1)

related_kept : (m : Data) (k n : ℕ) (x : Itv) (r q : Region) (b c : Option ℤ) (guess : Option Guess) → IsRegionOf m r → IsRegionOf m q → ((cell : CellName) → IsTrue (watching m k cell) → SameCell cell r q) → looks_after m k (SeqRel n x.0) ≡ true → quiet m k r b
    → is_asked (lists m (SeqRel n x.0)) q guess ≡ true → refutes m (seen_at q c guess) (SeqRel n x.0) ≡ false
related_kept m k n x r q b c guess of also cells mine still asked = by_constraint (slice_get m.constraints n) refl
  where
    admitted : passes_if_any (admits q) guess ≡ true
    admitted = asked_admits (lists m (SeqRel n x.0)) q guess asked

    by_case : (d : Constraint) → slice_get m.constraints n ≡ Some d → (t : Bool) → seqrel_of (looked_at guess q) x d ≡ t → refutes m (seen_at q c guess) (SeqRel n x.0) ≡ false
    by_case d is false none = none_related m (seen_at q c guess) n x d is none
    by_case d is true h =
        let alike = alike_from_cells m (reads_related d x) r q of also (λ cell read.
        cells cell (subst (λ i. watches (watch_of m (slice_get m.constraints i)) cell ≡ true) (sym (owned m k (SeqRel n x.0) mine))
        (ap (λ o. watches (watch_of m o) cell) is ∙ read_watched m (looked_at guess q) d x cell (looked_stays guess m q admitted also) h read))) in
        let here = asked_here m n x d guess r q of also is alike asked in
        sym (refuted_alike refutes m (SeqRel n x.0) (reads_related d x) r q b c guess (looks_related m n x d is) of also alike (λ uses. cc uses) (asked_admits (lists m (SeqRel n x.0)) r guess here) admitted)
        ∙ still.unrefuted (SeqRel n x.0) guess mine here

    by_constraint : (o : Option Constraint) → slice_get m.constraints n ≡ o → refutes m (seen_at q c guess) (SeqRel n x.0) ≡ false
    by_constraint None is = never_both (is_valid (SeqRel n x.0)) (seqrel_row m (seen_at q c guess) n x.0) (ap (passes (seqrel_of (looked_at guess q) x)) is)
    by_constraint (Some d) is = by_case d is (seqrel_of (looked_at guess q) x d) refl

pub unwatched : (m : Data) (k : ℕ) (r q : Region) (b c : Option ℤ) → IsRegionOf m r → IsRegionOf m q → ((cell : CellName) → IsTrue (watching m k cell) → SameCell cell r q) → (IsTrue (watching_best m k) → b ≡ c) → quiet m k r b → quiet m k q c
unwatched m k r q b c of also cells best still = record { unrefuted = at }
  where
    parts : (w : HierWitness) (guess : Option Guess) → is_of_parts w ≡ true → looks_after m k w ≡ true → is_asked (lists m w) q guess ≡ true → refutes m (seen_at q c guess) w ≡ false
    parts w guess of_parts mine asked = (parts_kept m k r q b c of also cells still).unrefuted w guess (true_both (looks_after m k w) (is_of_parts w) mine of_parts) asked

    at : (w : HierWitness) (guess : Option Guess) → looks_after m k w ≡ true → is_asked (lists m w) q guess ≡ true → refutes m (seen_at q c guess) w ≡ false
    at (Span n i j) guess mine asked = parts (Span n i j) guess refl mine asked
    at (Alt n i j l) guess mine asked = parts (Alt n i j l) guess refl mine asked
    at (Sync n i) guess mine asked = parts (Sync n i) guess refl mine asked
    at (SeqRel n x) guess mine asked = related_kept m k n (record { 0 = x }) r q b c guess of also cells mine still asked
