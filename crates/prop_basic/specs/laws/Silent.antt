-- A witness is silent where it is unrefuted on what it reads, and stays so where that stays.
use Rattle.std.specs.Prelude.{◌≡◌, ℕ, ◌<◌, ◌≤◌, ℤ, Bool, true, false, ◌&&◌, ◌||◌, List, [], ◌∷◌, length, Option, Some, None, IsTrue, slice_get, nat_eq, nat_lt}
use Rattle.std.proofs.Common.{refl, sym, ap, subst, ◌∙◌, arith}
use Rattle.std.proofs.lemmas.Bool.{true≢false, and_parts}
use Rattle.std.proofs.lemmas.Bool.Decides.{nat_tests}
use Rattle.sched_base.specs.declared.ids.Itv.{Itv}
use Rattle.sched_model.specs.Data.{Data, same, has}
use Rattle.region.specs.declared.types.CellName.{CellName}
use Rattle.region.specs.declared.types.Claim.TheVariants as claim
use Rattle.region.specs.declared.types.Topic.{Topic}
use Rattle.region.specs.declared.types.Topic.TheVariants.{One, Two}
use Rattle.region.specs.declared.types.Guess.{Guess}
use Rattle.region.specs.Claims.{as_absent}
use Rattle.region.specs.Cells.{Region, bounds_of}
use Rattle.region.specs.Guesses.{SameCell, assumed, topic, with_bounds}
use Rattle.region.specs.Looks.{Seen, IsRegionOf, seen_at}
use Rattle.region.specs.laws.Intervals.{bounds_there}
use Rattle.region.specs.laws.Lists.{true_both, length-changed_at}
use Rattle.region.specs.laws.OneSequence.{same_is, same_self}
use Rattle.findings.specs.Ends.{is_open_end}
use Rattle.findings.specs.code.Reads.{Reads, LooksOnlyAt, IsUnrefuted, is_among, is_paired, reads_cell}
use Rattle.findings.specs.laws.Alike.{alike_from_cells}
use Rattle.findings.specs.laws.Kept.{unrefuted_kept, asked_more}
use Rattle.findings.specs.laws.Everywhere.{unrefuted_everywhere}
use Rattle.refute_basic.specs.declared.witness.BasicWitness.{BasicWitness}
use Rattle.refute_basic.specs.declared.witness.BasicWitness.TheVariants.{Size, Arc, Cycle, Expr, Obj, Leaf}
use Rattle.refute_basic.specs.Size.{has_no_size, size_row}
use Rattle.refute_basic.specs.Basic.{refutes}
use Rattle.refute_basic.specs.Listed.{asks_size, is_on_one, lists}
use Rattle.refute_basic.specs.laws.Size.{none_past, size_alike}
use Rattle.refute_basic.specs.laws.Hulls.{logic_names, objective_names, expr_alike, obj_alike}
use Rattle.prop_basic.specs.code.Tasks.{is_own, reads_of, IsSilent}
use Rattle.base_laws.specs.laws.Truth.{alone, never_both}
use Rattle.sched_model.specs.Bounds.{is_number}

-- expressions: guesses on any interval
among_one : (xs : List Itv) (t : Topic) → is_among xs [] t ≡ true → is_on_one t ≡ true
among_one xs (One z c) h = refl
among_one xs (Two p y z) h = cc

abbrev pub AsksAll : Data → BasicWitness → Type 0
AsksAll m w = (g : Guess) → lists m w g ≡ is_on_one (topic g)

pub unrefuted_from : (m : Data) (r : Region) (best : Option ℤ) (w : BasicWitness) (xs : List Itv) → AsksAll m w → IsSilent m r best w → IsUnrefuted refutes m r best w xs []
unrefuted_from m r best w xs all silent guess asked = silent guess (asked_more (λ g. is_among xs [] (topic g)) (lists m w) r guess (λ g h. all g ∙ among_one xs (topic g) h) asked)

no_pairs : (reads : Reads) (x : Itv) → reads.pairs ≡ [] → is_paired reads.pairs x ≡ true → has reads.intervals x ≡ true
no_pairs reads x none h = absurd (true≢false (sym h ∙ ap (λ ps. is_paired ps x) none))

pub silent_on : (m : Data) (r : Region) (best : Option ℤ) (w : BasicWitness) (xs : List Itv) (uses : Bool) → AsksAll m w → LooksOnlyAt refutes m w (record { intervals = xs; pairs = []; best = uses }) → IsRegionOf m r
    → IsUnrefuted refutes m r best w xs [] → IsSilent m r best w
silent_on m r best w xs uses all only of none guess asked =
    unrefuted_everywhere refutes m w (record { intervals = xs; pairs = []; best = uses }) r best only of (λ x h. no_pairs (record { intervals = xs; pairs = []; best = uses }) x refl h) none guess
    (asked_more (lists m w) (λ g. is_on_one (topic g)) r guess (λ g h. sym (all g) ∙ h) asked)

-- they look at no more than the intervals that are named
pub expr_looks : (m : Data) (c : ℕ) (xs : List Itv) → ((x : Itv) → has (logic_names (slice_get m.constraints c)) x ≡ true → has xs x ≡ true) → LooksOnlyAt refutes m (Expr c) (record { intervals = xs; pairs = []; best = false })
expr_looks m c xs covers l k of also alike best = ap (λ b. is_number c && b) (expr_alike m l k c (λ x here. alike.bounds x (covers x here)))

pub obj_looks : (m : Data) (xs : List Itv) → ((x : Itv) → has (objective_names m.objective) x ≡ true → has xs x ≡ true) → LooksOnlyAt refutes m Obj (record { intervals = xs; pairs = []; best = true })
obj_looks m xs covers l k of also alike best = obj_alike m l k (best refl) (λ x here. alike.bounds x (covers x here))

-- sizes: no guess that the interval is absent
abbrev itv_at : ℕ → Itv
itv_at x = record { 0 = x }

is_itv : (x : ℕ) (z : Itv) → has (itv_at x ∷ []) z ≡ true → z ≡ itv_at x
is_itv x z h = same_is z (itv_at x) (alone (same z (itv_at x)) h)

past_absent : (r : Region) (x : ℕ) → length r.bounds ≤ x → has_no_size (bounds_of (with_bounds (itv_at x) as_absent r) (itv_at x)) ≡ false
past_absent r x h = sym (none_past (record { region = with_bounds (itv_at x) as_absent r; best = None }) x (let same_size = length-changed_at x as_absent r.bounds in omega (arith, same_size, h)))

size_absent : (l : Seen) (r : Region) (x : ℕ) → l.region ≡ with_bounds (itv_at x) as_absent r → size_row l x ≡ false
size_absent l r x is = ap (λ q. has_no_size (bounds_of q (itv_at x))) is ∙ by_case (nat_lt x (length r.bounds)) refl
  where
    below : (n : ℕ) → nat_lt x n ≡ true → x < n
    below n h = grind (arith, nat_tests)

    not_below : (n : ℕ) → nat_lt x n ≡ false → n ≤ x
    not_below n h = grind (arith, nat_tests)

    by_case : (b : Bool) → nat_lt x (length r.bounds) ≡ b → has_no_size (bounds_of (with_bounds (itv_at x) as_absent r) (itv_at x)) ≡ false
    by_case true h = ap has_no_size (bounds_there (itv_at x) as_absent r (below (length r.bounds) h))
    by_case false h = past_absent r x (not_below (length r.bounds) h)

turned : (x : ℕ) (z : Itv) → has (itv_at x ∷ []) z ≡ true → nat_eq x z.0 ≡ true
turned x z h = ap (nat_eq x) (ap (λ w. w.0) (is_itv x z h)) ∙ same_self (itv_at x)

listed_on : (x : ℕ) (z : Itv) → nat_eq x z.0 ≡ true → has (itv_at x ∷ []) z ≡ true
listed_on x z h = subst (λ w. has (itv_at x ∷ []) w ≡ true) (same_is (itv_at x) z h) (ap (λ b. b || false) (same_self (itv_at x)))

asks_among : (x : ℕ) (t : Topic) → asks_size x t ≡ true → is_among (itv_at x ∷ []) [] t ≡ true
asks_among x (One z claim.Present) h = listed_on x z h
asks_among x (One z claim.Absent) h = cc
asks_among x (One z (claim.StartLe t)) h = listed_on x z h
asks_among x (One z (claim.StartGe t)) h = listed_on x z h
asks_among x (One z (claim.EndLe t)) h = listed_on x z h
asks_among x (One z (claim.EndGe t)) h = listed_on x z h
asks_among x (Two p y z) h = cc

pub size_silent : (m : Data) (r : Region) (best : Option ℤ) (x : ℕ) → IsUnrefuted refutes m r best (Size x) (itv_at x ∷ []) [] → IsSilent m r best (Size x)
size_silent m r best x none guess asked = none guess (asked_more (lists m (Size x)) (λ g. is_among (itv_at x ∷ []) [] (topic g)) r guess (λ g h. asks_among x (topic g) h) asked)

pub size_unrefuted : (m : Data) (r : Region) (best : Option ℤ) (x : ℕ) → IsSilent m r best (Size x) → IsUnrefuted refutes m r best (Size x) (itv_at x ∷ []) []
size_unrefuted m r best x silent None asked = silent None refl
size_unrefuted m r best x silent (Some g) asked =
    let two = and_parts (is_among (itv_at x ∷ []) [] (topic g)) (is_open_end r g) asked in by_topic (topic g) refl two.0
    (λ h. silent (Some g) (true_both (asks_size x (topic g)) (is_open_end r g) h two.1))
  where
    by_topic : (t : Topic) → topic g ≡ t → is_among (itv_at x ∷ []) [] t ≡ true → (asks_size x (topic g) ≡ true → refutes m (seen_at r best (Some g)) (Size x) ≡ false) → refutes m (seen_at r best (Some g)) (Size x) ≡ false
    by_topic (One z claim.Absent) is among otherwise =
        never_both (is_number x) (size_row (seen_at r best (Some g)) x) (size_absent (seen_at r best (Some g)) r x (ap (λ t. assumed t r) is ∙ ap (λ w. with_bounds w as_absent r) (is_itv x z among)))
    by_topic (One z claim.Present) is among otherwise = otherwise (ap (asks_size x) is ∙ turned x z among)
    by_topic (One z (claim.StartLe t)) is among otherwise = otherwise (ap (asks_size x) is ∙ turned x z among)
    by_topic (One z (claim.StartGe t)) is among otherwise = otherwise (ap (asks_size x) is ∙ turned x z among)
    by_topic (One z (claim.EndLe t)) is among otherwise = otherwise (ap (asks_size x) is ∙ turned x z among)
    by_topic (One z (claim.EndGe t)) is among otherwise = otherwise (ap (asks_size x) is ∙ turned x z among)
    by_topic (Two p y z) is among otherwise = cc

size_looks : (m : Data) (x : ℕ) → LooksOnlyAt refutes m (Size x) (reads_of m (Size x))
size_looks m x l k of also alike best = ap (λ b. is_number x && b) (size_alike l k x (alike.bounds (itv_at x) (ap (λ b. b || false) (same_self (itv_at x)))))

-- what is read stays, and so does silence
pub silent_kept : (m : Data) (w : BasicWitness) (r q : Region) (b c : Option ℤ) → is_own w ≡ true → IsRegionOf m r → IsRegionOf m q → ((cell : CellName) → IsTrue (reads_cell (reads_of m w) cell) → SameCell cell r q)
    → (IsTrue (reads_of m w).best → b ≡ c) → IsSilent m r b w → IsSilent m q c w
silent_kept m (Size x) r q b c own of also cells best silent =
    size_silent m q c x (unrefuted_kept refutes m (Size x) (reads_of m (Size x)) r q b c (size_looks m x) of also (alike_from_cells m (reads_of m (Size x)) r q of also cells) best (size_unrefuted m r b x silent))
silent_kept m (Expr k) r q b c own of also cells best silent =
    let looks = expr_looks m k (logic_names (slice_get m.constraints k)) (λ x h. h) in
    silent_on m q c (Expr k) (logic_names (slice_get m.constraints k)) false (λ g. refl) looks also
    (unrefuted_kept refutes m (Expr k) (reads_of m (Expr k)) r q b c looks of also (alike_from_cells m (reads_of m (Expr k)) r q of also cells) best (unrefuted_from m r b (Expr k) (logic_names (slice_get m.constraints k)) (λ g. refl) silent))
silent_kept m Obj r q b c own of also cells best silent =
    let looks = obj_looks m (objective_names m.objective) (λ x h. h) in
    silent_on m q c Obj (objective_names m.objective) true (λ g. refl) looks also
    (unrefuted_kept refutes m Obj (reads_of m Obj) r q b c looks of also (alike_from_cells m (reads_of m Obj) r q of also cells) best (unrefuted_from m r b Obj (objective_names m.objective) (λ g. refl) silent))
silent_kept m (Arc k d) r q b c own of also cells best silent = cc
silent_kept m (Cycle arcs) r q b c own of also cells best silent = cc
silent_kept m (Leaf k u) r q b c own of also cells best silent = cc
