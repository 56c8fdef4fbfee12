-- What isn't possible in a region isn't under a guess that it admits, so that nothing is asked of it.
use Rattle.std.specs.Prelude.{◌≡◌, ◌⊎◌, ℕ, ℤ, Bool, true, false, not, ◌&&◌, Option, Some, None, length, slice_get, nat_lt}
use Rattle.std.proofs.Common.{inl, inr, refl, sym, ap, subst, ◌∙◌}
use Rattle.std.proofs.lemmas.Bool.{true≢false, or_left, or_right, cases_eq}
use Rattle.base_laws.specs.laws.Truth.{all_three}
use Rattle.sched_base.specs.declared.ids.Itv.{Itv}
use Rattle.sched_base.specs.declared.ids.Seq.{Seq}
use Rattle.sched_model.specs.declared.types.Constraint.{Constraint}
use Rattle.sched_model.specs.declared.types.Constraint.TheVariants as constraint
use Rattle.sched_model.specs.Words.{passes_if_any}
use Rattle.sched_model.specs.Data.{Data, same}
use Rattle.region.specs.declared.types.OrderCell.{OrderCell}
use Rattle.region.specs.declared.types.OrderCell.TheVariants.{Unknown, Forward, Backward}
use Rattle.region.specs.declared.types.Bounds.{Bounds}
use Rattle.region.specs.declared.types.Topic.{Topic}
use Rattle.region.specs.declared.types.Topic.TheVariants.{One, Two}
use Rattle.region.specs.declared.types.Guess.{Guess}
use Rattle.region.specs.Orders.{SequenceCells, is_before, known_order, order_in, says_unknown, says_backward}
use Rattle.region.specs.Cells.{Region, bounds_of, cells_of, says_present, says_absent}
use Rattle.region.specs.Claims.{is_open_at, guessed, as_present}
use Rattle.region.specs.Guesses.{admits, admits_topic, assumed, topic, looked_at, told_before, with_bounds}
use Rattle.region.specs.Looks.{IsRegionOf, seen_at, has_pairs}
use Rattle.region.specs.laws.Lists.{both_true, true_both}
use Rattle.region.specs.laws.Intervals.{bounds_elsewhere}
use Rattle.region.specs.laws.OneSequence.{IsOpen, before_told, same_is, has_cases}
use Rattle.region.specs.laws.Pairs.{IsPaired, paired, pairs_at, cells_there, cells_elsewhere}
use Rattle.findings.specs.laws.Kept.{asked_admits}
use Rattle.findings.specs.laws.Open.{not_absent, open_not_absent}
use Rattle.refute_hier.specs.declared.witness.HierWitness.TheVariants.{SeqRel}
use Rattle.refute_hier.specs.Parts.{is_away}
use Rattle.refute_basic.specs.Standing.{stand}
use Rattle.refute_hier.specs.SeqRel.{seqrel_of}
use Rattle.refute_hier.specs.Hier.{refutes}
use Rattle.refute_hier.specs.laws.Standing.{standing}
use Rattle.prop_hier.specs.code.Related.{pairs_of, asks_pairs, IsSilent}
use Rattle.prop_hier.specs.code.Possible.{may_stand, may_break}
use Rattle.prop_hier.specs.laws.Related.{none_related}

abbrev numbered : ℕ → Itv
numbered n = record { 0 = n }

unless_asked : (r : Region) (z u : Itv) (f : Bounds → Bounds) → says_absent (bounds_of r z).presence ≡ false → says_present (bounds_of (with_bounds z f r) u).presence ≡ true → says_absent (bounds_of r u).presence ≡ false
unless_asked r z u f none h = elim (cases_eq u.0 z.0) [
  | inl is ↦ ap (λ n. says_absent (bounds_of r (numbered n)).presence) is ∙ none
  | inr other ↦ not_absent (bounds_of r u).presence (sym (ap (λ b. says_present b.presence) (bounds_elsewhere z u f r other)) ∙ h)
]

unless_two : (r : Region) (y z u : Itv) → says_absent (bounds_of r y).presence ≡ false → says_absent (bounds_of r z).presence ≡ false → says_present (bounds_of (with_bounds y as_present (with_bounds z as_present r)) u).presence ≡ true → says_absent (bounds_of r u).presence ≡ false
unless_two r y z u one other h = elim (cases_eq u.0 y.0) [
  | inl is ↦ ap (λ n. says_absent (bounds_of r (numbered n)).presence) is ∙ one
  | inr apart ↦ unless_asked r z u as_present other (sym (ap (λ b. says_present b.presence) (bounds_elsewhere y u as_present (with_bounds z as_present r) apart)) ∙ h)
]

here_under : (r : Region) (t : Topic) (u : Itv) → admits_topic r t ≡ true → says_present (bounds_of (assumed t r) u).presence ≡ true → says_absent (bounds_of r u).presence ≡ false
here_under r (One z c) u admitted h = unless_asked r z u (guessed c) (open_not_absent c (bounds_of r z) (both_true (nat_lt z.0 (length r.bounds)) (is_open_at c (bounds_of r z)) admitted).1) h
here_under r (Two p y z) u admitted h = let pair = paired r p y z admitted in unless_two r y z u pair.one.not_absent pair.other.not_absent h

-- who is told to stand before another isn't told to stand behind
not_behind : (s : SequenceCells) (u v : Itv) → is_before s u v ≡ true → says_backward (order_in s u v) ≡ false
not_behind s u v h = ap (λ b. says_backward (known_order b (is_before s v u))) h

unknown_not_behind : (o : OrderCell) → says_unknown o ≡ true → says_backward o ≡ false
unknown_not_behind Unknown h = refl
unknown_not_behind Forward h = refl
unknown_not_behind Backward h = cc

told_under : (s : SequenceCells) (y z u v : Itv) → has_pairs s ≡ true → IsOpen s y z → is_before (told_before y z s) u v ≡ true → says_backward (order_in s u v) ≡ false
told_under s y z u v pairs is_open h = elim (has_cases (is_before s u v) (same y u && same z v) (sym (before_told s y z u v pairs is_open) ∙ h)) [
  | inl before ↦ not_behind s u v before
  | inr told ↦ (let two = both_true (same y u) (same z v) told in
      subst (λ w. says_backward (order_in s w v) ≡ false) (same_is y u two.0) (subst (λ w. says_backward (order_in s y w) ≡ false) (same_is z v two.1) (unknown_not_behind (order_in s y z) is_open.unknown)))
]

abbrev sequence : ℕ → Seq
sequence n = record { 0 = n }

before_under : (m : Data) (r : Region) (t : Topic) (p : Seq) (u v : Itv) → IsRegionOf m r → admits_topic r t ≡ true → is_before (cells_of (assumed t r) p) u v ≡ true → says_backward (order_in (cells_of r p) u v) ≡ false
before_under m r (One z c) p u v of admitted h = not_behind (cells_of r p) u v h
before_under m r (Two q y z) p u v of admitted h = elim (cases_eq p.0 q.0) [
  | inl is ↦ ap (λ n. says_backward (order_in (cells_of r (sequence n)) u v)) is ∙ told_under (cells_of r q) y z u v (pairs_at m r q of pair.within) pair.is_open
      (sym (ap (λ s. is_before s u v) (cells_there q y z (with_bounds y as_present (with_bounds z as_present r)) pair.within)) ∙ sym (ap (λ n. is_before (cells_of (assumed (Two q y z) r) (sequence n)) u v) is) ∙ h)
  | inr other ↦ not_behind (cells_of r p) u v (sym (ap (λ s. is_before s u v) (cells_elsewhere q p y z (with_bounds y as_present (with_bounds z as_present r)) other)) ∙ h)
]
  where
    pair : IsPaired r q y z
    pair = paired r q y z admitted

-- so whoever stands so under a guess may stand so
stands_under : (m : Data) (r : Region) (guess : Option Guess) (p : Seq) (u v : Itv) → IsRegionOf m r → passes_if_any (admits r) guess ≡ true → stand (looked_at guess r) p u v ≡ true → may_stand r p u v ≡ true
stands_under m r None p u v of admitted h =
    let s = standing r p u v h in
    all_three (not (is_away r u)) (not (is_away r v)) (not (says_backward (order_in (cells_of r p) u v)))
    (ap not (not_absent (bounds_of r u).presence s.first)) (ap not (not_absent (bounds_of r v).presence s.second)) (ap not (not_behind (cells_of r p) u v s.order))
stands_under m r (Some g) p u v of admitted h =
    let s = standing (assumed (topic g) r) p u v h in
    all_three (not (is_away r u)) (not (is_away r v)) (not (says_backward (order_in (cells_of r p) u v)))
    (ap not (here_under r (topic g) u admitted s.first)) (ap not (here_under r (topic g) v admitted s.second)) (ap not (before_under m r (topic g) p u v of admitted s.order))

prev_under : (m : Data) (r : Region) (guess : Option Guess) (p : Seq) (a b x : Itv) → IsRegionOf m r → passes_if_any (admits r) guess ≡ true
    → ((same x b && stand (looked_at guess r) p b a) ≡ true) ⊎ ((stand (looked_at guess r) p a x && stand (looked_at guess r) p x b) ≡ true) → may_break r x (constraint.Prev p a b) ≡ true
prev_under m r guess p a b x of admitted (inl h) =
    let two = both_true (same x b) (stand (looked_at guess r) p b a) h in
    or_left (same x b && may_stand r p b a) (may_stand r p a x && may_stand r p x b) (true_both (same x b) (may_stand r p b a) two.0 (stands_under m r guess p b a of admitted two.1))
prev_under m r guess p a b x of admitted (inr h) =
    let two = both_true (stand (looked_at guess r) p a x) (stand (looked_at guess r) p x b) h in
    or_right (same x b && may_stand r p b a) (may_stand r p a x && may_stand r p x b)
    (true_both (may_stand r p a x) (may_stand r p x b) (stands_under m r guess p a x of admitted two.0) (stands_under m r guess p x b of admitted two.1))

breaks_under : (m : Data) (r : Region) (guess : Option Guess) (d : Constraint) (x : Itv) → IsRegionOf m r → passes_if_any (admits r) guess ≡ true → seqrel_of (looked_at guess r) x d ≡ true → may_break r x d ≡ true
breaks_under m r guess (constraint.First p a) x of admitted h = stands_under m r guess p x a of admitted h
breaks_under m r guess (constraint.Last p a) x of admitted h = stands_under m r guess p a x of admitted h
breaks_under m r guess (constraint.Before p a b) x of admitted h =
    let two = both_true (same x b) (stand (looked_at guess r) p b a) h in true_both (same x b) (may_stand r p b a) two.0 (stands_under m r guess p b a of admitted two.1)
breaks_under m r guess (constraint.Prev p a b) x of admitted h = prev_under m r guess p a b x of admitted (has_cases (same x b && stand (looked_at guess r) p b a) (stand (looked_at guess r) p a x && stand (looked_at guess r) p x b) h)
breaks_under m r guess other x of admitted h = cc

pub silent_impossible : (m : Data) (r : Region) (best : Option ℤ) (c : ℕ) (d : Constraint) (x : Itv) → IsRegionOf m r → slice_get m.constraints c ≡ Some d → may_break r x d ≡ false → IsSilent m r best (SeqRel c x.0) (pairs_of d x)
silent_impossible m r best c d x of is none guess asked = by_case (seqrel_of (looked_at guess r) x d) refl
  where
    by_case : (b : Bool) → seqrel_of (looked_at guess r) x d ≡ b → refutes m (seen_at r best guess) (SeqRel c x.0) ≡ false
    by_case false h = none_related m (seen_at r best guess) c x d is h
    by_case true h = absurd (true≢false (sym (breaks_under m r guess d x of (asked_admits (λ g. asks_pairs (pairs_of d x) (topic g)) r guess asked) h) ∙ none))
