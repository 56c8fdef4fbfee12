-- What a witness of a relation reads: the order of each pair that it compares, and whether its members are present.
use Rattle.std.specs.Prelude.{◌≡◌, ◌⊎◌, ℕ, Bool, true, false, ◌&&◌, ◌||◌, List, [], ◌∷◌, length, Some, slice_get, nat_eq, nat_lt}
use Rattle.std.specs.List.{list_any}
use Rattle.std.proofs.Common.{inl, inr, refl, sym, subst, ap, ◌∙◌}
use Rattle.std.proofs.lemmas.Bool.{or_left, or_right}
use Rattle.base_laws.specs.laws.Truth.{alone, never_both}
use Rattle.sched_base.specs.declared.ids.Itv.{Itv}
use Rattle.sched_base.specs.declared.ids.Seq.{Seq}
use Rattle.sched_model.specs.declared.types.Constraint.{Constraint}
use Rattle.sched_model.specs.declared.types.Constraint.TheVariants as constraint
use Rattle.sched_model.specs.Words.{passes}
use Rattle.sched_model.specs.Data.{Data, same, has, members_of}
use Rattle.region.specs.declared.types.CellName.{CellName}
use Rattle.region.specs.declared.types.CellName.TheVariants as cell
use Rattle.region.specs.declared.types.Claim.TheVariants as claim
use Rattle.region.specs.declared.types.Topic.{Topic}
use Rattle.region.specs.declared.types.Topic.TheVariants.{One, Two}
use Rattle.region.specs.declared.types.Guess.{Guess}
use Rattle.region.specs.declared.types.Guess.TheVariants.{Present, Absent, StartLe, StartGe, EndLe, EndGe, Before}
use Rattle.region.specs.Cells.{Region, bounds_of, says_maybe}
use Rattle.region.specs.Guesses.{topic}
use Rattle.region.specs.Looks.{Seen, IsRegionOf}
use Rattle.region.specs.laws.Lists.{both_true}
use Rattle.region.specs.laws.OneSequence.{same_is, has_cases}
use Rattle.region.specs.laws.Narrowing.{as_many_bounds}
use Rattle.findings.specs.Ends.{is_open_end}
use Rattle.findings.specs.code.Reads.{Reads, AreAlike, LooksOnlyAt, reads_cell, is_pair, has_pair, is_paired}
use Rattle.findings.specs.laws.Alike.{open_end_alike}
use Rattle.findings.specs.laws.Members.{first_paired, second_paired, is_forward, is_turned}
use Rattle.refute_hier.specs.declared.witness.HierWitness.TheVariants.{SeqRel}
use Rattle.refute_hier.specs.Witness.{is_valid}
use Rattle.refute_basic.specs.Standing.{stand}
use Rattle.refute_hier.specs.SeqRel.{seqrel_of, seqrel_row}
use Rattle.refute_hier.specs.Hier.{refutes}
use Rattle.refute_hier.specs.Listed.{asks_pair, asks_related}
use Rattle.refute_basic.specs.laws.Alike.{SameTwo}
use Rattle.refute_hier.specs.laws.Alike.{SameRelated, seqrel_alike}
use Rattle.refute_hier.specs.laws.Relations.{member_first, member_second, related_member}
use Rattle.prop_hier.specs.code.Related.{pair, pairs_of, asks_pairs}
use Rattle.prop_hier.specs.code.Tables.{intervals_of, sequences_of, watch_of, watches}

-- the guesses that its row lists are those on these pairs
or_none : (b : Bool) → b ≡ (b || false)
or_none true = refl
or_none false = refl

or_three : (a b c : Bool) → (a || b || c) ≡ (a || (b || (c || false)))
or_three true b c = refl
or_three false true c = refl
or_three false false true = refl
or_three false false false = refl

one_pair : (p : Seq) (x y : Itv) (t : Topic) → asks_pair p x y t ≡ asks_pairs (pair p x y ∷ []) t
one_pair p x y (One z claim.Present) = or_none (same z x || same z y)
one_pair p x y (One z claim.Absent) = refl
one_pair p x y (One z (claim.StartLe t)) = refl
one_pair p x y (One z (claim.StartGe t)) = refl
one_pair p x y (One z (claim.EndLe t)) = refl
one_pair p x y (One z (claim.EndGe t)) = refl
one_pair p x y (Two q u v) = or_none (is_pair q u v (pair p x y))

three_pairs : (p : Seq) (a b x : Itv) (t : Topic) → (asks_pair p a b t || asks_pair p a x t || asks_pair p x b t) ≡ asks_pairs (pair p a b ∷ pair p a x ∷ pair p x b ∷ []) t
three_pairs p a b x (One z claim.Present) = or_three (same z a || same z b) (same z a || same z x) (same z x || same z b)
three_pairs p a b x (One z claim.Absent) = refl
three_pairs p a b x (One z (claim.StartLe t)) = refl
three_pairs p a b x (One z (claim.StartGe t)) = refl
three_pairs p a b x (One z (claim.EndLe t)) = refl
three_pairs p a b x (One z (claim.EndGe t)) = refl
three_pairs p a b x (Two q u v) = or_three (is_pair q u v (pair p a b)) (is_pair q u v (pair p a x)) (is_pair q u v (pair p x b))

no_pair : (t : Topic) → false ≡ asks_pairs [] t
no_pair (One z claim.Present) = refl
no_pair (One z claim.Absent) = refl
no_pair (One z (claim.StartLe t)) = refl
no_pair (One z (claim.StartGe t)) = refl
no_pair (One z (claim.EndLe t)) = refl
no_pair (One z (claim.EndGe t)) = refl
no_pair (Two q u v) = refl

pub asks_is : (d : Constraint) (x : Itv) (t : Topic) → asks_related (Some d) x t ≡ asks_pairs (pairs_of d x) t
asks_is (constraint.First p a) x t = one_pair p a x t
asks_is (constraint.Last p a) x t = one_pair p a x t
asks_is (constraint.Before p a b) x t = one_pair p a b t
asks_is (constraint.Prev p a b) x t = three_pairs p a b x t
asks_is other x t = no_pair t

-- where it refutes, it names an interval that is listed, and compares such
pub one_listed : (m : Data) (r : Region) (d : Constraint) (x : Itv) → IsRegionOf m r → seqrel_of r x d ≡ true → has (intervals_of m (Some d)) x ≡ true
one_listed m r (constraint.First p a) x of h = related_member m r (constraint.First p a) p x of refl h
one_listed m r (constraint.Last p a) x of h = related_member m r (constraint.Last p a) p x of refl h
one_listed m r (constraint.Before p a b) x of h = or_right (same x a) (same x b || false) (or_left (same x b) false (both_true (same x b) (stand r p b a) h).0)
one_listed m r (constraint.Prev p a b) x of h = related_member m r (constraint.Prev p a b) p x of refl h
one_listed m r other x of h = cc

two_listed : (xs : List Itv) (u v z : Itv) → has xs u ≡ true → has xs v ≡ true → (same z u || same z v) ≡ true → has xs z ≡ true
two_listed xs u v z one other h = elim (has_cases (same z u) (same z v) h) [
  | inl is ↦ subst (λ w. has xs w ≡ true) (sym (same_is z u is)) one
  | inr is ↦ subst (λ w. has xs w ≡ true) (sym (same_is z v is)) other
]

three_listed : (xs : List Itv) (a b x z : Itv) → has xs a ≡ true → has xs b ≡ true → has xs x ≡ true → ((same z a || same z b) || ((same z a || same z x) || ((same z x || same z b) || false))) ≡ true → has xs z ≡ true
three_listed xs a b x z one two three h = elim (has_cases (same z a || same z b) _ h) [
  | inl g ↦ two_listed xs a b z one two g
  | inr more ↦ elim (has_cases (same z a || same z x) ((same z x || same z b) || false) more) [
    | inl g ↦ two_listed xs a x z one three g
    | inr last ↦ two_listed xs x b z three two (alone (same z x || same z b) last)
  ]
]

-- the members of a relation of neighbours that is refuted
record AreThree (m : Data) (p : Seq) (a b x : Itv) : Type 0 where
  first : has (members_of m p) a ≡ true
  second : has (members_of m p) b ≡ true
  third : has (members_of m p) x ≡ true

three : (m : Data) (r : Region) (p : Seq) (a b x : Itv) → IsRegionOf m r → ((same x b && stand r p b a) ≡ true) ⊎ ((stand r p a x && stand r p x b) ≡ true) → AreThree m p a b x
three m r p a b x of (inl h) =
    let two = both_true (same x b) (stand r p b a) h in
    let second = member_first m r p b a of two.1 in
    record { first = member_second m r p b a of two.1; second = second; third = subst (λ z. has (members_of m p) z ≡ true) (sym (same_is x b two.0)) second }
three m r p a b x of (inr h) =
    let two = both_true (stand r p a x) (stand r p x b) h in
    record { first = member_first m r p a x of two.0; second = member_second m r p x b of two.1; third = member_second m r p a x of two.0 }

paired_listed : (m : Data) (r : Region) (d : Constraint) (x z : Itv) → IsRegionOf m r → seqrel_of r x d ≡ true → is_paired (pairs_of d x) z ≡ true → has (intervals_of m (Some d)) z ≡ true
paired_listed m r (constraint.First p a) x z of h paired = two_listed (members_of m p) a x z (member_second m r p x a of h) (member_first m r p x a of h) (alone (same z a || same z x) paired)
paired_listed m r (constraint.Last p a) x z of h paired = two_listed (members_of m p) a x z (member_first m r p a x of h) (member_second m r p a x of h) (alone (same z a || same z x) paired)
paired_listed m r (constraint.Before p a b) x z of h paired = elim (has_cases (same z a) (same z b) (alone (same z a || same z b) paired)) [
  | inl is ↦ or_left (same z a) (same z b || false) is
  | inr is ↦ or_right (same z a) (same z b || false) (or_left (same z b) false is)
]
paired_listed m r (constraint.Prev p a b) x z of h paired =
    let each = three m r p a b x of (has_cases (same x b && stand r p b a) (stand r p a x && stand r p x b) h) in
    three_listed (members_of m p) a b x z each.first each.second each.third paired
paired_listed m r other x z of h paired = cc

-- and its orders are of the sequence that is listed
of_pair : (q p : Seq) (u v x y : Itv) → is_pair q u v (pair p x y) ≡ true → list_any (λ s. nat_eq q.0 s.0) (p ∷ []) ≡ true
of_pair q p u v x y h = or_left (nat_eq q.0 p.0) false (both_true (nat_eq q.0 p.0) _ h).0

of_three : (q p : Seq) (u v a b x : Itv) → (is_pair q u v (pair p a b) || (is_pair q u v (pair p a x) || (is_pair q u v (pair p x b) || false))) ≡ true → list_any (λ s. nat_eq q.0 s.0) (p ∷ []) ≡ true
of_three q p u v a b x h = elim (has_cases (is_pair q u v (pair p a b)) _ h) [
  | inl g ↦ of_pair q p u v a b g
  | inr more ↦ elim (has_cases (is_pair q u v (pair p a x)) (is_pair q u v (pair p x b) || false) more) [
    | inl g ↦ of_pair q p u v a x g
    | inr last ↦ of_pair q p u v x b (alone (is_pair q u v (pair p x b)) last)
  ]
]

ordered_listed : (d : Constraint) (x : Itv) (q : Seq) (u v : Itv) → has_pair (pairs_of d x) q u v ≡ true → list_any (λ s. nat_eq q.0 s.0) (sequences_of (Some d)) ≡ true
ordered_listed (constraint.First p a) x q u v h = of_pair q p u v a x (alone (is_pair q u v (pair p a x)) h)
ordered_listed (constraint.Last p a) x q u v h = of_pair q p u v a x (alone (is_pair q u v (pair p a x)) h)
ordered_listed (constraint.Before p a b) x q u v h = of_pair q p u v a b (alone (is_pair q u v (pair p a b)) h)
ordered_listed (constraint.Prev p a b) x q u v h = of_three q p u v a b x h
ordered_listed other x q u v h = cc

abbrev pub reads_related : Constraint → Itv → Reads
reads_related d x = record { intervals = []; pairs = pairs_of d x; best = false }

pub read_watched : (m : Data) (r : Region) (d : Constraint) (x : Itv) (c : CellName) → IsRegionOf m r → seqrel_of r x d ≡ true → reads_cell (reads_related d x) c ≡ true → watches (watch_of m (Some d)) c ≡ true
read_watched m r d x (cell.Presence z) of h read = paired_listed m r d x z of h read
read_watched m r d x (cell.StartMin z) of h read = cc
read_watched m r d x (cell.StartMax z) of h read = cc
read_watched m r d x (cell.EndMin z) of h read = cc
read_watched m r d x (cell.EndMax z) of h read = cc
read_watched m r d x (cell.Order q u v) of h read = ordered_listed d x q u v read

-- it looks at no more than this
compared : (reads : Reads) (r q : Region) (p : Seq) (u v : Itv) → AreAlike reads r q → has_pair reads.pairs p u v ≡ true → SameTwo r q p u v
compared reads r q p u v alike h = record { first = alike.presences u (first_paired reads.pairs p u v h); second = alike.presences v (second_paired reads.pairs p u v h); order = alike.orders p u v h }

same_related : (r q : Region) (d : Constraint) (x : Itv) → AreAlike (reads_related d x) r q → SameRelated r q x (Some d)
same_related r q (constraint.First p a) x alike = compared (reads_related (constraint.First p a) x) r q p x a alike (or_left (is_pair p x a (pair p a x)) false (is_turned (pair p a x)))
same_related r q (constraint.Last p a) x alike = compared (reads_related (constraint.Last p a) x) r q p a x alike (or_left (is_pair p a x (pair p a x)) false (is_forward (pair p a x)))
same_related r q (constraint.Before p a b) x alike = compared (reads_related (constraint.Before p a b) x) r q p b a alike (or_left (is_pair p b a (pair p a b)) false (is_turned (pair p a b)))
same_related r q (constraint.Prev p a b) x alike =
    let reads = reads_related (constraint.Prev p a b) x in (
      compared reads r q p b a alike (or_left (is_pair p b a (pair p a b)) _ (is_turned (pair p a b))),
      compared reads r q p a x alike (or_right (is_pair p a x (pair p a b)) _ (or_left (is_pair p a x (pair p a x)) (is_pair p a x (pair p x b) || false) (is_forward (pair p a x)))),
      compared reads r q p x b alike (or_right (is_pair p x b (pair p a b)) _ (or_right (is_pair p x b (pair p a x)) (is_pair p x b (pair p x b) || false) (or_left (is_pair p x b (pair p x b)) false (is_forward (pair p x b))))),
    )
same_related r q other x alike = tt

pub looks_related : (m : Data) (n : ℕ) (x : Itv) (d : Constraint) → slice_get m.constraints n ≡ Some d → LooksOnlyAt refutes m (SeqRel n x.0) (reads_related d x)
looks_related m n x d is l k of also alike best =
    ap (λ b. is_valid (SeqRel n x.0) && b) (seqrel_alike m l k n x.0 (subst (SameRelated l.region k.region x) (sym is) (same_related l.region k.region d x alike)))

-- a guess that it is asked under is as open in regions that are alike
pub open_alike : (m : Data) (reads : Reads) (g : Guess) (r q : Region) → IsRegionOf m r → IsRegionOf m q → AreAlike reads r q → asks_pairs reads.pairs (topic g) ≡ true → is_open_end r g ≡ is_open_end q g
open_alike m reads (Present z) r q of also alike h =
    let size : length r.bounds ≡ length q.bounds = sym (as_many_bounds m r of) ∙ as_many_bounds m q also in
    ap (λ n. nat_lt z.0 n && says_maybe (bounds_of r z).presence && true) size ∙ ap (λ p. nat_lt z.0 (length q.bounds) && says_maybe p && true) (alike.presences z h)
open_alike m reads (Absent z) r q of also alike h = cc
open_alike m reads (StartLe z t) r q of also alike h = cc
open_alike m reads (StartGe z t) r q of also alike h = cc
open_alike m reads (EndLe z t) r q of also alike h = cc
open_alike m reads (EndGe z t) r q of also alike h = cc
open_alike m reads (Before p u v) r q of also alike h = open_end_alike m reads (Before p u v) r q of also h alike

-- nobody stands so: the witness refutes nothing
pub none_related : (m : Data) (l : Seen) (n : ℕ) (x : Itv) (d : Constraint) → slice_get m.constraints n ≡ Some d → seqrel_of l.region x d ≡ false → refutes m l (SeqRel n x.0) ≡ false
none_related m l n x d is none = never_both (is_valid (SeqRel n x.0)) (seqrel_row m l n x.0) (ap (passes (seqrel_of l.region x)) is ∙ none)
