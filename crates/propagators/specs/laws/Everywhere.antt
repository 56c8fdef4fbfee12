-- A region is quiet by the longer lists of guesses exactly where it is by those of the rows.
use Rattle.std.specs.Prelude.{◌≡◌, List, ◌↔◌, ℕ, ℤ, true, false, ◌&&◌, ◌||◌, [], Option, Some, None, nat_eq, slice_get}
use Rattle.std.proofs.Common.{refl, sym, ap, subst, ◌∙◌, inl, inr}
use Rattle.std.proofs.lemmas.Bool.{true≢false, or_left, or_parts}
use Rattle.base_laws.specs.laws.Numbers.{turned_number}
use Rattle.sched_base.specs.declared.ids.Itv.{Itv}
use Rattle.sched_base.specs.declared.ids.Seq.{Seq}
use Rattle.sched_model.specs.declared.types.Constraint.{Constraint}
use Rattle.sched_model.specs.declared.types.Constraint.TheVariants as constraint
use Rattle.sched_model.specs.Words.{passes}
use Rattle.sched_model.specs.Data.{Data, same}
use Rattle.region.specs.declared.types.Claim.TheVariants as claim
use Rattle.region.specs.declared.types.Topic.{Topic}
use Rattle.region.specs.declared.types.Topic.TheVariants.{One, Two}
use Rattle.region.specs.declared.types.Guess.{Guess}
use Rattle.region.specs.declared.types.Guess.TheVariants.{Present, Absent, StartLe, StartGe, EndLe, EndGe, Before}
use Rattle.region.specs.Cells.{Region}
use Rattle.region.specs.Guesses.{admits, admits_topic, assumed, topic}
use Rattle.region.specs.Looks.{IsRegionOf, seen_at}
use Rattle.region.specs.laws.Lists.{both_true}
use Rattle.region.specs.laws.OneSequence.{has_cases}
use Rattle.region.specs.Topics.{asks_each}
use Rattle.findings.specs.Found.{IsQuiet}
use Rattle.findings.specs.code.Reads.{LooksOnlyAt, is_among}
use Rattle.findings.specs.laws.Kept.{asked_more}
use Rattle.findings.specs.laws.Everywhere.{unrefuted_everywhere, is_of_one}
use Rattle.refute_basic.specs.Standing.{precedes, stand}
use Rattle.refute_basic.specs.laws.Told.{told}
use Rattle.refute_basic.specs.Listed.{asks_presence, is_on_one}
use Rattle.refute_hier.specs.declared.witness.HierWitness.TheVariants.{Span, Alt, Sync, SeqRel}
use Rattle.refute_hier.specs.Listed.{asks_pair as asks_both, asks_related}
use Rattle.refute_seq.specs.declared.witness.SeqWitness.TheVariants.{Pair, Triple, Overload, Edge, NotEnd, Detect}
use Rattle.refute_seq.specs.Witness.{is_valid}
use Rattle.refute_seq.specs.Pair.{pair_of, pair_row}
use Rattle.refute_seq.specs.Listed.{asks_order, asks_two, asks_pair, asks_circle, lists as lists_seq}
use Rattle.refute_seq.specs.OnSequence.{refutes as refutes_seq}
use Rattle.refute_cumul.specs.declared.witness.CumulWitness.TheVariants.{Point}
use Rattle.refute_cumul.specs.Witness.{is_valid as is_point}
use Rattle.refute_cumul.specs.Listed.{names_of, lists as lists_cumul}
use Rattle.refute_cumul.specs.OnCumul.{refutes as refutes_cumul}
use Rattle.refute_cumul.specs.laws.Alike.{point_alike}
use Rattle.kernel.specs.declared.types.Witness.{Witness}
use Rattle.kernel.specs.declared.types.Witness.TheVariants.{Basic, Hier, Seq as OfSeq, Cumul, State, Extra}
use Rattle.kernel.specs.declared.no_extra.NoWitness.{NoWitness}
use Rattle.propagators.specs.Quiet.{is_derived, lists_all, IsQuietRegion}
use Rattle.engine.specs.Plain.{refutes_plain}
use Rattle.propagators.specs.Every.{asks_sequence, asks_relation, lists_every}
use Rattle.propagators.specs.laws.Wider.{IsSilent, IsShown, silent_wider}
use Rattle.propagators.specs.laws.Turned.{not_turned}
use Rattle.propagators.specs.laws.Circles.{circle_silent}
use Rattle.propagators.specs.laws.Relations.{relation_silent}
use Rattle.prop_unary.specs.laws.Under.{before_is}

-- PAIR: under a guess that the second stands before the first, the first doesn't stand before the second
no_end : (a b z : Itv) → (same b z || same a z) ≡ true → (same a z || same b z) ≡ false → ⊥
no_end a b z listed other =
    let none = or_parts (same a z) (same b z) other in
    elim (has_cases (same b z) (same a z) listed) [ inl e ↦ true≢false (sym e ∙ none.1) | inr e ↦ true≢false (sym e ∙ none.0) ]

order_back : (p : Seq) (a b : Itv) (t : Topic) → asks_two p b a t ≡ true → asks_two p a b t ≡ false → asks_order p b a t ≡ true
order_back p a b (One z claim.Present) listed other = absurd (no_end a b z listed other)
order_back p a b (One z claim.Absent) listed other = cc
order_back p a b (One z (claim.StartLe t)) listed other = absurd (no_end a b z listed other)
order_back p a b (One z (claim.StartGe t)) listed other = absurd (no_end a b z listed other)
order_back p a b (One z (claim.EndLe t)) listed other = absurd (no_end a b z listed other)
order_back p a b (One z (claim.EndGe t)) listed other = absurd (no_end a b z listed other)
order_back p a b (Two q u v) listed other = listed

told_back : (m : Data) (r : Region) (p : Seq) (a b : Itv) (t : Topic) → IsRegionOf m r → t ≡ Two p b a → admits_topic r t ≡ true → stand (assumed t r) p a b ≡ true → ⊥
told_back m r p a b t of e free h =
    not_turned m r p a b of (subst (λ k. admits_topic r k ≡ true) e free) (subst (λ k. precedes (assumed k r) p a b ≡ true) e (told (assumed t r) p a b h).order)

pair_never : (m : Data) (r : Region) (a b : Itv) (k : ℕ) (o : Option Constraint) (g : Guess) → IsRegionOf m r → admits r g ≡ true → asks_pair o b a (topic g) ≡ true → asks_pair o a b (topic g) ≡ false → passes (pair_of m (assumed (topic g) r) k a b) o ≡ true → ⊥
pair_never m r a b k None g of free listed other h = true≢false (sym h)
pair_never m r a b k (Some (constraint.NoOverlap p matrix direct)) g of free listed other h =
    told_back m r p a b (topic g) of (ap topic (before_is p b a g (order_back p a b (topic g) listed other))) free (both_true (stand (assumed (topic g) r) p a b) _ h).0
pair_never m r a b k (Some d) g of free listed other h = true≢false (sym h)

pair_silent : (m : Data) (r : Region) (best : Option ℤ) (c a b k : ℕ) → IsRegionOf m r → IsSilent refutes_seq m r best (Pair c a b k) (lists_seq m (Pair c a b k)) → IsSilent refutes_seq m r best (Pair c a b k) (lists_every m (OfSeq (Pair c a b k)))
pair_silent m r best c a b k of silent = silent_wider refutes_seq m r best (Pair c a b k) (lists_seq m (Pair c a b k)) (lists_every m (OfSeq (Pair c a b k))) silent shown
  where
    o : Option Constraint
    o = slice_get m.constraints c

    x : Itv
    x = record { 0 = a }

    y : Itv
    y = record { 0 = b }

    shown : (g : Guess) → admits r g ≡ true → lists_every m (OfSeq (Pair c a b k)) g ≡ true → lists_seq m (Pair c a b k) g ≡ false → refutes_seq m (seen_at r best (Some g)) (Pair c a b k) ≡ true → IsShown refutes_seq m r best (Pair c a b k) (lists_seq m (Pair c a b k))
    shown g free listed other h = elim (has_cases (asks_pair o x y (topic g)) (asks_pair o y x (topic g)) listed) [
      | inl forth ↦ absurd (true≢false (sym forth ∙ other))
      | inr back ↦ absurd (pair_never m r x y k o g of free back other (both_true (is_valid (Pair c a b k)) (pair_row m (seen_at r best (Some g)) c a b k) h).1)
    ]

-- POINT reads the intervals of its function and its window alone
point_looks : (m : Data) (c : ℕ) (t : ℤ) (u : ℕ) → LooksOnlyAt refutes_cumul m (Point c t u) (record { intervals = names_of m (slice_get m.constraints c); pairs = []; best = false })
point_looks m c t u l k of also alike best = ap (λ b. is_point (Point c t u) && b) (point_alike m l k c t u (λ x here. alike.bounds x here))

point_listed : (m : Data) (c : ℕ) (t : ℤ) (u : ℕ) (g : Guess) → is_among (names_of m (slice_get m.constraints c)) [] (topic g) ≡ true → lists_cumul m (Point c t u) g ≡ true
point_listed m c t u (Present z) h = h
point_listed m c t u (Absent z) h = h
point_listed m c t u (StartLe z s) h = h
point_listed m c t u (StartGe z s) h = h
point_listed m c t u (EndLe z s) h = h
point_listed m c t u (EndGe z s) h = h
point_listed m c t u (Before p x y) h = cc

of_one : (t : Topic) → is_on_one t ≡ true → is_of_one t ≡ true
of_one (One z c) h = refl
of_one (Two p x y) h = cc

point_silent : (m : Data) (r : Region) (best : Option ℤ) (c : ℕ) (t : ℤ) (u : ℕ) → IsRegionOf m r → IsSilent refutes_cumul m r best (Point c t u) (lists_cumul m (Point c t u)) → IsSilent refutes_cumul m r best (Point c t u) (λ g. is_on_one (topic g))
point_silent m r best c t u of silent guess asked =
    let xs = names_of m (slice_get m.constraints c) in
    unrefuted_everywhere refutes_cumul m (Point c t u) (record { intervals = xs; pairs = []; best = false }) r best (point_looks m c t u) of (λ x h. cc)
    (λ g h. silent g (asked_more (λ k. is_among xs [] (topic k)) (lists_cumul m (Point c t u)) r g (λ k one. point_listed m c t u k one) h)) guess
    (asked_more (λ g. is_on_one (topic g)) (λ g. is_of_one (topic g)) r guess (λ g one. of_one (topic g) one) asked)

-- each guess that a row lists is in the longer list
order_in_sequence : (p : Seq) (x y : Itv) (q : Seq) (u v : Itv) → asks_order p x y (Two q u v) ≡ true → nat_eq p.0 q.0 ≡ true
order_in_sequence p x y q u v h = (both_true (nat_eq p.0 q.0) (same x u) (both_true (nat_eq p.0 q.0 && same x u) (same y v) h).0).0

circle_every : (p : Seq) (x y z : Itv) (t : Topic) → asks_circle p x y z t ≡ true → (asks_presence t || asks_sequence p t) ≡ true
circle_every p x y z (One w claim.Present) h = refl
circle_every p x y z (One w claim.Absent) h = cc
circle_every p x y z (One w (claim.StartLe t)) h = cc
circle_every p x y z (One w (claim.StartGe t)) h = cc
circle_every p x y z (One w (claim.EndLe t)) h = cc
circle_every p x y z (One w (claim.EndGe t)) h = cc
circle_every p x y z (Two q u v) h = elim (has_cases (asks_order p x y (Two q u v) || asks_order p y z (Two q u v)) (asks_order p z x (Two q u v)) h) [
  | inl more ↦ elim (has_cases (asks_order p x y (Two q u v)) (asks_order p y z (Two q u v)) more) [
    | inl one ↦ order_in_sequence p x y q u v one
    | inr two ↦ order_in_sequence p y z q u v two
  ]
  | inr three ↦ order_in_sequence p z x q u v three
]

both_every : (p : Seq) (x y : Itv) (t : Topic) → asks_both p x y t ≡ true → (asks_presence t || asks_sequence p t) ≡ true
both_every p x y (One w claim.Present) h = refl
both_every p x y (One w claim.Absent) h = cc
both_every p x y (One w (claim.StartLe t)) h = cc
both_every p x y (One w (claim.StartGe t)) h = cc
both_every p x y (One w (claim.EndLe t)) h = cc
both_every p x y (One w (claim.EndGe t)) h = cc
both_every p x y (Two q u v) h = turned_number q.0 p.0 (both_true (nat_eq q.0 p.0) _ h).0

related_every : (o : Option Constraint) (x : Itv) (t : Topic) → asks_related o x t ≡ true → (asks_presence t || asks_relation o t) ≡ true
related_every None x t h = cc
related_every (Some (constraint.First p a)) x t h = both_every p a x t h
related_every (Some (constraint.Last p a)) x t h = both_every p a x t h
related_every (Some (constraint.Before p a b)) x t h = both_every p a b t h
related_every (Some (constraint.Prev p a b)) x t h = elim (has_cases (asks_both p a b t || asks_both p a x t) (asks_both p x b t) h) [
  | inl more ↦ elim (has_cases (asks_both p a b t) (asks_both p a x t) more) [ inl one ↦ both_every p a b t one | inr two ↦ both_every p a x t two ]
  | inr three ↦ both_every p x b t three
]
related_every (Some d) x t h = cc

each_every : (xs : List Itv) (t : Topic) → asks_each xs t ≡ true → is_on_one t ≡ true
each_every xs (One z c) h = refl
each_every xs (Two p x y) h = cc

every_listed : (m : Data) (w : Witness NoWitness) (g : Guess) → lists_all m w g ≡ true → lists_every m w g ≡ true
every_listed m (Basic w) g h = h
every_listed m (Hier (Span c r i)) g h = h
every_listed m (Hier (Alt c r i j)) g h = h
every_listed m (Hier (Sync c i)) g h = h
every_listed m (Hier (SeqRel c x)) g h = related_every (slice_get m.constraints c) (record { 0 = x }) (topic g) h
every_listed m (OfSeq (Pair c a b k)) g h = or_left (lists_seq m (Pair c a b k) g) _ h
every_listed m (OfSeq (Triple p x y z)) g h = circle_every (record { 0 = p }) (record { 0 = x }) (record { 0 = y }) (record { 0 = z }) (topic g) h
every_listed m (OfSeq (Overload c s)) g h = h
every_listed m (OfSeq (Edge c side i s u v)) g h = h
every_listed m (OfSeq (NotEnd c side i s)) g h = h
every_listed m (OfSeq (Detect c side i s)) g h = h
every_listed m (Cumul (Point c t u)) g h = each_every (names_of m (slice_get m.constraints c)) (topic g) h
every_listed m (State w) g h = h
every_listed m (Extra w) g h = h

-- each witness is silent under the longer list where it is under what its row lists
silent_everywhere : (m : Data) (r : Region) (best : Option ℤ) (w : Witness NoWitness) → IsRegionOf m r → IsSilent refutes_plain m r best w (lists_all m w) → IsSilent refutes_plain m r best w (lists_every m w)
silent_everywhere m r best (Basic w) of silent = silent
silent_everywhere m r best (Hier (Span c n i)) of silent = silent
silent_everywhere m r best (Hier (Alt c n i j)) of silent = silent
silent_everywhere m r best (Hier (Sync c i)) of silent = silent
silent_everywhere m r best (Hier (SeqRel c x)) of silent = relation_silent m r best c x of silent
silent_everywhere m r best (OfSeq (Pair c a b k)) of silent = pair_silent m r best c a b k of silent
silent_everywhere m r best (OfSeq (Triple p x y z)) of silent = circle_silent m r best p x y z of silent
silent_everywhere m r best (OfSeq (Overload c s)) of silent = silent
silent_everywhere m r best (OfSeq (Edge c side i s u v)) of silent = silent
silent_everywhere m r best (OfSeq (NotEnd c side i s)) of silent = silent
silent_everywhere m r best (OfSeq (Detect c side i s)) of silent = silent
silent_everywhere m r best (Cumul (Point c t u)) of silent = point_silent m r best c t u of silent
silent_everywhere m r best (State w) of silent = silent
silent_everywhere m r best (Extra w) of silent = silent

-- so a region of a model is quiet exactly where it is by the longer lists
pub listed_suffice : (m : Data) (r : Region) (best : Option ℤ) → IsRegionOf m r → IsQuietRegion m r best ↔ IsQuiet refutes_plain lists_every is_derived m r best
listed_suffice m r best of = (
  λ quiet. record { unrefuted = λ w guess mine asked. silent_everywhere m r best w of (λ listed one. quiet.unrefuted w listed mine one) guess asked },
  λ quiet. record { unrefuted = λ w guess mine asked. quiet.unrefuted w guess mine (asked_more (lists_all m w) (lists_every m w) r guess (every_listed m w) asked) },
)
