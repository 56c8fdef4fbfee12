-- SEQREL is silent under guesses that any interval is present, and on any order of its sequence, where it is under those on the
-- members that it compares.
use Rattle.std.specs.Prelude.{◌≡◌, ◌⊎◌, ℕ, ℤ, Bool, true, false, ◌&&◌, ◌||◌, List, [], ◌∷◌, Option, Some, None, nat_eq, slice_get}
use Rattle.std.proofs.Common.{refl, sym, subst, ◌∙◌, inl, inr}
use Rattle.std.proofs.lemmas.Bool.{true≢false, or_left, or_right, or_parts}
use Rattle.base_laws.specs.laws.Truth.{alone}
use Rattle.sched_base.specs.declared.ids.Itv.{Itv}
use Rattle.sched_base.specs.declared.ids.Seq.{Seq}
use Rattle.sched_model.specs.declared.types.Constraint.{Constraint}
use Rattle.sched_model.specs.declared.types.Constraint.TheVariants as constraint
use Rattle.sched_model.specs.Words.{passes}
use Rattle.sched_model.specs.Data.{Data, same, has}
use Rattle.region.specs.declared.types.Claim.TheVariants as claim
use Rattle.region.specs.declared.types.Topic.{Topic}
use Rattle.region.specs.declared.types.Topic.TheVariants.{One, Two}
use Rattle.region.specs.declared.types.Guess.{Guess}
use Rattle.region.specs.Cells.{Region}
use Rattle.region.specs.Guesses.{admits, admits_topic, assumed, looked_at, topic}
use Rattle.region.specs.Looks.{IsRegionOf, seen_at}
use Rattle.region.specs.laws.Lists.{both_true, true_both}
use Rattle.region.specs.laws.OneSequence.{same_is, same_self, has_cases}
use Rattle.findings.specs.Ends.{is_asked}
use Rattle.findings.specs.laws.Kept.{asked_more}
use Rattle.refute_basic.specs.Listed.{asks_presence}
use Rattle.refute_basic.specs.Standing.{stand}
use Rattle.refute_hier.specs.declared.witness.HierWitness.TheVariants.{SeqRel}
use Rattle.refute_hier.specs.Witness.{is_valid}
use Rattle.refute_hier.specs.SeqRel.{seqrel_of, seqrel_row}
use Rattle.refute_hier.specs.Listed.{asks_pair, asks_related, lists}
use Rattle.refute_hier.specs.Hier.{refutes}
use Rattle.propagators.specs.Every.{asks_sequence, asks_relation}
use Rattle.propagators.specs.laws.Wider.{IsSilent, IsShown, silent_wider}
use Rattle.propagators.specs.laws.Reduced.{Reduces, asks_one, loose_in, reduced}
use Rattle.propagators.specs.laws.Turned.{not_itself}
use Rattle.prop_unary.specs.laws.Circles.{listed_three}

-- the sentence of its row holds under a guess that it lists, or under none
abbrev IsBroken : Region → Constraint → Itv → Type 0
IsBroken r d x = (guess : Option Guess) × (is_asked (λ g. asks_related (Some d) x (topic g)) r guess ≡ true) × (seqrel_of (looked_at guess r) x d ≡ true)

-- an order of two is listed, either way
asks_forth : (p : Seq) (x y u v : Itv) → u ≡ x → v ≡ y → asks_pair p x y (Two p u v) ≡ true
asks_forth p x y u v e f =
    rw (e, f) (true_both (nat_eq p.0 p.0) ((same x x && same y y) || (same x y && same y x)) (same_self (record { 0 = p.0 })) (or_left (same x x && same y y) (same x y && same y x) (true_both (same x x) (same y y) (same_self x) (same_self y))))

asks_back : (p : Seq) (x y u v : Itv) → u ≡ y → v ≡ x → asks_pair p x y (Two p u v) ≡ true
asks_back p x y u v e f =
    rw (e, f) (true_both (nat_eq p.0 p.0) ((same y x && same x y) || (same y y && same x x)) (same_self (record { 0 = p.0 })) (or_right (same y x && same x y) (same y y && same x x) (true_both (same y y) (same x x) (same_self y) (same_self x))))

itself : (r : Region) (p : Seq) (u v w : Itv) → admits_topic r (Two p u v) ≡ true → u ≡ w → v ≡ w → ⊥
itself r p u v w free e f = not_itself r p w (subst (λ a. admits_topic r (Two p a w) ≡ true) e (subst (λ b. admits_topic r (Two p u b) ≡ true) f free))

-- so where it isn't, it is on others than both of them
loose_two : (r : Region) (p : Seq) (x y u v : Itv) → admits_topic r (Two p u v) ≡ true → asks_pair p x y (Two p u v) ≡ false → has (x ∷ y ∷ []) u ≡ true → has (x ∷ y ∷ []) v ≡ true → ⊥
loose_two r p x y u v free off one other = at (has_cases (same u x) (has (y ∷ []) u) one) (has_cases (same v x) (has (y ∷ []) v) other)
  where
    last : (w : Itv) → has (y ∷ []) w ≡ true → w ≡ y
    last w h = same_is w y (alone (same w y) h)

    at : (same u x ≡ true) ⊎ (has (y ∷ []) u ≡ true) → (same v x ≡ true) ⊎ (has (y ∷ []) v ≡ true) → ⊥
    at (inl e) (inl f) = itself r p u v x free (same_is u x e) (same_is v x f)
    at (inl e) (inr f) = true≢false (sym (asks_forth p x y u v (same_is u x e) (last v f)) ∙ off)
    at (inr e) (inl f) = true≢false (sym (asks_back p x y u v (last u e) (same_is v x f)) ∙ off)
    at (inr e) (inr f) = itself r p u v y free (last u e) (last v f)

loose_three : (r : Region) (p : Seq) (a x b u v : Itv) → admits_topic r (Two p u v) ≡ true → asks_pair p a b (Two p u v) ≡ false → asks_pair p a x (Two p u v) ≡ false → asks_pair p x b (Two p u v) ≡ false
    → (u ≡ a) ⊎ ((u ≡ x) ⊎ (u ≡ b)) → (v ≡ a) ⊎ ((v ≡ x) ⊎ (v ≡ b)) → ⊥
loose_three r p a x b u v free ends first second (inl e) (inl f) = itself r p u v a free e f
loose_three r p a x b u v free ends first second (inl e) (inr (inl f)) = true≢false (sym (asks_forth p a x u v e f) ∙ first)
loose_three r p a x b u v free ends first second (inl e) (inr (inr f)) = true≢false (sym (asks_forth p a b u v e f) ∙ ends)
loose_three r p a x b u v free ends first second (inr (inl e)) (inl f) = true≢false (sym (asks_back p a x u v e f) ∙ first)
loose_three r p a x b u v free ends first second (inr (inl e)) (inr (inl f)) = itself r p u v x free e f
loose_three r p a x b u v free ends first second (inr (inl e)) (inr (inr f)) = true≢false (sym (asks_forth p x b u v e f) ∙ second)
loose_three r p a x b u v free ends first second (inr (inr e)) (inl f) = true≢false (sym (asks_back p a b u v e f) ∙ ends)
loose_three r p a x b u v free ends first second (inr (inr e)) (inr (inl f)) = true≢false (sym (asks_back p x b u v e f) ∙ second)
loose_three r p a x b u v free ends first second (inr (inr e)) (inr (inr f)) = itself r p u v b free e f

-- their presence is listed
two_present : (c d : Bool) → (c || (d || false)) ≡ true → (c || d) ≡ true
two_present true d h = refl
two_present false true h = refl
two_present false false h = cc

three_present : (c d e : Bool) → (c || (d || (e || false))) ≡ true → ((c || e) || (c || d) || (d || e)) ≡ true
three_present true d e h = refl
three_present false true true h = refl
three_present false true false h = refl
three_present false false true h = refl
three_present false false false h = cc

two_listed : (p : Seq) (x y : Itv) (t : Topic) → asks_one (x ∷ y ∷ []) t ≡ true → asks_pair p x y t ≡ true
two_listed p x y (One z claim.Present) h = two_present (same z x) (same z y) h
two_listed p x y (One z claim.Absent) h = cc
two_listed p x y (One z (claim.StartLe t)) h = cc
two_listed p x y (One z (claim.StartGe t)) h = cc
two_listed p x y (One z (claim.EndLe t)) h = cc
two_listed p x y (One z (claim.EndGe t)) h = cc
two_listed p x y (Two q u v) h = cc

three_listed : (p : Seq) (a x b : Itv) (t : Topic) → asks_one (a ∷ x ∷ b ∷ []) t ≡ true → (asks_pair p a b t || asks_pair p a x t || asks_pair p x b t) ≡ true
three_listed p a x b (One z claim.Present) h = three_present (same z a) (same z x) (same z b) h
three_listed p a x b (One z claim.Absent) h = cc
three_listed p a x b (One z (claim.StartLe t)) h = cc
three_listed p a x b (One z (claim.StartGe t)) h = cc
three_listed p a x b (One z (claim.EndLe t)) h = cc
three_listed p a x b (One z (claim.EndGe t)) h = cc
three_listed p a x b (Two q u v) h = cc

-- an admitted guess that an interval is present, or on an order in the sequence
abbrev IsOther : Region → Seq → Topic → Type 0
IsOther r p t = (admits_topic r t ≡ true) × ((asks_presence t || asks_sequence p t) ≡ true)

-- where the first of two stands before the second in the one region, it does in the other
abbrev StandBy : Region → Region → Seq → Itv → Itv → Type 0
StandBy r q p x y = stand r p x y ≡ true → stand q p x y ≡ true

-- two of one pair, either way
two_again : (m : Data) (r : Region) (p : Seq) (x y : Itv) (t : Topic) → IsRegionOf m r → IsOther r p t → asks_pair p x y t ≡ false
    → (guess : Option Guess) × (is_asked (λ g. asks_pair p x y (topic g)) r guess ≡ true) × StandBy (assumed t r) (looked_at guess r) p x y × StandBy (assumed t r) (looked_at guess r) p y x
two_again m r p x y t of other off = shown (reduced m r p xs t of other.0 (loose_in p xs t other.1 never))
  where
    xs : List Itv
    xs = x ∷ y ∷ []

    first : has xs x ≡ true
    first = or_left (same x x) (has (y ∷ []) x) (same_self x)

    second : has xs y ≡ true
    second = or_right (same y x) (has (y ∷ []) y) (or_left (same y y) false (same_self y))

    never : (u v : Itv) → t ≡ Two p u v → has xs u ≡ true → has xs v ≡ true → ⊥
    never u v e one also = loose_two r p x y u v (subst (λ k. admits_topic r k ≡ true) e other.0) (subst (λ k. asks_pair p x y k ≡ false) e off) one also

    shown : (guess : Option Guess) × Reduces r t p xs guess → (guess : Option Guess) × (is_asked (λ g. asks_pair p x y (topic g)) r guess ≡ true) × StandBy (assumed t r) (looked_at guess r) p x y × StandBy (assumed t r) (looked_at guess r) p y x
    shown (guess, by) = (
      guess,
      asked_more (λ g. asks_one xs (topic g)) (λ g. asks_pair p x y (topic g)) r guess (λ g h. two_listed p x y (topic g) h) by.asked,
      by.stands x y first second,
      by.stands y x second first,
    )

-- one who stands between two
none_compared : (p : Seq) (a x b : Itv) (t : Topic) → asks_related (Some (constraint.Prev p a b)) x t ≡ false → (asks_pair p a b t ≡ false) × (asks_pair p a x t ≡ false) × (asks_pair p x b t ≡ false)
none_compared p a x b t off =
    let last = or_parts (asks_pair p a b t || asks_pair p a x t) (asks_pair p x b t) off in
    let first = or_parts (asks_pair p a b t) (asks_pair p a x t) last.0 in
    (first.0, first.1, last.1)

between_again : (m : Data) (r : Region) (p : Seq) (a x b : Itv) (t : Topic) → IsRegionOf m r → IsOther r p t → asks_related (Some (constraint.Prev p a b)) x t ≡ false
    → (guess : Option Guess) × (is_asked (λ g. asks_related (Some (constraint.Prev p a b)) x (topic g)) r guess ≡ true) × StandBy (assumed t r) (looked_at guess r) p a x × StandBy (assumed t r) (looked_at guess r) p x b
between_again m r p a x b t of other off = shown (reduced m r p xs t of other.0 (loose_in p xs t other.1 never))
  where
    xs : List Itv
    xs = a ∷ x ∷ b ∷ []

    first : has xs a ≡ true
    first = or_left (same a a) (has (x ∷ b ∷ []) a) (same_self a)

    second : has xs x ≡ true
    second = or_right (same x a) (has (x ∷ b ∷ []) x) (or_left (same x x) (has (b ∷ []) x) (same_self x))

    third : has xs b ≡ true
    third = or_right (same b a) (has (x ∷ b ∷ []) b) (or_right (same b x) (has (b ∷ []) b) (or_left (same b b) false (same_self b)))

    never : (u v : Itv) → t ≡ Two p u v → has xs u ≡ true → has xs v ≡ true → ⊥
    never u v e one also =
        let none = none_compared p a x b (Two p u v) (subst (λ k. asks_related (Some (constraint.Prev p a b)) x k ≡ false) e off) in
        loose_three r p a x b u v (subst (λ k. admits_topic r k ≡ true) e other.0) none.0 none.1 none.2 (listed_three a x b u one) (listed_three a x b v also)

    shown : (guess : Option Guess) × Reduces r t p xs guess
        → (guess : Option Guess) × (is_asked (λ g. asks_related (Some (constraint.Prev p a b)) x (topic g)) r guess ≡ true) × StandBy (assumed t r) (looked_at guess r) p a x × StandBy (assumed t r) (looked_at guess r) p x b
    shown (guess, by) = (
      guess,
      asked_more (λ g. asks_one xs (topic g)) (λ g. asks_related (Some (constraint.Prev p a b)) x (topic g)) r guess (λ g h. three_listed p a x b (topic g) h) by.asked,
      by.stands a x first second,
      by.stands x b second third,
    )

prev_broken : (m : Data) (r : Region) (p : Seq) (a x b : Itv) (t : Topic) → IsRegionOf m r → IsOther r p t → asks_related (Some (constraint.Prev p a b)) x t ≡ false
    → ((same x b && stand (assumed t r) p b a) ≡ true) ⊎ ((stand (assumed t r) p a x && stand (assumed t r) p x b) ≡ true) → IsBroken r (constraint.Prev p a b) x
prev_broken m r p a x b t of other off (inl h) =
    let two = both_true (same x b) (stand (assumed t r) p b a) h in
    let found = two_again m r p a b t of other (none_compared p a x b t off).0 in (
      found.0,
      asked_more (λ g. asks_pair p a b (topic g)) (λ g. asks_related (Some (constraint.Prev p a b)) x (topic g)) r found.0 (λ g k. or_left (asks_pair p a b (topic g) || asks_pair p a x (topic g)) _ (or_left (asks_pair p a b (topic g)) _ k)) found.1,
      or_left (same x b && stand (looked_at found.0 r) p b a) _ (true_both (same x b) (stand (looked_at found.0 r) p b a) two.0 (found.3 two.1)),
    )
prev_broken m r p a x b t of other off (inr h) =
    let two = both_true (stand (assumed t r) p a x) (stand (assumed t r) p x b) h in
    let found = between_again m r p a x b t of other off in (
      found.0,
      found.1,
      or_right (same x b && stand (looked_at found.0 r) p b a) _ (true_both (stand (looked_at found.0 r) p a x) (stand (looked_at found.0 r) p x b) (found.2 two.0) (found.3 two.1)),
    )

-- so of each relation
broken : (m : Data) (r : Region) (d : Constraint) (x : Itv) (t : Topic) → IsRegionOf m r → admits_topic r t ≡ true → (asks_presence t || asks_relation (Some d) t) ≡ true → asks_related (Some d) x t ≡ false → seqrel_of (assumed t r) x d ≡ true → IsBroken r d x
broken m r (constraint.First p a) x t of free listed off h = let found = two_again m r p a x t of (free, listed) off in (found.0, found.1, found.3 h)
broken m r (constraint.Last p a) x t of free listed off h = let found = two_again m r p a x t of (free, listed) off in (found.0, found.1, found.2 h)
broken m r (constraint.Before p a b) x t of free listed off h =
    let two = both_true (same x b) (stand (assumed t r) p b a) h in
    let found = two_again m r p a b t of (free, listed) off in
    (found.0, found.1, true_both (same x b) (stand (looked_at found.0 r) p b a) two.0 (found.3 two.1))
broken m r (constraint.Prev p a b) x t of free listed off h = prev_broken m r p a x b t of (free, listed) off (has_cases (same x b && stand (assumed t r) p b a) (stand (assumed t r) p a x && stand (assumed t r) p x b) h)
broken m r d x t of free listed off h = cc

row_broken : (m : Data) (r : Region) (o : Option Constraint) (x : Itv) (t : Topic) → IsRegionOf m r → admits_topic r t ≡ true → (asks_presence t || asks_relation o t) ≡ true → asks_related o x t ≡ false → passes (seqrel_of (assumed t r) x) o ≡ true
    → (guess : Option Guess) × (is_asked (λ g. asks_related o x (topic g)) r guess ≡ true) × (passes (seqrel_of (looked_at guess r) x) o ≡ true)
row_broken m r None x t of free listed off h = cc
row_broken m r (Some d) x t of free listed off h = broken m r d x t of free listed off h

pub relation_silent : (m : Data) (r : Region) (best : Option ℤ) (c x : ℕ) → IsRegionOf m r → IsSilent refutes m r best (SeqRel c x) (lists m (SeqRel c x))
    → IsSilent refutes m r best (SeqRel c x) (λ g. asks_presence (topic g) || asks_relation (slice_get m.constraints c) (topic g))
relation_silent m r best c x of silent = silent_wider refutes m r best (SeqRel c x) (lists m (SeqRel c x)) (λ g. asks_presence (topic g) || asks_relation (slice_get m.constraints c) (topic g)) silent shown
  where
    shown : (g : Guess) → admits r g ≡ true → (asks_presence (topic g) || asks_relation (slice_get m.constraints c) (topic g)) ≡ true → lists m (SeqRel c x) g ≡ false → refutes m (seen_at r best (Some g)) (SeqRel c x) ≡ true
        → IsShown refutes m r best (SeqRel c x) (lists m (SeqRel c x))
    shown g free listed other h =
        let two = both_true (is_valid (SeqRel c x)) (seqrel_row m (seen_at r best (Some g)) c x) h in
        let found = row_broken m r (slice_get m.constraints c) (record { 0 = x }) (topic g) of free listed other two.1 in
        (found.0, found.1, true_both (is_valid (SeqRel c x)) (seqrel_row m (seen_at r best found.0) c x) two.0 found.2)
