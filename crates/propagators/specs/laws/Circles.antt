-- TRIPLE is silent under guesses that any interval is present, and on any order of its sequence, where it is under those on its
-- circle.
use Rattle.std.specs.Prelude.{◌≡◌, ◌⊎◌, ℕ, ℤ, true, false, ◌||◌, List, [], ◌∷◌, Option, Some}
use Rattle.std.proofs.Common.{sym, subst, ◌∙◌, inl, inr}
use Rattle.std.proofs.lemmas.Bool.{true≢false, or_left, or_right, or_parts}
use Rattle.base_laws.specs.laws.Truth.{three_true, all_three}
use Rattle.sched_base.specs.declared.ids.Itv.{Itv}
use Rattle.sched_base.specs.declared.ids.Seq.{Seq}
use Rattle.sched_model.specs.Data.{Data, same, has}
use Rattle.region.specs.declared.types.Claim.TheVariants as claim
use Rattle.region.specs.declared.types.Topic.{Topic}
use Rattle.region.specs.declared.types.Topic.TheVariants.{One, Two}
use Rattle.region.specs.declared.types.Guess.{Guess}
use Rattle.region.specs.Cells.{Region}
use Rattle.region.specs.Guesses.{admits, admits_topic, assumed, looked_at, topic}
use Rattle.region.specs.Looks.{IsRegionOf, seen_at}
use Rattle.region.specs.laws.Lists.{both_true, true_both}
use Rattle.region.specs.laws.OneSequence.{same_self}
use Rattle.findings.specs.Ends.{is_asked}
use Rattle.findings.specs.laws.Kept.{asked_more}
use Rattle.refute_basic.specs.Listed.{asks_presence}
use Rattle.refute_basic.specs.Standing.{stand}
use Rattle.refute_basic.specs.laws.Told.{told}
use Rattle.refute_seq.specs.declared.witness.SeqWitness.TheVariants.{Triple}
use Rattle.refute_seq.specs.Witness.{is_valid}
use Rattle.refute_seq.specs.Triple.{are_in_circle}
use Rattle.refute_seq.specs.Listed.{asks_order, asks_circle, lists}
use Rattle.refute_seq.specs.OnSequence.{refutes}
use Rattle.propagators.specs.Every.{asks_sequence}
use Rattle.propagators.specs.laws.Wider.{IsSilent, IsShown, silent_wider}
use Rattle.propagators.specs.laws.Reduced.{Reduces, asks_one, loose_in, reduced}
use Rattle.propagators.specs.laws.Turned.{not_turned, not_itself}
use Rattle.prop_unary.specs.laws.Circles.{listed_three}
use Rattle.prop_unary.specs.laws.Under.{asks_itself}

-- under an admitted guess that isn't one of its orders, three stand in a circle
abbrev IsApart : Region → Seq → Itv → Itv → Itv → Topic → Type 0
IsApart r p x y z t = (admits_topic r t ≡ true) × (are_in_circle (assumed t r) p x y z ≡ true) × (asks_circle p x y z t ≡ false)

-- so the guess isn't on an order of two of them: its turn would be told
in_circle : (m : Data) (r : Region) (p : Seq) (x y z u v : Itv) → IsRegionOf m r → IsApart r p x y z (Two p u v) → (u ≡ x) ⊎ ((u ≡ y) ⊎ (u ≡ z)) → (v ≡ x) ⊎ ((v ≡ y) ⊎ (v ≡ z)) → ⊥
in_circle m r p x y z u v of apart first second = at first second
  where
    stands : (stand (assumed (Two p u v) r) p x y ≡ true) × (stand (assumed (Two p u v) r) p y z ≡ true) × (stand (assumed (Two p u v) r) p z x ≡ true)
    stands = three_true (stand (assumed (Two p u v) r) p x y) (stand (assumed (Two p u v) r) p y z) (stand (assumed (Two p u v) r) p z x) apart.1

    itself : (w : Itv) → u ≡ w → v ≡ w → ⊥
    itself w e f = not_itself r p w (subst (λ a. admits_topic r (Two p a w) ≡ true) e (subst (λ b. admits_topic r (Two p u b) ≡ true) f apart.0))

    -- the order of a and b, and its turn
    forth : (a b : Itv) → u ≡ a → v ≡ b → asks_order p a b (Two p u v) ≡ false → ⊥
    forth a b e f off = true≢false (sym (subst (λ w. asks_order p w b (Two p u v) ≡ true) e (subst (λ w. asks_order p u w (Two p u v) ≡ true) f (asks_itself p u v))) ∙ off)

    back : (a b : Itv) → u ≡ b → v ≡ a → stand (assumed (Two p u v) r) p a b ≡ true → ⊥
    back a b e f h =
        let g = subst (λ w. stand (assumed (Two p w a) r) p a b ≡ true) e (subst (λ w. stand (assumed (Two p u w) r) p a b ≡ true) f h) in
        let free = subst (λ w. admits_topic r (Two p w a) ≡ true) e (subst (λ w. admits_topic r (Two p u w) ≡ true) f apart.0) in
        not_turned m r p a b of free (told (assumed (Two p b a) r) p a b g).order

    none : (asks_order p x y (Two p u v) ≡ false) × (asks_order p y z (Two p u v) ≡ false) × (asks_order p z x (Two p u v) ≡ false)
    none =
        let last = or_parts (asks_order p x y (Two p u v) || asks_order p y z (Two p u v)) (asks_order p z x (Two p u v)) apart.2 in
        let first = or_parts (asks_order p x y (Two p u v)) (asks_order p y z (Two p u v)) last.0 in
        (first.0, first.1, last.1)

    at : (u ≡ x) ⊎ ((u ≡ y) ⊎ (u ≡ z)) → (v ≡ x) ⊎ ((v ≡ y) ⊎ (v ≡ z)) → ⊥
    at (inl e) (inl f) = itself x e f
    at (inl e) (inr (inl f)) = forth x y e f none.0
    at (inl e) (inr (inr f)) = back z x e f stands.2
    at (inr (inl e)) (inl f) = back x y e f stands.0
    at (inr (inl e)) (inr (inl f)) = itself y e f
    at (inr (inl e)) (inr (inr f)) = forth y z e f none.1
    at (inr (inr e)) (inl f) = forth z x e f none.2
    at (inr (inr e)) (inr (inl f)) = back y z e f stands.1
    at (inr (inr e)) (inr (inr f)) = itself z e f

-- and they stand in it under a guess that one of them is present, which the row lists, or under none
one_listed : (p : Seq) (x y z : Itv) (t : Topic) → asks_one (x ∷ y ∷ z ∷ []) t ≡ true → asks_circle p x y z t ≡ true
one_listed p x y z (One w claim.Present) h = h
one_listed p x y z (One w claim.Absent) h = cc
one_listed p x y z (One w (claim.StartLe t)) h = cc
one_listed p x y z (One w (claim.StartGe t)) h = cc
one_listed p x y z (One w (claim.EndLe t)) h = cc
one_listed p x y z (One w (claim.EndGe t)) h = cc
one_listed p x y z (Two q u v) h = cc

again : (m : Data) (r : Region) (p : Seq) (x y z : Itv) (t : Topic) → IsRegionOf m r → IsApart r p x y z t → (asks_presence t || asks_sequence p t) ≡ true
    → (guess : Option Guess) × (is_asked (λ g. asks_circle p x y z (topic g)) r guess ≡ true) × (are_in_circle (looked_at guess r) p x y z ≡ true)
again m r p x y z t of apart listed = shown (reduced m r p xs t of apart.0 (loose_in p xs t listed never))
  where
    xs : List Itv
    xs = x ∷ y ∷ z ∷ []

    first : has xs x ≡ true
    first = or_left (same x x) (has (y ∷ z ∷ []) x) (same_self x)

    second : has xs y ≡ true
    second = or_right (same y x) (has (y ∷ z ∷ []) y) (or_left (same y y) (has (z ∷ []) y) (same_self y))

    third : has xs z ≡ true
    third = or_right (same z x) (has (y ∷ z ∷ []) z) (or_right (same z y) (has (z ∷ []) z) (or_left (same z z) false (same_self z)))

    never : (u v : Itv) → t ≡ Two p u v → has xs u ≡ true → has xs v ≡ true → ⊥
    never u v e one other = in_circle m r p x y z u v of (subst (IsApart r p x y z) e apart) (listed_three x y z u one) (listed_three x y z v other)

    shown : (guess : Option Guess) × Reduces r t p xs guess → (guess : Option Guess) × (is_asked (λ g. asks_circle p x y z (topic g)) r guess ≡ true) × (are_in_circle (looked_at guess r) p x y z ≡ true)
    shown (guess, by) =
        let each = three_true (stand (assumed t r) p x y) (stand (assumed t r) p y z) (stand (assumed t r) p z x) apart.1 in (
          guess,
          asked_more (λ g. asks_one xs (topic g)) (λ g. asks_circle p x y z (topic g)) r guess (λ g h. one_listed p x y z (topic g) h) by.asked,
          all_three (stand (looked_at guess r) p x y) (stand (looked_at guess r) p y z) (stand (looked_at guess r) p z x) (by.stands x y first second each.0) (by.stands y z second third each.1) (by.stands z x third first each.2),
        )

pub circle_silent : (m : Data) (r : Region) (best : Option ℤ) (p x y z : ℕ) → IsRegionOf m r → IsSilent refutes m r best (Triple p x y z) (lists m (Triple p x y z))
    → IsSilent refutes m r best (Triple p x y z) (λ g. asks_presence (topic g) || asks_sequence (record { 0 = p }) (topic g))
circle_silent m r best p x y z of silent = silent_wider refutes m r best (Triple p x y z) (lists m (Triple p x y z)) (λ g. asks_presence (topic g) || asks_sequence (record { 0 = p }) (topic g)) silent shown
  where
    shown : (g : Guess) → admits r g ≡ true → (asks_presence (topic g) || asks_sequence (record { 0 = p }) (topic g)) ≡ true → lists m (Triple p x y z) g ≡ false → refutes m (seen_at r best (Some g)) (Triple p x y z) ≡ true
        → IsShown refutes m r best (Triple p x y z) (lists m (Triple p x y z))
    shown g free listed other h =
        let two = both_true (is_valid (Triple p x y z)) (are_in_circle (assumed (topic g) r) (record { 0 = p }) (record { 0 = x }) (record { 0 = y }) (record { 0 = z })) h in
        let found = again m r (record { 0 = p }) (record { 0 = x }) (record { 0 = y }) (record { 0 = z }) (topic g) of (free, two.1, other) listed in
        (found.0, found.1, true_both (is_valid (Triple p x y z)) (are_in_circle (looked_at found.0 r) (record { 0 = p }) (record { 0 = x }) (record { 0 = y }) (record { 0 = z })) two.0 found.2)
