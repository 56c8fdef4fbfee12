-- A walk through the pairs of a witness, about who of them is present.
use Rattle.std.specs.Prelude.{◌≡◌, ◌⊎◌, ℕ, zero, suc, ◌+◌, ◌<◌, ◌≤◌, ℤ, Bool, true, false, ◌||◌, List, [], ◌∷◌, length, Option, Some, None, take}
use Rattle.std.specs.List.{list_any}
use Rattle.std.proofs.Common.{inl, inr, refl, sym, ap, subst, ◌∙◌, arith, get_or}
use Rattle.std.proofs.lemmas.Bool.{true≢false, or_left, or_right}
use Rattle.std.proofs.lemmas.List.{take_all}
use Rattle.base_laws.specs.laws.Truth.{other_fails}
use Rattle.sched_model.specs.Data.{Data, same}
use Rattle.region.specs.declared.types.Topic.{Topic}
use Rattle.region.specs.declared.types.Topic.TheVariants.{One, Two}
use Rattle.region.specs.declared.types.Guess.{Guess}
use Rattle.region.specs.declared.types.Guess.TheVariants.{Present, Absent, StartLe, StartGe, EndLe, EndGe, Before}
use Rattle.region.specs.Cells.{Region}
use Rattle.region.specs.Guesses.{admits, topic}
use Rattle.region.specs.Looks.{seen_at}
use Rattle.region.specs.laws.Lists.{both_true, true_both}
use Rattle.region.specs.laws.OneSequence.{same_is, same_self, has_cases}
use Rattle.findings.specs.declared.finding.Pair.{Pair}
use Rattle.findings.specs.Ends.{is_end, is_open_end}
use Rattle.findings.specs.Found.{IsFinding}
use Rattle.findings.specs.code.Reads.{IsUnrefuted, is_among, is_paired}
use Rattle.findings.specs.laws.Kept.{asked_more}
use Rattle.refute_hier.specs.declared.witness.HierWitness.{HierWitness}
use Rattle.refute_hier.specs.Hier.{refutes}
use Rattle.prop_hier.specs.code.Related.{asks_pairs, IsSilent}
use Rattle.prop_hier.specs.code.Presences.{refuted_present, IsRefutedPresence, NoPresenceRefuted}

-- what some of the first passes, or the next
pub any_next : {X : Type 0} (test : X → Bool) (xs : List X) (n : ℕ) (e : X) → n < length xs → list_any test (take (suc n) xs) ≡ true → (list_any test (take n xs) ≡ true) ⊎ (test (get_or xs n e) ≡ true)
any_next test [] n e within h = absurd (omega (arith, within))
any_next test (x ∷ xs) zero e within h = elim (has_cases (test x) false h) [ inl here ↦ inr here | inr none ↦ cc ]
any_next test (x ∷ xs) (suc n) e within h = elim (has_cases (test x) (list_any test (take (suc n) xs)) h) [
  | inl first ↦ inl (or_left (test x) (list_any test (take n xs)) first)
  | inr later ↦ elim (any_next test xs n e (omega (arith, within)) later) [
    | inl before ↦ inl (or_right (test x) (list_any test (take n xs)) before)
    | inr last ↦ inr last
  ]
]

pub passes_at : {X : Type 0} (test : X → Bool) (xs : List X) (n : ℕ) (e : X) → n < length xs → test (get_or xs n e) ≡ true → list_any test xs ≡ true
passes_at test [] n e within h = absurd (omega (arith, within))
passes_at test (x ∷ xs) zero e within h = or_left (test x) (list_any test xs) h
passes_at test (x ∷ xs) (suc n) e within h = or_right (test x) (list_any test xs) (passes_at test xs n e (omega (arith, within)) h)

pub after : (n : ℕ) → n + 1 ≡ suc n
after n = omega arith

-- none of the first pairs
pub record NoneFirst (m : Data) (r : Region) (best : Option ℤ) (w : HierWitness) (ps : List Pair) (n : ℕ) : Type 0 where
  pub none : NoPresenceRefuted m r best w (take n ps)

pub none_first : (m : Data) (r : Region) (best : Option ℤ) (w : HierWitness) (ps : List Pair) → NoneFirst m r best w ps 0
none_first m r best w ps = record { none = λ x paired. cc }

pub none_more : (m : Data) (r : Region) (best : Option ℤ) (w : HierWitness) (ps : List Pair) (n : ℕ) (e : Pair) → NoneFirst m r best w ps n → n < length ps → false ≡ refuted_present m r best w (get_or ps n e).first → false ≡ refuted_present m r best w (get_or ps n e).second
    → NoneFirst m r best w ps (n + 1)
none_more m r best w ps n e before within one other = record {
  none = λ x paired. elim (any_next (λ q. same x q.first || same x q.second) ps n e within (subst (λ k. is_paired (take k ps) x ≡ true) (after n) paired)) [
    | inl first ↦ before.none x first
    | inr last ↦ elim (has_cases (same x (get_or ps n e).first) (same x (get_or ps n e).second) last) [
      | inl is ↦ ap (refuted_present m r best w) (same_is x (get_or ps n e).first is) ∙ sym one
      | inr is ↦ ap (refuted_present m r best w) (same_is x (get_or ps n e).second is) ∙ sym other
    ]
  ];
}

pub none_at_all : (m : Data) (r : Region) (best : Option ℤ) (w : HierWitness) (ps : List Pair) (n : ℕ) → NoneFirst m r best w ps n → length ps ≤ n → NoPresenceRefuted m r best w ps
none_at_all m r best w ps n none end x paired = none.none x (subst (λ qs. is_paired qs x ≡ true) (sym (take_all n ps end)) paired)

-- one of a pair at a place
pub first_refuted : (m : Data) (r : Region) (best : Option ℤ) (w : HierWitness) (ps : List Pair) (n : ℕ) (e : Pair) → n < length ps → true ≡ refuted_present m r best w (get_or ps n e).first → IsRefutedPresence m r best w ps (Present (get_or ps n e).first)
first_refuted m r best w ps n e within h =
    let x = (get_or ps n e).first in
    record { member = x; is = refl; paired = passes_at (λ q. same x q.first || same x q.second) ps n e within (or_left (same x x) (same x (get_or ps n e).second) (same_self x)); refuted = sym h }

pub second_refuted : (m : Data) (r : Region) (best : Option ℤ) (w : HierWitness) (ps : List Pair) (n : ℕ) (e : Pair) → n < length ps → true ≡ refuted_present m r best w (get_or ps n e).second → IsRefutedPresence m r best w ps (Present (get_or ps n e).second)
second_refuted m r best w ps n e within h =
    let x = (get_or ps n e).second in
    record { member = x; is = refl; paired = passes_at (λ q. same x q.first || same x q.second) ps n e within (or_right (same x (get_or ps n e).first) (same x x) (same_self x)); refuted = sym h }

-- neither as the region stands and by orders, nor by presences
pub both_silent : (m : Data) (r : Region) (best : Option ℤ) (w : HierWitness) (ps : List Pair) → IsUnrefuted refutes m r best w [] ps → NoPresenceRefuted m r best w ps → IsSilent m r best w ps
both_silent m r best w ps orders presences None asked = orders None refl
both_silent m r best w ps orders presences (Some (Present x)) asked =
    let two = both_true (is_paired ps x) (is_open_end r (Present x)) asked in
    other_fails (admits r (Present x)) (refutes m (seen_at r best (Some (Present x))) w) (presences x two.0) (both_true (admits r (Present x)) (is_end r (topic (Present x))) two.1).0
both_silent m r best w ps orders presences (Some (Absent x)) asked = cc
both_silent m r best w ps orders presences (Some (StartLe x t)) asked = cc
both_silent m r best w ps orders presences (Some (StartGe x t)) asked = cc
both_silent m r best w ps orders presences (Some (EndLe x t)) asked = cc
both_silent m r best w ps orders presences (Some (EndGe x t)) asked = cc
both_silent m r best w ps orders presences (Some (Before p x y)) asked = orders (Some (Before p x y)) asked

orders_asked : (ps : List Pair) (t : Topic) → is_among [] ps t ≡ true → asks_pairs ps t ≡ true
orders_asked ps (One x c) h = cc
orders_asked ps (Two p x y) h = h

pub order_busy : (m : Data) (r : Region) (best : Option ℤ) (w : HierWitness) (ps : List Pair) → (IsUnrefuted refutes m r best w [] ps → ⊥) → IsSilent m r best w ps → ⊥
order_busy m r best w ps busy silent = busy (λ guess asked. silent guess (asked_more (λ g. is_among [] ps (topic g)) (λ g. asks_pairs ps (topic g)) r guess (λ g h. orders_asked ps (topic g) h) asked))

pub presence_busy : (m : Data) (r : Region) (best : Option ℤ) (w : HierWitness) (ps : List Pair) (g : Guess) → IsRefutedPresence m r best w ps g → IsSilent m r best w ps → ⊥
presence_busy m r best w ps g found silent =
    let x = found.member in
    let two = both_true (admits r (Present x)) (refutes m (seen_at r best (Some (Present x))) w) found.refuted in
    true≢false (sym two.1 ∙ silent (Some (Present x)) (true_both (is_paired ps x) (is_open_end r (Present x)) found.paired (true_both (admits r (Present x)) true two.0 refl)))

pub presence_found : (m : Data) (r : Region) (best : Option ℤ) (w : HierWitness) (ps : List Pair) (g : Guess) → IsRefutedPresence m r best w ps g → IsFinding refutes m r best (record { guess = Some g; witness = w })
presence_found m r best w ps g found = subst (λ h. IsFinding refutes m r best (record { guess = Some h; witness = w })) (sym found.is) (record { admitted = two.0; refuted = two.1; tight = refl })
  where
    two : (admits r (Present found.member) ≡ true) × (refutes m (seen_at r best (Some (Present found.member))) w ≡ true)
    two = both_true (admits r (Present found.member)) (refutes m (seen_at r best (Some (Present found.member))) w) found.refuted
