-- What a witness reads, and that it lists guesses on this alone.
use Rattle.std.specs.Prelude.{◌≡◌, ◌⊎◌, ℕ, Bool, true, false, ◌&&◌, ◌||◌, List, [], ◌∷◌, ◌++◌, Option, Some, None}
use Rattle.std.proofs.Common.{refl, sym, ap, subst, ◌∙◌, inl, inr}
use Rattle.std.proofs.lemmas.Bool.{true≢false, or_left, or_right}
use Rattle.sched_base.specs.declared.ids.Itv.{Itv}
use Rattle.sched_model.specs.Words.{passes}
use Rattle.sched_model.specs.Data.{Data, same, has}
use Rattle.region.specs.declared.types.Claim.{Claim}
use Rattle.region.specs.declared.types.Claim.TheVariants as claim
use Rattle.region.specs.declared.types.Topic.{Topic}
use Rattle.region.specs.declared.types.Topic.TheVariants.{One, Two}
use Rattle.region.specs.declared.types.Guess.{Guess}
use Rattle.region.specs.Cells.{Region}
use Rattle.region.specs.Guesses.{topic}
use Rattle.region.specs.laws.OneSequence.{same_is, same_self, has_cases}
use Rattle.findings.specs.code.Reads.{AreAlike, LooksOnlyAt, is_among}
use Rattle.refute_state.specs.declared.demand.Demand.{Demand}
use Rattle.refute_state.specs.declared.witness.StateWitness.{StateWitness}
use Rattle.refute_state.specs.declared.witness.StateWitness.TheVariants.{State, State3}
use Rattle.refute_state.specs.Witness.{is_valid}
use Rattle.refute_state.specs.Demands.{demand_at}
use Rattle.refute_state.specs.OnState.{refutes}
use Rattle.refute_state.specs.Listed.{asks_times, asks_demand, lists}
use Rattle.refute_state.specs.laws.Settled.{In}
use Rattle.refute_state.specs.laws.Alike.{SameAt, state_alike, state3_alike}
use Rattle.prop_state.specs.code.Tasks.{interval_in, intervals_at, constraints_of, reads_all, reads_of}
use Rattle.sched_model.specs.laws.Names.{has_left, has_right}
use Rattle.region.specs.laws.Rows.{same_back}

has_either : (xs ys : List Itv) (x : Itv) → has (xs ++ ys) x ≡ true → (has xs x ≡ true) ⊎ (has ys x ≡ true)
has_either [] ys x h = inr h
has_either (z ∷ xs) ys x h = elim (has_cases (same x z) (has (xs ++ ys) x) h) [
  | inl here ↦ inl (or_left (same x z) (has xs x) here)
  | inr later ↦ elim (has_either xs ys x later) [ inl one ↦ inl (or_right (same x z) (has xs x) one) | inr other ↦ inr other ]
]

-- the interval of a demand of one of some constraints
pub has_interval : (m : Data) (cs : List ℕ) (c : ℕ) (d : Demand) → In cs c → demand_at m c ≡ Some d → has (intervals_at m cs) d.x ≡ true
has_interval m [] c d here is = absurd here
has_interval m (e ∷ cs) c d here is = elim here [
  | inl same_one ↦ has_left (interval_in (demand_at m e)) (intervals_at m cs) d.x (subst (λ o. has (interval_in o) d.x ≡ true) (sym is ∙ ap (demand_at m) (sym same_one)) (or_left (same d.x d.x) false (same_self d.x)))
  | inr later ↦ has_right (interval_in (demand_at m e)) (intervals_at m cs) d.x (has_interval m cs c d later is)
]

-- and the other way round
pub record IsDemanded (m : Data) (cs : List ℕ) (x : Itv) : Type 0 where
  pub constraint : ℕ
  pub demand : Demand
  pub listed : In cs constraint
  pub is : demand_at m constraint ≡ Some demand
  pub same : x ≡ demand.x

pub demanded : (m : Data) (cs : List ℕ) (x : Itv) → has (intervals_at m cs) x ≡ true → IsDemanded m cs x
demanded m [] x h = absurd (true≢false (sym h))
demanded m (c ∷ cs) x h = elim (has_either (interval_in (demand_at m c)) (intervals_at m cs) x h) [
  | inl here ↦ first (demand_at m c) refl here
  | inr later ↦ more (demanded m cs x later)
]
  where
    first : (o : Option Demand) → demand_at m c ≡ o → has (interval_in o) x ≡ true → IsDemanded m (c ∷ cs) x
    first None is h = absurd (true≢false (sym h))
    first (Some d) is h = record { constraint = c; demand = d; listed = inl refl; is = is; same = same_is x d.x (alone (same x d.x) h) }
      where
        alone : (b : Bool) → (b || false) ≡ true → b ≡ true
        alone true h = h
        alone false h = h

    more : IsDemanded m cs x → IsDemanded m (c ∷ cs) x
    more r = record { constraint = r.constraint; demand = r.demand; listed = inr r.listed; is = r.is; same = r.same }

-- a witness depends on no more
same_at : (m : Data) (cs : List ℕ) (r q : Region) (c : ℕ) → AreAlike (reads_all (intervals_at m cs)) r q → In cs c → SameAt m r q c
same_at m cs r q c alike here d is = alike.bounds d.x (has_interval m cs c d here is)

pub looks : (m : Data) (w : StateWitness) → LooksOnlyAt refutes m w (reads_of m w)
looks m (State c1 c2) l k of also alike best =
    let at : (c : ℕ) → In (c1 ∷ c2 ∷ []) c → SameAt m l.region k.region c = λ c here. same_at m (c1 ∷ c2 ∷ []) l.region k.region c alike here in
    ap (λ b. is_valid (State c1 c2) && b) (state_alike m l k c1 c2 (at c1 (inl refl)) (at c2 (inr (inl refl))))
looks m (State3 c1 c2 c3) l k of also alike best =
    let at : (c : ℕ) → In (c1 ∷ c2 ∷ c3 ∷ []) c → SameAt m l.region k.region c = λ c here. same_at m (c1 ∷ c2 ∷ c3 ∷ []) l.region k.region c alike here in
    ap (λ b. is_valid (State3 c1 c2 c3) && b) (state3_alike m l k c1 c2 c3 (at c1 (inl refl)) (at c2 (inr (inl refl))) (at c3 (inr (inr (inl refl)))))

-- which guesses its row lists
pub record IsAskedAt (m : Data) (w : StateWitness) (t : Topic) : Type 0 where
  pub constraint : ℕ
  pub listed : In (constraints_of w) constraint
  pub asks : asks_demand m constraint t ≡ true

pub asked_at : (m : Data) (w : StateWitness) (g : Guess) → lists m w g ≡ true → IsAskedAt m w (topic g)
asked_at m (State c1 c2) g h = elim (has_cases (asks_demand m c1 (topic g)) (asks_demand m c2 (topic g)) h) [
  | inl one ↦ record { constraint = c1; listed = inl refl; asks = one }
  | inr other ↦ record { constraint = c2; listed = inr (inl refl); asks = other }
]
asked_at m (State3 c1 c2 c3) g h = elim (has_cases (asks_demand m c1 (topic g) || asks_demand m c2 (topic g)) (asks_demand m c3 (topic g)) h) [
  | inl two ↦ elim (has_cases (asks_demand m c1 (topic g)) (asks_demand m c2 (topic g)) two) [
    | inl one ↦ record { constraint = c1; listed = inl refl; asks = one }
    | inr other ↦ record { constraint = c2; listed = inr (inl refl); asks = other }
  ]
  | inr last ↦ record { constraint = c3; listed = inr (inr (inl refl)); asks = last }
]

pub lists_at : (m : Data) (w : StateWitness) (g : Guess) → IsAskedAt m w (topic g) → lists m w g ≡ true
lists_at m (State c1 c2) g is = elim is.listed [
  | inl one ↦ or_left (asks_demand m c1 (topic g)) (asks_demand m c2 (topic g)) (subst (λ c. asks_demand m c (topic g) ≡ true) (sym one) is.asks)
  | inr rest ↦ elim rest [
    | inl other ↦ or_right (asks_demand m c1 (topic g)) (asks_demand m c2 (topic g)) (subst (λ c. asks_demand m c (topic g) ≡ true) (sym other) is.asks)
    | inr none ↦ absurd none
  ]
]
lists_at m (State3 c1 c2 c3) g is = elim is.listed [
  | inl one ↦ or_left (asks_demand m c1 (topic g) || asks_demand m c2 (topic g)) (asks_demand m c3 (topic g)) (or_left (asks_demand m c1 (topic g)) (asks_demand m c2 (topic g)) (subst (λ c. asks_demand m c (topic g) ≡ true) (sym one) is.asks))
  | inr rest ↦ elim rest [
    | inl other ↦ or_left (asks_demand m c1 (topic g) || asks_demand m c2 (topic g)) (asks_demand m c3 (topic g)) (or_right (asks_demand m c1 (topic g)) (asks_demand m c2 (topic g)) (subst (λ c. asks_demand m c (topic g) ≡ true) (sym other) is.asks))
    | inr more ↦ elim more [
      | inl last ↦ or_right (asks_demand m c1 (topic g) || asks_demand m c2 (topic g)) (asks_demand m c3 (topic g)) (subst (λ c. asks_demand m c (topic g) ≡ true) (sym last) is.asks)
      | inr none ↦ absurd none
    ]
  ]
]

-- a guess that is asked of a demand is on its interval, and not that it is absent
pub record IsOnDemand (m : Data) (c : ℕ) (z : Itv) (k : Claim) : Type 0 where
  pub demand : Demand
  pub is : demand_at m c ≡ Some demand
  pub same : z ≡ demand.x
  pub times : asks_times demand.x (One z k) ≡ true

pub of_times : (x z : Itv) (k : Claim) → asks_times x (One z k) ≡ true → same x z ≡ true
of_times x z claim.Present h = h
of_times x z claim.Absent h = absurd (true≢false (sym h))
of_times x z (claim.StartLe t) h = h
of_times x z (claim.StartGe t) h = h
of_times x z (claim.EndLe t) h = h
of_times x z (claim.EndGe t) h = h

pub on_demand : (m : Data) (c : ℕ) (z : Itv) (k : Claim) → asks_demand m c (One z k) ≡ true → IsOnDemand m c z k
on_demand m c z k h = at (demand_at m c) refl h
  where
    at : (o : Option Demand) → demand_at m c ≡ o → passes (λ d. asks_times d.x (One z k)) o ≡ true → IsOnDemand m c z k
    at None is h = absurd (true≢false (sym h))
    at (Some d) is h = record { demand = d; is = is; same = same_is z d.x (same_back d.x z (of_times d.x z k h)); times = h }

pub never_order : {Z : Type 0} (m : Data) (c : ℕ) (t : Topic) → ((z : Itv) (k : Claim) → t ≡ One z k → Z) → asks_demand m c t ≡ true → Z
never_order m c (One z k) f h = f z k refl
never_order m c (Two p y z) f h = absurd (none (demand_at m c) h)
  where
    none : (o : Option Demand) → passes (λ d. asks_times d.x (Two p y z)) o ≡ true → ⊥
    none None h = true≢false (sym h)
    none (Some d) h = true≢false (sym h)

-- so it is among what the witness reads
pub among : (m : Data) (w : StateWitness) (g : Guess) → lists m w g ≡ true → is_among (reads_of m w).intervals [] (topic g) ≡ true
among m w g h =
    let a = asked_at m w g h in
    never_order m a.constraint (topic g) (λ z k is.
    let o = on_demand m a.constraint z k (subst (λ t. asks_demand m a.constraint t ≡ true) is a.asks) in
    subst (λ t. is_among (reads_of m w).intervals [] t ≡ true) (sym is) (subst (λ y. has (intervals_at m (constraints_of w)) y ≡ true) (sym o.same) (has_interval m (constraints_of w) a.constraint o.demand a.listed o.is))) a.asks
