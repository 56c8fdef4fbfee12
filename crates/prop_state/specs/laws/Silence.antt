-- Where the numbers show that STATE, or STATE3, may not refute, it is silent.
use Rattle.std.specs.Prelude.{◌≡◌, ◌⊎◌, ℕ, ◌<◌, ℤ, pos, Bool, true, false, not, ◌&&◌, ◌||◌, [], Option, Some, None, nat_eq, nat_lt}
use Rattle.std.proofs.Common.{refl, sym, ap, subst, ◌∙◌, inl, inr, arith}
use Rattle.std.proofs.lemmas.Bool.Decides.{nat_tests}
use Rattle.std.proofs.lemmas.Bool.{true≢false, or_left, or_right, or_parts}
use Rattle.base_laws.specs.laws.Truth.{all_three, all_four}
use Rattle.sched_base.specs.declared.ids.Itv.{Itv}
use Rattle.sched_model.specs.Data.{Data, same}
use Rattle.region.specs.declared.types.Guess.{Guess}
use Rattle.region.specs.declared.types.Topic.{Topic}
use Rattle.region.specs.declared.types.Topic.TheVariants.{One, Two}
use Rattle.region.specs.Cells.{Region, bounds_of, says_present, says_absent}
use Rattle.region.specs.Guesses.{admits, admits_topic, topic, assumed, looked_at, with_bounds}
use Rattle.region.specs.declared.types.Claim.{Claim}
use Rattle.region.specs.declared.types.Claim.TheVariants as claim
use Rattle.region.specs.Claims.{guessed, is_open_at}
use Rattle.region.specs.laws.Intervals.{bounds_there}
use Rattle.sched_model.specs.Words.{passes}
use Rattle.region.specs.Looks.{Seen, seen_at, lst_of, ect_of, lst_in, ect_in}
use Rattle.region.specs.laws.Lists.{both_true, true_both}
use Rattle.region.specs.laws.OneSequence.{same_is, same_self, same_turned}
use Rattle.findings.specs.declared.ends.Ends.{Ends}
use Rattle.findings.specs.Ends.{is_open_end, is_end, is_asked}
use Rattle.findings.specs.code.Numbers.{ends_in}
use Rattle.findings.specs.code.Reads.{IsUnrefuted, is_among}
use Rattle.findings.specs.laws.Kept.{asked_more}
use Rattle.refute_state.specs.declared.demand.Demand.{Demand}
use Rattle.refute_state.specs.declared.witness.StateWitness.{StateWitness}
use Rattle.refute_state.specs.declared.witness.StateWitness.TheVariants.{State, State3}
use Rattle.refute_state.specs.Demands.{demand_at, same_state, some_state, demand_gap}
use Rattle.refute_state.specs.Times.{is_long_in, is_long, is_late}
use Rattle.refute_state.specs.State.{goes_past, cant_share, state_pair}
use Rattle.refute_state.specs.laws.Settled.{In}
use Rattle.refute_state.specs.State3.{other_between, state_triple}
use Rattle.refute_state.specs.OnState.{refutes}
use Rattle.refute_state.specs.Listed.{lists, asks_times, asks_demand}
use Rattle.refute_state.specs.laws.Rowed.{two_rowed, three_rowed, PairParts, pair_parts, Parts, parts}
use Rattle.prop_state.specs.code.Tasks.{IsSilent, constraints_of, reads_of}
use Rattle.prop_state.specs.code.Silence.{is_late_in, may_be_late, nearly_two, nearly_three, may_stand_two, may_stand_three, may_clash, may_refute_two, may_all_be_late, may_refute_three, may_refute_pair, may_refute_around, may_refute_triple, IsCovered}
use Rattle.prop_state.specs.declared.demands.Named.{Named}
use Rattle.prop_state.specs.code.Walks.{IsOf}
use Rattle.prop_state.specs.laws.Reading.{asked_at, lists_at, never_order, IsDemanded, demanded, among}
use Rattle.prop_state.specs.laws.Moving.{Other, Moved, not_moved, moved, late_may, late_kept, late_across, long_present, long_not_absent}

-- what is asked moves one end of one interval
pub record IsMovedBy (r : Region) (guess : Option Guess) : Type 0 where
  pub on : Itv
  pub is : Moved r (looked_at guess r) on

pub asked_moves : (m : Data) (r : Region) (w : StateWitness) (guess : Option Guess) → is_asked (lists m w) r guess ≡ true → IsMovedBy r guess
asked_moves m r w None h = record { on = record { 0 = 0 }; is = not_moved r (record { 0 = 0 }) }
asked_moves m r w (Some g) h =
    let two = both_true (lists m w g) (is_open_end r g) h in
    let a = asked_at m w g two.0 in
    let free = both_true (admits r g) (is_end r (topic g)) two.1 in
    never_order m a.constraint (topic g) (λ z k is. record { on = z; is = at (topic g) z k is free.0 free.1 }) a.asks
  where
    at : (t : Topic) (z : Itv) (k : Claim) → t ≡ One z k → admits_topic r t ≡ true → is_end r t ≡ true → Moved r (assumed t r) z
    at t z k is free end = subst (λ s. Moved r (assumed s r) z) (sym is) (moved r z k (subst (λ s. admits_topic r s ≡ true) is free) (subst (λ s. is_end r s ≡ true) is end))

-- one of two intervals isn't the one
differ : (x y : Itv) (z : Itv) → same x y ≡ false → (Other z x) ⊎ (Other z y)
differ x y z h = by_case (same x z) (same y z) refl refl
  where
    by_case : (b d : Bool) → same x z ≡ b → same y z ≡ d → (Other z x) ⊎ (Other z y)
    by_case false d e f = inl e
    by_case true false e f = inr f
    by_case true true e f = absurd (true≢false (sym e ∙ subst (λ w. same x w ≡ false) (same_is y z f) h))

-- STATE: each of what is late may be, and one is, whose ends didn't move
start_kept : (r q : Region) (z x : Itv) → Moved r q z → Other z x → lst_of q x ≡ lst_of r x
start_kept r q z x is other = ap lst_in (is.elsewhere x other)

end_kept : (r q : Region) (z x : Itv) → Moved r q z → Other z x → ect_of q x ≡ ect_of r x
end_kept r q z x is other = ap ect_in (is.elsewhere x other)

-- of the two lateness tests between z and another one keeps its ends
one_late : (r q : Region) (z y : Itv) (n k : ℤ) → Moved r q z → Other z y → is_late q z n y ≡ true → is_late q y k z ≡ true → (is_late_in (ends_in r z) n (ends_in r y) ≡ true) ⊎ (is_late_in (ends_in r y) k (ends_in r z) ≡ true)
unfolding is_late_in
one_late r q z y n k is other forward backward = elim is.one [
  | inl start ↦ inr (late_kept r q y z k start (end_kept r q z y is other) backward)
  | inr end ↦ inl (late_kept r q z y n (start_kept r q z y is other) end forward)
]

two_late : (r q : Region) (z x y : Itv) (n k : ℤ) → Moved r q z → same x y ≡ false → is_late q x n y ≡ true → is_late q y k x ≡ true → nearly_two (is_late_in (ends_in r x) n (ends_in r y)) (is_late_in (ends_in r y) k (ends_in r x)) ≡ true
unfolding nearly_two
two_late r q z x y n k is apart forward backward = by_case (same x z) (same y z) refl refl
  where
    either : {p s : Bool} → (p ≡ true) ⊎ (s ≡ true) → (p || s) ≡ true
    either {p} {s} h = elim h [ inl one ↦ or_left p s one | inr other ↦ or_right p s other ]

    by_case : (b d : Bool) → same x z ≡ b → same y z ≡ d → nearly_two (is_late_in (ends_in r x) n (ends_in r y)) (is_late_in (ends_in r y) k (ends_in r x)) ≡ true
    by_case false false e f = or_left _ _ (late_kept r q x y n (start_kept r q z y is f) (end_kept r q z x is e) forward)
    by_case true false e f = either (subst (λ w. (is_late_in (ends_in r w) n (ends_in r y) ≡ true) ⊎ (is_late_in (ends_in r y) k (ends_in r w) ≡ true)) (sym (same_is x z e))
        (one_late r q z y n k is f (subst (λ w. is_late q w n y ≡ true) (same_is x z e) forward) (subst (λ w. is_late q y k w ≡ true) (same_is x z e) backward)))
    by_case false true e f = either (turned (subst (λ w. (is_late_in (ends_in r w) k (ends_in r x) ≡ true) ⊎ (is_late_in (ends_in r x) n (ends_in r w) ≡ true)) (sym (same_is y z f))
        (one_late r q z x k n is e (subst (λ w. is_late q w k x ≡ true) (same_is y z f) backward) (subst (λ w. is_late q x n w ≡ true) (same_is y z f) forward))))
      where
        turned : {P Q : Type 0} → P ⊎ Q → Q ⊎ P
        turned h = elim h [ inl p ↦ inr p | inr q ↦ inl q ]
    by_case true true e f = absurd (true≢false (sym e ∙ subst (λ w. same x w ≡ false) (same_is y z f) apart))

stand_two : (r q : Region) (z x y : Itv) → Moved r q z → same x y ≡ false → is_long q x ≡ true → is_long q y ≡ true → may_stand_two (ends_in r x) (ends_in r y) ≡ true
unfolding may_stand_two nearly_two
stand_two r q z x y is apart one other =
    all_three (not (says_absent (ends_in r x).presence)) (not (says_absent (ends_in r y).presence)) (says_present (ends_in r x).presence || says_present (ends_in r y).presence)
    (long_not_absent r q z x is one) (long_not_absent r q z y is other)
    (elim (differ x y z apart) [
      | inl off ↦ or_left (says_present (ends_in r x).presence) (says_present (ends_in r y).presence) (long_present r q z x is off one)
      | inr off ↦ or_right (says_present (ends_in r x).presence) (says_present (ends_in r y).presence) (long_present r q z y is off other)
    ])

-- how two are aligned
past_aligned : (r : Region) (a b : Demand) → goes_past r a b ≡ true → (a.starts || a.ends) ≡ true
past_aligned r a b h = of_flags a.ends a.starts _ _ h
  where
    of_flags : (p q s t : Bool) → ((p && s) || (q && t)) ≡ true → (q || p) ≡ true
    of_flags true true s t h = refl
    of_flags true false s t h = refl
    of_flags false true s t h = refl
    of_flags false false s t h = h

clash_may : (r : Region) (a b : Demand) → cant_share r a b ≡ true → may_clash a b ≡ true
unfolding may_clash
clash_may r a b h =
    let two = both_true (some_state a.state b.state) _ h in
    true_both (some_state a.state b.state) _ two.0 (of_parts (not (same_state a.state b.state)) (goes_past r a b) (goes_past r b a) a.starts a.ends b.starts b.ends (past_aligned r a b) (past_aligned r b a) two.1)
  where
    of_parts : (n p q s t u v : Bool) → (p ≡ true → (s || t) ≡ true) → (q ≡ true → (u || v) ≡ true) → (n || p || q) ≡ true → (n || s || t || u || v) ≡ true
    of_parts true p q s t u v f g h = refl
    of_parts false true q s t u v f g h = first s t u v (f refl)
      where
        first : (s t u v : Bool) → (s || t) ≡ true → (s || t || u || v) ≡ true
        first true t u v h = refl
        first false true u v h = refl
        first false false u v h = cc
    of_parts false false true s t u v f g h = last s t u v (g refl)
      where
        last : (s t u v : Bool) → (u || v) ≡ true → (s || t || u || v) ≡ true
        last true t u v h = refl
        last false true u v h = refl
        last false false u v h = h
    of_parts false false false s t u v f g h = cc

two_may : (r q : Region) (z x y : Itv) (n k : ℤ) → Moved r q z → same x y ≡ false → is_long q x ≡ true → is_long q y ≡ true → is_late q x n y ≡ true → is_late q y k x ≡ true → may_refute_two (ends_in r x) n (ends_in r y) k ≡ true
unfolding may_refute_two
two_may r q z x y n k is apart one other forward backward =
    all_four (may_stand_two (ends_in r x) (ends_in r y)) (nearly_two (is_late_in (ends_in r x) n (ends_in r y)) (is_late_in (ends_in r y) k (ends_in r x)))
    (may_be_late (ends_in r x) n (ends_in r y)) (may_be_late (ends_in r y) k (ends_in r x))
    (stand_two r q z x y is apart one other) (two_late r q z x y n k is apart forward backward)
    (late_may r q z x y n is forward) (late_may r q z y x k is backward)

pair_may : (m : Data) (r q : Region) (z : Itv) (a b : Demand) → Moved r q z → same a.x b.x ≡ false → PairParts m q a b → may_refute_two (ends_in r a.x) (demand_gap m a b) (ends_in r b.x) (demand_gap m b a) ≡ true
pair_may m r q z a b is apart p = two_may r q z a.x b.x (demand_gap m a b) (demand_gap m b a) is apart p.first p.second p.forward p.backward

-- the numbers of two demands are those of their intervals
numbers : {m : Data} {r : Region} {k : ℕ} {a b : Named} (f : Ends → Ends → Bool) → IsOf m r k a → IsOf m r k b → f a.ends b.ends ≡ false → f (ends_in r a.demand.x) (ends_in r b.demand.x) ≡ false
numbers {m} {r} {k} {a} {b} f one other h = subst (λ c. f c (ends_in r b.demand.x) ≡ false) one.ends (subst (λ d. f a.ends d ≡ false) other.ends h)

same_demand : (d e : Demand) (o : Option Demand) → o ≡ Some d → o ≡ Some e → d ≡ e
same_demand d e o h k = let both : Some d ≡ Some e = sym h ∙ k in cc

pub pair_silent : (m : Data) (r : Region) (best : Option ℤ) (k : ℕ) (a b : Named) → IsOf m r k a → IsOf m r k b → may_refute_pair m a b ≡ false → IsSilent m r best (State a.c b.c)
unfolding may_refute_pair
pair_silent m r best k a b one other h guess asked = by_case (refutes m (seen_at r best guess) (State a.c b.c)) refl
  where
    contradiction : (q : Region) (z : Itv) → Moved r q z → PairParts m q a.demand b.demand → ⊥
    contradiction q z is p = elim (either_false (may_clash a.demand b.demand) _ h) [
      | inl off ↦ true≢false (sym (clash_may q a.demand b.demand p.apart) ∙ off)
      | inr off ↦ let two = or_parts (same a.demand.x b.demand.x) _ off in
          true≢false (sym (pair_may m r q z a.demand b.demand is two.0 p) ∙ numbers (λ c d. may_refute_two c (demand_gap m a.demand b.demand) d (demand_gap m b.demand a.demand)) one other two.1)
    ]
      where
        either_false : (p q : Bool) → (p && q) ≡ false → (p ≡ false) ⊎ (q ≡ false)
        either_false true q h = inr h
        either_false false q h = inl refl

    by_case : (t : Bool) → refutes m (seen_at r best guess) (State a.c b.c) ≡ t → refutes m (seen_at r best guess) (State a.c b.c) ≡ false
    by_case false is = is
    by_case true is =
        let t = two_rowed m (seen_at r best guess) a.c b.c is in
        let mv = asked_moves m r (State a.c b.c) guess asked in
        let row = subst (λ d. state_pair m (looked_at guess r) d b.demand ≡ true) (same_demand t.first a.demand (demand_at m a.c) t.one one.is)
        (subst (λ e. state_pair m (looked_at guess r) t.first e ≡ true) (same_demand t.second b.demand (demand_at m b.c) t.other other.is) t.row) in
        absurd (contradiction (looked_at guess r) mv.on mv.is (pair_parts m (looked_at guess r) a.demand b.demand row))

two_of : (u v w z : Itv) (k l n : Bool) → same u v ≡ false → same v w ≡ false → same u w ≡ false → (Other z u → k ≡ true) → (Other z v → l ≡ true) → (Other z w → n ≡ true) → nearly_three k l n ≡ true
unfolding nearly_three
two_of u v w z k l n first second third f g h = elim (differ u v z first) [
  | inl at_u ↦ elim (differ v w z second) [
    | inl at_v ↦ first_two (f at_u) (g at_v)
    | inr at_w ↦ outer_two (f at_u) (h at_w)
  ]
  | inr at_v ↦ elim (differ u w z third) [
    | inl at_u ↦ first_two (f at_u) (g at_v)
    | inr at_w ↦ last_two (g at_v) (h at_w)
  ]
]
  where
    first_two : k ≡ true → l ≡ true → nearly_three k l n ≡ true
    first_two one other = or_left (k && l || k && n) (l && n) (or_left (k && l) (k && n) (true_both k l one other))

    outer_two : k ≡ true → n ≡ true → nearly_three k l n ≡ true
    outer_two one other = or_left (k && l || k && n) (l && n) (or_right (k && l) (k && n) (true_both k n one other))

    last_two : l ≡ true → n ≡ true → nearly_three k l n ≡ true
    last_two one other = or_right (k && l || k && n) (l && n) (true_both l n one other)

-- where no latest start moved, and where no earliest end did
starts_stay : (r q : Region) (z w : Itv) → Moved r q z → lst_of q z ≡ lst_of r z → lst_of q w ≡ lst_of r w
starts_stay r q z w is start = by_case (same w z) refl
  where
    by_case : (b : Bool) → same w z ≡ b → lst_of q w ≡ lst_of r w
    by_case false e = start_kept r q z w is e
    by_case true e = subst (λ y. lst_of q y ≡ lst_of r y) (sym (same_is w z e)) start

ends_stay : (r q : Region) (z w : Itv) → Moved r q z → ect_of q z ≡ ect_of r z → ect_of q w ≡ ect_of r w
ends_stay r q z w is end = by_case (same w z) refl
  where
    by_case : (b : Bool) → same w z ≡ b → ect_of q w ≡ ect_of r w
    by_case false e = end_kept r q z w is e
    by_case true e = subst (λ y. ect_of q y ≡ ect_of r y) (sym (same_is w z e)) end

record AreApart (a x b : Demand) : Type 0 where
  first : same a.x x.x ≡ false
  second : same x.x b.x ≡ false
  third : same a.x b.x ≡ false

three_late : (m : Data) (r q : Region) (z : Itv) (a x b : Demand) → Moved r q z → AreApart a x b → Parts m q a x b
    → nearly_three (is_late_in (ends_in r x.x) (pos 0) (ends_in r a.x)) (is_late_in (ends_in r b.x) (pos 0) (ends_in r x.x)) (is_late_in (ends_in r a.x) (demand_gap m a b) (ends_in r b.x)) ≡ true
three_late m r q z a x b is apart p = elim is.one [
  | inl start ↦ two_of x.x b.x a.x z (late x a (pos 0)) (late b x (pos 0)) (late a b (demand_gap m a b)) apart.second (same_turned a.x b.x apart.third) (same_turned a.x x.x apart.first)
      (λ off. late_kept r q x.x a.x (pos 0) (starts_stay r q z a.x is start) (end_kept r q z x.x is off) p.before)
      (λ off. late_kept r q b.x x.x (pos 0) (starts_stay r q z x.x is start) (end_kept r q z b.x is off) p.behind)
      (λ off. late_kept r q a.x b.x (demand_gap m a b) (starts_stay r q z b.x is start) (end_kept r q z a.x is off) p.near)
  | inr end ↦ two_of a.x x.x b.x z (late x a (pos 0)) (late b x (pos 0)) (late a b (demand_gap m a b)) apart.first apart.second apart.third
      (λ off. late_kept r q x.x a.x (pos 0) (start_kept r q z a.x is off) (ends_stay r q z x.x is end) p.before)
      (λ off. late_kept r q b.x x.x (pos 0) (start_kept r q z x.x is off) (ends_stay r q z b.x is end) p.behind)
      (λ off. late_kept r q a.x b.x (demand_gap m a b) (start_kept r q z b.x is off) (ends_stay r q z a.x is end) p.near)
]
  where
    late : Demand → Demand → ℤ → Bool
    late d e n = is_late_in (ends_in r d.x) n (ends_in r e.x)

stand_three : (m : Data) (r q : Region) (z : Itv) (a x b : Demand) → Moved r q z → AreApart a x b → Parts m q a x b → may_stand_three (ends_in r a.x) (ends_in r x.x) (ends_in r b.x) ≡ true
unfolding may_stand_three
stand_three m r q z a x b is apart p =
    all_four (not (says_absent (ends_in r a.x).presence)) (not (says_absent (ends_in r x.x).presence)) (not (says_absent (ends_in r b.x).presence)) _
    (long_not_absent r q z a.x is p.first) (long_not_absent r q z x.x is p.second) (long_not_absent r q z b.x is p.third)
    (two_of a.x x.x b.x z (says_present (ends_in r a.x).presence) (says_present (ends_in r x.x).presence) (says_present (ends_in r b.x).presence) apart.first apart.second apart.third
    (λ off. long_present r q z a.x is off p.first) (λ off. long_present r q z x.x is off p.second) (λ off. long_present r q z b.x is off p.third))

all_late : (m : Data) (r q : Region) (z : Itv) (a x b : Demand) → Moved r q z → Parts m q a x b → may_all_be_late (ends_in r a.x) (ends_in r x.x) (ends_in r b.x) (demand_gap m a b) ≡ true
unfolding may_all_be_late
all_late m r q z a x b is p =
    all_three (may_be_late (ends_in r x.x) (pos 0) (ends_in r a.x)) (may_be_late (ends_in r b.x) (pos 0) (ends_in r x.x)) (may_be_late (ends_in r a.x) (demand_gap m a b) (ends_in r b.x))
    (late_may r q z x.x a.x (pos 0) is p.before) (late_may r q z b.x x.x (pos 0) is p.behind) (late_may r q z a.x b.x (demand_gap m a b) is p.near)

triple_may : (m : Data) (r q : Region) (z : Itv) (a x b : Demand) → Moved r q z → AreApart a x b → Parts m q a x b → may_refute_three (ends_in r a.x) (ends_in r x.x) (ends_in r b.x) (demand_gap m a b) ≡ true
unfolding may_refute_three
triple_may m r q z a x b is apart p =
    all_three (may_stand_three (ends_in r a.x) (ends_in r x.x) (ends_in r b.x))
    (nearly_three (is_late_in (ends_in r x.x) (pos 0) (ends_in r a.x)) (is_late_in (ends_in r b.x) (pos 0) (ends_in r x.x)) (is_late_in (ends_in r a.x) (demand_gap m a b) (ends_in r b.x)))
    (may_all_be_late (ends_in r a.x) (ends_in r x.x) (ends_in r b.x) (demand_gap m a b))
    (stand_three m r q z a x b is apart p) (three_late m r q z a x b is apart p) (all_late m r q z a x b is p)

-- what a triple that refutes under what is asked says
triple_from : (m : Data) (r : Region) (best : Option ℤ) (c1 c2 c3 : ℕ) (a x b : Demand) (guess : Option Guess) → demand_at m c1 ≡ Some a → demand_at m c2 ≡ Some x → demand_at m c3 ≡ Some b → refutes m (seen_at r best guess) (State3 c1 c2 c3) ≡ true → Parts m (looked_at guess r) a x b
triple_from m r best c1 c2 c3 a x b guess one mid other h =
    let t = three_rowed m (seen_at r best guess) c1 c2 c3 h in
    let q = looked_at guess r in
    parts m q a x b (subst (λ d. state_triple m q d x b ≡ true) (same_demand t.first a (demand_at m c1) t.one one)
    (subst (λ d. state_triple m q t.first d b ≡ true) (same_demand t.second x (demand_at m c2) t.mid mid)
    (subst (λ d. state_triple m q t.first t.second d ≡ true) (same_demand t.third b (demand_at m c3) t.other other) t.row)))

never_refuting : (b : Bool) → (b ≡ true → ⊥) → b ≡ false
never_refuting true h = absurd (h refl)
never_refuting false h = refl

pub triple_silent : (m : Data) (r : Region) (best : Option ℤ) (k : ℕ) (a x b : Named) → IsOf m r k a → IsOf m r k x → IsOf m r k b → may_refute_triple m a x b ≡ false → IsSilent m r best (State3 a.c x.c b.c)
unfolding may_refute_triple
triple_silent m r best k a x b one mid other h guess asked = never_refuting (refutes m (seen_at r best guess) (State3 a.c x.c b.c)) (λ is.
    let d = a.demand in
    let e = x.demand in
    let f = b.demand in
    let mv = asked_moves m r (State3 a.c x.c b.c) guess asked in
    let p = triple_from m r best a.c x.c b.c d e f guess one.is mid.is other.is is in
    let last = or_parts (same d.x e.x || same e.x f.x || same d.x f.x) (may_refute_three a.ends x.ends b.ends (demand_gap m d f)) h in
    let third = or_parts (same d.x e.x || same e.x f.x) (same d.x f.x) last.0 in
    let two = or_parts (same d.x e.x) (same e.x f.x) third.0 in
    true≢false (sym (triple_may m r (looked_at guess r) mv.on d e f mv.is (record { first = two.0; second = two.1; third = third.1 }) p)
    ∙ subst (λ u. may_refute_three (ends_in r d.x) u (ends_in r f.x) (demand_gap m d f) ≡ false) mid.ends (numbers (λ u v. may_refute_three u x.ends v (demand_gap m d f)) one other last.1)))

-- of two that stand so far apart that no third reaches from one to the other
pub around_silent : (m : Data) (r : Region) (best : Option ℤ) (k c2 : ℕ) (n : ℤ) (a b : Named) (e : Demand) → IsOf m r k a → IsOf m r k b → demand_at m c2 ≡ Some e → IsCovered m r n c2 → may_refute_around m n a b ≡ false → IsSilent m r best (State3 a.c c2 b.c)
unfolding may_refute_around
around_silent m r best k c2 n a b e one other mid covered h guess asked = never_refuting (refutes m (seen_at r best guess) (State3 a.c c2 b.c)) (λ is.
    let d = a.demand in
    let f = b.demand in
    let q = looked_at guess r in
    let mv = asked_moves m r (State3 a.c c2 b.c) guess asked in
    let p = triple_from m r best a.c c2 b.c d e f guess one.is mid other.is is in
    let two = or_parts (same d.x f.x) (may_refute_two a.ends (demand_gap m d f) b.ends n) h in
    let part = covered e mid (not_true (says_absent (bounds_of r e.x).presence) (long_not_absent r q mv.on e.x mv.is p.second)) in
    true≢false (sym (two_may r q mv.on d.x f.x (demand_gap m d f) n mv.is two.0 p.first p.third p.near (late_across r q mv.on e.x d.x f.x n mv.is part p.before p.behind))
    ∙ numbers (λ u v. may_refute_two u (demand_gap m d f) v n) one other two.1))
  where
    not_true : (b : Bool) → not b ≡ true → b ≡ false
    not_true false h = refl
    not_true true h = absurd (true≢false (sym h))

-- three of which the second isn't between by its state
pub states_silent : (m : Data) (r : Region) (best : Option ℤ) (c1 c2 c3 : ℕ) (a x b : Demand) → demand_at m c1 ≡ Some a → demand_at m c2 ≡ Some x → demand_at m c3 ≡ Some b → other_between a x b ≡ false → IsSilent m r best (State3 c1 c2 c3)
states_silent m r best c1 c2 c3 a x b one mid other h guess asked = never_refuting (refutes m (seen_at r best guess) (State3 c1 c2 c3)) (λ is.
    true≢false (sym (triple_from m r best c1 c2 c3 a x b guess one mid other is).states ∙ h))

pub same_silent : (m : Data) (r : Region) (best : Option ℤ) (c1 c2 c3 : ℕ) → nat_eq c1 c3 ≡ true → IsSilent m r best (State3 c1 c2 c3)
same_silent m r best c1 c2 c3 h guess asked = never_refuting (refutes m (seen_at r best guess) (State3 c1 c2 c3)) (λ is.
    true≢false (sym (three_rowed m (seen_at r best guess) c1 c2 c3 is).apart ∙ ap not h))

-- what isn't asked of a witness refutes nothing: that one of its intervals is absent
never_away : (r : Region) (z : Itv) → admits_topic r (One z claim.Absent) ≡ true → is_long (with_bounds z (guessed claim.Absent) r) z ≡ true → ⊥
never_away r z free h =
    let within = below z.0 _ (both_true (nat_lt z.0 _) (is_open_at claim.Absent (bounds_of r z)) free).0 in
    true≢false (sym h ∙ ap is_long_in (bounds_there z (guessed claim.Absent) r within))
  where
    below : (i n : ℕ) → nat_lt i n ≡ true → i < n
    below i n h = grind (arith, nat_tests, h)

long_at : (m : Data) (l : Seen) (w : StateWitness) (c : ℕ) (d : Demand) → refutes m l w ≡ true → In (constraints_of w) c → demand_at m c ≡ Some d → is_long l.region d.x ≡ true
long_at m l (State c1 c2) c d h here is =
    let t = two_rowed m l c1 c2 h in
    let p = pair_parts m l.region t.first t.second t.row in
    elim here [
      | inl e ↦ subst (λ d. is_long l.region d.x ≡ true) (same_demand t.first d (demand_at m c1) t.one (ap (demand_at m) e ∙ is)) p.first
      | inr rest ↦ elim rest [
        | inl e ↦ subst (λ d. is_long l.region d.x ≡ true) (same_demand t.second d (demand_at m c2) t.other (ap (demand_at m) e ∙ is)) p.second
        | inr none ↦ absurd none
      ]
    ]
long_at m l (State3 c1 c2 c3) c d h here is =
    let t = three_rowed m l c1 c2 c3 h in
    let p = parts m l.region t.first t.second t.third t.row in
    elim here [
      | inl e ↦ subst (λ d. is_long l.region d.x ≡ true) (same_demand t.first d (demand_at m c1) t.one (ap (demand_at m) e ∙ is)) p.first
      | inr rest ↦ elim rest [
        | inl e ↦ subst (λ d. is_long l.region d.x ≡ true) (same_demand t.second d (demand_at m c2) t.mid (ap (demand_at m) e ∙ is)) p.second
        | inr more ↦ elim more [
          | inl e ↦ subst (λ d. is_long l.region d.x ≡ true) (same_demand t.third d (demand_at m c3) t.other (ap (demand_at m) e ∙ is)) p.third
          | inr none ↦ absurd none
        ]
      ]
    ]

-- so what is silent is unrefuted under each guess on what it reads
pub asked_from_silent : (m : Data) (r : Region) (best : Option ℤ) (w : StateWitness) → IsSilent m r best w → IsUnrefuted refutes m r best w (reads_of m w).intervals []
asked_from_silent m r best w silent None asked = silent None refl
asked_from_silent m r best w silent (Some g) asked = by_case (lists m w g) refl
  where
    two : (is_among (reads_of m w).intervals [] (topic g) ≡ true) × (is_open_end r g ≡ true)
    two = both_true (is_among (reads_of m w).intervals [] (topic g)) (is_open_end r g) asked

    unlisted : (t : Topic) → topic g ≡ t → lists m w g ≡ false → is_among (reads_of m w).intervals [] t ≡ true → admits_topic r t ≡ true → refutes m (record { region = assumed t r; best = best }) w ≡ false
    unlisted (One z k) is off among_it free =
        let d = demanded m (constraints_of w) z among_it in
        of_claim k z d (λ h. true≢false (sym (lists_at m w g (record { constraint = d.constraint; listed = d.listed; asks = subst (λ t. asks_demand m d.constraint t ≡ true) (sym is) (ap (passes (λ e. asks_times e.x (One z k))) d.is ∙ h) })) ∙ off)) free
      where
        itself : (x z : Itv) → z ≡ x → same x z ≡ true
        itself x z e = subst (λ y. same x y ≡ true) (sym e) (same_self x)

        of_claim : (k : Claim) (z : Itv) (d : IsDemanded m (constraints_of w) z) → (asks_times d.demand.x (One z k) ≡ true → ⊥) → admits_topic r (One z k) ≡ true → refutes m (record { region = assumed (One z k) r; best = best }) w ≡ false
        of_claim claim.Present z d off free = absurd (off (itself d.demand.x z d.same))
        of_claim (claim.StartLe t) z d off free = absurd (off (itself d.demand.x z d.same))
        of_claim (claim.StartGe t) z d off free = absurd (off (itself d.demand.x z d.same))
        of_claim (claim.EndLe t) z d off free = absurd (off (itself d.demand.x z d.same))
        of_claim (claim.EndGe t) z d off free = absurd (off (itself d.demand.x z d.same))
        of_claim claim.Absent z d off free = never_refuting (refutes m (record { region = assumed (One z claim.Absent) r; best = best }) w) (λ h.
            never_away r z free (subst (λ y. is_long (with_bounds z (guessed claim.Absent) r) y ≡ true) (sym d.same) (long_at m (record { region = assumed (One z claim.Absent) r; best = best }) w d.constraint d.demand h d.listed d.is)))
    unlisted (Two p x y) is off among_it free = absurd (true≢false (sym among_it))

    by_case : (b : Bool) → lists m w g ≡ b → refutes m (seen_at r best (Some g)) w ≡ false
    by_case true is = silent (Some g) (true_both (lists m w g) (is_open_end r g) is two.1)
    by_case false is = unlisted (topic g) refl is two.0 (both_true (admits r g) (is_end r (topic g)) two.1).0

pub silent_from_asked : (m : Data) (r : Region) (best : Option ℤ) (w : StateWitness) → IsUnrefuted refutes m r best w (reads_of m w).intervals [] → IsSilent m r best w
silent_from_asked m r best w none guess asked = none guess (asked_more (lists m w) (λ g. is_among (reads_of m w).intervals [] (topic g)) r guess (λ g h. among m w g h) asked)
