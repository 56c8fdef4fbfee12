-- What was asked is silent, and what is silent finds nothing.
use Rattle.std.specs.Prelude.{◌≡◌, ℕ, zero, suc, ◌+◌, ◌<◌, ◌≤◌, ℤ, ◌≤ℤ◌, Bool, true, false, not, ◌&&◌, List, [], ◌∷◌, ◌++◌, length, take, Option, Some, None, IfNone, nat_eq}
use Rattle.std.proofs.Common.{refl, sym, ap, subst, ◌∙◌, inl, inr, arith, get_or}
use Rattle.std.proofs.lemmas.Bool.{true≢false}
use Rattle.std.proofs.lemmas.Bool.Decides.{nat_tests}
use Rattle.std.proofs.lemmas.List.{take_all}
use Rattle.std.proofs.lemmas.Int.{ints}
use Rattle.sched_model.specs.Words.{passes}
use Rattle.sched_model.specs.Data.{Data}
use Rattle.region.specs.Cells.{Region}
use Rattle.findings.specs.code.Reads.{IsUnrefuted}
use Rattle.refute_state.specs.declared.demand.Demand.{Demand}
use Rattle.refute_state.specs.declared.witness.StateWitness.TheVariants.{State, State3}
use Rattle.refute_state.specs.Demands.{demand_at, of_one, same_state}
use Rattle.refute_state.specs.code.Gathered.{demands_at}
use Rattle.refute_state.specs.OnState.{refutes}
use Rattle.findings.specs.declared.ends.Ends.{Ends}
use Rattle.findings.specs.code.Numbers.{ends_in}
use Rattle.prop_state.specs.declared.demands.Named.{Named}
use Rattle.prop_state.specs.code.Tasks.{IsSilent, quiet, interval_in, intervals_at}
use Rattle.prop_state.specs.code.Walks.{EachOf, SilentTwo, SilentThree, SilentAround, IsNamed, IsOf}
use Rattle.prop_state.specs.code.Silence.{longest_part, IsCovered, may_refute_pair, may_refute_around, may_refute_triple}
use Rattle.prop_state.specs.laws.Owners.{demand_here}
use Rattle.prop_state.specs.laws.Quieting.{silent_two, silent_three}
use Rattle.prop_state.specs.laws.Silence.{pair_silent, triple_silent, around_silent, states_silent, same_silent, asked_from_silent, silent_from_asked}
use Rattle.base_laws.specs.laws.Truth.{never_both}

-- a constraint with its demand
pub not_demand : (m : Data) (k c : ℕ) → None ≡ demand_at m c → demands_at m k c ≡ false
not_demand m k c is = ap (passes (λ d. nat_eq d.g.0 k)) (sym is)

pub other_function : (m : Data) (k c : ℕ) (d : Demand) → Some d ≡ demand_at m c → (d.g.0 ≡ k → ⊥) → demands_at m k c ≡ false
other_function m k c d is other = ap (passes (λ d. nat_eq d.g.0 k)) (sym is) ∙ differ d.g.0 k other
  where
    differ : (i j : ℕ) → (i ≡ j → ⊥) → nat_eq i j ≡ false
    differ i j other = decided (nat_eq i j) refl
      where
        same : (i j : ℕ) → nat_eq i j ≡ true → i ≡ j
        same i j h = grind (arith, nat_tests, h)

        decided : (b : Bool) → nat_eq i j ≡ b → nat_eq i j ≡ false
        decided false e = e
        decided true e = absurd (other (same i j e))

pub named_here : (m : Data) (r : Region) (k c : ℕ) (d : Demand) (e : Ends) → Some d ≡ demand_at m c → d.g.0 ≡ k → e ≡ ends_in r d.x → IsNamed m r k c (record { c = c; demand = d; ends = e })
named_here m r k c d e is of numbers = record { constraint = refl; is = sym is; ends = numbers; of = subst (λ n. nat_eq d.g.0 n ≡ true) of (itself d.g.0) }
  where
    itself : (n : ℕ) → nat_eq n n ≡ true
    itself n = grind (arith, nat_tests)

-- the answers
pub none_to : {X P Q : Type 0} (o : Option X) → (P → Q) → IfNone o P → IfNone o Q
none_to None f p = f p
none_to (Some x) f p = tt

each_next : (P : ℕ → Type 0) (xs : List ℕ) (n : ℕ) (x d : ℕ) → n < length xs → x ≡ get_or xs n d → EachOf P (take n xs) → P x → EachOf P (take (suc n) xs)
each_next P [] n x d within is before here z h = absurd h
each_next P (y ∷ ys) zero x d within is before here z h = elim h [ inl e ↦ subst P (is ∙ e) here | inr none ↦ absurd none ]
each_next P (y ∷ ys) (suc n) x d within is before here z h = elim h [
  | inl e ↦ before z (inl e)
  | inr later ↦ each_next P ys n x d (omega (arith, within)) is (λ w k. before w (inr k)) here z later
]

pub each_more : (P : ℕ → Type 0) (xs : List ℕ) (n : ℕ) (x d : ℕ) → n < length xs → x ≡ get_or xs n d → EachOf P (take n xs) → P x → EachOf P (take (n + 1) xs)
each_more P xs n x d within is before here = subst (λ (k : ℕ). EachOf P (take k xs)) (one_on n) (each_next P xs n x d within is before here)
  where
    one_on : (n : ℕ) → suc n ≡ n + 1
    one_on n = omega arith

pub each_all : (P : ℕ → Type 0) (xs : List ℕ) (n : ℕ) → length xs ≤ n → EachOf P (take n xs) → EachOf P xs
each_all P xs n all each = subst (EachOf P) (take_all n xs all) each

-- of two
demand_of_named : (m : Data) (r : Region) (k : ℕ) (n : Named) → IsOf m r k n → demands_at m k n.c ≡ true
demand_of_named m r k n is = demand_here m k n.c n.demand is.is is.of

intervals_two : (m : Data) (r : Region) (k : ℕ) (a b : Named) → IsOf m r k a → IsOf m r k b → intervals_at m (a.c ∷ b.c ∷ []) ≡ a.demand.x ∷ b.demand.x ∷ []
intervals_two m r k a b one other = ap (λ o. interval_in o ++ (interval_in (demand_at m b.c) ++ [])) one.is ∙ ap (λ o. a.demand.x ∷ (interval_in o ++ [])) other.is

pub asked_two : (m : Data) (r : Region) (best : Option ℤ) (k : ℕ) (a b : Named) → IsOf m r k a → IsOf m r k b → IsUnrefuted refutes m r best (State a.c b.c) (a.demand.x ∷ b.demand.x ∷ []) [] → IsSilent m r best (State a.c b.c)
asked_two m r best k a b one other none = silent_from_asked m r best (State a.c b.c) (subst (λ xs. IsUnrefuted refutes m r best (State a.c b.c) xs []) (sym (intervals_two m r k a b one other)) none)

pub busy_two : (m : Data) (r : Region) (best : Option ℤ) (k : ℕ) (a b : Named) → IsOf m r k a → IsOf m r k b → (IsUnrefuted refutes m r best (State a.c b.c) (a.demand.x ∷ b.demand.x ∷ []) [] → ⊥) → quiet m k r best → ⊥
busy_two m r best k a b one other busy still =
    busy (subst (λ xs. IsUnrefuted refutes m r best (State a.c b.c) xs []) (intervals_two m r k a b one other)
    (asked_from_silent m r best (State a.c b.c) (silent_two m k a.c b.c r best (demand_of_named m r k a one) (demand_of_named m r k b other) still)))

pub is_of : (m : Data) (r : Region) (k c : ℕ) (n : Named) → IsNamed m r k c n → IsOf m r k n
is_of m r k c n is = record { constraint = refl; is = is.is; of = is.of; ends = is.ends }

pub two_calm : (m : Data) (r : Region) (best : Option ℤ) (k : ℕ) (a b : Named) → IsOf m r k a → IsOf m r k b → may_refute_pair m a b ≡ false → SilentTwo m r best k a.c b.c
two_calm m r best k a b one other calm mine yours = pair_silent m r best k a b one other calm

pub two_asked : (m : Data) (r : Region) (best : Option ℤ) (k c1 c2 : ℕ) → IsSilent m r best (State c1 c2) → SilentTwo m r best k c1 c2
two_asked m r best k c1 c2 silent mine yours = silent

-- of three
intervals_three : (m : Data) (r : Region) (k : ℕ) (a x b : Named) → IsOf m r k a → IsOf m r k x → IsOf m r k b → intervals_at m (a.c ∷ x.c ∷ b.c ∷ []) ≡ a.demand.x ∷ x.demand.x ∷ b.demand.x ∷ []
intervals_three m r k a x b one mid other =
    ap (λ o. interval_in o ++ (interval_in (demand_at m x.c) ++ (interval_in (demand_at m b.c) ++ []))) one.is
    ∙ ap (λ o. a.demand.x ∷ (interval_in o ++ (interval_in (demand_at m b.c) ++ []))) mid.is
    ∙ ap (λ o. a.demand.x ∷ x.demand.x ∷ (interval_in o ++ [])) other.is

pub asked_three : (m : Data) (r : Region) (best : Option ℤ) (k : ℕ) (a x b : Named) → IsOf m r k a → IsOf m r k x → IsOf m r k b → IsUnrefuted refutes m r best (State3 a.c x.c b.c) (a.demand.x ∷ x.demand.x ∷ b.demand.x ∷ []) [] → IsSilent m r best (State3 a.c x.c b.c)
asked_three m r best k a x b one mid other none =
    silent_from_asked m r best (State3 a.c x.c b.c) (subst (λ xs. IsUnrefuted refutes m r best (State3 a.c x.c b.c) xs []) (sym (intervals_three m r k a x b one mid other)) none)

pub busy_three : (m : Data) (r : Region) (best : Option ℤ) (k : ℕ) (a x b : Named) → IsOf m r k a → IsOf m r k x → IsOf m r k b → (IsUnrefuted refutes m r best (State3 a.c x.c b.c) (a.demand.x ∷ x.demand.x ∷ b.demand.x ∷ []) [] → ⊥) → quiet m k r best → ⊥
busy_three m r best k a x b one mid other busy still =
    busy (subst (λ xs. IsUnrefuted refutes m r best (State3 a.c x.c b.c) xs []) (intervals_three m r k a x b one mid other)
    (asked_from_silent m r best (State3 a.c x.c b.c) (silent_three m k a.c x.c b.c r best (demand_of_named m r k a one) (demand_of_named m r k x mid) (demand_of_named m r k b other) still)))

-- of a second that is of the state of the first, or of three that may not refute
pub three_calm : (m : Data) (r : Region) (best : Option ℤ) (k : ℕ) (a x b : Named) → IsOf m r k a → IsOf m r k x → IsOf m r k b → may_refute_triple m a x b ≡ false → SilentThree m r best k a.c x.c b.c
three_calm m r best k a x b one mid other calm f g h = triple_silent m r best k a x b one mid other calm

between_off : (p q s t : Bool) → s ≡ false → (p && q && s && not t) ≡ false
between_off p q s t h = ap (λ b. p && q && b && not t) h ∙ none p q (not t)
  where
    none : (p q t : Bool) → (p && q && false && t) ≡ false
    none true true t = refl
    none true false t = refl
    none false q t = refl

between_same : (p q s t : Bool) → t ≡ true → (p && q && s && not t) ≡ false
between_same p q s t h = ap (λ b. p && q && s && not b) h ∙ never_both (p && q && s) false refl

pub three_asked : (m : Data) (r : Region) (best : Option ℤ) (k c1 c2 c3 : ℕ) → IsSilent m r best (State3 c1 c2 c3) → SilentThree m r best k c1 c2 c3
three_asked m r best k c1 c2 c3 silent f g h = silent

demand_there : (m : Data) (k c : ℕ) → demands_at m k c ≡ true → (d : Demand) × (demand_at m c ≡ Some d)
demand_there m k c h = at (demand_at m c) refl h
  where
    at : (o : Option Demand) → demand_at m c ≡ o → passes (λ d. nat_eq d.g.0 k) o ≡ true → (d : Demand) × (demand_at m c ≡ Some d)
    at None is h = absurd (true≢false (sym h))
    at (Some d) is h = (d, is)

-- of a third that is the first, is of another state, or stands too far from the first
pub around_same : (m : Data) (r : Region) (best : Option ℤ) (k c1 c3 : ℕ) (cs : List ℕ) → c1 ≡ c3 → SilentAround m r best k c1 cs c3
around_same m r best k c1 c3 cs is c2 here one mid other = same_silent m r best c1 c2 c3 (itself c1 c3 is)
  where
    itself : (i j : ℕ) → i ≡ j → nat_eq i j ≡ true
    itself i j h = grind (arith, nat_tests, h)

pub around_apart : (m : Data) (r : Region) (best : Option ℤ) (k : ℕ) (a b : Named) (cs : List ℕ) → IsOf m r k a → IsOf m r k b → same_state a.demand.state b.demand.state ≡ false → SilentAround m r best k a.c cs b.c
around_apart m r best k a b cs one other off c2 here f g h =
    let x = demand_there m k c2 g in
    states_silent m r best a.c c2 b.c a.demand x.0 b.demand one.is x.1 other.is (between_off (of_one a.demand x.0) (of_one a.demand b.demand) (same_state a.demand.state b.demand.state) (same_state a.demand.state x.0.state) off)

pub around_calm : (m : Data) (r : Region) (best : Option ℤ) (k : ℕ) (n : ℤ) (a b : Named) (cs : List ℕ) → EachOf (IsCovered m r n) cs → IsOf m r k a → IsOf m r k b → may_refute_around m n a b ≡ false → SilentAround m r best k a.c cs b.c
around_calm m r best k n a b cs covered one other calm c2 here f g h =
    let x = demand_there m k c2 g in
    around_silent m r best k c2 n a b x.0 one other x.1 (covered c2 here) calm

-- the compulsory parts
pub covered_more : (m : Data) (r : Region) (n k : ℤ) (cs : List ℕ) → n ≤ℤ k → EachOf (IsCovered m r n) cs → EachOf (IsCovered m r k) cs
covered_more m r n k cs more each c here d is there = (let h = each c here d is there in further (longest_part (ends_in r d.x)) n k h more)
  where
    further : (p n k : ℤ) → p ≤ℤ n → n ≤ℤ k → p ≤ℤ k
    further p n k h more = grind (arith, ints, h, more)

pub covered_here : (m : Data) (r : Region) (n k : ℤ) (c : ℕ) → n ≤ℤ k → IsCovered m r n c → IsCovered m r k c
covered_here m r n k c more each d is there = (let h = each d is there in further (longest_part (ends_in r d.x)) n k h more)
  where
    further : (p n k : ℤ) → p ≤ℤ n → n ≤ℤ k → p ≤ℤ k
    further p n k h more = grind (arith, ints, h, more)
