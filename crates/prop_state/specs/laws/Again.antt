-- What is silent stays so while the intervals of its demands are told the same.
use Rattle.std.specs.Prelude.{◌≡◌, ◌⊎◌, ℕ, suc, ◌<◌, ℤ, List, [], ◌∷◌, length, Option, Some, None, slice_index_or}
use Rattle.std.proofs.Common.{refl, sym, ap, subst, ◌∙◌, inl, inr, arith}
use Rattle.std.proofs.lemmas.Bool.{true≢false}
use Rattle.std.proofs.lemmas.Option.{same_Some, none-some}
use Rattle.base_laws.specs.laws.Places.{item_at}
use Rattle.sched_model.specs.Data.{Data}
use Rattle.region.specs.declared.types.Bounds.{Bounds}
use Rattle.region.specs.Cells.{Region, bounds_of}
use Rattle.region.specs.Looks.{IsRegionOf}
use Rattle.findings.specs.code.Reads.{AreAlike}
use Rattle.findings.specs.laws.Kept.{unrefuted_kept}
use Rattle.refute_state.specs.declared.demand.Demand.{Demand}
use Rattle.refute_state.specs.declared.witness.StateWitness.{StateWitness}
use Rattle.refute_state.specs.declared.witness.StateWitness.TheVariants.{State, State3}
use Rattle.refute_state.specs.Demands.{demand_at}
use Rattle.refute_state.specs.code.Gathered.{demands_of}
use Rattle.refute_state.specs.OnState.{refutes}
use Rattle.refute_state.specs.laws.Settled.{In}
use Rattle.prop_state.specs.declared.demands.Named.{Named}
use Rattle.prop_state.specs.code.Tasks.{IsSilent, quiet, constraints_of, reads_of}
use Rattle.prop_state.specs.code.Walks.{EachTwo, EachThree, AreAll, AreAsked}
use Rattle.prop_state.specs.code.Known.{IsKnown, IfKnown, AreFresh, Remembers}
use Rattle.prop_state.specs.laws.Reading.{demanded, looks}
use Rattle.prop_state.specs.laws.Silence.{asked_from_silent, silent_from_asked}
use Rattle.prop_state.specs.laws.Quieting.{demands_quiet, silent_two, silent_three}

-- the interval of the demand of a constraint is told the same in two regions
abbrev pub IsSame : Data → Region → Region → ℕ → Type 0
IsSame m r q c = (d : Demand) → demand_at m c ≡ Some d → bounds_of r d.x ≡ bounds_of q d.x

alike : (m : Data) (w : StateWitness) (r q : Region) → ((c : ℕ) → In (constraints_of w) c → IsSame m r q c) → AreAlike (reads_of m w) r q
alike m w r q same = record {
  bounds = λ x one. (let d = demanded m (constraints_of w) x one in subst (λ y. bounds_of r y ≡ bounds_of q y) (sym d.same) (same d.constraint d.listed d.demand d.is));
  presences = λ x one. absurd (true≢false (sym one));
  orders = λ p x y one. absurd (true≢false (sym one));
}

pub silent_again : (m : Data) (w : StateWitness) (r q : Region) (b c : Option ℤ) → IsRegionOf m r → IsRegionOf m q → ((c : ℕ) → In (constraints_of w) c → IsSame m r q c) → IsSilent m r b w → IsSilent m q c w
silent_again m w r q b c of also same silent = silent_from_asked m q c w
    (unrefuted_kept refutes m w (reads_of m w) r q b c (looks m w) of also (alike m w r q same) (λ uses. absurd (true≢false (sym uses))) (asked_from_silent m r b w silent))

-- of constraints of which each is fresh, or told the same
abbrev pub IsFreshOrSame : Data → Region → Region → List ℕ → ℕ → Type 0
IsFreshOrSame m r q fs c = In fs c ⊎ IsSame m r q c

two_same : (m : Data) (r q : Region) (c1 c2 : ℕ) → IsSame m r q c1 → IsSame m r q c2 → (c : ℕ) → In (c1 ∷ c2 ∷ []) c → IsSame m r q c
two_same m r q c1 c2 one other c here = elim here [
  | inl e ↦ subst (IsSame m r q) e one
  | inr more ↦ elim more [ inl e ↦ subst (IsSame m r q) e other | inr none ↦ absurd none ]
]

three_same : (m : Data) (r q : Region) (c1 c2 c3 : ℕ) → IsSame m r q c1 → IsSame m r q c2 → IsSame m r q c3 → (c : ℕ) → In (c1 ∷ c2 ∷ c3 ∷ []) c → IsSame m r q c
three_same m r q c1 c2 c3 one mid other c here = elim here [
  | inl e ↦ subst (IsSame m r q) e one
  | inr more ↦ two_same m r q c2 c3 mid other c more
]

pub two_again : (m : Data) (k : ℕ) (r q : Region) (b best : Option ℤ) (cs fs : List ℕ) → IsRegionOf m r → IsRegionOf m q → quiet m k r b → ((c : ℕ) → In cs c → IsFreshOrSame m r q fs c)
    → EachTwo m q best k fs cs → EachTwo m q best k cs fs → EachTwo m q best k cs cs
two_again m k r q b best cs fs of also still either first second c1 here1 c2 here2 mine yours = elim (either c1 here1) [
  | inl fresh ↦ first c1 fresh c2 here2 mine yours
  | inr same1 ↦ elim (either c2 here2) [
    | inl fresh ↦ second c1 here1 c2 fresh mine yours
    | inr same2 ↦ silent_again m (State c1 c2) r q b best of also (two_same m r q c1 c2 same1 same2) (silent_two m k c1 c2 r b mine yours still)
  ]
]

pub three_again : (m : Data) (k : ℕ) (r q : Region) (b best : Option ℤ) (cs fs : List ℕ) → IsRegionOf m r → IsRegionOf m q → quiet m k r b → ((c : ℕ) → In cs c → IsFreshOrSame m r q fs c)
    → EachThree m q best k fs cs cs → EachThree m q best k cs fs cs → EachThree m q best k cs cs fs → EachThree m q best k cs cs cs
three_again m k r q b best cs fs of also still either first second third c1 here1 c3 here3 c2 here2 f g h = elim (either c1 here1) [
  | inl fresh ↦ first c1 fresh c3 here3 c2 here2 f g h
  | inr same1 ↦ elim (either c2 here2) [
    | inl fresh ↦ second c1 here1 c3 here3 c2 fresh f g h
    | inr same2 ↦ elim (either c3 here3) [
      | inl fresh ↦ third c1 here1 c3 fresh c2 here2 f g h
      | inr same3 ↦ silent_again m (State3 c1 c2 c3) r q b best of also (three_same m r q c1 c2 c3 same1 same2 same3) (silent_three m k c1 c2 c3 r b f g h still)
    ]
  ]
]

-- each of a list stands at some place
pub record StandsIn (cs : List ℕ) (c : ℕ) : Type 0 where
  pub place : ℕ
  pub within : place < length cs
  pub is : slice_index_or cs place 0 ≡ c

pub stands_in : (cs : List ℕ) (c : ℕ) → In cs c → StandsIn cs c
stands_in [] c here = absurd here
stands_in (x ∷ xs) c here = elim here [
  | inl e ↦ record { place = 0; within = omega arith; is = e }
  | inr later ↦ (let more = stands_in xs c later in let within = more.within in record { place = suc more.place; within = omega (arith, within); is = more.is })
]

-- what isn't fresh is told as when all was quiet
unless_fresh : (m : Data) (k : ℕ) (q : Region) (bs : List Bounds) (ns : List Named) (fs : List ℕ) (os : List Named) (known : IsKnown m k bs) → AreAll m q k (demands_of m k) ns → AreFresh m q k (demands_of m k) ns (Some bs) (length (demands_of m k)) fs os
    → (c : ℕ) → In (demands_of m k) c → IsFreshOrSame m known.region q fs c
unless_fresh m k q bs ns fs os known all fresh c here = at (stands_in (demands_of m k) c here)
  where
    at : StandsIn (demands_of m k) c → IsFreshOrSame m known.region q fs c
    at s =
        let room = all.room in
        let within = s.within in
        let one = item_at ns s.place (omega (arith, room, within)) in
        let n = slice_index_or ns s.place one.0 in
        let named = all.named s.place s.within 0 one.0 in
        elim (fresh.all s.place s.within 0 one.0) [
          | inl new ↦ inl (subst (In fs) s.is new)
          | inr old ↦ inr (λ d is.
              let demand : n.demand ≡ d = same_Some n.demand d (sym named.is ∙ ap (demand_at m) (named.constraint ∙ s.is) ∙ is) in
              same_Some (bounds_of known.region d.x) (bounds_of q d.x) (sym (known.bounds s.place 0 d s.within (ap (demand_at m) s.is ∙ is)) ∙ old ∙ ap Some (ap (λ e. bounds_of q e.x) demand)))
        ]

-- what isn't remembered is all fresh
all_fresh : (m : Data) (k : ℕ) (q : Region) (ns : List Named) (fs : List ℕ) (os : List Named) → AreAll m q k (demands_of m k) ns → AreFresh m q k (demands_of m k) ns None (length (demands_of m k)) fs os → (c : ℕ) → In (demands_of m k) c → In fs c
all_fresh m k q ns fs os all fresh c here = at (stands_in (demands_of m k) c here)
  where
    at : StandsIn (demands_of m k) c → In fs c
    at s =
        let room = all.room in
        let within = s.within in
        let one = item_at ns s.place (omega (arith, room, within)) in
        elim (fresh.all s.place s.within 0 one.0) [ inl new ↦ subst (In fs) s.is new | inr old ↦ absurd (none-some (bounds_of q (slice_index_or ns s.place one.0).demand.x) old) ]

-- A state function is quiet where its fresh demands are silent with all of them.
pub quiet_again : (m : Data) (k : ℕ) (q : Region) (best : Option ℤ) (known : Option (List Bounds)) (ns : List Named) (fs : List ℕ) (os : List Named) → IsRegionOf m q → IfKnown m k known → AreAll m q k (demands_of m k) ns
    → AreFresh m q k (demands_of m k) ns known (length (demands_of m k)) fs os → AreAsked m q best k (demands_of m k) fs → quiet m k q best
quiet_again m k q best None ns fs os of known all fresh asked =
    let here = all_fresh m k q ns fs os all fresh in
    demands_quiet m k q best (demands_of m k) refl (λ c1 h1. asked.first c1 (here c1 h1)) (λ c1 h1. asked.first_of_three c1 (here c1 h1))
quiet_again m k q best (Some bs) ns fs os of known all fresh asked =
    let either = unless_fresh m k q bs ns fs os known all fresh in
    demands_quiet m k q best (demands_of m k) refl
    (two_again m k known.region q known.best best (demands_of m k) fs known.of of known.still either asked.first asked.second)
    (three_again m k known.region q known.best best (demands_of m k) fs known.of of known.still either asked.first_of_three asked.between asked.last)

-- and where none is fresh
pub quiet_still : (m : Data) (k : ℕ) (q : Region) (best : Option ℤ) (known : Option (List Bounds)) (ns : List Named) (fs : List ℕ) (os : List Named) → fs ≡ [] → IsRegionOf m q → IfKnown m k known → AreAll m q k (demands_of m k) ns
    → AreFresh m q k (demands_of m k) ns known (length (demands_of m k)) fs os → quiet m k q best
quiet_still m k q best known ns fs os is of have all fresh =
    quiet_again m k q best known ns fs os of have all fresh (record {
      first = λ c1 h1. absurd (subst (λ zs. In zs c1) is h1);
      second = λ c1 h1 c2 h2. absurd (subst (λ zs. In zs c2) is h2);
      first_of_three = λ c1 h1. absurd (subst (λ zs. In zs c1) is h1);
      between = λ c1 h1 c3 h3 c2 h2. absurd (subst (λ zs. In zs c2) is h2);
      last = λ c1 h1 c3 h3. absurd (subst (λ zs. In zs c3) is h3);
    })

-- what is quiet is remembered by the bounds of its demands
pub known_now : (m : Data) (k : ℕ) (q : Region) (best : Option ℤ) (ns : List Named) (bs : List Bounds) → IsRegionOf m q → quiet m k q best → AreAll m q k (demands_of m k) ns → Remembers q (length (demands_of m k)) ns bs → IsKnown m k bs
known_now m k q best ns bs of still all remembers = record {
  region = q;
  best = best;
  of = of;
  still = still;
  bounds = λ i c d within is.
      let room = all.room in
      let one = item_at ns i (omega (arith, room, within)) in
      let n = slice_index_or ns i one.0 in
      let named = all.named i within c one.0 in
      let demand : n.demand ≡ d = same_Some n.demand d (sym named.is ∙ ap (demand_at m) named.constraint ∙ is) in
      remembers.each i within one.0 ∙ ap Some (ap (λ e. bounds_of q e.x) demand);
}
