-- A quiet propagator stays quiet where nothing that it watches changes.
use Rattle.std.specs.Prelude.{◌≡◌, ℕ, zero, suc, ◌+◌, ◌<◌, ◌≤◌, ℤ, Bool, true, false, ◌||◌, IsTrue, List, [], ◌∷◌, length, Option, Some, None, slice_get, option_and_then, nat_eq, if◌then◌else◌}
use Rattle.std.specs.List.{filter, range_with_len}
use Rattle.std.proofs.Common.{◌≢◌, refl, sym, ap, subst, ◌∙◌, inl, inr, arith}
use Rattle.std.proofs.lemmas.List.FromFn.{length-range_with_len}
use Rattle.std.proofs.lemmas.Bool.{true≢false, cases_eq}
use Rattle.std.proofs.lemmas.Option.{slice_get_within}
use Rattle.base_laws.specs.laws.Truth.{three_true}
use Rattle.sched_base.specs.declared.ids.Itv.{Itv}
use Rattle.sched_model.specs.declared.types.Constraint.{Constraint}
use Rattle.sched_model.specs.Words.{passes}
use Rattle.sched_model.specs.Data.{Data, has}
use Rattle.region.specs.declared.types.CellName.{CellName}
use Rattle.region.specs.declared.types.CellName.TheVariants as cell
use Rattle.region.specs.Cells.{Region}
use Rattle.region.specs.Guesses.{SameCell}
use Rattle.region.specs.Looks.{IsRegionOf}
use Rattle.region.specs.laws.Lists.{both_true}
use Rattle.findings.specs.code.Reads.{reads_cell}
use Rattle.findings.specs.laws.Kept.{quiet_kept}
use Rattle.refute_state.specs.declared.witness.StateWitness.{StateWitness}
use Rattle.refute_state.specs.declared.witness.StateWitness.TheVariants.{State, State3}
use Rattle.refute_state.specs.Demands.{demand_of}
use Rattle.refute_state.specs.code.Gathered.{demands_at, demands_of}
use Rattle.refute_state.specs.OnState.{refutes}
use Rattle.refute_state.specs.Listed.{lists}
use Rattle.refute_state.specs.laws.Settled.{In}
use Rattle.prop_state.specs.code.Tasks.{looks_after, intervals_at, constraints_of, reads_of, watching, watching_best, quiet}
use Rattle.prop_state.specs.laws.Reading.{has_interval, demanded, looks, among}

-- the demands of a function are those that its list has
in_range : (c a n : ℕ) → a ≤ c → c < a + n → In (range_with_len a n) c
in_range c a zero low high = absurd (omega (arith, low, high))
in_range c a (suc n) low high = elim (cases_eq a c) [
  | inl same ↦ inl same
  | inr other ↦ (let apart : a ≢ c = other in inr (in_range c (a + 1) n (omega (arith, low, apart)) (omega (arith, high))))
]

in_filter : (p : ℕ → Bool) (xs : List ℕ) (c : ℕ) → In xs c → p c ≡ true → In (filter p xs) c
in_filter p [] c here h = here
in_filter p (x ∷ xs) c here h = decided (p x) refl here (λ later. in_filter p xs c later h)
  where
    decided : (b : Bool) → p x ≡ b → In (x ∷ xs) c → (In xs c → In (filter p xs) c) → In (if b then x ∷ filter p xs else filter p xs) c
    decided true is here more = elim here [ inl same ↦ inl same | inr later ↦ inr (more later) ]
    decided false is here more = elim here [ inl same ↦ absurd (true≢false (sym h ∙ ap p (sym same) ∙ is)) | inr later ↦ more later ]

pub listed : (m : Data) (k c : ℕ) → demands_at m k c ≡ true → In (demands_of m k) c
listed m k c h = in_filter (demands_at m k) (range_with_len 0 (length m.constraints)) c (in_range c 0 (length m.constraints) (omega arith) (within (slice_get m.constraints c) refl h)) h
  where
    within : (o : Option Constraint) → slice_get m.constraints c ≡ o → passes (λ d. nat_eq d.g.0 k) (option_and_then demand_of o) ≡ true → c < 0 + length m.constraints
    within None is h = absurd (true≢false (sym h))
    within (Some e) is h = let w = slice_get_within m.constraints c e is in omega (arith, w)

in_filtered : (p : ℕ → Bool) (xs : List ℕ) (c : ℕ) → In (filter p xs) c → p c ≡ true
in_filtered p [] c here = absurd here
in_filtered p (x ∷ xs) c here = decided (p x) refl here (in_filtered p xs c)
  where
    decided : (b : Bool) → p x ≡ b → In (if b then x ∷ filter p xs else filter p xs) c → (In (filter p xs) c → p c ≡ true) → p c ≡ true
    decided true is here more = elim here [ inl same ↦ ap p (sym same) ∙ is | inr later ↦ more later ]
    decided false is here more = more here

pub demanded_there : (m : Data) (k c : ℕ) → In (demands_of m k) c → demands_at m k c ≡ true
demanded_there m k c here = in_filtered (demands_at m k) (range_with_len 0 (length m.constraints)) c here

few_filtered : (p : ℕ → Bool) (xs : List ℕ) → length (filter p xs) ≤ length xs
few_filtered p [] = omega arith
few_filtered p (x ∷ xs) = decided (p x) (few_filtered p xs)
  where
    decided : (b : Bool) → length (filter p xs) ≤ length xs → length (if b then x ∷ filter p xs else filter p xs) ≤ suc (length xs)
    decided true more = omega (arith, more)
    decided false more = omega (arith, more)

-- there are no more of them than constraints
pub few_demands : (m : Data) (k : ℕ) → length (demands_of m k) ≤ length m.constraints
few_demands m k = (let few = few_filtered (demands_at m k) (range_with_len 0 (length m.constraints)) in let all = length-range_with_len 0 (length m.constraints) in omega (arith, few, all))

pub owned_demands : (m : Data) (k : ℕ) (w : StateWitness) (c : ℕ) → looks_after m k w ≡ true → In (constraints_of w) c → demands_at m k c ≡ true
owned_demands m k (State c1 c2) c mine here =
    let two = both_true (demands_at m k c1) (demands_at m k c2) mine in
    elim here [
      | inl one ↦ subst (λ d. demands_at m k d ≡ true) one two.0
      | inr rest ↦ elim rest [ inl other ↦ subst (λ d. demands_at m k d ≡ true) other two.1 | inr none ↦ absurd none ]
    ]
owned_demands m k (State3 c1 c2 c3) c mine here =
    let three = three_true (demands_at m k c1) (demands_at m k c2) (demands_at m k c3) mine in
    elim here [
      | inl one ↦ subst (λ d. demands_at m k d ≡ true) one three.0
      | inr rest ↦ elim rest [
        | inl other ↦ subst (λ d. demands_at m k d ≡ true) other three.1
        | inr more ↦ elim more [ inl last ↦ subst (λ d. demands_at m k d ≡ true) last three.2 | inr none ↦ absurd none ]
      ]
    ]

-- a propagator watches what its witnesses read
has_owned : (m : Data) (k : ℕ) (w : StateWitness) (x : Itv) → looks_after m k w ≡ true → has (intervals_at m (constraints_of w)) x ≡ true → has (intervals_at m (demands_of m k)) x ≡ true
has_owned m k w x mine h =
    let d = demanded m (constraints_of w) x h in
    subst (λ y. has (intervals_at m (demands_of m k)) y ≡ true) (sym d.same) (has_interval m (demands_of m k) d.constraint d.demand (listed m k d.constraint (owned_demands m k w d.constraint mine d.listed)) d.is)

alone : {Z : Type 0} (b : Bool) → (b ≡ true → Z) → (b || false) ≡ true → Z
alone true f h = f refl
alone false f h = absurd (true≢false (sym h))

reads_watched : (m : Data) (k : ℕ) (w : StateWitness) (c : CellName) → looks_after m k w ≡ true → reads_cell (reads_of m w) c ≡ true → watching m k c ≡ true
reads_watched m k w (cell.Presence x) mine h = alone (has (intervals_at m (constraints_of w)) x) (λ here. ap (λ b. b || false) (has_owned m k w x mine here)) h
reads_watched m k w (cell.StartMin x) mine h = has_owned m k w x mine h
reads_watched m k w (cell.StartMax x) mine h = has_owned m k w x mine h
reads_watched m k w (cell.EndMin x) mine h = has_owned m k w x mine h
reads_watched m k w (cell.EndMax x) mine h = has_owned m k w x mine h
reads_watched m k w (cell.Order p x y) mine h = absurd (true≢false (sym h))

pub unwatched : (m : Data) (k : ℕ) (r q : Region) (b c : Option ℤ) → IsRegionOf m r → IsRegionOf m q → ((cell : CellName) → IsTrue (watching m k cell) → SameCell cell r q) → (IsTrue (watching_best m k) → b ≡ c) → quiet m k r b → quiet m k q c
unwatched m k r q b c of also cells best still = quiet_kept refutes lists (λ n w. looks_after n k w) m (reads_of m) r q b c
    (λ w mine. looks m w)
    (λ w g mine listed. among m w g listed)
    of also
    (λ w cell mine one. cells cell (reads_watched m k w cell mine one))
    (λ w mine uses. absurd (true≢false (sym uses)))
    still
