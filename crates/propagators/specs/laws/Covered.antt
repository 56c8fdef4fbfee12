-- Where each propagator is quiet, the region is.
use Rattle.std.specs.Prelude.{◌≡◌, ◌⊎◌, ℕ, zero, suc, ◌+◌, ◌-◌, ◌<◌, ℤ, Bool, true, false, IsTrue, Option, nat_lt}
use Rattle.std.proofs.lemmas.Bool.Decides.{nat_tests}
use Rattle.std.proofs.Common.{inl, inr, refl, subst, arith}
use Rattle.sched_model.specs.Data.{Data}
use Rattle.sched_model.specs.Valid.{IsValid}
use Rattle.region.specs.declared.types.Guess.{Guess}
use Rattle.region.specs.Cells.{Region}
use Rattle.region.specs.Looks.{Seen, Refuting, IsRegionOf, seen_at}
use Rattle.region.specs.laws.Narrowing.{looked_stays}
use Rattle.findings.specs.Ends.{is_asked}
use Rattle.findings.specs.Found.{IsQuiet}
use Rattle.findings.specs.laws.Kept.{asked_admits}
use Rattle.refute_basic.specs.declared.witness.BasicWitness.{BasicWitness}
use Rattle.refute_basic.specs.declared.witness.BasicWitness.TheVariants.{Size, Arc, Cycle, Expr, Obj, Leaf}
use Rattle.refute_basic.specs.Basic.{refutes}
use Rattle.refute_basic.specs.Listed.{lists, is_derived as is_derived_basic}
use Rattle.kernel.specs.declared.types.Witness.{Witness}
use Rattle.kernel.specs.declared.types.Witness.TheVariants.{Basic, Hier, Seq, Cumul, State, Extra}
use Rattle.kernel.specs.declared.no_extra.NoWitness.{NoWitness}
use Rattle.engine.specs.code.Pairs.{chosen}
use Rattle.engine.specs.Plain.{refutes_plain}
use Rattle.refute_hier.specs.Hier.{refutes as refutes_hier}
use Rattle.refute_hier.specs.Listed.{lists as lists_hier}
use Rattle.prop_basic.specs.code.Tasks.{size_of, looks_after, quiet, is_own}
use Rattle.prop_basic.specs.laws.Owners.{unowned}
use Rattle.prop_temporal.specs.code.Tasks.{size_of as size_of_temporal, looks_after as looks_after_temporal, quiet as quiet_temporal, is_temporal}
use Rattle.prop_temporal.specs.laws.Owners.{unowned as unowned_temporal}
use Rattle.prop_hier.specs.code.Tasks.{size_of as size_of_hier, looks_after as looks_after_hier, quiet as quiet_hier}
use Rattle.prop_hier.specs.laws.Owners.{unowned as unowned_hier}
use Rattle.refute_seq.specs.declared.witness.SeqWitness.{SeqWitness}
use Rattle.refute_seq.specs.declared.witness.SeqWitness.TheVariants.{Pair, Triple, Overload, Edge, NotEnd, Detect}
use Rattle.refute_seq.specs.OnSequence.{refutes as refutes_seq}
use Rattle.refute_seq.specs.Listed.{lists as lists_seq}
use Rattle.prop_unary.specs.code.Tasks.{size_of as size_of_unary, looks_after as looks_after_unary, quiet as quiet_unary, is_own as is_unary}
use Rattle.prop_unary.specs.laws.Owners.{unowned as unowned_unary}
use Rattle.prop_sets.specs.code.Tasks.{size_of as size_of_sets, looks_after as looks_after_sets, quiet as quiet_sets, is_own as is_sets}
use Rattle.prop_sets.specs.laws.Owners.{unowned as unowned_sets}
use Rattle.refute_cumul.specs.OnCumul.{refutes as refutes_cumul}
use Rattle.refute_cumul.specs.Listed.{lists as lists_cumul}
use Rattle.prop_cumul.specs.code.Tasks.{size_of as size_of_cumul, looks_after as looks_after_cumul, quiet as quiet_cumul}
use Rattle.prop_cumul.specs.laws.Owners.{unowned as unowned_cumul}
use Rattle.refute_state.specs.declared.witness.StateWitness.{StateWitness}
use Rattle.refute_state.specs.declared.witness.StateWitness.TheVariants.{State as Two, State3 as Three}
use Rattle.refute_state.specs.OnState.{refutes as refutes_state}
use Rattle.refute_state.specs.Listed.{lists as lists_state}
use Rattle.prop_state.specs.code.Tasks.{size_of as size_of_state, looks_after as looks_after_state, quiet as quiet_state, is_own as is_state}
use Rattle.prop_state.specs.laws.Owners.{unowned as unowned_state}
use Rattle.propagators.specs.Quiet.{is_derived, lists_all, IsQuietRegion}

-- one of the first numbers passes a test, or none does
abbrev pub Passing : (ℕ → Bool) → ℕ → Type 0
Passing test n = (k : ℕ) × (k < n) × (test k ≡ true)

abbrev pub NonePasses : (ℕ → Bool) → ℕ → Type 0
NonePasses test n = (k : ℕ) → k < n → test k ≡ false

pub one_or_none : (test : ℕ → Bool) (n : ℕ) → Passing test n ⊎ NonePasses test n
one_or_none test zero = inr (λ k less. absurd (omega (arith, less)))
one_or_none test (suc n) = by_case (test zero) refl (one_or_none (λ k. test (suc k)) n)
  where
    none_more : test zero ≡ false → NonePasses (λ k. test (suc k)) n → NonePasses test (suc n)
    none_more first rest zero less = first
    none_more first rest (suc k) less = rest k (omega (arith, less))

    by_case : (b : Bool) → test zero ≡ b → Passing (λ k. test (suc k)) n ⊎ NonePasses (λ k. test (suc k)) n → Passing test (suc n) ⊎ NonePasses test (suc n)
    by_case true is rest = inl (zero, omega arith, is)
    by_case false is (inl more) = inl (suc more.0, let less = more.1 in omega (arith, less), more.2)
    by_case false is (inr none) = inr (none_more is none)

-- where each propagator of a crate is quiet, its witnesses refute nothing that is asked
unrefuted_by : {W : Type 0} (refutes : Refuting W) (lists : Data → W → Guess → Bool) (looks_after : Data → ℕ → W → Bool) (size : ℕ) (m : Data) (r : Region) (best : Option ℤ) → IsRegionOf m r
    → ((k : ℕ) → k < size → IsQuiet refutes lists (λ n w. looks_after n k w) m r best)
    → (w : W) → ((l : Seen) → IsRegionOf m l.region → ((k : ℕ) → k < size → looks_after m k w ≡ false) → refutes m l w ≡ false)
    → (guess : Option Guess) → IsTrue (is_asked (lists m w) r guess) → refutes m (seen_at r best guess) w ≡ false
unrefuted_by refutes lists looks_after size m r best of all w unowned guess asked = elim (one_or_none (λ k. looks_after m k w) size) [
  | inl owner ↦ (all owner.0 owner.1).unrefuted w guess owner.2 asked
  | inr none ↦ unowned (seen_at r best guess) (looked_stays guess m r (asked_admits (lists m w) r guess asked) of) none
]

-- a kind of `refute_basic` that derives is asked by one of two crates
pub own_or_temporal : (w : BasicWitness) → is_derived_basic w ≡ true → (is_own w ≡ true) ⊎ (is_temporal w ≡ true)
own_or_temporal (Size x) h = inl refl
own_or_temporal (Arc c d) h = inr refl
own_or_temporal (Cycle arcs) h = inr refl
own_or_temporal (Expr c) h = inl refl
own_or_temporal Obj h = inl refl
own_or_temporal (Leaf k u) h = cc

-- the propagators of all crates
pub record AllQuiet (m : Data) (r : Region) (best : Option ℤ) : Type 0 where
  pub basic : (k : ℕ) → k < size_of m → quiet m k r best
  pub temporal : (k : ℕ) → k < size_of_temporal m → quiet_temporal m k r best
  pub hier : (k : ℕ) → k < size_of_hier m → quiet_hier m k r best
  pub unary : (k : ℕ) → k < size_of_unary m → quiet_unary m k r best
  pub sets : (k : ℕ) → k < size_of_sets m → quiet_sets false m k r best
  pub later_sets : (k : ℕ) → k < size_of_sets m → quiet_sets true m k r best
  pub cumul : (k : ℕ) → k < size_of_cumul m → quiet_cumul m k r best
  pub state : (k : ℕ) → k < size_of_state m → quiet_state m k r best

basic_unrefuted : (m : Data) (r : Region) (best : Option ℤ) → IsRegionOf m r → AllQuiet m r best
    → (w : BasicWitness) (guess : Option Guess) → is_derived_basic w ≡ true → IsTrue (is_asked (lists m w) r guess) → refutes m (seen_at r best guess) w ≡ false
basic_unrefuted m r best of all w guess derived asked = elim (own_or_temporal w derived) [
  | inl own ↦ unrefuted_by refutes lists looks_after (size_of m) m r best of all.basic w (λ l stays none. unowned m l w stays own none) guess asked
  | inr also ↦ unrefuted_by refutes lists looks_after_temporal (size_of_temporal m) m r best of all.temporal w (λ l stays none. unowned_temporal m l w also none) guess asked
]

-- so is a kind of `refute_seq`: by few members at a time, or by sets in the first round or in the later one
pub unary_or_sets : (w : SeqWitness) → (is_unary w ≡ true) ⊎ ((is_sets false w ≡ true) ⊎ (is_sets true w ≡ true))
unary_or_sets (Pair c a b k) = inl refl
unary_or_sets (Triple p x y z) = inl refl
unary_or_sets (Overload c s) = inr (inl refl)
unary_or_sets (Edge c side i s u v) = inr (inr refl)
unary_or_sets (NotEnd c side i s) = inr (inr refl)
unary_or_sets (Detect c side i s) = inr (inl refl)

sets_unrefuted : (m : Data) (r : Region) (best : Option ℤ) → IsRegionOf m r → AllQuiet m r best
    → (w : SeqWitness) (guess : Option Guess) → (is_sets false w ≡ true) ⊎ (is_sets true w ≡ true) → IsTrue (is_asked (lists_seq m w) r guess) → refutes_seq m (seen_at r best guess) w ≡ false
sets_unrefuted m r best of all w guess (inl first) asked =
    unrefuted_by refutes_seq lists_seq (looks_after_sets false) (size_of_sets m) m r best of all.sets w (λ l stays none. unowned_sets false m l w first none) guess asked
sets_unrefuted m r best of all w guess (inr later) asked =
    unrefuted_by refutes_seq lists_seq (looks_after_sets true) (size_of_sets m) m r best of all.later_sets w (λ l stays none. unowned_sets true m l w later none) guess asked

-- so is a kind of `refute_state`
pub state_kind : (w : StateWitness) → is_state w ≡ true
state_kind (Two c d) = refl
state_kind (Three c d e) = refl

all_unrefuted : (m : Data) (r : Region) (best : Option ℤ) → IsValid m → IsRegionOf m r → AllQuiet m r best
    → (w : Witness NoWitness) (guess : Option Guess) → IsTrue (is_derived m w) → IsTrue (is_asked (lists_all m w) r guess) → refutes_plain m (seen_at r best guess) w ≡ false
all_unrefuted m r best valid of all (Basic w) guess derived asked = basic_unrefuted m r best of all w guess derived asked
all_unrefuted m r best valid of all (Hier w) guess derived asked =
    unrefuted_by refutes_hier lists_hier looks_after_hier (size_of_hier m) m r best of all.hier w (λ l stays none. unowned_hier m l w stays refl none) guess asked
all_unrefuted m r best valid of all (Seq w) guess derived asked = elim (unary_or_sets w) [
  | inl few ↦ unrefuted_by refutes_seq lists_seq looks_after_unary (size_of_unary m) m r best of all.unary w (λ l stays none. unowned_unary m l w stays few none) guess asked
  | inr sets ↦ sets_unrefuted m r best of all w guess sets asked
]
all_unrefuted m r best valid of all (Cumul w) guess derived asked =
    unrefuted_by refutes_cumul lists_cumul looks_after_cumul (size_of_cumul m) m r best of all.cumul w (λ l stays none. unowned_cumul m l w stays refl none) guess asked
all_unrefuted m r best valid of all (State w) guess derived asked =
    unrefuted_by refutes_state lists_state looks_after_state (size_of_state m) m r best of all.state w (λ l stays none. unowned_state m l w valid (state_kind w) none) guess asked
all_unrefuted m r best valid of all (Extra w) guess derived asked = refl

pub covered : (m : Data) (r : Region) (best : Option ℤ) → IsValid m → IsRegionOf m r → AllQuiet m r best → IsQuietRegion m r best
covered m r best valid of all = record { unrefuted = all_unrefuted m r best valid of all }

-- numbered through, the first are those of one crate, and the others follow
pub firsts : (a b : ℕ) (P Q : ℕ → Type 0) → ((k : ℕ) → k < a + b → chosen (nat_lt k a) (P k) (Q (k - a))) → (k : ℕ) → k < a → P k
firsts a b P Q each k within = here (nat_lt k a) (is_below k a within) (each k (omega (arith, within)))
  where
    is_below : (k a : ℕ) → k < a → nat_lt k a ≡ true
    is_below k a h = grind (arith, nat_tests)

    here : (t : Bool) → t ≡ true → chosen t (P k) (Q (k - a)) → P k
    here true h p = p
    here false h p = cc

pub others : (a b : ℕ) (P Q : ℕ → Type 0) → ((k : ℕ) → k < a + b → chosen (nat_lt k a) (P k) (Q (k - a))) → (k : ℕ) → k < b → Q k
others a b P Q each k within = subst Q (back k a) (there (nat_lt (a + k) a) (not_below k a) (each (a + k) (omega (arith, within))))
  where
    not_below : (k a : ℕ) → nat_lt (a + k) a ≡ false
    not_below k a = grind (arith, nat_tests)

    back : (k a : ℕ) → (a + k) - a ≡ k
    back k a = omega arith

    there : (t : Bool) → t ≡ false → chosen t (P (a + k)) (Q ((a + k) - a)) → Q ((a + k) - a)
    there false h p = p
    there true h p = cc
