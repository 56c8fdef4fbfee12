-- Each witness that refutes has a propagator that looks after it.
use Rattle.std.specs.Prelude.{◌≡◌, ◌⊎◌, ℕ, Bool, true, false, IsTrue}
use Rattle.std.proofs.Common.{inl, inr, refl, sym, ◌∙◌}
use Rattle.std.proofs.lemmas.Bool.{true≢false}
use Rattle.sched_model.specs.Data.{Data}
use Rattle.sched_model.specs.Valid.{IsValid}
use Rattle.region.specs.Looks.{Seen, IsRegionOf}
use Rattle.refute_basic.specs.declared.witness.BasicWitness.{BasicWitness}
use Rattle.refute_basic.specs.Basic.{refutes}
use Rattle.refute_basic.specs.Listed.{is_derived as is_derived_basic}
use Rattle.refute_hier.specs.Hier.{refutes as refutes_hier}
use Rattle.refute_seq.specs.declared.witness.SeqWitness.{SeqWitness}
use Rattle.refute_seq.specs.OnSequence.{refutes as refutes_seq}
use Rattle.refute_cumul.specs.OnCumul.{refutes as refutes_cumul}
use Rattle.refute_state.specs.OnState.{refutes as refutes_state}
use Rattle.kernel.specs.declared.types.Witness.{Witness}
use Rattle.kernel.specs.declared.types.Witness.TheVariants.{Basic, Hier, Seq, Cumul, State, Extra}
use Rattle.kernel.specs.declared.no_extra.NoWitness.{NoWitness}
use Rattle.engine.specs.Plain.{refutes_plain}
use Rattle.prop_basic.specs.code.Tasks.{size_of, looks_after}
use Rattle.prop_basic.specs.laws.Owners.{unowned}
use Rattle.prop_temporal.specs.code.Tasks.{size_of as size_of_temporal, looks_after as looks_after_temporal}
use Rattle.prop_temporal.specs.laws.Owners.{unowned as unowned_temporal}
use Rattle.prop_hier.specs.code.Tasks.{size_of as size_of_hier, looks_after as looks_after_hier}
use Rattle.prop_hier.specs.laws.Owners.{unowned as unowned_hier}
use Rattle.prop_unary.specs.code.Tasks.{size_of as size_of_unary, looks_after as looks_after_unary}
use Rattle.prop_unary.specs.laws.Owners.{unowned as unowned_unary}
use Rattle.prop_sets.specs.code.Tasks.{size_of as size_of_sets, looks_after as looks_after_sets}
use Rattle.prop_sets.specs.laws.Owners.{unowned as unowned_sets}
use Rattle.prop_cumul.specs.code.Tasks.{size_of as size_of_cumul, looks_after as looks_after_cumul}
use Rattle.prop_cumul.specs.laws.Owners.{unowned as unowned_cumul}
use Rattle.prop_state.specs.code.Tasks.{size_of as size_of_state, looks_after as looks_after_state}
use Rattle.prop_state.specs.laws.Owners.{unowned as unowned_state}
use Rattle.propagators.specs.Quiet.{is_derived}
use Rattle.propagators.specs.laws.Covered.{Passing, NonePasses, one_or_none, own_or_temporal, unary_or_sets, state_kind}

-- a propagator of one of the crates that ask of such witnesses looks after it
abbrev pub IsOwned : Data → Witness NoWitness → Type 0
IsOwned m (Basic w) = Passing (λ k. looks_after m k w) (size_of m) ⊎ Passing (λ k. looks_after_temporal m k w) (size_of_temporal m)
IsOwned m (Hier w) = Passing (λ k. looks_after_hier m k w) (size_of_hier m)
IsOwned m (Seq w) = Passing (λ k. looks_after_unary m k w) (size_of_unary m) ⊎ (Passing (λ k. looks_after_sets false m k w) (size_of_sets m) ⊎ Passing (λ k. looks_after_sets true m k w) (size_of_sets m))
IsOwned m (Cumul w) = Passing (λ k. looks_after_cumul m k w) (size_of_cumul m)
IsOwned m (State w) = Passing (λ k. looks_after_state m k w) (size_of_state m)
IsOwned m (Extra w) = ⊥

-- whatever witness of a kind that derives refutes a look at a region of a valid model is looked after
abbrev pub EachIsOwned : Type 0
EachIsOwned = (m : Data) (l : Seen) (w : Witness NoWitness) → IsValid m → IsRegionOf m l.region → IsTrue (is_derived m w) → IsTrue (refutes_plain m l w) → IsOwned m w

found : (test : ℕ → Bool) (n : ℕ) (refuted : Bool) → (NonePasses test n → refuted ≡ false) → refuted ≡ true → Passing test n
found test n refuted unless is = elim (one_or_none test n) [
  | inl one ↦ one
  | inr none ↦ absurd (true≢false (sym is ∙ unless none))
]

basic_owned : (m : Data) (l : Seen) (w : BasicWitness) → IsRegionOf m l.region → is_derived_basic w ≡ true → refutes m l w ≡ true → IsOwned m (Basic w)
basic_owned m l w of derived is = elim (own_or_temporal w derived) [
  | inl own ↦ inl (found (λ k. looks_after m k w) (size_of m) (refutes m l w) (unowned m l w of own) is)
  | inr also ↦ inr (found (λ k. looks_after_temporal m k w) (size_of_temporal m) (refutes m l w) (unowned_temporal m l w also) is)
]

seq_owned : (m : Data) (l : Seen) (w : SeqWitness) → IsRegionOf m l.region → refutes_seq m l w ≡ true → IsOwned m (Seq w)
seq_owned m l w of is = elim (unary_or_sets w) [
  | inl few ↦ inl (found (λ k. looks_after_unary m k w) (size_of_unary m) (refutes_seq m l w) (unowned_unary m l w of few) is)
  | inr (inl first) ↦ inr (inl (found (λ k. looks_after_sets false m k w) (size_of_sets m) (refutes_seq m l w) (unowned_sets false m l w first) is))
  | inr (inr later) ↦ inr (inr (found (λ k. looks_after_sets true m k w) (size_of_sets m) (refutes_seq m l w) (unowned_sets true m l w later) is))
]

pub each_owned : EachIsOwned
each_owned m l (Basic w) valid of derived is = basic_owned m l w of derived is
each_owned m l (Hier w) valid of derived is = found (λ k. looks_after_hier m k w) (size_of_hier m) (refutes_hier m l w) (unowned_hier m l w of refl) is
each_owned m l (Seq w) valid of derived is = seq_owned m l w of is
each_owned m l (Cumul w) valid of derived is = found (λ k. looks_after_cumul m k w) (size_of_cumul m) (refutes_cumul m l w) (unowned_cumul m l w of refl) is
each_owned m l (State w) valid of derived is = found (λ k. looks_after_state m k w) (size_of_state m) (refutes_state m l w) (unowned_state m l w valid (state_kind w)) is
each_owned m l (Extra w) valid of derived is = cc
