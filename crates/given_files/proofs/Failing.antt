-- Testing the constraints of a model one after another.
use Rattle.std.proofs.Common.{◌≡◌, ◌<◌, ◌≤◌, ◌+◌, ◌↔◌, ℕ, Bool, true, false, length, get_or, Some, IsTrue, slice_get, sym, subst, ◌∙◌, inl, inr, arith}
use Rattle.std.proofs.lemmas.Option.{slice_get-get_or}
use Rattle.sched_model.specs.declared.types.Assignment.{Assignment}
use Rattle.sched_model.specs.declared.types.Constraint.{Constraint}
use Rattle.sched_model.specs.Data.{Data}
use Rattle.sched_model.specs.Domain.{is_in_domain}
use Rattle.sched_model.specs.Sentences.{Holds}
use Rattle.sched_model.specs.Solution.{IsSolution}
use Rattle.given_files.specs.Schedules.{FailsFirst}
use Rattle.base_laws.specs.laws.Numbers.{below_or_last}
use Rattle.base_laws.specs.laws.Places.{item_at}

-- the constraints before this one hold
abbrev pub HoldBefore : Data → Assignment → ℕ → Type 0
HoldBefore m a i = (j : ℕ) (k : Constraint) → j < i → slice_get m.constraints j ≡ Some k → Holds m a k

-- the test of this one tells whether it holds
abbrev pub TellsWhether : Data → Assignment → ℕ → Bool → Type 0
TellsWhether m a i b = (k : Constraint) → slice_get m.constraints i ≡ Some k → IsTrue b ↔ Holds m a k

pub one_more : (m : Data) (a : Assignment) (i : ℕ) (b : Bool) → HoldBefore m a i → TellsWhether m a i b → b ≡ true → HoldBefore m a (i + 1)
one_more m a i b hold tells is j k within at = elim (below_or_last j i within) [
  | inl before ↦ hold j k before at
  | inr same ↦ (tells k (subst (λ n. slice_get m.constraints n ≡ Some k) same at)).0 is
]

not_true : (b : Bool) → b ≡ false → IsTrue b → ⊥
not_true b is h = let both : true ≡ false = sym h ∙ is in cc

pub first_fails : (m : Data) (a : Assignment) (i : ℕ) (b : Bool) → i < length m.constraints → HoldBefore m a i → TellsWhether m a i b → b ≡ false → FailsFirst m a i
first_fails m a i b within hold tells is = let at = item_at m.constraints i within in
    record {
      before = hold;
      sentence = at.0;
      there = at.1;
      fails = λ h. not_true b is ((tells at.0 at.1).1 h);
    }

pub none_fails : (m : Data) (a : Assignment) (i : ℕ) → is_in_domain m a ≡ true → length m.constraints ≤ i → HoldBefore m a i → IsSolution m a
none_fails m a i domain all hold = record {
  domain = domain;
  holds = λ k d within. hold k (get_or m.constraints k d) (omega (arith, within, all)) (slice_get-get_or m.constraints k d within);
}
