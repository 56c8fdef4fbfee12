-- A walk through the members of the sequence of a relation.
use Rattle.std.specs.Prelude.{◌≡◌, ℕ, ◌+◌, ◌<◌, ◌≤◌, ℤ, true, false, List, length, Option, Some, None, slice_get, take}
use Rattle.std.proofs.Common.{inl, inr, sym, subst, ap, ◌∙◌, get_or}
use Rattle.std.proofs.lemmas.List.{take_all}
use Rattle.sched_base.specs.declared.ids.Itv.{Itv}
use Rattle.sched_model.specs.declared.types.Constraint.{Constraint}
use Rattle.sched_model.specs.Data.{Data, same, has}
use Rattle.region.specs.Cells.{Region}
use Rattle.region.specs.Looks.{Seen, IsRegionOf, seen_at}
use Rattle.region.specs.laws.OneSequence.{same_is, same_self}
use Rattle.refute_hier.specs.declared.witness.HierWitness.TheVariants.{SeqRel}
use Rattle.prop_hier.specs.code.Related.{pairs_of, IsSilent, AreSilent}
use Rattle.prop_hier.specs.code.Possible.{may_break}
use Rattle.prop_hier.specs.laws.Possible.{silent_impossible}
use Rattle.prop_hier.proofs.Presences.{any_next, passes_at, after}

-- what can't break the relation needn't be asked
pub silent_looked : (m : Data) (r : Region) (best : Option ℤ) (c : ℕ) (d : Constraint) (x : Itv) (l : Seen) → IsRegionOf m r → slice_get m.constraints c ≡ Some d → l ≡ seen_at r None None → may_break l.region x d ≡ false → IsSilent m r best (SeqRel c x.0) (pairs_of d x)
silent_looked m r best c d x l of is shown none = silent_impossible m r best c d x of is (sym (ap (λ k. may_break k.region x d) shown) ∙ none)

-- nothing is found of the first
pub record SilentFirst (m : Data) (r : Region) (best : Option ℤ) (d : Constraint) (c : ℕ) (xs : List Itv) (n : ℕ) : Type 0 where
  pub silent : AreSilent m r best d c (take n xs)

pub none_silent : (m : Data) (r : Region) (best : Option ℤ) (d : Constraint) (c : ℕ) (xs : List Itv) → SilentFirst m r best d c xs 0
none_silent m r best d c xs = record { silent = λ x here. cc }

pub more_silent : (m : Data) (r : Region) (best : Option ℤ) (d : Constraint) (c : ℕ) (xs : List Itv) (n : ℕ) (e : Itv) → SilentFirst m r best d c xs n → n < length xs → IsSilent m r best (SeqRel c (get_or xs n e).0) (pairs_of d (get_or xs n e)) → SilentFirst m r best d c xs (n + 1)
more_silent m r best d c xs n e before within here = record {
  silent = λ x listed. elim (any_next (same x) xs n e within (subst (λ k. has (take k xs) x ≡ true) (after n) listed)) [
    | inl first ↦ before.silent x first
    | inr last ↦ subst (λ y. IsSilent m r best (SeqRel c y.0) (pairs_of d y)) (sym (same_is x (get_or xs n e) last)) here
  ];
}

pub all_silent : (m : Data) (r : Region) (best : Option ℤ) (d : Constraint) (c : ℕ) (xs : List Itv) (n : ℕ) → SilentFirst m r best d c xs n → length xs ≤ n → AreSilent m r best d c xs
all_silent m r best d c xs n so_far end x listed = so_far.silent x (subst (λ ys. has ys x ≡ true) (sym (take_all n xs end)) listed)

pub one_busy : (m : Data) (r : Region) (best : Option ℤ) (d : Constraint) (c : ℕ) (xs : List Itv) (n : ℕ) (e : Itv) → n < length xs → (IsSilent m r best (SeqRel c (get_or xs n e).0) (pairs_of d (get_or xs n e)) → ⊥) → AreSilent m r best d c xs → ⊥
one_busy m r best d c xs n e within busy silent = busy (silent (get_or xs n e) (passes_at (same (get_or xs n e)) xs n e within (same_self (get_or xs n e))))
