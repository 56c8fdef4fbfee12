-- Constraints are added to those that name an interval, one after another.
use Rattle.std.specs.Prelude.{◌≡◌, ◌⊎◌, ℕ, zero, suc, ◌+◌, ◌<◌, ◌≤◌, Bool, true, false, List, [], ◌∷◌, ◌++◌, length, get_or, slice_set, slice_get, None, nat_eq, nat_lt}
use Rattle.std.proofs.Common.{inl, inr, refl, sym, ap, subst, ◌∙◌, arith}
use Rattle.std.proofs.lemmas.Bool.{true≢false}
use Rattle.std.proofs.lemmas.Bool.Decides.{nat_tests}
use Rattle.sched_base.specs.declared.ids.Itv.{Itv}
use Rattle.sched_model.specs.Data.{Data, has, same}
use Rattle.region.specs.laws.OneSequence.{has_cases}
use Rattle.std.proofs.lemmas.List.Folds.{list_any-append}
use Rattle.refute_basic.specs.laws.Arc.{ends_of}
use Rattle.prop_temporal.specs.code.Members.{members_at, touched_by}
use Rattle.prop_temporal.specs.code.Heights.{is_touched, AreTouched}
use Rattle.prop_temporal.specs.code.Touches.{Touches, AreTouchedBy}
use Rattle.base_laws.specs.laws.Numbers.{below_or_last}

same_or_not : (i j : ℕ) → (i ≡ j) ⊎ (i ≡ j → ⊥)
same_or_not i j = by_case (nat_eq i j) refl
  where
    by_case : (b : Bool) → nat_eq i j ≡ b → (i ≡ j) ⊎ (i ≡ j → ⊥)
    by_case true is = inl (grind (arith, nat_tests))
    by_case false is = inr (λ e. grind (arith, nat_tests))

abbrev pub with_one : List (List ℕ) → ℕ → ℕ → List (List ℕ)
with_one ts x c = slice_set ts x (get_or ts x [] ++ c ∷ [])

one_more : (k : ℕ) → k + 1 ≡ suc k
one_more k = omega arith

touches_both : (old mid new : List (List ℕ)) (xs ys : List Itv) (c : ℕ) → Touches old mid xs c → Touches mid new ys c → Touches old new (xs ++ ys) c
touches_both old mid new xs ys c first second = record {
  size = second.size ∙ first.size;
  grows = λ x d h. second.grows x d (first.grows x d h);
  has = λ x below h. elim (has_cases (has xs x) (has ys x) (sym (list_any-append (same x) xs ys) ∙ h)) [
    | inl here ↦ second.grows x.0 c (first.has x below here)
    | inr there ↦ second.has x (omega (arith, below, first.size)) there
  ];
}

pub touched_more : (m : Data) (n : ℕ) (old mid new : List (List ℕ)) (ends members : List Itv) → ends ≡ ends_of (slice_get m.constraints n) → members ≡ members_at m (slice_get m.constraints n) → Touches old mid ends n → Touches mid new members n
    → AreTouchedBy m n old → AreTouchedBy m (n + 1) new
touched_more m n old mid new ends members is are first second before = record {
  size = t.size ∙ before.size;
  each = λ x c below within h. elim (below_or_last c n below) [
    | inl less ↦ t.grows x.0 c (before.each x c less within h)
    | inr last ↦ subst (λ (k : ℕ). is_touched new x.0 k ≡ true) (sym last)
        (t.has x (omega (arith, within, before.size)) (subst (λ (xs : List Itv). has xs x ≡ true) (ap (λ k. touched_by m (slice_get m.constraints k)) last ∙ sym both) h))
  ];
}
  where
    t : Touches old new (ends ++ members) n
    t = touches_both old mid new ends members n first second

    both : ends ++ members ≡ touched_by m (slice_get m.constraints n)
    both = rw (is, are) refl

-- beyond the last constraint none names anything
none_names : (m : Data) (c : ℕ) (x : Itv) → length m.constraints ≤ c → has (touched_by m (slice_get m.constraints c)) x ≡ true → ⊥
none_names m c x past h = true≢false (sym h ∙ ap (λ o. has (touched_by m o) x) (nothing m.constraints c past))
  where
    nothing : {X : Type 0} (xs : List X) (i : ℕ) → length xs ≤ i → slice_get xs i ≡ None
    nothing [] i h = refl
    nothing (x ∷ xs) zero h = absurd (omega (arith, h))
    nothing (x ∷ xs) (suc i) h = nothing xs i (omega (arith, h))

pub touched_all : (m : Data) (n : ℕ) (ts : List (List ℕ)) → length m.constraints ≤ n → AreTouchedBy m n ts → AreTouched m ts
touched_all m n ts past before = record {
  size = before.size;
  each = λ x c within h. by_case x c (nat_lt c n) refl within h;
}
  where
    less : (c : ℕ) → nat_lt c n ≡ true → c < n
    less c h = grind (arith, nat_tests)

    more : (c : ℕ) → nat_lt c n ≡ false → n ≤ c
    more c h = grind (arith, nat_tests)

    by_case : (x : Itv) (c : ℕ) (b : Bool) → nat_lt c n ≡ b → x.0 < length m.intervals → has (touched_by m (slice_get m.constraints c)) x ≡ true → is_touched ts x.0 c ≡ true
    by_case x c true is within h = before.each x c (less c is) within h
    by_case x c false is within h = absurd (none_names m c x (let over = more c is in omega (arith, over, past)) h)
