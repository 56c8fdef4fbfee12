-- The orders that a settled look leaves are the only ones: each that lists the present members, as the region allows, is that one.
use Rattle.std.specs.Prelude.{◌≡◌, ℕ, suc, ◌<◌, Bool, true, false, ◌||◌, List, [], ◌∷◌, length}
use Rattle.std.specs.List.{list_all}
use Rattle.std.proofs.Common.{refl, sym, subst, ap, ◌∙◌, inl, inr, arith, get_or}
use Rattle.std.proofs.lemmas.Bool.{true≢false, or_left}
use Rattle.sched_base.specs.declared.ids.Itv.{Itv}
use Rattle.sched_model.specs.Words.{pairwise, placewise}
use Rattle.sched_model.specs.Data.{same, has}
use Rattle.region.specs.laws.Lists.{both_true}
use Rattle.region.specs.laws.OneSequence.{same_is, same_self, same_turned, has_cases}
use Rattle.region.specs.laws.Orderly.{differ, never_in, all_has}
use Rattle.refute_seq.specs.laws.Ordered.{one_way}

-- two rows of the same members are one list
same_first : (before : Itv → Itv → Bool) (x y : Itv) (xs ys : List Itv) → ((u v : Itv) → before u v ≡ true → before v u ≡ true → ⊥) → pairwise before (x ∷ xs) ≡ true → pairwise before (y ∷ ys) ≡ true → ((z : Itv) → has (x ∷ xs) z ≡ has (y ∷ ys) z) → x ≡ y
same_first before x y xs ys one_way first second alike = decided (same x y) refl
  where
    behind : (u v : Itv) (us vs : List Itv) → pairwise before (v ∷ vs) ≡ true → same u v ≡ false → has (u ∷ us) u ≡ has (v ∷ vs) u → before v u ≡ true
    behind u v us vs row apart e = elim (has_cases (same u v) (has vs u) (sym e ∙ or_left (same u u) (has us u) (same_self u))) [
      | inl here ↦ absurd (true≢false (sym here ∙ apart))
      | inr later ↦ all_has (before v) vs u (both_true (list_all (before v) vs) (pairwise before vs) row).0 later
    ]

    decided : (b : Bool) → same x y ≡ b → x ≡ y
    decided true e = same_is x y e
    decided false e = absurd (one_way y x (behind x y xs ys second e (alike x)) (behind y x ys xs first (same_turned x y e) (sym (alike y))))

same_rest : (x z : Itv) (xs ys : List Itv) → list_all (differ x) xs ≡ true → list_all (differ x) ys ≡ true → has (x ∷ xs) z ≡ has (x ∷ ys) z → has xs z ≡ has ys z
same_rest x z xs ys one other e = decided (same z x) refl
  where
    never : (zs : List Itv) → list_all (differ x) zs ≡ true → same z x ≡ true → has zs z ≡ false
    never zs once is = by_case (has zs z) refl
      where
        by_case : (b : Bool) → has zs z ≡ b → has zs z ≡ false
        by_case false h = h
        by_case true h = absurd (never_in x zs once (subst (λ w. has zs w ≡ true) (same_is z x is) h))

    decided : (b : Bool) → same z x ≡ b → has xs z ≡ has ys z
    decided true is = never xs one is ∙ sym (never ys other is)
    decided false is = sym (ap (λ b. b || has xs z) is) ∙ e ∙ ap (λ b. b || has ys z) is

-- the same of all sequences
placewise_length : {X Y : Type 0} (t : X → Y → Bool) (xs : List X) (ys : List Y) → placewise t xs ys ≡ true → length xs ≡ length ys
placewise_length t [] [] h = refl
placewise_length t [] (y ∷ ys) h = cc
placewise_length t (x ∷ xs) [] h = cc
placewise_length t (x ∷ xs) (y ∷ ys) h = let rest = placewise_length t xs ys (both_true (t x y) (placewise t xs ys) h).1 in omega (arith, rest)

same_at : {X : Type 0} (xs ys : List X) (d : X) → length xs ≡ length ys → ((n : ℕ) → n < length xs → get_or xs n d ≡ get_or ys n d) → xs ≡ ys
same_at [] [] d size each = refl
same_at [] (y ∷ ys) d size each = absurd (omega (arith, size))
same_at (x ∷ xs) [] d size each = absurd (omega (arith, size))
same_at {X} (x ∷ xs) (y ∷ ys) d size each = ap (λ (z : X). z ∷ xs) (each 0 (omega arith)) ∙ ap (λ zs. y ∷ zs) (same_at xs ys d (omega (arith, size)) (λ n within. each (suc n) (omega (arith, within))))
