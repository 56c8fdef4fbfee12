-- What the marks say after the lines of a log.
use Rattle.std.specs.Prelude.{◌≡◌, ℕ, ◌<◌, Bool, true, false, ◌||◌, List, [], ◌∷◌, ◌++◌, length, flat_map, slice_set, nat_eq}
use Rattle.std.proofs.Common.{refl, sym, ap, subst, ◌∙◌, arith, get_or}
use Rattle.std.proofs.lemmas.Bool.Decides.{nat_tests}
use Rattle.std.proofs.lemmas.List.{length-set, get_or-set_same, get_or-set_other}
use Rattle.std.proofs.lemmas.List.Concat.{flat_map-cons}
use Rattle.sched_base.specs.declared.ids.Con.{Con}
use Rattle.replay.specs.Replaying.{all_noted}
use Rattle.conflict.specs.code.Marks.{marked, is_among}

-- a mark stands where it was set, or its constraint was named
with_true : (p x : Bool) → (p || true) ≡ (true || p || x)
with_true true x = refl
with_true false x = refl

pub marked_is : (cs : List Con) (bs : List Bool) (c : ℕ) → c < length bs → get_or (marked cs bs) c false ≡ (is_among cs c || get_or bs c false)
marked_is [] bs c within = refl
marked_is (d ∷ ds) bs c within = by_case (nat_eq d.0 c) refl
    (marked_is ds (slice_set bs d.0 true) c (longer (length-set bs d.0 true)))
  where
    longer : length (slice_set bs d.0 true) ≡ length bs → c < length (slice_set bs d.0 true)
    longer same = omega (arith, same, within)

    there : nat_eq d.0 c ≡ true → d.0 ≡ c
    there h = grind (arith, nat_tests)

    elsewhere : nat_eq d.0 c ≡ false → c ≡ d.0 → ⊥
    elsewhere h is = grind (arith, nat_tests)

    by_case : (b : Bool) → nat_eq d.0 c ≡ b → get_or (marked ds (slice_set bs d.0 true)) c false ≡ (is_among ds c || get_or (slice_set bs d.0 true) c false) → get_or (marked ds (slice_set bs d.0 true)) c false ≡ (is_among (d ∷ ds) c || get_or bs c false)
    by_case true is rest =
        rest ∙ ap (λ z. is_among ds c || z) (subst (λ n. get_or (slice_set bs n true) c false ≡ true) (sym (there is)) (get_or-set_same bs c true false within))
        ∙ with_true (is_among ds c) (get_or bs c false) ∙ sym (ap (λ t. (t || is_among ds c) || get_or bs c false) is)
    by_case false is rest =
        rest ∙ ap (λ z. is_among ds c || z) (get_or-set_other bs d.0 c true false (elsewhere is)) ∙ sym (ap (λ t. (t || is_among ds c) || get_or bs c false) is)

-- one list of names behind another
marked_more : (cs ds : List Con) (bs : List Bool) → marked (cs ++ ds) bs ≡ marked ds (marked cs bs)
marked_more [] ds bs = refl
marked_more (c ∷ cs) ds bs = marked_more cs ds (slice_set bs c.0 true)

-- so a watcher that marks what each line names has marked, after all lines, what they use
pub all_marked : {L : Type 0} (named : L → List Con) (lines : List L) (bs : List Bool) → all_noted (λ s l. marked (named l) s) bs lines ≡ marked (flat_map named lines) bs
all_marked named [] bs = refl
all_marked named (l ∷ ls) bs = all_marked named ls (marked (named l) bs) ∙ sym (marked_more (named l) (flat_map named ls) bs) ∙ ap (λ cs. marked cs bs) (sym (flat_map-cons named l ls))
