-- The ends of rows, gathered and sorted.
use Rattle.std.proofs.Common.{◌≡◌, ℕ, ◌+◌, ℤ, Bool, true, false, List, [], ◌∷◌, ◌++◌, length, take, refl, sym, ap, ◌∙◌, subst, inl, inr, arith}
use Rattle.std.specs.Prelude.{nat_eq, ◌||◌}
use Rattle.std.specs.List.{list_any}
use Rattle.std.specs.List.Sorted.{IsPermutation}
use Rattle.std.proofs.lemmas.Bool.{cases_eq, or_left, or_right}
use Rattle.std.proofs.lemmas.Bool.Decides.{nat_tests}
use Rattle.std.proofs.lemmas.List.Elements.{All-push}
use Rattle.std.proofs.lemmas.List.Sorted.{All-permutation, list_any-IsPermutation, length_permutation}
use Rattle.std.proofs.Math.Seq.{take-append_seam}
use Rattle.energy_pass.specs.declared.rows.Row.{Row}
use Rattle.energy_pass.specs.declared.ends.End.{End}
use Rattle.energy_pass.specs.code.Rows.{row_at}
use Rattle.energy_pass.specs.code.Ends.{is_among, IsEnd, HasEnds, IsByEnd, AreEnds}

pub none_yet : (rows : List Row) → HasEnds rows 0 []
none_yet rows = record {
  each = λ i d within. absurd (omega (arith, within));
  all = λ k within. absurd (omega (arith, within));
}

wider : (rows : List Row) (n : ℕ) (e : End) → IsEnd rows n e → IsEnd rows (n + 1) e
wider rows n e is = record { within = omega (arith, is.within); lct = is.lct }

pub any_push : (p : End → Bool) (es : List End) (e : End) → list_any p (es ++ e ∷ []) ≡ (list_any p es || p e)
any_push p [] e = plain (p e)
  where
    plain : (b : Bool) → (b || false) ≡ b
    plain true = refl
    plain false = refl
any_push p (x ∷ es) e = ap (λ b. p x || b) (any_push p es e) ∙ assoc (p x) (list_any p es) (p e)
  where
    assoc : (a b c : Bool) → (a || (b || c)) ≡ ((a || b) || c)
    assoc true b c = refl
    assoc false b c = refl

pub one_more : (rows : List Row) (n : ℕ) (es : List End) (lct : ℤ) → HasEnds rows n es → lct ≡ (row_at rows n).lct → HasEnds rows (n + 1) (es ++ (record { lct = lct; place = n }) ∷ [])
one_more rows n es lct before is = record {
  each = All-push (IsEnd rows (n + 1)) es (record { lct = lct; place = n }) (λ i d within. wider rows n _ (before.each i d within)) (record { within = omega arith; lct = is });
  all = λ k within. any_push (λ e. nat_eq e.place k) es (record { lct = lct; place = n }) ∙ elim (cases_eq n k) [
    | inl same ↦ or_right (is_among es k) (nat_eq n k) (grind (arith, nat_tests, same))
    | inr other ↦ or_left (is_among es k) (nat_eq n k) (before.all k (omega (arith, within, other)))
  ];
}

pub sorted_ends : (rows : List Row) (n : ℕ) (es fs : List End) → HasEnds rows n es → IsPermutation es fs → IsByEnd fs → n ≡ length rows → AreEnds rows fs
sorted_ends rows n es fs has moved by_end is = record {
  has = subst (λ k. HasEnds rows k fs) is (record {
    each = All-permutation (IsEnd rows n) es fs moved has.each;
    all = λ k within. sym (list_any-IsPermutation (λ e. nat_eq e.place k) es fs moved) ∙ has.all k within;
  });
  by_end = by_end;
}

pub sorted_taken : (rows : List Row) (es fs rest : List End) (n : ℕ) → n ≡ length es → HasEnds rows (length rows) es → IsPermutation es fs → IsByEnd fs → AreEnds rows (take n (fs ++ rest))
sorted_taken rows es fs rest n size has moved by_end =
    let same : n ≡ length fs = size ∙ sym (length_permutation es fs moved) in
    subst (AreEnds rows) (sym (ap (λ k. take k (fs ++ rest)) same ∙ take-append_seam fs rest)) (sorted_ends rows (length rows) es fs has moved by_end refl)
