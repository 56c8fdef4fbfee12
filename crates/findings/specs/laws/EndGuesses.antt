-- Of the six guesses at the ends of an interval each is one at its end, and each such guess is one of them.
use Rattle.std.specs.Prelude.{◌≡◌, ℕ, zero, suc, ◌<◌, ℤ, true, List, [], ◌∷◌, length}
use Rattle.std.proofs.Common.{refl, sym, ap, subst, ◌∙◌, arith, get_or}
use Rattle.std.proofs.lemmas.Int.{ints}
use Rattle.std.specs.Ordering.{int_eq}
use Rattle.sched_base.specs.declared.ids.Itv.{Itv}
use Rattle.region.specs.declared.types.Bounds.{Bounds}
use Rattle.region.specs.declared.types.Guess.{Guess}
use Rattle.region.specs.declared.types.Guess.TheVariants.{Present, Absent, StartLe, StartGe, EndLe, EndGe, Before}
use Rattle.region.specs.Cells.{Region, bounds_of}
use Rattle.region.specs.Guesses.{topic}
use Rattle.region.specs.laws.OneSequence.{same_is, same_self}
use Rattle.findings.specs.Ends.{is_end}
use Rattle.findings.specs.code.Search.{is_on}

-- the guesses at the ends of an interval, in the order in which they are tried
abbrev pub end_guesses : Bounds → Itv → List Guess
end_guesses c x = Present x ∷ Absent x ∷ StartLe x c.smin ∷ EndGe x c.emax ∷ StartGe x c.smax ∷ EndLe x c.emin ∷ []

same_int : (a b : ℤ) → int_eq a b ≡ true → a ≡ b
same_int a b h = grind (arith, ints)

pub place : (r : Region) (x : Itv) (g : Guess) → is_on x (topic g) ≡ true → is_end r (topic g) ≡ true → (n : ℕ) × (n < 6) × (get_or (end_guesses (bounds_of r x) x) n (Present x) ≡ g)
place r x (Present y) on end = (0, omega arith, ap Present (sym (same_is y x on)))
place r x (Absent y) on end = (1, omega arith, ap Absent (sym (same_is y x on)))
place r x (StartLe y t) on end = let e = same_is y x on in (2, omega arith, ap (λ z. StartLe z (bounds_of r z).smin) (sym e) ∙ ap (StartLe y) (sym (same_int t (bounds_of r y).smin end)))
place r x (EndGe y t) on end = let e = same_is y x on in (3, omega arith, ap (λ z. EndGe z (bounds_of r z).emax) (sym e) ∙ ap (EndGe y) (sym (same_int t (bounds_of r y).emax end)))
place r x (StartGe y t) on end = let e = same_is y x on in (4, omega arith, ap (λ z. StartGe z (bounds_of r z).smax) (sym e) ∙ ap (StartGe y) (sym (same_int t (bounds_of r y).smax end)))
place r x (EndLe y t) on end = let e = same_is y x on in (5, omega arith, ap (λ z. EndLe z (bounds_of r z).emin) (sym e) ∙ ap (EndLe y) (sym (same_int t (bounds_of r y).emin end)))
place r x (Before p y z) on end = cc

same_end : (z : ℤ) → int_eq z z ≡ true
same_end z = grind (arith, ints)

pub record IsAnEnd (r : Region) (x : Itv) (g : Guess) : Type 0 where
  pub on : is_on x (topic g) ≡ true
  pub end : is_end r (topic g) ≡ true

end_in : (r : Region) (x : Itv) (n : ℕ) → n < 6 → IsAnEnd r x (get_or (end_guesses (bounds_of r x) x) n (Present x))
end_in r x zero within = record { on = same_self x; end = refl }
end_in r x (suc zero) within = record { on = same_self x; end = refl }
end_in r x (suc (suc zero)) within = record { on = same_self x; end = same_end (bounds_of r x).smin }
end_in r x (suc (suc (suc zero))) within = record { on = same_self x; end = same_end (bounds_of r x).emax }
end_in r x (suc (suc (suc (suc zero)))) within = record { on = same_self x; end = same_end (bounds_of r x).smax }
end_in r x (suc (suc (suc (suc (suc zero))))) within = record { on = same_self x; end = same_end (bounds_of r x).emin }
end_in r x (suc (suc (suc (suc (suc (suc n)))))) within = absurd (omega (arith, within))

pub end_at : (r : Region) (x : Itv) (gs : List Guess) (i : ℕ) (g : Guess) → gs ≡ end_guesses (bounds_of r x) x → i < length gs → g ≡ get_or gs i (Present x) → IsAnEnd r x g
end_at r x gs i g is within at =
    let less : i < 6 = omega (arith, within, ap length is) in
    subst (IsAnEnd r x) (sym (at ∙ ap (λ hs. get_or hs i (Present x)) is)) (end_in r x i less)
