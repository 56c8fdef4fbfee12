-- Moments that rise: each is compared with the one before alone.
use Rattle.std.proofs.Common.{◌≡◌, ℕ, ◌+◌, ◌-◌, ◌<◌, ◌≤◌, ℤ, Bool, true, false, ◌&&◌, List, [], ◌∷◌, length, take, drop, get_or, refl, sym, ap, ◌∙◌, arith}
use Rattle.std.specs.Prelude.{int_lt, ◌≤ℤ◌, ◌<ℤ◌}
use Rattle.std.specs.List.{list_all}
use Rattle.std.proofs.lemmas.Int.{ints}
use Rattle.std.proofs.lemmas.Bool.{and_parts, and_from}
use Rattle.std.proofs.lemmas.List.{at_drop_more, at_drop_all, take_all}
use Rattle.calendar.specs.declared.step.Pair.{Pair}
use Rattle.calendar.specs.Steps.{rises}
use Rattle.cpo_text.specs.declared.tree.StepPair.{StepPair}
use Rattle.cpo_elab.specs.Literals.{int_of}
use Rattle.cpo_elab.specs.Stages.{pairs_of}
use Rattle.cpo_elab.specs.code.Calendars.{rise_from}

later : (s t : ℤ) (ps : List Pair) → int_lt s t ≡ true → list_all (λ q. int_lt t q.t) ps ≡ true → list_all (λ q. int_lt s q.t) ps ≡ true
later s t [] h all = refl
later s t (p ∷ ps) h all =
    let both = and_parts (int_lt t p.t) (list_all (λ q. int_lt t q.t) ps) all in
    and_from (int_lt s p.t) (list_all (λ q. int_lt s q.t) ps) (further p.t both.0) (later s t ps h both.1)
  where
    further : (u : ℤ) → int_lt t u ≡ true → int_lt s u ≡ true
    further u i = grind (arith, ints)

-- later than a moment are all where the first is and the others rise
above_first : (t : ℤ) (ps : List Pair) → rise_from t ps ≡ (list_all (λ q. int_lt t q.t) ps && rises ps)
above_first t [] = refl
above_first t (p ∷ ps) = ap (λ b. int_lt t p.t && b) (above_first p.t ps) ∙ by_case (int_lt t p.t) (list_all (λ q. int_lt p.t q.t) ps) refl refl
  where
    by_case : (b c : Bool) → int_lt t p.t ≡ b → list_all (λ q. int_lt p.t q.t) ps ≡ c → (b && (c && rises ps)) ≡ ((b && list_all (λ q. int_lt t q.t) ps) && (c && rises ps))
    by_case true true is js = sym (ap (λ b. b && rises ps) (later t p.t ps is js))
    by_case true false is js = drop_it (list_all (λ q. int_lt t q.t) ps)
      where
        drop_it : (b : Bool) → false ≡ (b && false)
        drop_it true = refl
        drop_it false = refl
    by_case false c is js = refl

-- the moments of a list rise where those behind its first do from there on
pub first_rise : (ps : List StepPair) (d : StepPair) → (length ps ≡ 0 → ⊥) → rise_from (int_of (get_or ps 0 d).moment) (pairs_of (take (length ps - 1) (drop 1 ps))) ≡ rises (pairs_of ps)
first_rise [] d some = absurd (some refl)
first_rise (p ∷ ps) d some = ap (λ qs. rise_from (int_of p.moment) (pairs_of qs)) (take_all (length (p ∷ ps) - 1) ps (omega arith)) ∙ above_first (int_of p.moment) (pairs_of ps)

pub none_rise : (ps : List StepPair) → length ps ≡ 0 → true ≡ rises (pairs_of ps)
none_rise [] none = refl
none_rise (p ∷ ps) none = absurd (omega (arith, none))

-- one step of the walk
step_on : (t : ℤ) (ps : List StepPair) (i : ℕ) (x : StepPair) → i < length ps → x ≡ get_or ps i x
    → rise_from t (pairs_of (drop i ps)) ≡ (int_lt t (int_of x.moment) && rise_from (int_of x.moment) (pairs_of (drop (i + 1) ps)))
step_on t ps i x within at_i = at_drop_more (λ xs. rise_from t (pairs_of xs)) ps i x within
    ∙ ap (λ (y : StepPair). int_lt t (int_of y.moment) && rise_from (int_of y.moment) (pairs_of (drop (i + 1) ps))) (sym at_i)

pub turn : (t u : ℤ) (ps : List StepPair) (i : ℕ) (x : StepPair) (whole : Bool) → rise_from t (pairs_of (drop i ps)) ≡ whole → i < length ps → x ≡ get_or ps i x → u ≡ int_of x.moment → t <ℤ u
    → rise_from u (pairs_of (drop (i + 1) ps)) ≡ whole
turn t u ps i x whole before within at_i is above =
    ap (λ b. b && rise_from u (pairs_of (drop (i + 1) ps))) (sym (is_above t u above))
    ∙ ap (λ z. int_lt t z && rise_from z (pairs_of (drop (i + 1) ps))) is
    ∙ sym (step_on t ps i x within at_i) ∙ before
  where
    is_above : (t u : ℤ) → t <ℤ u → int_lt t u ≡ true
    is_above t u h = grind (arith, ints)

pub stop : (t u : ℤ) (ps : List StepPair) (i : ℕ) (x : StepPair) (whole : Bool) → rise_from t (pairs_of (drop i ps)) ≡ whole → i < length ps → x ≡ get_or ps i x → u ≡ int_of x.moment → u ≤ℤ t → false ≡ whole
stop t u ps i x whole before within at_i is below =
    ap (λ b. b && rise_from (int_of x.moment) (pairs_of (drop (i + 1) ps))) (sym (ap (int_lt t) (sym is) ∙ is_below t u below))
    ∙ sym (step_on t ps i x within at_i) ∙ before
  where
    is_below : (t u : ℤ) → u ≤ℤ t → int_lt t u ≡ false
    is_below t u h = grind (arith, ints)

pub end : (t : ℤ) (ps : List StepPair) (i : ℕ) (whole : Bool) → rise_from t (pairs_of (drop i ps)) ≡ whole → length ps ≤ i → true ≡ whole
end t ps i whole before done = sym (at_drop_all (λ xs. rise_from t (pairs_of xs)) ps i done) ∙ before
