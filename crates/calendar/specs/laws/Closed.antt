-- The closed ranges are those at which the function is 0, as long as they can be, and no moment at which it is 0 is missed.
use Rattle.std.specs.Prelude.{◌≡◌, ℕ, suc, ◌+◌, ◌≤◌, ℤ, pos, neg_ℤ, ◌+ℤ◌, ◌-ℤ◌, ◌≤ℤ◌, ◌<ℤ◌, Bool, true, false, ◌&&◌, ◌||◌, List, [], ◌∷◌, length, nat_le, int_le, int_lt, All}
use Rattle.std.specs.Ordering.{int_eq}
use Rattle.std.specs.List.{list_all, list_any}
use Rattle.std.proofs.lemmas.List.Elements.{All-nil, All-cons}
use Rattle.std.proofs.Common.{refl, sym, ap, ◌∙◌, arith, cond, ◌⊎◌, inl, inr, subst}
use Rattle.std.proofs.lemmas.Int.{ints}
use Rattle.std.proofs.lemmas.Bool.Decides.{nat_tests}
use Rattle.std.proofs.lemmas.Bool.{and_parts, true≢false}
use Rattle.sched_model.specs.Words.{pairwise}
use Rattle.sched_model.specs.Bounds.{is_moment, is_amount}
use Rattle.sched_model.specs.Data.{horizon}
use Rattle.calendar.specs.declared.step.Pair.{Pair}
use Rattle.calendar.specs.Steps.{value_from, value_at, rises, are_steps, range, put, closed_from, closed_of, has_moment, Inside, IsClosed, AreClosed}

-- a fact of each range of a list, and of some range
abbrev pub Each : (Pair → Type 0) → List Pair → Type 0
Each P [] = Unit {0}
Each P (r ∷ rs) = P r × Each P rs

abbrev pub Some : (Pair → Type 0) → List Pair → Type 0
Some P [] = ⊥
Some P (r ∷ rs) = P r ⊎ Some P rs

pub each_more : (P Q : Pair → Type 0) (rs : List Pair) → ((r : Pair) → P r → Q r) → Each P rs → Each Q rs
each_more P Q [] f h = tt
each_more P Q (r ∷ rs) f h = (f r h.0, each_more P Q rs f h.1)

-- before the moments of some pairs they say nothing
silent : (v : ℤ) (ps : List Pair) (t : ℤ) → list_all (λ q. int_lt t q.t) ps ≡ true → value_from v ps t ≡ v
silent v [] t h = refl
silent v (p ∷ ps) t h =
    let both = and_parts (int_lt t p.t) (list_all (λ q. int_lt t q.t) ps) h in
    ap (λ b. value_from (cond b p.v v) ps t) (not_yet p.t t both.0) ∙ silent v ps t both.1
  where
    not_yet : (s t : ℤ) → int_lt t s ≡ true → int_le s t ≡ false
    not_yet s t h = grind (arith, ints)

later : (s t : ℤ) (ps : List Pair) → s ≤ℤ t → list_all (λ q. int_lt t q.t) ps ≡ true → list_all (λ q. int_lt s q.t) ps ≡ true
later s t [] h all = refl
later s t (p ∷ ps) h all = let both = and_parts (int_lt t p.t) (list_all (λ q. int_lt t q.t) ps) all in
    both_true (int_lt s p.t) (list_all (λ q. int_lt s q.t) ps) (earlier p.t both.0) (later s t ps h both.1)
  where
    earlier : (u : ℤ) → int_lt t u ≡ true → int_lt s u ≡ true
    earlier u i = grind (arith, ints)

    both_true : (b c : Bool) → b ≡ true → c ≡ true → (b && c) ≡ true
    both_true b c h i = ap (λ x. x && c) h ∙ i

-- from the moment of the first pair on its value stands in the place of what was before
started : (v : ℤ) (p : Pair) (ps : List Pair) (t : ℤ) → p.t ≤ℤ t → value_from v (p ∷ ps) t ≡ value_from p.v ps t
started v p ps t h = ap (λ b. value_from (cond b p.v v) ps t) (now p.t t h)
  where
    now : (s t : ℤ) → s ≤ℤ t → int_le s t ≡ true
    now s t h = grind (arith, ints)

not_started : (v : ℤ) (p : Pair) (ps : List Pair) (t : ℤ) → t <ℤ p.t → value_from v (p ∷ ps) t ≡ value_from v ps t
not_started v p ps t h = ap (λ b. value_from (cond b p.v v) ps t) (not_yet p.t t h)
  where
    not_yet : (s t : ℤ) → t <ℤ s → int_le s t ≡ false
    not_yet s t h = grind (arith, ints)

abbrev end : ℤ
end = horizon +ℤ pos 1

eq_is : (a b : ℤ) → int_eq a b ≡ true → a ≡ b
eq_is a b h = grind (arith, ints)

ne_is : (a b : ℤ) → int_eq a b ≡ false → a ≡ b → ⊥
ne_is a b h i = true≢false (sym (same a b i) ∙ h)
  where
    same : (a b : ℤ) → a ≡ b → int_eq a b ≡ true
    same a b h = grind (arith, ints)

-- what is left of a walk through the pairs: the function F is v from a moment on, and then goes on by the pairs
record State (F : ℤ → ℤ) (from v : ℤ) (ps : List Pair) : Type 0 where
  is : (t : ℤ) → from ≤ℤ t → F t ≡ value_from v ps t
  low : neg_ℤ horizon ≤ℤ from
  bound : from ≤ℤ horizon
  later : list_all (λ q. int_le from q.t) ps ≡ true
  strict : (v ≡ pos 0 → ⊥) → list_all (λ q. int_lt from q.t) ps ≡ true
  rises : pairwise (λ p q. int_lt p.t q.t) ps ≡ true
  moments : list_all (λ q. int_le q.t horizon) ps ≡ true
  before : v ≡ pos 0 → neg_ℤ horizon <ℤ from → F (from -ℤ pos 1) ≡ pos 0 → ⊥

record First (from : ℤ) (p : Pair) (ps : List Pair) : Type 0 where
  here : from ≤ℤ p.t
  others : list_all (λ q. int_le from q.t) ps ≡ true
  above : list_all (λ q. int_lt p.t q.t) ps ≡ true
  rise : pairwise (λ p q. int_lt p.t q.t) ps ≡ true
  most : p.t ≤ℤ horizon
  moments : list_all (λ q. int_le q.t horizon) ps ≡ true

first_of : (F : ℤ → ℤ) (from v : ℤ) (p : Pair) (ps : List Pair) → State F from v (p ∷ ps) → First from p ps
first_of F from v p ps s =
    let a = and_parts (int_le from p.t) (list_all (λ q. int_le from q.t) ps) s.later in
    let b = and_parts (list_all (λ q. int_lt p.t q.t) ps) (pairwise (λ p q. int_lt p.t q.t) ps) s.rises in
    let c = and_parts (int_le p.t horizon) (list_all (λ q. int_le q.t horizon) ps) s.moments in
    record { here = le_is from p.t a.0; others = a.1; above = b.0; rise = b.1; most = le_is p.t horizon c.0; moments = c.1 }
  where
    le_is : (a b : ℤ) → int_le a b ≡ true → a ≤ℤ b
    le_is a b h = grind (arith, ints)

weaker : (t : ℤ) (ps : List Pair) → list_all (λ q. int_lt t q.t) ps ≡ true → list_all (λ q. int_le t q.t) ps ≡ true
weaker t [] h = refl
weaker t (p ∷ ps) h = let both = and_parts (int_lt t p.t) (list_all (λ q. int_lt t q.t) ps) h in
    ap (λ x. x && list_all (λ q. int_le t q.t) ps) (at_least p.t both.0) ∙ weaker t ps both.1
  where
    at_least : (u : ℤ) → int_lt t u ≡ true → int_le t u ≡ true
    at_least u h = grind (arith, ints)

-- before the first pair the function is what it was
quiet : (F : ℤ → ℤ) (from v : ℤ) (p : Pair) (ps : List Pair) → State F from v (p ∷ ps) → (t : ℤ) → from ≤ℤ t → t <ℤ p.t → F t ≡ v
quiet F from v p ps s t h less =
    s.is t h ∙ not_started v p ps t less ∙ silent v ps t (later t p.t ps (omega (arith, ints, less)) (first_of F from v p ps s).above)

-- at the first pair it is the pair's value
arrived : (F : ℤ → ℤ) (from v : ℤ) (p : Pair) (ps : List Pair) → State F from v (p ∷ ps) → F p.t ≡ p.v
arrived F from v p ps s = let f = first_of F from v p ps s in
    s.is p.t f.here ∙ started v p ps p.t (omega (arith, ints)) ∙ silent p.v ps p.t f.above

-- a pair that changes nothing
go_on : (F : ℤ → ℤ) (from : ℤ) (p : Pair) (ps : List Pair) → State F from (pos 0) (p ∷ ps) → p.v ≡ pos 0 → State F from (pos 0) ps
go_on F from p ps s zero = let f = first_of F from (pos 0) p ps s in
    record { is = λ t h. by_case t h (int_le p.t t) refl; low = s.low; bound = s.bound; later = f.others; strict = λ no_zero. absurd (no_zero refl); rises = f.rise; moments = f.moments; before = s.before }
  where
    lt_is : (a b : ℤ) → int_le a b ≡ false → b <ℤ a
    lt_is a b h = grind (arith, ints)

    le_is : (a b : ℤ) → int_le a b ≡ true → a ≤ℤ b
    le_is a b h = grind (arith, ints)

    by_case : (t : ℤ) → from ≤ℤ t → (b : Bool) → int_le p.t t ≡ b → F t ≡ value_from (pos 0) ps t
    by_case t h true is = s.is t h ∙ started (pos 0) p ps t (le_is p.t t is) ∙ ap (λ v. value_from v ps t) zero
    by_case t h false is = s.is t h ∙ not_started (pos 0) p ps t (lt_is p.t t is)

-- a pair that changes the value, from or to another than 0
turn : (F : ℤ → ℤ) (from v : ℤ) (p : Pair) (ps : List Pair) → State F from v (p ∷ ps) → (p.v ≡ pos 0 → v ≡ pos 0 → ⊥) → State F p.t p.v ps
turn F from v p ps s not_both = let f = first_of F from v p ps s in
    record {
      is = λ t h. s.is t (reach from p.t t f.here h) ∙ started v p ps t h;
      low = reach (neg_ℤ horizon) from p.t s.low f.here;
      bound = f.most;
      later = weaker p.t ps f.above;
      strict = λ no_zero. f.above;
      rises = f.rise;
      moments = f.moments;
      before = λ zero above at. let apart = above_is from p.t (and_parts (int_lt from p.t) (list_all (λ q. int_lt from q.t) ps) (s.strict (not_both zero))).0 in
          not_both zero (sym (quiet F from v p ps s (p.t -ℤ pos 1) (omega (arith, ints, apart)) (omega (arith, ints))) ∙ at);
    }
  where
    reach : (a b c : ℤ) → a ≤ℤ b → b ≤ℤ c → a ≤ℤ c
    reach a b c h i = omega (arith, ints, h, i)

    above_is : (a b : ℤ) → int_lt a b ≡ true → a <ℤ b
    above_is a b h = grind (arith, ints)

-- what is known of a range
pub record Found (F : ℤ → ℤ) (r : Pair) : Type 0 where
  pub some : r.t <ℤ r.v
  pub low : neg_ℤ horizon ≤ℤ r.t
  pub until : r.v ≤ℤ end
  pub zero : (t : ℤ) → Inside r t → F t ≡ pos 0
  pub before : neg_ℤ horizon <ℤ r.t → F (r.t -ℤ pos 1) ≡ pos 0 → ⊥
  pub behind : r.v <ℤ end → F r.v ≡ pos 0 → ⊥

-- and of the ranges from a moment on
record Goes (F : ℤ → ℤ) (from : ℤ) (rs : List Pair) : Type 0 where
  each : Each (Found F) rs
  starts : Each (λ r. from ≤ℤ r.t) rs
  all : (t : ℤ) → from ≤ℤ t → t <ℤ end → F t ≡ pos 0 → Some (λ r. Inside r t) rs
  rows : pairwise (λ r q. int_le r.v q.t) rs ≡ true

behind_all : (v : ℤ) (rs : List Pair) → Each (λ r. v ≤ℤ r.t) rs → list_all (λ q. int_le v q.t) rs ≡ true
behind_all v [] h = refl
behind_all v (r ∷ rs) h = ap (λ b. b && list_all (λ q. int_le v q.t) rs) (is r.t h.0) ∙ behind_all v rs h.1
  where
    is : (u : ℤ) → v ≤ℤ u → int_le v u ≡ true
    is u h = grind (arith, ints)

-- a range in front of those that come later
put_goes : (F : ℤ → ℤ) (from until : ℤ) (rs : List Pair) → (from <ℤ until → Found F (range from until)) → from ≤ℤ until → Goes F until rs → Goes F from (put from until rs)
put_goes F from until rs found least g = by_case (int_lt from until) refl
  where
    lt_is : (a b : ℤ) → int_lt a b ≡ true → a <ℤ b
    lt_is a b h = grind (arith, ints)

    ge_is : (a b : ℤ) → int_lt a b ≡ false → b ≤ℤ a
    ge_is a b h = grind (arith, ints)

    from_until : (r : Pair) → until ≤ℤ r.t → from ≤ℤ r.t
    from_until r h = omega (arith, ints, h, least)

    there : (t : ℤ) → from ≤ℤ t → t <ℤ end → F t ≡ pos 0 → (b : Bool) → int_lt t until ≡ b → Some (λ r. Inside r t) (range from until ∷ rs)
    there t h less zero true is = inl (h, lt_is t until is)
    there t h less zero false is = inr (g.all t (ge_is t until is) less zero)

    by_case : (b : Bool) → int_lt from until ≡ b → Goes F from (cond b (range from until ∷ rs) rs)
    by_case true is = record {
      each = (found (lt_is from until is), g.each);
      starts = (omega (arith, ints), each_more (λ r. until ≤ℤ r.t) (λ r. from ≤ℤ r.t) rs from_until g.starts);
      all = λ t h less zero. there t h less zero (int_lt t until) refl;
      rows = ap (λ b. b && pairwise (λ r q. int_le r.v q.t) rs) (behind_all until rs g.starts) ∙ g.rows;
    }
    by_case false is = record {
      each = g.each;
      starts = each_more (λ r. until ≤ℤ r.t) (λ r. from ≤ℤ r.t) rs from_until g.starts;
      all = λ t h less zero. g.all t (let turned = ge_is from until is in omega (arith, ints, turned, h)) less zero;
      rows = g.rows;
    }

-- no range before the later ones
skip_goes : (F : ℤ → ℤ) (from until : ℤ) (rs : List Pair) → ((t : ℤ) → from ≤ℤ t → t <ℤ until → F t ≡ pos 0 → ⊥) → from ≤ℤ until → Goes F until rs → Goes F from rs
skip_goes F from until rs none least g = record {
  each = g.each;
  starts = each_more (λ r. until ≤ℤ r.t) (λ r. from ≤ℤ r.t) rs (λ r h. omega (arith, ints, h, least)) g.starts;
  all = λ t h less zero. there t h less zero (int_lt t until) refl;
  rows = g.rows;
}
  where
    lt_is : (a b : ℤ) → int_lt a b ≡ true → a <ℤ b
    lt_is a b h = grind (arith, ints)

    ge_is : (a b : ℤ) → int_lt a b ≡ false → b ≤ℤ a
    ge_is a b h = grind (arith, ints)

    there : (t : ℤ) → from ≤ℤ t → t <ℤ end → F t ≡ pos 0 → (b : Bool) → int_lt t until ≡ b → Some (λ r. Inside r t) rs
    there t h less zero true is = absurd (none t h (lt_is t until is) zero)
    there t h less zero false is = g.all t (ge_is t until is) less zero

nothing : (F : ℤ → ℤ) (from : ℤ) → ((t : ℤ) → from ≤ℤ t → t <ℤ end → F t ≡ pos 0 → ⊥) → Goes F from []
nothing F from none = record { each = tt; starts = tt; all = λ t h less zero. none t h less zero; rows = refl }

goes : (F : ℤ → ℤ) (from v : ℤ) (ps : List Pair) → State F from v ps → Goes F from (closed_from from v ps)
goes F from v [] s = by_case (int_eq v (pos 0)) refl
  where
    last : v ≡ pos 0 → from <ℤ end → Found F (range from end)
    last zero less = record { some = less; low = s.low; until = omega (arith, ints); zero = λ t h. s.is t h.0 ∙ zero; before = s.before zero; behind = λ more. absurd (omega (arith, ints, more)) }

    by_case : (b : Bool) → int_eq v (pos 0) ≡ b → Goes F from (cond b (put from end []) [])
    by_case true is = put_goes F from end [] (last (eq_is v (pos 0) is)) (let bound = s.bound in omega (arith, ints, bound)) (nothing F end (λ t h less zero. omega (arith, ints, h, less)))
    by_case false is = nothing F from (λ t h less zero. ne_is v (pos 0) is (sym (s.is t h) ∙ zero))
goes F from v (p ∷ ps) s = by_case (int_eq v (pos 0)) (int_eq p.v (pos 0)) refl refl (goes F from (pos 0) ps) (goes F p.t p.v ps)
  where
    f : First from p ps
    f = first_of F from v p ps s

    cut : v ≡ pos 0 → (p.v ≡ pos 0 → ⊥) → from <ℤ p.t → Found F (range from p.t)
    cut zero other less = record {
      some = less;
      low = s.low;
      until = (let most = f.most in omega (arith, ints, most));
      zero = λ t h. quiet F from v p ps s t h.0 h.1 ∙ zero;
      before = s.before zero;
      behind = λ more at. other (sym (arrived F from v p ps s) ∙ at);
    }

    as_zero : v ≡ pos 0 → State F from (pos 0) (p ∷ ps)
    as_zero zero = subst (λ u. State F from u (p ∷ ps)) zero s

    by_case : (b c : Bool) → int_eq v (pos 0) ≡ b → int_eq p.v (pos 0) ≡ c → (State F from (pos 0) ps → Goes F from (closed_from from (pos 0) ps)) → (State F p.t p.v ps → Goes F p.t (closed_from p.t p.v ps))
        → Goes F from (cond b (cond c (closed_from from (pos 0) ps) (put from p.t (closed_from p.t p.v ps))) (closed_from p.t p.v ps))
    by_case true true is js on turned = on (go_on F from p ps (as_zero (eq_is v (pos 0) is)) (eq_is p.v (pos 0) js))
    by_case true false is js on turned =
        put_goes F from p.t (closed_from p.t p.v ps) (cut (eq_is v (pos 0) is) (ne_is p.v (pos 0) js)) f.here (turned (turn F from v p ps s (λ zero other. ne_is p.v (pos 0) js zero)))
    by_case false c is js on turned =
        skip_goes F from p.t (closed_from p.t p.v ps) (λ t h less zero. ne_is v (pos 0) is (sym (quiet F from v p ps s t h less) ∙ zero)) f.here
        (turned (turn F from v p ps s (λ zero other. ne_is v (pos 0) is other)))

-- what the walk begins with
begun : (ps : List Pair) → rises ps ≡ true → list_all (λ p. is_moment p.t && is_amount p.v) ps ≡ true → State (value_at ps) (neg_ℤ horizon) (pos 0) ps
begun ps up moments = record {
  is = λ t h. refl;
  low = omega (arith, ints);
  bound = omega (arith, ints);
  later = from_moments (λ q. int_le (neg_ℤ horizon) q.t) ps low_of moments;
  strict = λ no_zero. absurd (no_zero refl);
  rises = up;
  moments = from_moments (λ q. int_le q.t horizon) ps high_of moments;
  before = λ zero above. absurd (omega (arith, ints, above));
}
  where
    low_of : (p : Pair) → (is_moment p.t && is_amount p.v) ≡ true → int_le (neg_ℤ horizon) p.t ≡ true
    low_of p h = grind (arith, ints)

    high_of : (p : Pair) → (is_moment p.t && is_amount p.v) ≡ true → int_le p.t horizon ≡ true
    high_of p h = grind (arith, ints)

    from_moments : (test : Pair → Bool) (ps : List Pair) → ((p : Pair) → (is_moment p.t && is_amount p.v) ≡ true → test p ≡ true) → list_all (λ p. is_moment p.t && is_amount p.v) ps ≡ true → list_all test ps ≡ true
    from_moments test [] f h = refl
    from_moments test (p ∷ ps) f h = let both = and_parts (is_moment p.t && is_amount p.v) (list_all (λ p. is_moment p.t && is_amount p.v) ps) h in
        ap (λ b. b && list_all test ps) (f p both.0) ∙ from_moments test ps f both.1

goes_steps : (ps : List Pair) → are_steps ps ≡ true → Goes (value_at ps) (neg_ℤ horizon) (closed_of ps)
goes_steps ps h =
    let one = and_parts (rises ps && list_all (λ p. is_moment p.t && is_amount p.v) ps) (nat_le (length ps) 1000) h in
    let two = and_parts (rises ps) (list_all (λ p. is_moment p.t && is_amount p.v) ps) one.0 in
    goes (value_at ps) (neg_ℤ horizon) (pos 0) ps (begun ps two.0 two.1)

-- the laws: each range is one at which the function is 0, as long as it can be
pub ranges_closed : (ps : List Pair) → are_steps ps ≡ true → Each (IsClosed ps) (closed_of ps)
ranges_closed ps h = each_more (Found (value_at ps)) (IsClosed ps) (closed_of ps) (λ r f. record { some = f.some; from = f.low; until = f.until; zero = f.zero; before = f.before; behind = f.behind }) (goes_steps ps h).each

-- a moment at which it is 0 lies in one of them
pub none_missed : (ps : List Pair) → are_steps ps ≡ true → (t : ℤ) → is_moment t ≡ true → value_at ps t ≡ pos 0 → Some (λ r. Inside r t) (closed_of ps)
none_missed ps h t moment zero = (goes_steps ps h).all t (from_low t moment) (to_high t moment) zero
  where
    from_low : (t : ℤ) → is_moment t ≡ true → neg_ℤ horizon ≤ℤ t
    from_low t h = grind (arith, ints)

    to_high : (t : ℤ) → is_moment t ≡ true → t <ℤ end
    to_high t h = grind (arith, ints)

-- they stand in order
pub ranges_rise : (ps : List Pair) → are_steps ps ≡ true → pairwise (λ r q. int_le r.v q.t) (closed_of ps) ≡ true
ranges_rise ps h = (goes_steps ps h).rows

-- in the words of the subject
pub are_closed : (ps : List Pair) → are_steps ps ≡ true → AreClosed ps (closed_of ps)
are_closed ps steps = record {
  each = all (IsClosed ps) (closed_of ps) (ranges_closed ps steps);
  none_missed = λ t moment zero. some t (closed_of ps) (none_missed ps steps t moment zero);
  order = ranges_rise ps steps;
}
  where
    all : (P : Pair → Type 0) (rs : List Pair) → Each P rs → All P rs
    all P [] h = All-nil P
    all P (r ∷ rs) h = All-cons P r rs h.0 (all P rs h.1)

    some : (t : ℤ) (rs : List Pair) → Some (λ r. Inside r t) rs → list_any (has_moment t) rs ≡ true
    some t [] h = absurd h
    some t (r ∷ rs) (inl here) = or_left (has_moment t r) (list_any (has_moment t) rs) (inside r.t r.v here.0 here.1)
      where
        or_left : (b c : Bool) → b ≡ true → (b || c) ≡ true
        or_left b c h = ap (λ x. x || c) h

        inside : (u v : ℤ) → u ≤ℤ t → t <ℤ v → (int_le u t && int_lt t v) ≡ true
        inside u v h i = grind (arith, ints)
    some t (r ∷ rs) (inr later) = or_right (has_moment t r) (list_any (has_moment t) rs) (some t rs later)
      where
        or_right : (b c : Bool) → c ≡ true → (b || c) ≡ true
        or_right true c h = refl
        or_right false c h = h

-- so said of the ranges themselves
pub ranges_are_closed : (ps rs : List Pair) → are_steps ps ≡ true → rs ≡ closed_of ps → AreClosed ps rs
ranges_are_closed ps rs steps is = subst (AreClosed ps) (sym is) (are_closed ps steps)

-- there is at most one more than pairs
closed_count : (from v : ℤ) (ps : List Pair) → length (closed_from from v ps) ≤ length ps + 1
closed_count from v [] = by_case (int_eq v (pos 0)) (int_lt from end)
  where
    by_case : (b c : Bool) → length (cond b (cond c (range from end ∷ []) []) []) ≤ 1
    by_case true true = omega arith
    by_case true false = omega arith
    by_case false c = omega arith
closed_count from v (p ∷ ps) = by_case (int_eq v (pos 0)) (int_eq p.v (pos 0)) (int_lt from p.t) (closed_count from (pos 0) ps) (closed_count p.t p.v ps)
  where
    by_case : (b c d : Bool) → length (closed_from from (pos 0) ps) ≤ length ps + 1 → length (closed_from p.t p.v ps) ≤ length ps + 1
        → length (cond b (cond c (closed_from from (pos 0) ps) (cond d (range from p.t ∷ closed_from p.t p.v ps) (closed_from p.t p.v ps))) (closed_from p.t p.v ps)) ≤ suc (length ps) + 1
    by_case true true d h i = omega (arith, h)
    by_case true false true h i = omega (arith, i)
    by_case true false false h i = omega (arith, i)
    by_case false c d h i = omega (arith, i)

pub few_closed : (ps rs : List Pair) → are_steps ps ≡ true → rs ≡ closed_of ps → length rs ≤ 1001
few_closed ps rs steps is =
    let few = at_most (length ps) (and_parts (rises ps && list_all (λ p. is_moment p.t && is_amount p.v) ps) (nat_le (length ps) 1000) steps).1 in
    let count = closed_count (neg_ℤ horizon) (pos 0) ps in
    omega (arith, ap length is, few, count)
  where
    at_most : (n : ℕ) → nat_le n 1000 ≡ true → n ≤ 1000
    at_most n h = grind (arith, nat_tests)
