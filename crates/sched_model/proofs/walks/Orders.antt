-- Steps of walks over an order.
use Rattle.std.proofs.Common.{◌≡◌, inl, inr, ℕ, ◌-◌, take, zero, suc, ◌+◌, ◌<◌, ◌≤◌, Bool, true, false, not, ◌&&◌, ◌||◌, List, [], ◌∷◌, ◌++◌, length, drop, get_or, refl, sym, ap, ◌∙◌, arith}
use Rattle.std.specs.List.{list_all}
use Rattle.std.proofs.lemmas.Bool.{and_from, and_left, and_right, or_cases, or_from, or_left, or_parts, or_right, not_from_true, not_from_false, eq-eqb, eqb-true, eqb-false, ne_eqb}
use Rattle.std.proofs.lemmas.List.Folds.{list_all-append}
use Rattle.std.proofs.lemmas.List.{at_drop_more, take_rest}
use Rattle.sched_base.specs.declared.ids.Itv.{Itv}
use Rattle.sched_model.specs.Data.{same, has}
use Rattle.sched_model.specs.Sequence.{stands_before, stands_next}
use Rattle.sched_model.specs.laws.Members.{has_last}

and_false : (p : Bool) → (p && false) ≡ false
and_false true = refl
and_false false = refl

-- who isn't in an order has nobody before him
not_before : (zs : List Itv) (x y : Itv) → has zs y ≡ false → stands_before zs x y ≡ false
not_before [] x y h = refl
not_before (z ∷ zs) x y h =
    let rest = or_parts _ (has zs y) h in
    ap (λ b. (same z x && b) || stands_before zs x y) rest.1 ∙ ap (λ b. b || stands_before zs x y) (and_false (same z x)) ∙ not_before zs x y rest.1

absorbed : (p q : Bool) → (p ≡ false → q ≡ false) → (p || q) ≡ p
absorbed true q h = refl
absorbed false q h = h refl

pub before_here : (xs : List Itv) (i : ℕ) (d x y : Itv) (b whole : Bool) → stands_before (drop i xs) x y ≡ whole → i < length xs → true ≡ same (get_or xs i d) x
    → b ≡ has (take (length xs - (i + 1)) (drop (i + 1) xs)) y → b ≡ whole
before_here xs i d x y b whole before within here is =
    is ∙ ap (λ zs. has zs y) (take_rest xs (i + 1))
    ∙ sym (absorbed (has (drop (i + 1) xs) y) (stands_before (drop (i + 1) xs) x y) (not_before (drop (i + 1) xs) x y))
    ∙ ap (λ b. (b && has (drop (i + 1) xs) y) || stands_before (drop (i + 1) xs) x y) here
    ∙ sym (at_drop_more (λ zs. stands_before zs x y) xs i d within)
    ∙ before

-- the last of an order stands next before nobody
pub next_end : (xs : List Itv) (i : ℕ) (x y : Itv) → length xs ≤ i + 1 → stands_next (drop i xs) x y ≡ false
next_end [] zero x y past = refl
next_end [] (suc i) x y past = refl
next_end (z ∷ []) zero x y past = refl
next_end (z ∷ w ∷ zs) zero x y past = absurd (omega (arith, past))
next_end (z ∷ zs) (suc i) x y past = next_end zs i x y (omega (arith, past))

-- nobody stands before one who isn't behind the first
before_none : (z : Itv) (zs : List Itv) (y x : Itv) → has zs x ≡ false → stands_before (z ∷ zs) y x ≡ false
before_none z zs y x h =
    ap (λ b. (same z y && b) || stands_before zs y x) h
    ∙ ap (λ b. b || stands_before zs y x) (and_false (same z y))
    ∙ not_before zs y x h

each_before_none : (z : Itv) (zs ys : List Itv) (x : Itv) → has zs x ≡ false → list_all (λ y. not (stands_before (z ∷ zs) y x)) ys ≡ true
each_before_none z zs [] x h = refl
each_before_none z zs (y ∷ ys) x h = and_from _ _ (not_from_false _ (before_none z zs y x h)) (each_before_none z zs ys x h)

itself : (z : Itv) → same z z ≡ true
itself z = eq-eqb z.0 z.0 refl

-- the first stands before each other
first_before : (z : Itv) (zs : List Itv) (x : Itv) → has zs x ≡ true → stands_before (z ∷ zs) z x ≡ true
first_before z zs x h = or_left _ (stands_before zs z x) (and_from (same z z) (has zs x) (itself z) h)

pub none_before_first : (z : Itv) (zs : List Itv) (x : Itv) → not (has zs x) ≡ list_all (λ y. not (stands_before (z ∷ zs) y x)) (z ∷ zs)
none_before_first z zs x = decided (has zs x) refl
  where
    decided : (b : Bool) → has zs x ≡ b → not (has zs x) ≡ list_all (λ y. not (stands_before (z ∷ zs) y x)) (z ∷ zs)
    decided true h = not_from_true _ h ∙ sym (and_left _ (list_all (λ y. not (stands_before (z ∷ zs) y x)) zs) (not_from_true _ (first_before z zs x h)))
    decided false h = not_from_false _ h ∙ sym (each_before_none z zs (z ∷ zs) x h)

-- nobody stands behind one who isn't before the last
behind_none : (front : List Itv) (l x y : Itv) → has front x ≡ false → stands_before (front ++ l ∷ []) x y ≡ false
behind_none [] l x y h = or_from _ false (and_right (same l x) false refl) refl
behind_none (z ∷ zs) l x y h =
    let rest = or_parts (same x z) (has zs x) h in
    or_from _ _ (and_left (same z x) (has (zs ++ l ∷ []) y) (turned z x rest.0)) (behind_none zs l x y rest.1)
  where
    turned : (z x : Itv) → same x z ≡ false → same z x ≡ false
    turned z x h = ne_eqb z.0 x.0 (λ e. eqb-false x.0 z.0 h (sym e))

each_behind_none : (front ys : List Itv) (l x : Itv) → has front x ≡ false → list_all (λ y. not (stands_before (front ++ l ∷ []) x y)) ys ≡ true
each_behind_none front [] l x h = refl
each_behind_none front (y ∷ ys) l x h = and_from _ _ (not_from_false _ (behind_none front l x y h)) (each_behind_none front ys l x h)

-- each other stands before the last
last_behind : (front : List Itv) (l x : Itv) → has front x ≡ true → stands_before (front ++ l ∷ []) x l ≡ true
last_behind [] l x h = cc
last_behind (z ∷ zs) l x h = elim (or_cases (same x z) (has zs x) h) [
  | inl here ↦ or_left _ (stands_before (zs ++ l ∷ []) x l) (and_from (same z x) (has (zs ++ l ∷ []) l) (turned z x here) (has_last zs l))
  | inr later ↦ or_right (same z x && has (zs ++ l ∷ []) l) _ (last_behind zs l x later)
]
  where
    turned : (z x : Itv) → same x z ≡ true → same z x ≡ true
    turned z x h = eq-eqb z.0 x.0 (sym (eqb-true x.0 z.0 h))

pub none_behind_last : (front : List Itv) (l x : Itv) → not (has front x) ≡ list_all (λ y. not (stands_before (front ++ l ∷ []) x y)) (front ++ l ∷ [])
none_behind_last front l x = decided (has front x) refl
  where
    decided : (b : Bool) → has front x ≡ b → not (has front x) ≡ list_all (λ y. not (stands_before (front ++ l ∷ []) x y)) (front ++ l ∷ [])
    decided true h = not_from_true _ h ∙ sym (list_all-append (λ y. not (stands_before (front ++ l ∷ []) x y)) front (l ∷ [])
        ∙ and_right (list_all (λ y. not (stands_before (front ++ l ∷ []) x y)) front) _ (and_left _ true (not_from_true _ (last_behind front l x h))))
    decided false h = not_from_false _ h ∙ sym (each_behind_none front (front ++ l ∷ []) l x h)
