-- The load of some parts as a sum of changes, and the levels behind the last change of each moment.
use Rattle.std.proofs.Common.{◌≡◌, inl, inr, ℕ, zero, suc, ◌+◌, ◌<◌, ◌≤◌, ℤ, pos, ◌+ℤ◌, ◌≤ℤ◌, ◌<ℤ◌, Bool, true, false, cond, List, [], ◌∷◌, ◌++◌, length, map, take, set, get_or, refl, sym, ap, subst, ◌∙◌, arith}
use Rattle.std.specs.Prelude.{int_le, slice_get}
use Rattle.std.specs.Ordering.{int_eq}
use Rattle.std.specs.List.{swap}
use Rattle.std.specs.List.Sorted.{IsPermutation}
use Rattle.std.proofs.lemmas.Int.{ints}
use Rattle.std.proofs.Math.ListN.{get_or-append}
use Rattle.std.proofs.lemmas.List.{length-set, length-append, get_or_default}
use Rattle.base_laws.specs.laws.Numbers.{below_or_last}
use Rattle.base_laws.specs.laws.Places.{newest}
use Rattle.std.proofs.lemmas.List.Sorted.{IsPermutation-keeps}
use Rattle.sched_model.specs.declared.types.Shape.{Shape}
use Rattle.sched_model.specs.declared.types.Shape.TheVariants.{Pulse, Step, PulseOf, StepAtStart, StepAtEnd}
use Rattle.sched_model.specs.declared.types.Part.{Part}
use Rattle.sched_model.specs.Words.{passes, total}
use Rattle.sched_model.specs.Cumulative.{signed}
use Rattle.region.specs.Cells.{Region}
use Rattle.sched_model.specs.declared.changes.Change.{Change}
use Rattle.refute_cumul.specs.declared.profile.Level.{Level}
use Rattle.refute_cumul.specs.code.Loads.{bounded, height_at, load_of, load}
use Rattle.sched_model.specs.Changes.{IsInOrder, rise, sum_until}
use Rattle.refute_cumul.specs.code.Profiles.{IsRising, shape_changes, part_changes, load_changes, level_from, level_in}
use Rattle.sched_model.specs.laws.Sums.{pulse_until, step_until, until_append, until_permuted, first_least, order_tail, until_later, summed, not_at, is_next}

zero_signed : (minus : Bool) → pos 0 ≡ signed minus (pos 0)
zero_signed true = omega (arith, ints)
zero_signed false = refl

shape_until : (minus : Bool) (s : Shape) (t : ℤ) → sum_until t (shape_changes minus s) ≡ signed minus (height_at s t)
shape_until minus (Pulse u v h) t = pulse_until minus u v h t
shape_until minus (Step u h) t = step_until minus u h t
shape_until minus (PulseOf x h) t = zero_signed minus
shape_until minus (StepAtStart x h) t = zero_signed minus
shape_until minus (StepAtEnd x h) t = zero_signed minus

pub parts_until : (r : Region) (below : Bool) (is : List Part) (t : ℤ) → sum_until t (load_changes r below is) ≡ load r below is t
parts_until r below [] t = refl
parts_until r below (i ∷ is) t = until_append t (part_changes (bounded r below i)) (load_changes r below is)
    ∙ ap (λ z. z +ℤ sum_until t (load_changes r below is)) (shape_until (bounded r below i).minus (bounded r below i).shape t)
    ∙ ap (λ z. load_of (bounded r below i) t +ℤ z) (parts_until r below is t)

-- the levels that are there so far, for the moments before the next change
pub record AreLevels (cs : List Change) (i : ℕ) (ps : List Level) : Type 0 where
  pub rising : IsRising ps
  pub early : (k n : ℕ) (d : Level) (e : Change) → k < length ps → i ≤ n → n < length cs → (get_or ps k d).t <ℤ (get_or cs n e).t
  pub value : (t : ℤ) → ((e : Change) → i < length cs → t <ℤ (get_or cs i e).t) → level_in ps t ≡ sum_until t cs

farther : (p q r : ℤ) → p <ℤ q → q ≤ℤ r → p <ℤ r
farther p q r e f = omega (arith, ints, e, f)

-- no later change is earlier
later_least : (cs : List Change) (i k : ℕ) (d : Change) → IsInOrder cs → i ≤ k → k < length cs → (get_or cs i d).t ≤ℤ (get_or cs k d).t
later_least [] i k d order le h = absurd (omega (arith, h))
later_least (c ∷ cs) zero zero d order le h = omega (arith, ints)
later_least (c ∷ cs) zero (suc k) d order le h = first_least cs c order k d (omega (arith, h))
later_least (c ∷ cs) (suc i) zero d order le h = absurd (omega (arith, le))
later_least (c ∷ cs) (suc i) (suc k) d order le h = later_least cs i k d (order_tail c cs order) (omega (arith, le)) (omega (arith, h))

pub no_levels : (cs : List Change) → IsInOrder cs → AreLevels cs 0 []
no_levels cs order = record {
  rising = λ i k d le h. absurd (omega (arith, h));
  early = λ k n d e h le within. absurd (omega (arith, h));
  value = λ t before. sym (until_later t cs (λ k d h. farther _ _ _ (before d (omega (arith, h))) (later_least cs 0 k d order (omega arith) h)));
}

-- another change of the moment follows
pub same_moment : (cs : List Change) (i : ℕ) (ps : List Level) (d : Change) → AreLevels cs i ps → true ≡ passes (λ c. int_eq c.t (get_or cs i d).t) (slice_get cs (i + 1)) → AreLevels cs (i + 1) ps
same_moment cs i ps d so_far follows = record {
  rising = so_far.rising;
  early = λ k n e f h le within. so_far.early k n e f h (omega (arith, le)) within;
  value = λ t before. so_far.value t (λ e within. let next = is_next cs (i + 1) (get_or cs i d).t d follows in
      subst (λ z. t <ℤ z) (next.1 ∙ ap (λ c. c.t) (get_or_default cs i d e within)) (before d next.0));
}

level_until : (ps : List Level) (p : Level) (z t : ℤ) → t <ℤ p.t → level_from z (ps ++ p ∷ []) t ≡ level_from z ps t
level_until [] p z t h = too_late (int_le p.t t) p.level z (before p.t t h)
  where
    before : (u t : ℤ) → t <ℤ u → int_le u t ≡ false
    before u t h = grind (arith, ints, h)

    too_late : (b : Bool) (y z : ℤ) → b ≡ false → cond b y z ≡ z
    too_late true y z h = cc
    too_late false y z h = refl
level_until (q ∷ ps) p z t h = ap (λ y. cond (int_le q.t t) y z) (level_until ps p q.level t h)

taken : (u t y z : ℤ) → u ≤ℤ t → cond (int_le u t) y z ≡ y
taken u t y z h = grind (arith, ints, h)

level_last : (ps : List Level) (p : Level) (z t : ℤ) → ((k : ℕ) (d : Level) → k < length ps → (get_or ps k d).t ≤ℤ t) → p.t ≤ℤ t → level_from z (ps ++ p ∷ []) t ≡ p.level
level_last [] p z t all h = taken p.t t p.level z h
level_last (q ∷ ps) p z t all h = taken q.t t (level_from q.level (ps ++ p ∷ []) t) z (all 0 q (omega arith)) ∙ level_last ps p q.level t (λ k d within. all (suc k) d (omega (arith, within))) h

put_rising : (ps : List Level) (p : Level) → IsRising ps → ((k : ℕ) (d : Level) → k < length ps → (get_or ps k d).t <ℤ p.t) → IsRising (ps ++ p ∷ [])
put_rising ps p rising early i k d le h = elim (below_or_last k (length ps) (omega (arith, h, length-append ps (p ∷ [])))) [
  | inl inside ↦ subst (λ q. q.t <ℤ (get_or (ps ++ p ∷ []) k d).t) (sym (get_or-append ps (p ∷ []) d i (omega (arith, le, inside))))
      (subst (λ q. (get_or ps i d).t <ℤ q.t) (sym (get_or-append ps (p ∷ []) d k inside)) (rising i k d le inside))
  | inr last ↦ subst (λ q. q.t <ℤ (get_or (ps ++ p ∷ []) k d).t) (sym (get_or-append ps (p ∷ []) d i (omega (arith, le, last))))
      (subst (λ q. (get_or ps i d).t <ℤ q.t) (sym (newest k ps p d last)) (early i d (omega (arith, le, last))))
]

-- behind the last change of a moment its level is put
pub next_moment : (cs : List Change) (i : ℕ) (ps : List Level) (d : Change) (level : ℤ) → IsInOrder cs → AreLevels cs i ps → i < length cs
    → false ≡ passes (λ c. int_eq c.t (get_or cs i d).t) (slice_get cs (i + 1)) → level ≡ total (map rise (take (i + 1) cs)) → AreLevels cs (i + 1) (ps ++ record { t = (get_or cs i d).t; level = level } ∷ [])
next_moment cs i ps d level order so_far within last sum =
    let p : Level = record { t = (get_or cs i d).t; level = level } in
    record {
      rising = put_rising ps p so_far.rising (λ k e h. so_far.early k i e d h (omega arith) within);
      early = λ k n e f h le inside. elim (below_or_last k (length ps) (omega (arith, h, length-append ps (p ∷ [])))) [
        | inl old ↦ subst (λ q. q.t <ℤ (get_or cs n f).t) (sym (get_or-append ps (p ∷ []) e k old)) (so_far.early k n e f old (omega (arith, le)) inside)
        | inr new' ↦ subst (λ q. q.t <ℤ (get_or cs n f).t) (sym (newest k ps p e new'))
            (subst (λ q. (get_or cs i d).t <ℤ q.t) (get_or_default cs n d f inside) (farther _ _ _ (gap (omega (arith, le, inside))) (later_least cs (i + 1) n d order le inside)))
      ];
      value = λ t before. by_moment t before (int_le p.t t) refl;
    }
  where
    gap : i + 1 < length cs → (get_or cs i d).t <ℤ (get_or cs (i + 1) d).t
    gap more = not_at cs (i + 1) (get_or cs i d).t d last more (order i d more)

    plus_one : (i : ℕ) → i + 1 ≡ suc i
    plus_one i = omega arith

    less : (u t : ℤ) → int_le u t ≡ false → t <ℤ u
    less u t h = grind (arith, ints, h)

    no_less : (u t : ℤ) → int_le u t ≡ true → u ≤ℤ t
    no_less u t h = grind (arith, ints, h)

    behind : (x y t : ℤ) → x <ℤ y → y ≤ℤ t → x ≤ℤ t
    behind x y t h k = omega (arith, ints, h, k)

    by_moment : (t : ℤ) → ((e : Change) → i + 1 < length cs → t <ℤ (get_or cs (i + 1) e).t) → (b : Bool) → int_le (get_or cs i d).t t ≡ b → level_in (ps ++ record { t = (get_or cs i d).t; level = level } ∷ []) t ≡ sum_until t cs
    by_moment t before false is =
        level_until ps (record { t = (get_or cs i d).t; level = level }) (pos 0) t (less (get_or cs i d).t t is)
        ∙ so_far.value t (λ e h. subst (λ q. t <ℤ q.t) (get_or_default cs i d e h) (less (get_or cs i d).t t is))
    by_moment t before true is =
        let here = no_less (get_or cs i d).t t is in
        level_last ps (record { t = (get_or cs i d).t; level = level }) (pos 0) t (λ k e h. behind (get_or ps k e).t (get_or cs i d).t t (so_far.early k i e d h (omega arith) within) here) here
        ∙ sum ∙ ap (λ n. total (map rise (take n cs))) (plus_one i)
        ∙ summed cs i d t order within here (before d)

-- sorted changes are the load
pub sorted_load : (r : Region) (below : Bool) (is : List Part) (cs ds : List Change) (t : ℤ) → cs ≡ load_changes r below is → IsPermutation cs ds → sum_until t ds ≡ load r below is t
sorted_load r below is cs ds t same moved = until_permuted t cs ds moved ∙ ap (sum_until t) same ∙ parts_until r below is t

pub as_long : (cs ds : List Change) → IsPermutation cs ds → length ds ≡ length cs
as_long cs ds moved = IsPermutation-keeps cs (λ zs. length zs ≡ length cs) refl (λ l i j in_i in_j e. length-swap l i j ∙ e) ds moved
  where
    length-swap : (l : List Change) (i j : ℕ) → length (swap l i j) ≡ length l
    length-swap [] i j = refl
    length-swap (d ∷ l) i j = length-set (set (d ∷ l) i (get_or (d ∷ l) j d)) j (get_or (d ∷ l) i d) ∙ length-set (d ∷ l) i (get_or (d ∷ l) j d)
