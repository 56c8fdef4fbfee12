-- The level of a cumulative function as a sum of changes, and its test at their moments.
use Rattle.std.proofs.Common.{◌≡◌, ℕ, suc, ◌+◌, ◌<◌, ◌≤◌, ℤ, pos, ◌+ℤ◌, ◌-ℤ◌, ◌≤ℤ◌, Bool, true, false, ◌&&◌, cond, List, [], ◌∷◌, length, map, take, drop, get_or, refl, sym, ap, ◌∙◌, arith}
use Rattle.std.specs.Prelude.{int_le, slice_get}
use Rattle.std.specs.Ordering.{int_eq}
use Rattle.std.specs.List.{list_all, list_any}
use Rattle.std.proofs.lemmas.Int.{ints}
use Rattle.std.proofs.lemmas.Bool.{or_parts}
use Rattle.std.proofs.lemmas.List.{at_drop_more}
use Rattle.sched_model.specs.declared.types.Shape.{Shape}
use Rattle.sched_model.specs.declared.types.Shape.TheVariants.{Pulse, Step, PulseOf, StepAtStart, StepAtEnd}
use Rattle.sched_model.specs.declared.types.Part.{Part}
use Rattle.sched_model.specs.declared.types.Assignment.{Assignment}
use Rattle.sched_model.specs.declared.types.Window.{Window}
use Rattle.sched_model.specs.declared.changes.Change.{Change}
use Rattle.sched_model.specs.Words.{passes, total}
use Rattle.sched_model.specs.Value.{is_present, start_of, end_of}
use Rattle.sched_model.specs.Cumulative.{shape_at, signed}
use Rattle.sched_model.specs.Changes.{IsInOrder, changes_in, keeps, keeps_at, rise, shape_changes, sum_until}
use Rattle.sched_model.specs.laws.Sums.{pulse_until, step_until, until_append, summed, not_at, is_next, sum_more}

present_until : (b minus : Bool) (cs : List Change) (z t : ℤ) → sum_until t cs ≡ signed minus z → sum_until t (cond b cs []) ≡ signed minus (cond b z (pos 0))
present_until true minus cs z t h = h
present_until false true cs z t h = omega (arith, ints)
present_until false false cs z t h = refl

shape_until : (a : Assignment) (minus : Bool) (s : Shape) (t : ℤ) → sum_until t (shape_changes a minus s) ≡ signed minus (shape_at a s t)
shape_until a minus (Pulse u v h) t = pulse_until minus u v h t
shape_until a minus (Step u h) t = step_until minus u h t
shape_until a minus (PulseOf x h) t = present_until (is_present a x) minus _ _ t (pulse_until minus (start_of a x) (end_of a x) h t)
shape_until a minus (StepAtStart x h) t = present_until (is_present a x) minus _ _ t (step_until minus (start_of a x) h t)
shape_until a minus (StepAtEnd x h) t = present_until (is_present a x) minus _ _ t (step_until minus (end_of a x) h t)

pub parts_until : (a : Assignment) (is : List Part) (t : ℤ) → sum_until t (changes_in a is) ≡ total (map (λ i. signed i.minus (shape_at a i.shape t)) is)
parts_until a [] t = refl
parts_until a (i ∷ is) t = until_append t (shape_changes a i.minus i.shape) (changes_in a is)
    ∙ ap (λ z. z +ℤ sum_until t (changes_in a is)) (shape_until a i.minus i.shape t)
    ∙ ap (λ z. signed i.minus (shape_at a i.shape t) +ℤ z) (parts_until a is t)

-- a sum of changes stays where none is
pub until_same : (cs : List Change) (t : ℤ) → list_any (int_eq t) (map (λ c. c.t) cs) ≡ false → sum_until t cs ≡ sum_until (t -ℤ pos 1) cs
until_same [] t h = refl
until_same (c ∷ cs) t h =
    let parts = or_parts (int_eq t c.t) (list_any (int_eq t) (map (λ c. c.t) cs)) h in
    joined _ _ _ _ (one c.t (rise c) t parts.0) (until_same cs t parts.1)
  where
    one : (u z t : ℤ) → int_eq t u ≡ false → cond (int_le u t) z (pos 0) ≡ cond (int_le u (t -ℤ pos 1)) z (pos 0)
    one u z t e = grind (arith, ints)

    joined : (p q r s : ℤ) → p ≡ q → r ≡ s → p +ℤ r ≡ q +ℤ s
    joined p q r s e f = omega (arith, ints, e, f)

-- the same on what was there before
pub sum_on : (cs : List Change) (i : ℕ) (d : Change) (z level next : ℤ) → level ≡ z +ℤ total (map rise (take i cs)) → i < length cs → next ≡ level +ℤ rise (get_or cs i d) → next ≡ z +ℤ total (map rise (take (i + 1) cs))
sum_on cs i d z level next before h is =
    is ∙ ap (λ y. y +ℤ rise (get_or cs i d)) before ∙ regroup z (total (map rise (take i cs))) (rise (get_or cs i d))
    ∙ ap (λ y. z +ℤ y) (sum_more cs i d (total (map rise (take i cs))) (total (map rise (take i cs)) +ℤ rise (get_or cs i d)) refl h refl)
  where
    regroup : (p q r : ℤ) → (p +ℤ q) +ℤ r ≡ p +ℤ (q +ℤ r)
    regroup p q r = omega (arith, ints)

-- another change of the moment follows: it is tried there
pub skip_turn : (a : Assignment) (w : Window) (lo hi z : ℤ) (cs : List Change) (i : ℕ) (d : Change) (whole : Bool) → list_all (λ c. keeps_at a w lo hi z cs c.t) (drop i cs) ≡ whole → i < length cs
    → true ≡ passes (λ c. int_eq c.t (get_or cs i d).t) (slice_get cs (i + 1)) → list_all (λ c. keeps_at a w lo hi z cs c.t) (drop (i + 1) cs) ≡ whole
skip_turn a w lo hi z cs i d whole before h follows =
    let next = is_next cs (i + 1) (get_or cs i d).t d follows in
    at_drop_more (list_all p) cs (i + 1) d next.0
    ∙ doubled (p (get_or cs (i + 1) d)) (list_all p (drop (i + 1 + 1) cs))
    ∙ ap (λ t. keeps_at a w lo hi z cs t && (p (get_or cs (i + 1) d) && list_all p (drop (i + 1 + 1) cs))) next.1
    ∙ ap (λ b. p (get_or cs i d) && b) (sym (at_drop_more (list_all p) cs (i + 1) d next.0))
    ∙ sym (at_drop_more (list_all p) cs i d h)
    ∙ before
  where
    p : Change → Bool
    p c = keeps_at a w lo hi z cs c.t

    doubled : (b c : Bool) → (b && c) ≡ (b && (b && c))
    doubled true c = refl
    doubled false c = refl

level_here : (a : Assignment) (w : Window) (lo hi z : ℤ) (cs : List Change) (i : ℕ) (d : Change) (level : ℤ) (b : Bool) → IsInOrder cs → i < length cs
    → false ≡ passes (λ c. int_eq c.t (get_or cs i d).t) (slice_get cs (i + 1)) → level ≡ z +ℤ total (map rise (take (i + 1) cs)) → b ≡ keeps a w lo hi (get_or cs i d).t level
    → b ≡ keeps_at a w lo hi z cs (get_or cs i d).t
level_here a w lo hi z cs i d level b order h last sum is =
    is ∙ ap (keeps a w lo hi (get_or cs i d).t) (sum ∙ ap (λ y. z +ℤ y) (ap (λ n. total (map rise (take n cs))) (one i) ∙ summed cs i d (get_or cs i d).t order h (here (get_or cs i d).t) (λ within. not_at cs (i + 1) (get_or cs i d).t d last within (order i d within))))
  where
    one : (i : ℕ) → i + 1 ≡ suc i
    one i = omega arith

    here : (t : ℤ) → t ≤ℤ t
    here t = omega (arith, ints)

pub keep_turn : (a : Assignment) (w : Window) (lo hi z : ℤ) (cs : List Change) (i : ℕ) (d : Change) (level : ℤ) (whole : Bool) → IsInOrder cs → list_all (λ c. keeps_at a w lo hi z cs c.t) (drop i cs) ≡ whole → i < length cs
    → false ≡ passes (λ c. int_eq c.t (get_or cs i d).t) (slice_get cs (i + 1)) → level ≡ z +ℤ total (map rise (take (i + 1) cs)) → true ≡ keeps a w lo hi (get_or cs i d).t level
    → list_all (λ c. keeps_at a w lo hi z cs c.t) (drop (i + 1) cs) ≡ whole
keep_turn a w lo hi z cs i d level whole order before h last sum is =
    ap (λ b. b && list_all (λ c. keeps_at a w lo hi z cs c.t) (drop (i + 1) cs)) (level_here a w lo hi z cs i d level true order h last sum is)
    ∙ sym (at_drop_more (list_all (λ c. keeps_at a w lo hi z cs c.t)) cs i d h) ∙ before

pub keep_stop : (a : Assignment) (w : Window) (lo hi z : ℤ) (cs : List Change) (i : ℕ) (d : Change) (level : ℤ) (whole : Bool) → IsInOrder cs → list_all (λ c. keeps_at a w lo hi z cs c.t) (drop i cs) ≡ whole → i < length cs
    → false ≡ passes (λ c. int_eq c.t (get_or cs i d).t) (slice_get cs (i + 1)) → level ≡ z +ℤ total (map rise (take (i + 1) cs)) → false ≡ keeps a w lo hi (get_or cs i d).t level
    → false ≡ whole
keep_stop a w lo hi z cs i d level whole order before h last sum is =
    ap (λ b. b && list_all (λ c. keeps_at a w lo hi z cs c.t) (drop (i + 1) cs)) (level_here a w lo hi z cs i d level false order h last sum is)
    ∙ sym (at_drop_more (list_all (λ c. keeps_at a w lo hi z cs c.t)) cs i d h) ∙ before
