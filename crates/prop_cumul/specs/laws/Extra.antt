-- A guess on an interval adds to the load of its parts alone.
use Rattle.std.specs.Prelude.{◌≡◌, ℕ, ℤ, pos, ◌+ℤ◌, ◌-ℤ◌, Bool, true, false, List, [], ◌∷◌, cond, nat_eq}
use Rattle.std.specs.List.{filter}
use Rattle.std.proofs.Common.{refl, sym, ap, ◌∙◌, arith}
use Rattle.std.proofs.lemmas.Int.{ints}
use Rattle.std.proofs.lemmas.Bool.{or_parts}
use Rattle.std.proofs.lemmas.Bool.Decides.{nat_tests}
use Rattle.sched_base.specs.declared.ids.Itv.{Itv}
use Rattle.sched_model.specs.declared.types.Shape.{Shape}
use Rattle.sched_model.specs.declared.types.Shape.TheVariants.{Pulse, Step, PulseOf, StepAtStart, StepAtEnd}
use Rattle.sched_model.specs.declared.types.Part.{Part}
use Rattle.sched_model.specs.Data.{same, has}
use Rattle.region.specs.declared.types.Topic.{Topic}
use Rattle.region.specs.declared.types.Topic.TheVariants.{One, Two}
use Rattle.region.specs.declared.types.Guess.{Guess}
use Rattle.region.specs.Cells.{Region, bounds_of}
use Rattle.region.specs.Claims.{guessed}
use Rattle.region.specs.Guesses.{topic, assumed, with_guess}
use Rattle.region.specs.laws.Intervals.{bounds_elsewhere}
use Rattle.findings.specs.code.Search.{is_on}
use Rattle.refute_cumul.specs.code.Loads.{bounded_of, bounded_shape, is_minus, bounded, load_of, load}
use Rattle.refute_cumul.specs.Listed.{shape_names}
use Rattle.prop_cumul.specs.code.Tables.{is_of}
use Rattle.prop_cumul.specs.code.Extra.{extra}
use Rattle.sched_model.specs.laws.Members.{same_not}

-- the same is known of each other interval
abbrev pub SameElsewhere : Region → Region → Itv → Type 0
SameElsewhere r q x = (y : Itv) → same x y ≡ false → bounds_of r y ≡ bounds_of q y

shape_elsewhere : (r q : Region) (x : Itv) (minus : Bool) (s : Shape) → SameElsewhere r q x → has (shape_names s) x ≡ false → bounded_shape r minus s ≡ bounded_shape q minus s
shape_elsewhere r q x minus (Pulse u v h) other away = refl
shape_elsewhere r q x minus (Step u h) other away = refl
shape_elsewhere r q x minus (PulseOf y h) other away = ap (λ c. bounded_of minus c (PulseOf y h)) (other y (or_parts (same x y) false away).0)
shape_elsewhere r q x minus (StepAtStart y h) other away = ap (λ c. bounded_of minus c (StepAtStart y h)) (other y (or_parts (same x y) false away).0)
shape_elsewhere r q x minus (StepAtEnd y h) other away = ap (λ c. bounded_of minus c (StepAtEnd y h)) (other y (or_parts (same x y) false away).0)

part_elsewhere : (r q : Region) (x : Itv) (below : Bool) (i : Part) → SameElsewhere r q x → is_of x i ≡ false → (t : ℤ) → load_of (bounded r below i) t ≡ load_of (bounded q below i) t
part_elsewhere r q x below i other away t = ap (λ s. load_of (record { minus = is_minus below i.minus; shape = s }) t) (shape_elsewhere r q x (is_minus below i.minus) i.shape other away)

none_added : pos 0 ≡ pos 0 +ℤ (pos 0 -ℤ pos 0)
none_added = omega (arith, ints)

added : (a b p q s d : ℤ) → q ≡ p +ℤ (d -ℤ s) → (b +ℤ q) ≡ (a +ℤ p) +ℤ ((b +ℤ d) -ℤ (a +ℤ s))
added a b p q s d h = omega (arith, ints, h)

kept : (a b p q s d : ℤ) → a ≡ b → q ≡ p +ℤ (d -ℤ s) → (b +ℤ q) ≡ (a +ℤ p) +ℤ (d -ℤ s)
kept a b p q s d h k = omega (arith, ints, h, k)

pub extra_alone : (r q : Region) (x : Itv) (below : Bool) (is : List Part) (t : ℤ) → SameElsewhere r q x → load q below is t ≡ load r below is t +ℤ extra r q below (filter (is_of x) is) t
extra_alone r q x below [] t other = none_added
extra_alone r q x below (i ∷ is) t other = by_case (is_of x i) refl (extra_alone r q x below is t other)
  where
    by_case : (b : Bool) → is_of x i ≡ b → load q below is t ≡ load r below is t +ℤ extra r q below (filter (is_of x) is) t
        → load q below (i ∷ is) t ≡ load r below (i ∷ is) t +ℤ extra r q below (cond b (i ∷ filter (is_of x) is) (filter (is_of x) is)) t
    by_case true e rest = added (load_of (bounded r below i) t) (load_of (bounded q below i) t) (load r below is t) (load q below is t) (load r below (filter (is_of x) is) t) (load q below (filter (is_of x) is) t) rest
    by_case false e rest = kept (load_of (bounded r below i) t) (load_of (bounded q below i) t) (load r below is t) (load q below is t) (load r below (filter (is_of x) is) t) (load q below (filter (is_of x) is) t) (part_elsewhere r q x below i other e t) rest

same_is : (x y : Itv) → same x y ≡ true → x ≡ y
same_is x y h = ap (λ n. record { 0 = n }) (number x.0 y.0 h)
  where
    number : (i j : ℕ) → nat_eq i j ≡ true → i ≡ j
    number i j h = grind (arith, nat_tests, h)

topic_elsewhere : (r : Region) (x : Itv) (t : Topic) → is_on x t ≡ true → SameElsewhere r (assumed t r) x
topic_elsewhere r x (One z c) on y other = sym (bounds_elsewhere z y (guessed c) r (λ e. same_not x y other (sym (e ∙ ap (λ w. w.0) (same_is z x on)))))
topic_elsewhere r x (Two p y z) on w other = cc

pub guess_elsewhere : (r : Region) (x : Itv) (g : Guess) → is_on x (topic g) ≡ true → SameElsewhere r (with_guess g r) x
guess_elsewhere r x g on = topic_elsewhere r x (topic g) on
