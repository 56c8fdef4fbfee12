-- What a guess adds stays between changes.
use Rattle.std.specs.Prelude.{◌≡◌, ℕ, suc, ◌+◌, ◌<◌, ◌≤◌, ℤ, pos, ◌+ℤ◌, ◌-ℤ◌, ◌≤ℤ◌, ◌<ℤ◌, Bool, true, false, not, ◌&&◌, if◌then◌else◌, List, [], ◌∷◌, length, map, int_le, int_lt, Option, Some, None, IfSome, IfNone, is_some}
use Rattle.std.proofs.Common.{refl, sym, ap, subst, ◌∙◌, arith, get_or, inl, inr}
use Rattle.std.proofs.lemmas.Int.{ints}
use Rattle.std.proofs.lemmas.List.{get_or_default}
use Rattle.base_laws.specs.laws.Numbers.{below_or_last}
use Rattle.sched_model.specs.declared.types.Shape.TheVariants.{Pulse, Step}
use Rattle.sched_model.specs.declared.types.Part.{Part}
use Rattle.sched_model.specs.Words.{total}
use Rattle.sched_model.specs.Cumulative.{between, signed}
use Rattle.region.specs.Cells.{Region}
use Rattle.refute_cumul.specs.declared.profile.Level.{Level}
use Rattle.refute_cumul.specs.code.Loads.{bounded, height_at, is_from, load_of, load}
use Rattle.refute_cumul.specs.code.Profiles.{level_in, IsFirstAbove, StaysBelow}
use Rattle.prop_cumul.specs.code.Extra.{extra, gain, IsUnmoved, IsStillOf, AreStill, IsStill, IsRaisedAbove, StaysLow}

trans : (x y z : ℤ) → x ≤ℤ y → y ≤ℤ z → x ≤ℤ z
trans x y z h k = omega (arith, ints, h, k)

less_up : (x y z : ℤ) → x <ℤ y → y ≤ℤ z → x <ℤ z
less_up x y z h k = omega (arith, ints, h, k)

-- a moment that lies in between
pub unmoved_inside : (a u to : ℤ) → a <ℤ u → u <ℤ to → IsUnmoved a u to u
unmoved_inside a u to h k = record {
  later = h;
  within = omega (arith, ints, k);
  same = λ t since until. neither u t a until h;
}
  where
    neither : (u t a : ℤ) → t <ℤ u → a <ℤ u → int_le u t ≡ int_le u a
    neither u t a h k = grind (arith, ints, h, k)

pub unmoved_outside : (a u to : ℤ) → a <ℤ to → (int_lt a u && int_lt u to) ≡ false → IsUnmoved a u to to
unmoved_outside a u to some out = record { later = some; within = omega (arith, ints); same = λ t since until. alike a u to t since until out }
  where
    alike : (a u to t : ℤ) → a ≤ℤ t → t <ℤ to → (int_lt a u && int_lt u to) ≡ false → int_le u t ≡ int_le u a
    alike a u to t h k out = grind (arith, ints, h, k, out)

turned : (v t : ℤ) → int_lt t v ≡ not (int_le v t)
turned v t = grind (arith, ints)

between_still : (u v h t a : ℤ) → int_le u t ≡ int_le u a → int_le v t ≡ int_le v a → between u v h t ≡ between u v h a
between_still u v h t a first second =
    ap (λ b. if b && int_lt t v then h else pos 0) first
    ∙ ap (λ b. if int_le u a && b then h else pos 0) (turned v t ∙ ap not second ∙ sym (turned v a))

pub pulse_still : (i : Part) (u v h a to m n : ℤ) → i.shape ≡ Pulse u v h → IsUnmoved a v to m → IsUnmoved a u m n → IsStillOf i a to n
pulse_still i u v h a to m n is second first = record {
  later = first.later;
  within = trans n m to first.within second.within;
  same = λ t since until.
      ap (λ s. signed i.minus (height_at s t)) is
      ∙ ap (signed i.minus) (between_still u v h t a (first.same t since until) (second.same t since (less_up t n m until first.within)))
      ∙ sym (ap (λ s. signed i.minus (height_at s a)) is);
}

pub step_still : (i : Part) (u h a to n : ℤ) → i.shape ≡ Step u h → IsUnmoved a u to n → IsStillOf i a to n
step_still i u h a to n is first = record {
  later = first.later;
  within = first.within;
  same = λ t since until.
      ap (λ s. signed i.minus (height_at s t)) is
      ∙ ap (λ b. signed i.minus (if b then h else pos 0)) (first.same t since until)
      ∙ sym (ap (λ s. signed i.minus (height_at s a)) is);
}

pub both_still : (r q : Region) (below : Bool) (i : Part) (a to m n : ℤ) → IsStillOf (bounded r below i) a to m → IsStillOf (bounded q below i) a m n → AreStill r q below i a to n
both_still r q below i a to m n first second = record {
  later = second.later;
  within = trans n m to second.within first.within;
  plain = λ t since until. first.same t since (less_up t n m until second.within);
  under = second.same;
}

-- the first parts
pub record FirstStill (r q : Region) (below : Bool) (is : List Part) (k : ℕ) (a to n : ℤ) : Type 0 where
  pub later : a <ℤ n
  pub within : n ≤ℤ to
  pub plain : (j : ℕ) (d : Part) → j < k → (t : ℤ) → a ≤ℤ t → t <ℤ n → load_of (bounded r below (get_or is j d)) t ≡ load_of (bounded r below (get_or is j d)) a
  pub under : (j : ℕ) (d : Part) → j < k → (t : ℤ) → a ≤ℤ t → t <ℤ n → load_of (bounded q below (get_or is j d)) t ≡ load_of (bounded q below (get_or is j d)) a

pub none_still : (r q : Region) (below : Bool) (is : List Part) (a to : ℤ) → a <ℤ to → FirstStill r q below is 0 a to to
none_still r q below is a to some = record {
  later = some;
  within = omega (arith, ints);
  plain = λ j d h. absurd (omega (arith, h));
  under = λ j d h. absurd (omega (arith, h));
}

pub more_still : (r q : Region) (below : Bool) (is : List Part) (k : ℕ) (i : Part) (a to m n : ℤ) → FirstStill r q below is k a to m → k < length is → i ≡ get_or is k i → AreStill r q below i a m n → FirstStill r q below is (k + 1) a to n
more_still r q below is k i a to m n before inside at one = record {
  later = one.later;
  within = trans n m to one.within before.within;
  plain = λ j d h t since until. elim (below_or_last j k h) [
    | inl old ↦ before.plain j d old t since (less_up t n m until one.within)
    | inr last ↦ subst (λ p. load_of (bounded r below p) t ≡ load_of (bounded r below p) a) (here j d last) (one.plain t since until)
  ];
  under = λ j d h t since until. elim (below_or_last j k h) [
    | inl old ↦ before.under j d old t since (less_up t n m until one.within)
    | inr last ↦ subst (λ p. load_of (bounded q below p) t ≡ load_of (bounded q below p) a) (here j d last) (one.under t since until)
  ];
}
  where
    here : (j : ℕ) (d : Part) → j ≡ k → i ≡ get_or is j d
    here j d last = at ∙ get_or_default is k i d inside ∙ ap (λ l. get_or is l d) (sym last)

sum_still : (f g : Part → ℤ) (is : List Part) → ((j : ℕ) (d : Part) → j < length is → f (get_or is j d) ≡ g (get_or is j d)) → total (map f is) ≡ total (map g is)
sum_still f g [] each = refl
sum_still f g (i ∷ is) each = ap (λ z. z +ℤ total (map f is)) (each 0 i (omega arith)) ∙ ap (λ z. g i +ℤ z) (sum_still f g is (λ j d h. each (suc j) d (omega (arith, h))))

pub all_still : (r q : Region) (below : Bool) (is : List Part) (k : ℕ) (a to n : ℤ) → FirstStill r q below is k a to n → length is ≤ k → IsStill (extra r q below is) a to n
all_still r q below is k a to n first all = record {
  later = first.later;
  within = first.within;
  same = λ t since until.
      ap (λ z. z -ℤ load r below is t) (sum_still (λ i. load_of (bounded q below i) t) (λ i. load_of (bounded q below i) a) is (λ j d h. first.under j d (omega (arith, h, all)) t since until))
      ∙ ap (λ z. load q below is a -ℤ z) (sum_still (λ i. load_of (bounded r below i) t) (λ i. load_of (bounded r below i) a) is (λ j d h. first.plain j d (omega (arith, h, all)) t since until));
}

-- one part that stands so, and then so
pub gain_still : (i j : Part) (a to m n : ℤ) → IsStillOf i a to m → IsStillOf j a m n → IsStill (gain i j) a to n
gain_still i j a to m n first second = record {
  later = second.later;
  within = trans n m to second.within first.within;
  same = λ t since until.
      ap (λ z. z -ℤ load_of i t) (second.same t since until)
      ∙ ap (λ z. load_of j a -ℤ z) (first.same t since (less_up t n m until second.within));
}

alone : (r q : Region) (below : Bool) (i : Part) (t : ℤ) → gain (bounded r below i) (bounded q below i) t ≡ extra r q below (i ∷ []) t
alone r q below i t = plain (load_of (bounded q below i) t) (load_of (bounded r below i) t)
  where
    plain : (y x : ℤ) → (y -ℤ x) ≡ ((y +ℤ pos 0) -ℤ (x +ℤ pos 0))
    plain y x = omega (arith, ints)

pub one_alone : (is : List Part) (d : Part) → length is ≡ 1 → get_or is 0 d ∷ [] ≡ is
one_alone [] d one = absurd (omega (arith, one))
one_alone (i ∷ []) d one = refl
one_alone (i ∷ j ∷ is) d one = absurd (omega (arith, one))

pub alone_low : (ps : List Level) (r q : Region) (below : Bool) (is : List Part) (d : Part) (from to limit : ℤ) → length is ≡ 1
    → StaysLow ps (gain (bounded r below (get_or is 0 d)) (bounded q below (get_or is 0 d))) from to limit → StaysLow ps (extra r q below is) from to limit
alone_low ps r q below is d from to limit one low =
    subst (λ l. StaysLow ps (extra r q below l) from to limit) (one_alone is d one)
    (λ t since until. subst (λ z. (level_in ps t +ℤ z) ≤ℤ limit) (alone r q below (get_or is 0 d) t) (low t since until))

-- a search that has come to a moment
pub record IsLowUntil (ps : List Level) (e : ℤ → ℤ) (from a limit : ℤ) : Type 0 where
  pub since : from ≤ℤ a
  pub low : (t : ℤ) → from ≤ℤ t → t <ℤ a → (level_in ps t +ℤ e t) ≤ℤ limit

pub low_more : (ps : List Level) (e : ℤ → ℤ) (from a to n limit added less : ℤ) → IsLowUntil ps e from a limit → IsStill e a to n → added ≡ e a → less ≡ limit -ℤ added → StaysBelow ps a n less
    → IsLowUntil ps e from n limit
low_more ps e from a to n limit plus less before still value is_less stays = record {
  since = up from a n before.since still.later;
  low = λ t since until. by_case t since until (int_lt t a) refl;
}
  where
    up : (x y z : ℤ) → x ≤ℤ y → y <ℤ z → x ≤ℤ z
    up x y z h k = omega (arith, ints, h, k)

    under : (z f plus limit less : ℤ) → z ≤ℤ less → f ≡ plus → less ≡ limit -ℤ plus → (z +ℤ f) ≤ℤ limit
    under z f plus limit less h k l = omega (arith, ints, h, k, l)

    earlier : (t a : ℤ) → int_lt t a ≡ true → t <ℤ a
    earlier t a h = grind (arith, ints, h)

    later : (t a : ℤ) → int_lt t a ≡ false → a ≤ℤ t
    later t a h = grind (arith, ints, h)

    by_case : (t : ℤ) → from ≤ℤ t → t <ℤ n → (b : Bool) → int_lt t a ≡ b → (level_in ps t +ℤ e t) ≤ℤ limit
    by_case t since until true is = before.low t since (earlier t a is)
    by_case t since until false is = under (level_in ps t) (e t) plus limit less (stays t (later t a is) until) (still.same t (later t a is) until ∙ sym value) is_less

pub raised : (ps : List Level) (e : ℤ → ℤ) (from a to n limit added less t : ℤ) → IsLowUntil ps e from a limit → IsStill e a to n → added ≡ e a → less ≡ limit -ℤ added → IsFirstAbove ps a n less t
    → IsRaisedAbove ps e from to limit t
raised ps e from a to n limit plus less t before still value is_less found = (
  trans from a t before.since found.0,
  less_up t n to found.1 still.within,
  over (level_in ps t) (e t) plus limit less found.2 (still.same t found.0 found.1 ∙ sym value) is_less,
)
  where
    over : (z f plus limit less : ℤ) → less <ℤ z → f ≡ plus → less ≡ limit -ℤ plus → limit <ℤ (z +ℤ f)
    over z f plus limit less h k l = omega (arith, ints, h, k, l)

pub if_some_so : {X : Type 0} {P Q : X → Type 0} (o : Option X) → ((x : X) → P x → Q x) → IfSome o P → IfSome o Q
if_some_so None f p = tt
if_some_so (Some x) f p = f x p

pub if_none_so : {X : Type 0} {P Q : Type 0} (o : Option X) → (P → Q) → IfNone o P → IfNone o Q
if_none_so None f p = f p
if_none_so (Some x) f p = tt

pub decided : {X : Type 0} (o : Option X) (h : Bool) → IfSome o (λ x. h ≡ true) → IfNone o (h ≡ false) → is_some o ≡ h
decided None h some none = sym none
decided (Some x) h some none = sym some

-- a moment from the first until before the second
pub from_first : (u v t : ℤ) → is_from u v t ≡ true → u ≤ℤ t
from_first u v t h = grind (arith, ints, h)

pub until_second : (u v t : ℤ) → is_from u v t ≡ true → t <ℤ v
until_second u v t h = grind (arith, ints, h)
