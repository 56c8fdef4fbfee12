-- The changes of a cumulative function, span by span.
use Rattle.std.proofs.Common.{◌≡◌, ℤ, pos, ◌+ℤ◌, ◌-ℤ◌, ◌≤ℤ◌, ◌<ℤ◌, Bool, true, false, not, ◌&&◌, ◌||◌, cond, List, [], ◌∷◌, ◌++◌, Option, Some, None, OnSome, is_some, map, filter, IsPermutation, refl, sym, ap, subst, ◌∙◌, arith}
use Rattle.std.specs.Prelude.{int_le, int_lt}
use Rattle.std.specs.Ordering.{int_eq}
use Rattle.std.specs.List.{list_all, list_any}
use Rattle.std.proofs.lemmas.Bool.{and_from, and_parts}
use Rattle.std.proofs.lemmas.Int.{ints}
use Rattle.std.proofs.lemmas.List.Folds.{list_all-map}
use Rattle.std.proofs.lemmas.List.Elements.{filter-append}
use Rattle.std.proofs.lemmas.List.Sorted.{list_any-IsPermutation}
use Rattle.std.proofs.lemmas.List.{append_assoc}
use Rattle.sched_base.specs.declared.ids.Cum.{Cum}
use Rattle.sched_model.specs.declared.types.Part.{Part}
use Rattle.sched_model.specs.declared.types.Assignment.{Assignment}
use Rattle.sched_model.specs.declared.types.Window.{Window}
use Rattle.sched_model.specs.declared.types.Window.TheVariants.{Always, Moments, During}
use Rattle.sched_model.specs.declared.changes.Change.{Change}
use Rattle.sched_model.specs.declared.changes.Span.{Span}
use Rattle.sched_model.specs.Words.{◌implies◌, is_between, total}
use Rattle.sched_model.specs.Data.{Data, parts_of}
use Rattle.sched_model.specs.Cumulative.{begin_of, corners, is_in_window, is_level_at, level_at, shape_at, signed}
use Rattle.sched_model.specs.Changes.{changes_in, changes_inside, is_inside, keep_inside, keeps_at, rise, sum_until, window_span}
use Rattle.sched_model.specs.laws.Corners.{at_corners, every_moment, every_moment_of}
use Rattle.sched_model.proofs.levels.Moments.{parts_until, until_same}
use Rattle.sched_model.specs.laws.Sums.{until_permuted}
use Rattle.sched_model.specs.laws.Words.{implied, if_implied}

pub on_some : {A : Type 0} (o : Option A) (P Q : Type 0) → (P → Q) → OnSome o P → OnSome o Q
on_some None P Q f h = h
on_some (Some x) P Q f h = f h

pub from_some : {A : Type 0} (o : Option A) (P : Type 0) → is_some o ≡ true → OnSome o P → P
from_some None P h i = cc
from_some (Some x) P h i = i

pub two_inside : (s : Span) (cs : List Change) (u v : Change) → (cs ++ changes_inside s (u ∷ [])) ++ changes_inside s (v ∷ []) ≡ cs ++ changes_inside s (u ∷ v ∷ [])
two_inside s cs u v = append_assoc cs (changes_inside s (u ∷ [])) (changes_inside s (v ∷ [])) ∙ ap (λ xs. cs ++ xs) (sym (filter-append (λ c. is_inside s c.t) (u ∷ []) (v ∷ [])))

-- a test of all, of a list in another order and of what is left of one
all_as_any : (p : Change → Bool) (cs : List Change) → list_all p cs ≡ not (list_any (λ c. not (p c)) cs)
all_as_any p [] = refl
all_as_any p (c ∷ cs) = ap (λ b. p c && b) (all_as_any p cs) ∙ turned (p c) (list_any (λ c. not (p c)) cs)
  where
    turned : (a b : Bool) → (a && not b) ≡ not (not a || b)
    turned true b = refl
    turned false b = refl

all_permuted : (p : Change → Bool) (cs ds : List Change) → IsPermutation cs ds → list_all p ds ≡ list_all p cs
all_permuted p cs ds moved = all_as_any p ds ∙ ap not (sym (list_any-IsPermutation (λ c. not (p c)) cs ds moved)) ∙ sym (all_as_any p cs)

all_filtered : (p q : Change → Bool) (cs : List Change) → list_all p (filter q cs) ≡ list_all (λ c. q c implies p c) cs
all_filtered p q [] = refl
all_filtered p q (c ∷ cs) = put (q c) c (filter q cs) ∙ ap (λ b. (q c implies p c) && b) (all_filtered p q cs)
  where
    put : (b : Bool) (c : Change) (cs : List Change) → list_all p (cond b (c ∷ cs) cs) ≡ ((b implies p c) && list_all p cs)
    put true c cs = refl
    put false c cs = refl

all_from : (p q r : Change → Bool) → ((c : Change) → p c ≡ true → q c ≡ true → r c ≡ true) → (cs : List Change) → list_all p cs ≡ true → list_all q cs ≡ true → list_all r cs ≡ true
all_from p q r each [] h i = refl
all_from p q r each (c ∷ cs) h i =
    let first = and_parts (p c) (list_all p cs) h in
    let second = and_parts (q c) (list_all q cs) i in
    and_from (r c) (list_all r cs) (each c first.0 second.0) (all_from p q r each cs first.1 second.1)

all_each : (p : Change → Bool) → ((c : Change) → p c ≡ true) → (cs : List Change) → list_all p cs ≡ true
all_each p each [] = refl
all_each p each (c ∷ cs) = and_from (p c) (list_all p cs) (each c) (all_each p each cs)

all_alike : (p q r : Change → Bool) → ((c : Change) → r c ≡ true → p c ≡ q c) → (cs : List Change) → list_all r cs ≡ true → list_all p cs ≡ list_all q cs
all_alike p q r same [] h = refl
all_alike p q r same (c ∷ cs) h = let parts = and_parts (r c) (list_all r cs) h in ap (λ b. b && list_all p cs) (same c parts.0) ∙ ap (λ b. q c && b) (all_alike p q r same cs parts.1)

itself : (b : Bool) → (b implies b) ≡ true
itself true = refl
itself false = refl

each_inside : (s : Span) (cs : List Change) → list_all (λ c. is_inside s c.t) (changes_inside s cs) ≡ true
each_inside s cs = all_filtered (λ c. is_inside s c.t) (λ c. is_inside s c.t) cs ∙ all_each (λ c. is_inside s c.t implies is_inside s c.t) (λ c. itself (is_inside s c.t)) cs

inside_from : (s : Span) (t : ℤ) → is_inside s t ≡ true → s.from <ℤ t
inside_from s t h = above s.from s.to t h
  where
    above : (from to t : ℤ) → (int_lt from t && int_le t to) ≡ true → from <ℤ t
    above from to t h = grind (arith, ints)

inside_to : (s : Span) (t : ℤ) → is_inside s t ≡ true → t ≤ℤ s.to
inside_to s t h = below s.from s.to t h
  where
    below : (from to t : ℤ) → (int_lt from t && int_le t to) ≡ true → t ≤ℤ to
    below from to t h = grind (arith, ints)

-- a level inside a span is that at its beginning with the changes inside
split_until : (s : Span) (t : ℤ) → s.from <ℤ t → t ≤ℤ s.to → (cs : List Change) → sum_until t cs ≡ sum_until s.from cs +ℤ sum_until t (changes_inside s cs)
split_until s t above below [] = refl
split_until s t above below (c ∷ cs) = decided (is_inside s c.t) refl (split_until s t above below cs)
  where
    not_yet : (u from to r : ℤ) → (int_lt from u && int_le u to) ≡ true → cond (int_le u from) r (pos 0) ≡ pos 0
    not_yet u from to r h = grind (arith, ints)

    inner : (p q x y z : ℤ) → q ≡ pos 0 → x ≡ y +ℤ z → p +ℤ x ≡ (q +ℤ y) +ℤ (p +ℤ z)
    inner p q x y z none e = omega (arith, ints, none, e)

    alike : (u from to r : ℤ) → (int_lt from u && int_le u to) ≡ false → from <ℤ t → t ≤ℤ to → cond (int_le u t) r (pos 0) ≡ cond (int_le u from) r (pos 0)
    alike u from to r h above below = grind (arith, ints)

    outer : (p q x y z : ℤ) → p ≡ q → x ≡ y +ℤ z → p +ℤ x ≡ (q +ℤ y) +ℤ z
    outer p q x y z same e = omega (arith, ints, same, e)

    decided : (b : Bool) → is_inside s c.t ≡ b → sum_until t cs ≡ sum_until s.from cs +ℤ sum_until t (changes_inside s cs)
        → sum_until t (c ∷ cs) ≡ sum_until s.from (c ∷ cs) +ℤ sum_until t (cond b (c ∷ changes_inside s cs) (changes_inside s cs))
    decided true h e = inner _ _ _ _ _ (not_yet c.t s.from s.to (rise c) h) e
    decided false h e = outer _ _ _ _ _ (alike c.t s.from s.to (rise c) h above below) e

-- the test of sorted changes inside a span on the level at its beginning
pub block_decides : (m : Data) (a : Assignment) (f : Cum) (w : Window) (lo hi : ℤ) (s : Span) (z : ℤ) (ds : List Change) (b : Bool) → IsPermutation (changes_inside s (changes_in a (parts_of m f))) ds
    → z ≡ level_at m a f s.from → b ≡ list_all (λ c. keeps_at a w lo hi z ds c.t) ds → b ≡ keep_inside m a f w lo hi s
block_decides m a f w lo hi s z ds b moved before tested =
    tested
    ∙ all_alike (λ c. keeps_at a w lo hi z ds c.t) (λ c. is_level_at m a f w lo hi c.t) (λ c. is_inside s c.t)
    (λ c inside. ap (λ y. is_in_window a w c.t implies is_between lo hi y) (level c.t inside)) ds (all_permuted (λ c. is_inside s c.t) block ds moved ∙ each_inside s cs)
    ∙ all_permuted (λ c. is_level_at m a f w lo hi c.t) block ds moved
  where
    cs : List Change
    cs = changes_in a (parts_of m f)

    block : List Change
    block = changes_inside s cs

    level : (t : ℤ) → is_inside s t ≡ true → z +ℤ sum_until t ds ≡ level_at m a f t
    level t inside =
        ap (λ y. z +ℤ y) (until_permuted t block ds moved)
        ∙ ap (λ y. y +ℤ sum_until t block) (before ∙ sym (parts_until a (parts_of m f) s.from))
        ∙ sym (split_until s t (inside_from s t inside) (inside_to s t inside) cs)
        ∙ parts_until a (parts_of m f) t

-- where each moment keeps its level, the changes of a span do
pub each_keeps : (m : Data) (a : Assignment) (f : Cum) (w : Window) (lo hi : ℤ) (s : Span) → ((t : ℤ) → is_level_at m a f w lo hi t ≡ true) → keep_inside m a f w lo hi s ≡ true
each_keeps m a f w lo hi s each = all_each (λ c. is_level_at m a f w lo hi c.t) (λ c. each c.t) (changes_inside s (changes_in a (parts_of m f)))

-- a span of one moment
pub one_moment : (m : Data) (a : Assignment) (f : Cum) (w : Window) (lo hi : ℤ) (s : Span) → s.to ≤ℤ (s.from +ℤ pos 1) → is_level_at m a f w lo hi s.to ≡ true → keep_inside m a f w lo hi s ≡ true
one_moment m a f w lo hi s narrow kept =
    all_filtered (λ c. is_level_at m a f w lo hi c.t) (λ c. is_inside s c.t) cs
    ∙ all_each (λ c. is_inside s c.t implies is_level_at m a f w lo hi c.t) (λ c. if_implied (is_inside s c.t) _ (λ inside. ap (is_level_at m a f w lo hi) (the_one c.t s.from s.to (inside_from s c.t inside) (inside_to s c.t inside) narrow) ∙ kept)) cs
  where
    cs : List Change
    cs = changes_in a (parts_of m f)

    the_one : (t from to : ℤ) → from <ℤ t → t ≤ℤ to → to ≤ℤ (from +ℤ pos 1) → t ≡ to
    the_one t from to h i j = omega (arith, ints, h, i, j)

-- and one of two halves
abbrev pub span : ℤ → ℤ → Span
span from to = record { from = from; to = to }

in_either : (from t to u : ℤ) (kept : Bool) → from <ℤ t → t <ℤ to → (is_inside (span from t) u implies kept) ≡ true → (is_inside (span t to) u implies kept) ≡ true → (is_inside (span from to) u implies kept) ≡ true
in_either from t to u kept low high first second = if_implied (is_inside (span from to) u) kept (λ inside. decided inside (int_le u t) refl)
  where
    early : int_le u t ≡ true → (int_lt from u && int_le u to) ≡ true → (int_lt from u && int_le u t) ≡ true
    early e inside = grind (arith, ints)

    late : int_le u t ≡ false → (int_lt from u && int_le u to) ≡ true → (int_lt t u && int_le u to) ≡ true
    late e inside = grind (arith, ints)

    decided : is_inside (span from to) u ≡ true → (b : Bool) → int_le u t ≡ b → kept ≡ true
    decided inside true e = implied (is_inside (span from t) u) kept first (early e inside)
    decided inside false e = implied (is_inside (span t to) u) kept second (late e inside)

pub two_halves : (m : Data) (a : Assignment) (f : Cum) (w : Window) (lo hi from t to : ℤ) → from <ℤ t → t <ℤ to → keep_inside m a f w lo hi (span from t) ≡ true → keep_inside m a f w lo hi (span t to) ≡ true
    → keep_inside m a f w lo hi (span from to) ≡ true
two_halves m a f w lo hi from t to low high first second =
    all_filtered kept (λ c. is_inside (span from to) c.t) cs
    ∙ all_from (λ c. is_inside (span from t) c.t implies kept c) (λ c. is_inside (span t to) c.t implies kept c) (λ c. is_inside (span from to) c.t implies kept c)
    (λ c. in_either from t to c.t (kept c) low high) cs
    (sym (all_filtered kept (λ c. is_inside (span from t) c.t) cs) ∙ first) (sym (all_filtered kept (λ c. is_inside (span t to) c.t) cs) ∙ second)
  where
    cs : List Change
    cs = changes_in a (parts_of m f)

    kept : Change → Bool
    kept c = is_level_at m a f w lo hi c.t

-- a moment of a window is its beginning or inside it
in_window_span : (a : Assignment) (w : Window) (t : ℤ) → is_in_window a w t ≡ true → int_eq t (begin_of a w) ≡ false → is_inside (window_span a w) t ≡ true
in_window_span a Always t h e = grind (arith, ints)
in_window_span a (Moments u v) t h e = grind (arith, ints)
in_window_span a (During x) t h e = grind (arith, ints)

same_moment : (t u : ℤ) → int_eq t u ≡ true → t ≡ u
same_moment t u e = grind (arith, ints)

pub window_decides : (m : Data) (a : Assignment) (f : Cum) (w : Window) (lo hi u : ℤ) (b : Bool) → u ≡ begin_of a w → true ≡ is_level_at m a f w lo hi u → (b ≡ true → keep_inside m a f w lo hi (window_span a w) ≡ true)
    → (((t : ℤ) → is_level_at m a f w lo hi t ≡ true) → b ≡ true) → b ≡ list_all (is_level_at m a f w lo hi) (corners m a f w)
window_decides m a f w lo hi u b begin first inside outside = decided b refl
  where
    cs : List Change
    cs = changes_in a (parts_of m f)

    kept : ℤ → Bool
    kept t = is_level_at m a f w lo hi t

    at_begin : kept (begin_of a w) ≡ true
    at_begin = sym (first ∙ ap (is_level_at m a f w lo hi) begin)

    in_window : (t : ℤ) → (is_inside (window_span a w) t implies kept t) ≡ true → (b : Bool) → int_eq t (begin_of a w) ≡ b → is_in_window a w t ≡ true → is_between lo hi (level_at m a f t) ≡ true
    in_window t h true e inside = implied (is_in_window a w t) _ (ap kept (same_moment t (begin_of a w) e) ∙ at_begin) inside
    in_window t h false e inside = implied (is_in_window a w t) _ (implied (is_inside (window_span a w) t) (kept t) h (in_window_span a w t inside e)) inside

    one : (t : ℤ) → (is_inside (window_span a w) t implies kept t) ≡ true → kept t ≡ true
    one t h = if_implied (is_in_window a w t) _ (in_window t h (int_eq t (begin_of a w)) refl)

    all : keep_inside m a f w lo hi (window_span a w) ≡ true → list_all (λ c. kept c.t) cs ≡ true
    all h = all_from (λ c. is_inside (window_span a w) c.t implies kept c.t) (λ c. true) (λ c. kept c.t) (λ c k tt. one c.t k) cs
        (sym (all_filtered (λ c. kept c.t) (λ c. is_inside (window_span a w) c.t) cs) ∙ h) (all_each (λ c. true) (λ c. refl) cs)

    stays : (t : ℤ) → list_any (int_eq t) (map (λ c. c.t) cs) ≡ false → level_at m a f t ≡ level_at m a f (t -ℤ pos 1)
    stays t h = sym (parts_until a (parts_of m f) t) ∙ until_same cs t h ∙ parts_until a (parts_of m f) (t -ℤ pos 1)

    every : keep_inside m a f w lo hi (window_span a w) ≡ true → (t : ℤ) → kept t ≡ true
    every h = every_moment_of a w lo hi (level_at m a f) (map (λ c. c.t) cs) stays (and_from (kept (begin_of a w)) _ at_begin (list_all-map kept (λ c. c.t) cs ∙ all h))

    other : b ≡ false → (k : Bool) → list_all (is_level_at m a f w lo hi) (corners m a f w) ≡ k → b ≡ list_all (is_level_at m a f w lo hi) (corners m a f w)
    other e false k = e ∙ sym k
    other e true k = let h : b ≡ true = outside (every_moment m a f w lo hi k) in cc

    decided : (c : Bool) → b ≡ c → b ≡ list_all (is_level_at m a f w lo hi) (corners m a f w)
    decided true e = e ∙ sym (at_corners m a f w lo hi (corners m a f w) (every (inside e)))
    decided false e = other e _ refl

-- the same of what the code has at hand
pub block_from : (m : Data) (a : Assignment) (f : Cum) (w : Window) (lo hi : ℤ) (s : Span) (is : List Part) (t z before : ℤ) (ds es : List Change) (b : Bool) → is ≡ parts_of m f
    → IsPermutation (changes_inside s (changes_in a is)) ds → es ≡ ds → z ≡ total (map (λ i. signed i.minus (shape_at a i.shape t)) is) → t ≡ s.from → before ≡ z
    → b ≡ list_all (λ c. keeps_at a w lo hi before es c.t) es → b ≡ keep_inside m a f w lo hi s
block_from m a f w lo hi s is t z before ds es b parts moved same sum begin level tested =
    block_decides m a f w lo hi s before es b
    (subst (λ cs. IsPermutation (changes_inside s (changes_in a (parts_of m f))) cs) (sym same) (subst (λ js. IsPermutation (changes_inside s (changes_in a js)) ds) parts moved))
    (level ∙ sum ∙ ap (λ js. total (map (λ i. signed i.minus (shape_at a i.shape t)) js)) parts ∙ ap (level_at m a f) begin)
    tested

pub halves_from : (m : Data) (a : Assignment) (f : Cum) (w : Window) (lo hi from t to from' t' t'' to' : ℤ) → from <ℤ t → t <ℤ to → from' ≡ from → t' ≡ t → t'' ≡ t → to' ≡ to
    → keep_inside m a f w lo hi (span from' t') ≡ true → keep_inside m a f w lo hi (span t'' to') ≡ true → keep_inside m a f w lo hi (span from to) ≡ true
halves_from m a f w lo hi from t to from' t' t'' to' low high begin mid mid' end first second = two_halves m a f w lo hi from t to low high
    (subst (λ x. keep_inside m a f w lo hi (span x t) ≡ true) begin (subst (λ x. keep_inside m a f w lo hi (span from' x) ≡ true) mid first))
    (subst (λ x. keep_inside m a f w lo hi (span x to) ≡ true) mid' (subst (λ x. keep_inside m a f w lo hi (span t'' x) ≡ true) end second))
