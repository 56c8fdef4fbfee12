-- Where no interval ends before it starts, members of an order that keep apart from their neighbours keep apart from all.
use Rattle.std.proofs.Common.{◌≡◌, ℕ, zero, suc, ◌+◌, ◌<◌, ℤ, pos, ◌≤ℤ◌, Bool, true, false, ◌&&◌, List, [], ◌∷◌, None, length, drop, get_or, refl, sym, ap, ◌∙◌, arith}
use Rattle.std.specs.Prelude.{int_le, ◌-ℤ◌}
use Rattle.std.specs.List.{list_all}
use Rattle.std.proofs.lemmas.Bool.{and_parts, and_from}
use Rattle.std.proofs.lemmas.Int.{ints}
use Rattle.std.proofs.lemmas.List.{at_drop_more}
use Rattle.sched_base.specs.declared.ids.Itv.{Itv}
use Rattle.sched_base.specs.declared.ids.Seq.{Seq}
use Rattle.sched_base.specs.declared.ids.Mat.{Mat}
use Rattle.std.specs.Prelude.{Option}
use Rattle.sched_model.specs.declared.types.IntervalDef.{IntervalDef}
use Rattle.sched_model.specs.declared.types.Slot.{Slot}
use Rattle.sched_model.specs.declared.types.Slot.TheVariants.{Absent, Present}
use Rattle.sched_model.specs.declared.types.Assignment.{Assignment}
use Rattle.sched_model.specs.Words.{is_between, pairwise, adjacent, placewise}
use Rattle.sched_model.specs.Data.{Data, cell_at, distance, gap, matrix_of, type_of}
use Rattle.sched_model.specs.Domain.{fits_def, is_in_domain}
use Rattle.sched_model.specs.Valid.{IsValid, is_interval_def}
use Rattle.sched_model.specs.Value.{start_or, end_or}
use Rattle.sched_model.specs.Sequence.{RunsForward, has_no_overlap, is_apart}
use Rattle.sched_model.specs.laws.Domain.{slots_fit}

ends_later : (d : IntervalDef) (s : Slot) → is_interval_def d ≡ true → fits_def d s ≡ true → start_or (pos 0) s ≤ℤ end_or (pos 0) s
ends_later d Absent valid fits = omega (arith, ints)
ends_later d (Present s e) valid fits = later d.size_lo d.size_hi s e (and_parts _ (int_le (pos 0) d.size_lo) valid).1 (and_parts _ (is_between d.size_lo d.size_hi (e -ℤ s)) fits).1
  where
    later : (lo hi s e : ℤ) → int_le (pos 0) lo ≡ true → is_between lo hi (e -ℤ s) ≡ true → s ≤ℤ e
    later lo hi s e h i = grind (arith, ints)

each_ends_later : (ds : List IntervalDef) (ss : List Slot) → list_all is_interval_def ds ≡ true → placewise fits_def ds ss ≡ true → (i : ℕ) → start_or (pos 0) (get_or ss i Absent) ≤ℤ end_or (pos 0) (get_or ss i Absent)
each_ends_later [] [] valid fits i = omega (arith, ints)
each_ends_later (d ∷ ds) (s ∷ ss) valid fits zero = ends_later d s (and_parts (is_interval_def d) _ valid).0 (and_parts (fits_def d s) _ fits).0
each_ends_later (d ∷ ds) (s ∷ ss) valid fits (suc i) = each_ends_later ds ss (and_parts (is_interval_def d) _ valid).1 (and_parts (fits_def d s) _ fits).1 i
each_ends_later [] (s ∷ ss) valid fits i = cc
each_ends_later (d ∷ ds) [] valid fits i = cc

-- in the domain of a valid model no interval ends before it starts
pub runs_forward : (m : Data) (a : Assignment) → IsValid m → is_in_domain m a ≡ true → RunsForward a
runs_forward m a valid domain x = each_ends_later m.intervals a.slots valid.intervals (slots_fit m a domain) x.0

apart_through : (a : Assignment) (x y z : Itv) → RunsForward a → is_apart a (pos 0) x y ≡ true → is_apart a (pos 0) y z ≡ true → is_apart a (pos 0) x z ≡ true
apart_through a x y z forward h i = let later = forward y in grind (arith, ints, later)

apart_from_each : (a : Assignment) (x y : Itv) (zs : List Itv) → RunsForward a → is_apart a (pos 0) x y ≡ true → list_all (is_apart a (pos 0) y) zs ≡ true → list_all (is_apart a (pos 0) x) zs ≡ true
apart_from_each a x y [] forward h all = refl
apart_from_each a x y (z ∷ zs) forward h all =
    let parts = and_parts (is_apart a (pos 0) y z) _ all in
    and_from (is_apart a (pos 0) x z) _ (apart_through a x y z forward h parts.0) (apart_from_each a x y zs forward h parts.1)

joined : (first next rest : Bool) → (first ≡ true → rest ≡ true → next ≡ true) → (first && rest) ≡ ((first && next) && rest)
joined true next true h = sym (ap (λ b. b && true) (h refl refl))
joined true next false h = sym (and_no next)
  where
    and_no : (b : Bool) → (b && false) ≡ false
    and_no true = refl
    and_no false = refl
joined false next rest h = refl

pub neighbours_decide : (a : Assignment) (xs : List Itv) → RunsForward a → adjacent (is_apart a (pos 0)) xs ≡ pairwise (is_apart a (pos 0)) xs
neighbours_decide a [] forward = refl
neighbours_decide a (x ∷ []) forward = refl
neighbours_decide a (x ∷ y ∷ zs) forward =
    ap (λ b. is_apart a (pos 0) x y && b) (neighbours_decide a (y ∷ zs) forward)
    ∙ joined (is_apart a (pos 0) x y) (list_all (is_apart a (pos 0) x) zs) (pairwise (is_apart a (pos 0)) (y ∷ zs))
    (λ h rest. apart_from_each a x y zs forward h (and_parts (list_all (is_apart a (pos 0) y) zs) _ rest).0)

-- without a matrix each distance is 0
no_gap : (m : Data) (p : Seq) (o : Option Mat) (x y : Itv) → None ≡ matrix_of m o → gap m p o x y ≡ pos 0
no_gap m p o x y none = ap (cell_at (type_of m p x) (type_of m p y)) (sym none)

all_alike : {X : Type 0} (r q : X → Bool) → ((x : X) → r x ≡ q x) → (xs : List X) → list_all r xs ≡ list_all q xs
all_alike r q same [] = refl
all_alike r q same (x ∷ xs) = ap (λ b. b && list_all r xs) (same x) ∙ ap (λ b. q x && b) (all_alike r q same xs)

pairs_alike : {X : Type 0} (r q : X → X → Bool) → ((x y : X) → r x y ≡ q x y) → (xs : List X) → pairwise r xs ≡ pairwise q xs
pairs_alike r q same [] = refl
pairs_alike r q same (x ∷ xs) = ap (λ b. b && pairwise r xs) (all_alike (r x) (q x) (same x) xs) ∙ ap (λ b. list_all (q x) xs && b) (pairs_alike r q same xs)

next_alike : {X : Type 0} (r q : X → X → Bool) → ((x y : X) → r x y ≡ q x y) → (xs : List X) → adjacent r xs ≡ adjacent q xs
next_alike r q same [] = refl
next_alike r q same (x ∷ []) = refl
next_alike r q same (x ∷ y ∷ zs) = ap (λ b. b && adjacent r (y ∷ zs)) (same x y) ∙ ap (λ b. q x y && b) (next_alike r q same (y ∷ zs))

twice : (b : Bool) → b ≡ (b && b)
twice true = refl
twice false = refl

pub disjoint_without : (m : Data) (a : Assignment) (p : Seq) (o : Option Mat) (direct : Bool) (xs : List Itv) (b : Bool) → RunsForward a → None ≡ matrix_of m o
    → b ≡ pairwise (is_apart a (pos 0)) xs → b ≡ has_no_overlap m a p o direct xs
disjoint_without m a p o false xs b forward none tested =
    tested ∙ sym (pairs_alike (λ x y. is_apart a (gap m p o x y) x y) (is_apart a (pos 0)) (λ x y. ap (λ d. is_apart a d x y) (no_gap m p o x y none)) xs)
disjoint_without m a p o true xs b forward none tested =
    tested ∙ twice (pairwise (is_apart a (pos 0)) xs)
    ∙ ap (λ c. pairwise (is_apart a (pos 0)) xs && c) (sym (next_alike (λ x y. is_apart a (gap m p o x y) x y) (is_apart a (pos 0)) (λ x y. ap (λ d. is_apart a d x y) (no_gap m p o x y none)) xs ∙ neighbours_decide a xs forward))

-- a walk from each member to the next
pub next_turn : (r : Itv → Itv → Bool) (x : Itv) (ys : List Itv) (i : ℕ) (d y : Itv) (whole : Bool) → adjacent r (x ∷ drop i ys) ≡ whole → i < length ys → y ≡ get_or ys i d → r x y ≡ true
    → adjacent r (y ∷ drop (i + 1) ys) ≡ whole
next_turn r x ys i d y whole before within at_i apart =
    ap (λ z. adjacent r (z ∷ drop (i + 1) ys)) at_i
    ∙ ap (λ b. b && adjacent r (get_or ys i d ∷ drop (i + 1) ys)) (sym (ap (r x) (sym at_i) ∙ apart))
    ∙ sym (at_drop_more (λ zs. adjacent r (x ∷ zs)) ys i d within)
    ∙ before

-- the same by types that were looked up before
pub gap_turn : (m : Data) (a : Assignment) (p : Seq) (o : Option Mat) (x : Itv) (ys : List Itv) (i from to : ℕ) (d y : Itv) (b whole : Bool)
    → adjacent (λ x y. is_apart a (gap m p o x y) x y) (x ∷ drop i ys) ≡ whole → i < length ys → y ≡ get_or ys i d → from ≡ type_of m p x → to ≡ type_of m p y
    → b ≡ is_apart a (distance m o from to) x y → b ≡ true → adjacent (λ x y. is_apart a (gap m p o x y) x y) (y ∷ drop (i + 1) ys) ≡ whole
gap_turn m a p o x ys i from to d y b whole before within at_i from_is to_is tested apart =
    next_turn (λ x y. is_apart a (gap m p o x y) x y) x ys i d y whole before within at_i
    (sym (ap (λ n. is_apart a (distance m o n to) x y) from_is ∙ ap (λ n. is_apart a (distance m o (type_of m p x) n) x y) to_is) ∙ sym tested ∙ apart)
