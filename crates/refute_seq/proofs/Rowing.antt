-- Steps of the loops that put members in a row.
use Rattle.std.specs.Prelude.{◌≡◌, ℕ, ◌+◌, ◌<◌, ◌≤◌, Bool, true, false, List, [], ◌∷◌, ◌++◌, length, drop, take, if◌then◌else◌}
use Rattle.std.specs.List.{filter, insert}
use Rattle.std.proofs.Common.{sym, ap, ◌∙◌, get_or, append_assoc}
use Rattle.std.proofs.lemmas.List.{at_drop_more, at_drop_all, take_more}
use Rattle.std.proofs.Math.Seq.{drop-length}
use Rattle.base_laws.specs.laws.Kept.{filter_yes, filter_no}
use Rattle.sched_base.specs.declared.ids.Itv.{Itv}
use Rattle.sched_base.specs.declared.ids.Seq.{Seq}
use Rattle.sched_model.specs.Data.{Data, members_of}
use Rattle.region.specs.Cells.{Region, cells_of, is_there}
use Rattle.region.specs.Looks.{IsRegionOf}
use Rattle.region.specs.laws.Narrowing.{members_are}
use Rattle.refute_seq.specs.Standing.{precedes}
use Rattle.refute_seq.specs.code.Order.{placed, ordered_from, settled_order}

placed_later : (b : Itv → Itv → Bool) (x y : Itv) (ys : List Itv) → b x y ≡ false → placed b x (y ∷ ys) ≡ y ∷ placed b x ys
placed_later b x y ys is = ap (λ t. if t then x ∷ y ∷ ys else y ∷ placed b x ys) is

placed_first : (b : Itv → Itv → Bool) (x y : Itv) (ys : List Itv) → b x y ≡ true → placed b x (y ∷ ys) ≡ x ∷ y ∷ ys
placed_first b x y ys is = ap (λ t. if t then x ∷ y ∷ ys else y ∷ placed b x ys) is

pub place_here : (r : Region) (p : Seq) (x d : Itv) (ys : List Itv) (k : ℕ) (whole : List Itv) → take k ys ++ placed (precedes r p) x (drop k ys) ≡ whole → k < length ys → true ≡ precedes r p x (get_or ys k d) → insert ys k x ≡ whole
place_here r p x d ys k whole before within is =
    ap (λ xs. take k ys ++ x ∷ xs) (at_drop_more (λ xs. xs) ys k d within)
    ∙ sym (ap (λ xs. take k ys ++ xs) (placed_first (precedes r p) x (get_or ys k d) (drop (k + 1) ys) (sym is)))
    ∙ sym (ap (λ xs. take k ys ++ xs) (at_drop_more (placed (precedes r p) x) ys k d within))
    ∙ before

pub place_step : (r : Region) (p : Seq) (x d : Itv) (ys : List Itv) (k : ℕ) (whole : List Itv) → take k ys ++ placed (precedes r p) x (drop k ys) ≡ whole → k < length ys → false ≡ precedes r p x (get_or ys k d)
    → take (k + 1) ys ++ placed (precedes r p) x (drop (k + 1) ys) ≡ whole
place_step r p x d ys k whole before within is =
    ap (λ xs. xs ++ placed (precedes r p) x (drop (k + 1) ys)) (take_more ys k d within)
    ∙ append_assoc (take k ys) (get_or ys k d ∷ []) (placed (precedes r p) x (drop (k + 1) ys))
    ∙ sym (ap (λ xs. take k ys ++ xs) (placed_later (precedes r p) x (get_or ys k d) (drop (k + 1) ys) (sym is)))
    ∙ sym (ap (λ xs. take k ys ++ xs) (at_drop_more (placed (precedes r p) x) ys k d within))
    ∙ before

pub place_end : (r : Region) (p : Seq) (x : Itv) (ys : List Itv) (k : ℕ) (whole : List Itv) → take k ys ++ placed (precedes r p) x (drop k ys) ≡ whole → k ≡ length ys → insert ys (length ys) x ≡ whole
place_end r p x ys k whole before end =
    sym (ap (λ n. insert ys n x) end) ∙ ap (λ xs. take k ys ++ x ∷ xs) (rest k end) ∙ sym (ap (λ xs. take k ys ++ placed (precedes r p) x xs) (rest k end)) ∙ before
  where
    rest : (k : ℕ) → k ≡ length ys → drop k ys ≡ []
    rest k e = ap (λ n. drop n ys) e ∙ drop-length ys

-- the members so far in a row, with the rest of them
abbrev pub rowed : Region → Seq → List Itv → List Itv → List Itv
rowed r p xs ms = ordered_from (precedes r p) xs (filter (is_there r) ms)

pub row_begins : (m : Data) (r : Region) (p : Seq) → IsRegionOf m r → rowed r p [] (members_of m p) ≡ settled_order r (cells_of r p)
row_begins m r p of = ap (rowed r p []) (sym (members_are m r p of))

pub skip_step : (r : Region) (p : Seq) (xs ms whole : List Itv) (i : ℕ) (d : Itv) → rowed r p xs (drop i ms) ≡ whole → i < length ms → false ≡ is_there r (get_or ms i d) → rowed r p xs (drop (i + 1) ms) ≡ whole
skip_step r p xs ms whole i d before within is =
    sym (ap (ordered_from (precedes r p) xs) (filter_no (is_there r) (get_or ms i d) (drop (i + 1) ms) (sym is))) ∙ sym (at_drop_more (rowed r p xs) ms i d within) ∙ before

pub add_step : (r : Region) (p : Seq) (xs new ms whole : List Itv) (i : ℕ) (d : Itv) → rowed r p xs (drop i ms) ≡ whole → i < length ms → true ≡ is_there r (get_or ms i d) → new ≡ placed (precedes r p) (get_or ms i d) xs → rowed r p new (drop (i + 1) ms) ≡ whole
add_step r p xs new ms whole i d before within is made =
    ap (λ ys. rowed r p ys (drop (i + 1) ms)) made
    ∙ sym (ap (ordered_from (precedes r p) xs) (filter_yes (is_there r) (get_or ms i d) (drop (i + 1) ms) (sym is)))
    ∙ sym (at_drop_more (rowed r p xs) ms i d within)
    ∙ before

pub row_ends : (r : Region) (p : Seq) (xs ms whole : List Itv) (i : ℕ) → rowed r p xs (drop i ms) ≡ whole → length ms ≤ i → xs ≡ whole
row_ends r p xs ms whole i before end = sym (at_drop_all (rowed r p xs) ms i end) ∙ before
