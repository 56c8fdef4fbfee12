-- Items written one after another, with a sign before each but the first.
use Rattle.std.proofs.Common.{◌≡◌, ◌∙◌, ℕ, zero, suc, ◌+◌, ◌-◌, ◌<◌, ◌≤◌, ℤ, pos, arith, codes, take, slice_index_or, Bool, true, false, if◌then◌else◌, List, [], ◌∷◌, ◌++◌, length, map, drop, get_or, refl, sym, ap, append_assoc, append-nil}
use Rattle.std.specs.List.{flat_map}
use Rattle.std.proofs.lemmas.List.{at_drop_more, at_drop_all}
use Rattle.textline.specs.Lines.{Bytes}
use Rattle.std.specs.Fmt.{signed_decimal}
use Rattle.std.specs.Ordering.{int_eq}
use Rattle.sched_text.specs.Pieces.{between, listed}
use Rattle.sched_base.specs.State.{State}
use Rattle.sched_text.specs.declared.page.Page.{Page}
use Rattle.sched_text.specs.Canonical.{rows}
use Rattle.sched_text.specs.code.Printing.{Leaves, Prints}
use Rattle.sched_text.proofs.Printing.{all_done, goes_on}

-- the items from here on: whether the next is the first of all, and the sign
abbrev pub from_here : Bool → Bytes → List Bytes → Bytes
from_here true s items = between s items
from_here false s items = flat_map (λ y. s ++ y) items

first_item : (s x : Bytes) (ys : List Bytes) → between s (x ∷ ys) ≡ x ++ flat_map (λ y. s ++ y) ys
first_item s x [] = sym (append-nil x)
first_item s x (y ∷ ys) =
    ap (λ t. (x ++ s) ++ t) (first_item s y ys)
    ∙ append_assoc x s (y ++ flat_map (λ z. s ++ z) ys)
    ∙ ap (λ t. x ++ t) (sym (append_assoc s y (flat_map (λ z. s ++ z) ys)))

abbrev pub sign_before : Bool → Bytes → Bytes
sign_before is_first s = if is_first then [] else s

next_item : (b : Bool) (s x : Bytes) (ys : List Bytes) → from_here b s (x ∷ ys) ≡ sign_before b s ++ (x ++ from_here false s ys)
next_item true s x ys = first_item s x ys
next_item false s x ys = append_assoc s x (flat_map (λ y. s ++ y) ys)

none_left : (b : Bool) (s : Bytes) → from_here b s [] ≡ []
none_left true s = refl
none_left false s = refl

pub item_next : {A : Type 0} (f : A → Bytes) (s : Bytes) (xs : List A) (i : ℕ) (x d : A) (b : Bool) → i < length xs → x ≡ get_or xs i d
    → from_here b s (map f (drop i xs)) ≡ sign_before b s ++ (f x ++ from_here false s (map f (drop (i + 1) xs)))
item_next f s xs i x d b within is =
    at_drop_more (λ ys. from_here b s (map f ys)) xs i d within
    ∙ ap (λ y. from_here b s (f y ∷ map f (drop (i + 1) xs))) (sym is)
    ∙ next_item b s (f x) (map f (drop (i + 1) xs))

pub none_past : {A : Type 0} (f : A → Bytes) (s : Bytes) (xs : List A) (i : ℕ) (b : Bool) → length xs ≤ i → from_here b s (map f (drop i xs)) ≡ []
none_past f s xs i b past = at_drop_all (λ ys. from_here b s (map f ys)) xs i past ∙ none_left b s

-- the next item, with the sign before it
pub item_more : {A : Type 0} (f : A → Bytes) (s : Bytes) (xs : List A) (i : ℕ) (x d : A) (b : Bool) {text : Bytes} {old p q new : Page} {r t u v : State} → i < length xs → x ≡ get_or xs i d
    → Leaves text (from_here b s (map f (drop i xs))) old p r t → Prints (sign_before b s) p q t u → Prints (f x) q new u v → Leaves text (from_here false s (map f (drop (i + 1) xs))) old new r v
item_more f s xs i x d b within is so_far sign item = goes_on refl (goes_on (item_next f s xs i x d b within is) so_far sign) item

pub items_end : {A : Type 0} (f : A → Bytes) (s : Bytes) (xs : List A) (i : ℕ) (b : Bool) {text : Bytes} {old new : Page} {r t : State} → length xs ≤ i
    → Leaves text (from_here b s (map f (drop i xs))) old new r t → Prints text old new r t
items_end f s xs i b past so_far = all_done (none_past f s xs i b past) so_far

-- rows of a matrix

row_is : (k n : ℕ) (cells : List ℤ) → 0 < k → rows k n cells ≡ listed (map signed_decimal (take n cells)) ∷ rows (k - 1) n (drop n cells)
row_is zero n cells some = absurd (omega arith)
row_is (suc k) n cells some = let less : suc k - 1 ≡ k = omega arith in rw less refl

pub row_more : (k n : ℕ) (rest row others : List ℤ) (b : Bool) {text : Bytes} {old p q new : Page} {r t u v : State} → 0 < k → row ≡ take n rest → others ≡ drop n rest
    → Leaves text (from_here b (codes ",") (rows k n rest)) old p r t → Prints (sign_before b (codes ",")) p q t u → Prints (listed (map signed_decimal row)) q new u v
    → Leaves text (from_here false (codes ",") (rows (k - 1) n others)) old new r v
row_more k n rest row others b some at_row at_others so_far sign item =
    goes_on (
    ap (λ cs. listed (map signed_decimal cs) ++ from_here false (codes ",") (rows (k - 1) n (drop n rest))) (sym at_row)
    ∙ ap (λ cs. listed (map signed_decimal row) ++ from_here false (codes ",") (rows (k - 1) n cs)) (sym at_others))
    (goes_on (ap (λ ys. from_here b (codes ",") ys) (row_is k n rest some) ∙ next_item b (codes ",") (listed (map signed_decimal (take n rest))) (rows (k - 1) n (drop n rest))) so_far sign)
    item

pub rows_end : (k n : ℕ) (rest : List ℤ) (b : Bool) {text : Bytes} {old new : Page} {r t : State} → k ≤ 0 → Leaves text (from_here b (codes ",") (rows k n rest)) old new r t → Prints text old new r t
rows_end zero n rest b past so_far = all_done (none_left b (codes ",")) so_far
rows_end (suc k) n rest b past so_far = absurd (omega arith)

-- an element by its place
pub index_is : (xs : List ℤ) (i : ℕ) (d : ℤ) → slice_index_or xs i d ≡ get_or xs i d
index_is [] i d = refl
index_is (x ∷ xs) zero d = refl
index_is (x ∷ xs) (suc i) d = index_is xs i d

-- a count that is one isn't written
pub chosen_one : (n : ℤ) → true ≡ int_eq n (pos 1) → (if int_eq n (pos 1) then [] else codes "," ++ signed_decimal n) ≡ []
chosen_one n is = rw (sym is) refl

pub chosen_other : (n : ℤ) → false ≡ int_eq n (pos 1) → codes "," ++ signed_decimal n ≡ (if int_eq n (pos 1) then [] else codes "," ++ signed_decimal n)
chosen_other n is = rw (sym is) refl
