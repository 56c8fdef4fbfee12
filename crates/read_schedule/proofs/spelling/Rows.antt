-- Lines of values, place by place.
use Rattle.std.proofs.Common.{◌≡◌, ℕ, zero, suc, ◌+◌, ◌<◌, ◌≤◌, Bool, true, List, [], ◌∷◌, ◌++◌, length, sym, ◌∙◌, ap, subst, refl, arith, append_assoc, Some, slice_get, get_or, append-nil}
use Rattle.std.specs.List.{list_all}
use Rattle.std.proofs.lemmas.List.{length_push}
use Rattle.std.proofs.lemmas.Bool.{and_parts, and_from}
use Rattle.sched_model.specs.Words.{placewise}
use Rattle.textline.specs.Lines.{Bytes, line}
use Rattle.sched_text.specs.Pieces.{at_places}
use Rattle.read_schedule.specs.Schedules.{is_line, text}
use Rattle.read_schedule.specs.code.Rows.{rows, begins}
use Rattle.read_schedule.specs.code.Reads.{StopsRows, Starts}

pub text_append : (ls ms : List (List Bytes)) → text (ls ++ ms) ≡ text ls ++ text ms
text_append [] ms = refl
text_append (l ∷ ls) ms = ap (λ t. line l ++ t) (text_append ls ms) ∙ sym (append_assoc (line l) (text ls) (text ms))

-- the texts at places are the text of the lines
pub places_are : {X Y : Type 0} (g : ℕ → X → Y → List Bytes) (k : ℕ) (xs : List X) (ys : List Y) → at_places (λ i x y. line (g i x y)) k xs ys ≡ text (rows g k xs ys)
places_are g k [] ys = refl
places_are g k (x ∷ xs) [] = refl
places_are g k (x ∷ xs) (y ∷ ys) = ap (λ t. line (g k x y) ++ t) (places_are g (k + 1) xs ys)

next_place : (k n : ℕ) → k + 1 + n ≡ k + suc n
next_place k n = omega arith

pub begins_none : {X Y : Type 0} (r : X → Y → Bool) (xs : List X) → begins r xs [] ≡ true
begins_none r [] = refl
begins_none r (x ∷ xs) = refl

pub rows_none : {X Y : Type 0} (g : ℕ → X → Y → List Bytes) (k : ℕ) (xs : List X) → rows g k xs [] ≡ []
rows_none g k [] = refl
rows_none g k (x ∷ xs) = refl

-- a value more
pub rows_more : {X Y : Type 0} (g : ℕ → X → Y → List Bytes) (k : ℕ) (xs : List X) (ys : List Y) (x : X) (y : Y) → slice_get xs (length ys) ≡ Some x → rows g k xs (ys ++ y ∷ []) ≡ rows g k xs ys ++ g (k + length ys) x y ∷ []
rows_more g k [] [] x y at = cc
rows_more g k [] (z ∷ ys) x y at = cc
rows_more g k (u ∷ xs) [] x y at =
    let same : u ≡ x = cc at in
    let here : k + 0 ≡ k = omega arith in
    ap (λ rs. g k u y ∷ rs) (rows_none g (k + 1) xs) ∙ ap (λ w. g k w y ∷ []) same ∙ ap (λ i. g i x y ∷ []) (sym here)
rows_more g k (u ∷ xs) (z ∷ ys) x y at =
    ap (λ rs. g k u z ∷ rs) (rows_more g (k + 1) xs ys x y at)
    ∙ ap (λ i. g k u z ∷ (rows g (k + 1) xs ys ++ g i x y ∷ [])) (next_place k (length ys))

pub begins_more : {X Y : Type 0} (r : X → Y → Bool) (xs : List X) (ys : List Y) (x : X) (y : Y) → slice_get xs (length ys) ≡ Some x → begins r xs ys ≡ true → r x y ≡ true → begins r xs (ys ++ y ∷ []) ≡ true
begins_more r [] [] x y at h fits = cc
begins_more r [] (z ∷ ys) x y at h fits = cc
begins_more r (u ∷ xs) [] x y at h fits = let same : u ≡ x = cc at in and_from (r u y) true (ap (λ w. r w y) same ∙ fits) (begins_none r xs)
begins_more r (u ∷ xs) (z ∷ ys) x y at h fits =
    let two = and_parts (r u z) (begins r xs ys) h in and_from (r u z) (begins r xs (ys ++ y ∷ [])) two.0 (begins_more r xs ys x y at two.1 fits)

-- as many values as definitions
pub begins_all : {X Y : Type 0} (r : X → Y → Bool) (xs : List X) (ys : List Y) → begins r xs ys ≡ true → length xs ≤ length ys → placewise r xs ys ≡ true
begins_all r [] [] h n = refl
begins_all r [] (y ∷ ys) h n = cc
begins_all r (x ∷ xs) [] h n = absurd (omega (arith, n))
begins_all r (x ∷ xs) (y ∷ ys) h n = let two = and_parts (r x y) (begins r xs ys) h in and_from (r x y) (placewise r xs ys) two.0 (begins_all r xs ys two.1 (omega (arith, n)))

pub placewise_length : {X Y : Type 0} (r : X → Y → Bool) (xs : List X) (ys : List Y) → placewise r xs ys ≡ true → length ys ≡ length xs
placewise_length r [] [] h = refl
placewise_length r [] (y ∷ ys) h = cc
placewise_length r (x ∷ xs) [] h = cc
placewise_length r (x ∷ xs) (y ∷ ys) h = omega (arith, placewise_length r xs ys (and_parts (r x y) (placewise r xs ys) h).1)

pub rows_length : {X Y : Type 0} (g : ℕ → X → Y → List Bytes) (r : X → Y → Bool) (k : ℕ) (xs : List X) (ys : List Y) → placewise r xs ys ≡ true → length (rows g k xs ys) ≡ length xs
rows_length g r k [] [] h = refl
rows_length g r k [] (y ∷ ys) h = cc
rows_length g r k (x ∷ xs) [] h = cc
rows_length g r k (x ∷ xs) (y ∷ ys) h = omega (arith, rows_length g r (k + 1) xs ys (and_parts (r x y) (placewise r xs ys) h).1)

pub begun_length : {X Y : Type 0} (g : ℕ → X → Y → List Bytes) (r : X → Y → Bool) (k : ℕ) (xs : List X) (ys : List Y) → begins r xs ys ≡ true → length (rows g k xs ys) ≡ length ys
begun_length g r k [] [] h = refl
begun_length g r k (x ∷ xs) [] h = refl
begun_length g r k [] (y ∷ ys) h = cc
begun_length g r k (x ∷ xs) (y ∷ ys) h = omega (arith, begun_length g r (k + 1) xs ys (and_parts (r x y) (begins r xs ys) h).1)

-- values that begin can be completed by others that fit
pub completed : {X Y : Type 0} (g : ℕ → X → Y → List Bytes) (r : X → Y → Bool) (k : ℕ) (xs : List X) (ys zs : List Y) → begins r xs ys ≡ true → placewise r xs zs ≡ true
    → (ws : List Y) × (us : List (List Bytes)) × (placewise r xs ws ≡ true) × (rows g k xs ws ≡ rows g k xs ys ++ us)
completed g r k xs [] zs h full = (zs, rows g k xs zs, full, ap (λ rs. rs ++ rows g k xs zs) (sym (rows_none g k xs)))
completed g r k [] (y ∷ ys) zs h full = cc
completed g r k (x ∷ xs) (y ∷ ys) [] h full = cc
completed g r k (x ∷ xs) (y ∷ ys) (z ∷ zs) h full =
    let two = and_parts (r x y) (begins r xs ys) h in
    let rest = completed g r (k + 1) xs ys zs two.1 (and_parts (r x z) (placewise r xs zs) full).1 in
    (y ∷ rest.0, rest.1, and_from (r x y) (placewise r xs rest.0) two.0 rest.2, ap (λ rs. g k x y ∷ rs) rest.3)

-- what stands behind the lines of values that begin is the line of a value that fits
pub next_row : {X Y : Type 0} (g : ℕ → X → Y → List Bytes) (r : X → Y → Bool) (k : ℕ) (xs : List X) (ys zs : List Y) (more us : List (List Bytes)) (x : X) → begins r xs ys ≡ true → placewise r xs zs ≡ true → slice_get xs (length ys) ≡ Some x → rows g k xs zs ++ more ≡ rows g k xs ys ++ us
    → (y : Y) × (vs : List (List Bytes)) × (r x y ≡ true) × (us ≡ g (k + length ys) x y ∷ vs)
next_row g r k [] [] zs more us x h full at e = cc
next_row g r k [] (y ∷ ys) zs more us x h full at e = cc
next_row g r k (u ∷ xs) ys [] more us x h full at e = cc
next_row g r k (u ∷ xs) [] (z ∷ zs) more us x h full at e =
    let same : u ≡ x = cc at in
    let here : k + 0 ≡ k = omega arith in
    (z, rows g (k + 1) xs zs ++ more, ap (λ w. r w z) (sym same) ∙ (and_parts (r u z) (placewise r xs zs) full).0, sym e ∙ ap (λ w. g k w z ∷ (rows g (k + 1) xs zs ++ more)) same ∙ ap (λ i. g i x z ∷ (rows g (k + 1) xs zs ++ more)) (sym here))
next_row g r k (u ∷ xs) (y ∷ ys) (z ∷ zs) more us x h full at e =
    let rest = next_row g r (k + 1) xs ys zs more us x (and_parts (r u y) (begins r xs ys) h).1 (and_parts (r u z) (placewise r xs zs) full).1 at (behind _ _ _ _ e) in
    (rest.0, rest.1, rest.2, rest.3 ∙ ap (λ i. g i x rest.0 ∷ rest.1) (next_place k (length ys)))
  where
    behind : (a b : List Bytes) (x y : List (List Bytes)) → a ∷ x ≡ b ∷ y → x ≡ y
    behind a b x y e = cc

-- lists of one length in front of equal lists
pub fronts_same : {A : Type 0} (xs ys us vs : List A) → length xs ≡ length ys → xs ++ us ≡ ys ++ vs → (xs ≡ ys) × (us ≡ vs)
fronts_same [] [] us vs n e = (refl, e)
fronts_same [] (y ∷ ys) us vs n e = absurd (omega (arith, n))
fronts_same (x ∷ xs) [] us vs n e = absurd (omega (arith, n))
fronts_same (x ∷ xs) (y ∷ ys) us vs n e = let rest = fronts_same xs ys us vs (omega (arith, n)) (behind x y (xs ++ us) (ys ++ vs) e) in (both x y xs ys (first x y (xs ++ us) (ys ++ vs) e) rest.0, rest.1)
  where
    behind : {A : Type 0} (a b : A) (x y : List A) → a ∷ x ≡ b ∷ y → x ≡ y
    behind a b x y e = cc

    first : {A : Type 0} (a b : A) (x y : List A) → a ∷ x ≡ b ∷ y → a ≡ b
    first a b x y e = cc

    both : {A : Type 0} (a b : A) (x y : List A) → a ≡ b → x ≡ y → a ∷ x ≡ b ∷ y
    both a b x y e f = cc

-- each line is one where those of fitting values are
pub rows_each : {X Y : Type 0} (g : ℕ → X → Y → List Bytes) (r : X → Y → Bool) (k : ℕ) (xs : List X) (ys : List Y) → ((i : ℕ) (x : X) (y : Y) → i < length xs → slice_get xs i ≡ Some x → r x y ≡ true → is_line (g (k + i) x y) ≡ true) → begins r xs ys ≡ true → list_all is_line (rows g k xs ys) ≡ true
rows_each g r k [] [] lines h = refl
rows_each g r k [] (y ∷ ys) lines h = cc
rows_each g r k (x ∷ xs) [] lines h = refl
rows_each g r k (x ∷ xs) (y ∷ ys) lines h =
    let two = and_parts (r x y) (begins r xs ys) h in
    let here : k + 0 ≡ k = omega arith in
    and_from (is_line (g k x y)) (list_all is_line (rows g (k + 1) xs ys)) (ap (λ i. is_line (g i x y)) (sym here) ∙ lines 0 x y (omega arith) refl two.0)
    (rows_each g r (k + 1) xs ys (λ i z w within at fits. ap (λ n. is_line (g n z w)) (next_place k i) ∙ lines (suc i) z w (omega (arith, within)) at fits) two.1)

pub placewise_begins : {X Y : Type 0} (r : X → Y → Bool) (xs : List X) (ys : List Y) → placewise r xs ys ≡ true → begins r xs ys ≡ true
placewise_begins r [] [] h = refl
placewise_begins r [] (y ∷ ys) h = cc
placewise_begins r (x ∷ xs) [] h = cc
placewise_begins r (x ∷ xs) (y ∷ ys) h = let two = and_parts (r x y) (placewise r xs ys) h in and_from (r x y) (begins r xs ys) two.0 (placewise_begins r xs ys two.1)

-- loops

pub item_at : {X : Type 0} (xs : List X) (i : ℕ) (x : X) → i < length xs → x ≡ get_or xs i x → slice_get xs i ≡ Some x
item_at [] i x within is = absurd (omega (arith, within))
item_at (y ∷ xs) zero x within is = ap Some (sym is)
item_at (y ∷ xs) (suc i) x within is = item_at xs i x (omega (arith, within)) is

-- one line more was read
pub row_read : {X Y : Type 0} (g : ℕ → X → Y → List Bytes) (xs : List X) (ys : List Y) (x : X) (y : Y) (whole before after : Bytes) → slice_get xs (length ys) ≡ Some x → whole ≡ text (rows g 0 xs ys) ++ before → before ≡ line (g (length ys) x y) ++ after
    → whole ≡ text (rows g 0 xs (ys ++ y ∷ [])) ++ after
row_read g xs ys x y whole before after at same next =
    let here : length ys ≡ 0 + length ys = omega arith in
    same ∙ ap (λ t. text (rows g 0 xs ys) ++ t) next
    ∙ sym (append_assoc (text (rows g 0 xs ys)) (line (g (length ys) x y)) after)
    ∙ ap (λ t. (text (rows g 0 xs ys) ++ t) ++ after) (sym (append-nil (line (g (length ys) x y))))
    ∙ ap (λ t. t ++ after) (sym (text_append (rows g 0 xs ys) (g (length ys) x y ∷ [])))
    ∙ ap (λ i. text (rows g 0 xs ys ++ g i x y ∷ []) ++ after) here
    ∙ ap (λ rs. text rs ++ after) (sym (rows_more g 0 xs ys x y at))

-- the next isn't there
pub rows_stop : {X Y : Type 0} (g : ℕ → X → Y → List Bytes) (r : X → Y → Bool) (xs : List X) (ys : List Y) (n : ℕ) (x : X) (whole rest : Bytes) → length ys ≡ n → begins r xs ys ≡ true → whole ≡ text (rows g 0 xs ys) ++ rest → slice_get xs n ≡ Some x → ((y : Y) → r x y ≡ true → Starts (g n x y) rest → ⊥)
    → StopsRows g r xs whole n
rows_stop g r xs ys n x whole rest count fits same at stuck = record { ys = ys; count = count; fits = fits; rest = rest; same = same; def = x; at = at; stuck = stuck }

-- the line of the value at the next place was read, and the value kept
pub row_pushed : {X Y : Type 0} (g : ℕ → X → Y → List Bytes) (r : X → Y → Bool) (xs : List X) (ys new : List Y) (n : ℕ) (x : X) (y : Y) (whole before after : Bytes) → length ys ≡ n → n < length xs → x ≡ get_or xs n x → begins r xs ys ≡ true → whole ≡ text (rows g 0 xs ys) ++ before
    → new ≡ ys ++ y ∷ [] → r x y ≡ true → before ≡ line (g n x y) ++ after → (begins r xs new ≡ true) × (length new ≡ n + 1) × (whole ≡ text (rows g 0 xs new) ++ after)
row_pushed g r xs ys new n x y whole before after many within item fits same pushed fit next =
    let at : slice_get xs (length ys) ≡ Some x = ap (slice_get xs) many ∙ item_at xs n x within item in
    let line_is : before ≡ line (g (length ys) x y) ++ after = next ∙ ap (λ i. line (g i x y) ++ after) (sym many) in (
      ap (begins r xs) pushed ∙ begins_more r xs ys x y at fits fit,
      ap length pushed ∙ length_push ys y ∙ ap (λ i. i + 1) many,
      row_read g xs ys x y whole before after at same line_is ∙ ap (λ zs. text (rows g 0 xs zs) ++ after) (sym pushed),
    )

-- no line of a value at the next place stands there
pub row_missing : {X Y : Type 0} (g : ℕ → X → Y → List Bytes) (r : X → Y → Bool) (xs : List X) (ys : List Y) (n m : ℕ) (x : X) (whole rest : Bytes) → length ys ≡ n → m ≡ n → n < length xs → x ≡ get_or xs n x → begins r xs ys ≡ true → whole ≡ text (rows g 0 xs ys) ++ rest
    → ((y : Y) → r x y ≡ true → Starts (g n x y) rest → ⊥) → StopsRows g r xs whole m
row_missing g r xs ys n m x whole rest many count within item fits same stuck = subst (StopsRows g r xs whole) (sym count) (rows_stop g r xs ys n x whole rest many fits same (item_at xs n x within item) stuck)

pub rows_start : {X Y : Type 0} (g : ℕ → X → Y → List Bytes) (r : X → Y → Bool) (xs : List X) (ys : List Y) (whole : Bytes) → ys ≡ [] → (begins r xs ys ≡ true) × (length ys ≡ 0) × (whole ≡ text (rows g 0 xs ys) ++ whole)
rows_start g r xs ys whole none = (ap (begins r xs) none ∙ begins_none r xs, ap length none, ap (λ rs. text rs ++ whole) (sym (rows_none g 0 xs) ∙ ap (rows g 0 xs) (sym none)))
