-- Texts of the items of a list, or of the pairs of two lists, written one after another.
use Rattle.std.proofs.Common.{◌≡◌, ◌∙◌, ℕ, ◌+◌, ◌<◌, ◌≤◌, zero, suc, List, [], ◌∷◌, ◌++◌, length, drop, get_or, min, refl, sym, ap, arith}
use Rattle.std.specs.List.{flat_map}
use Rattle.std.proofs.lemmas.List.{at_drop_more, at_drop_all, drop_all}
use Rattle.textline.specs.Lines.{Bytes}
use Rattle.sched_base.specs.State.{State}
use Rattle.sched_text.specs.declared.page.Page.{Page}
use Rattle.sched_text.specs.Pieces.{at_places}
use Rattle.sched_text.specs.code.Printing.{Leaves, Prints}
use Rattle.sched_text.proofs.Printing.{all_done, goes_on}

pub text_more : {A : Type 0} (f : A → Bytes) (xs : List A) (i : ℕ) (x d : A) {text : Bytes} {old mid new : Page} {r t u : State} → i < length xs → x ≡ get_or xs i d
    → Leaves text (flat_map f (drop i xs)) old mid r t → Prints (f x) mid new t u → Leaves text (flat_map f (drop (i + 1) xs)) old new r u
text_more f xs i x d within is so_far item = goes_on (at_drop_more (flat_map f) xs i d within ∙ ap (λ y. f y ++ flat_map f (drop (i + 1) xs)) (sym is)) so_far item

pub texts_end : {A : Type 0} (f : A → Bytes) (xs : List A) (i : ℕ) {text : Bytes} {old new : Page} {r t : State} → length xs ≤ i → Leaves text (flat_map f (drop i xs)) old new r t → Prints text old new r t
texts_end f xs i past so_far = all_done (at_drop_all (flat_map f) xs i past) so_far

pub pair_more : {A B : Type 0} (f : ℕ → A → B → Bytes) (xs : List A) (ys : List B) (i : ℕ) (x d : A) (y e : B) {text : Bytes} {old mid new : Page} {r t u : State}
    → i < length xs → i < length ys → x ≡ get_or xs i d → y ≡ get_or ys i e
    → Leaves text (at_places f i (drop i xs) (drop i ys)) old mid r t → Prints (f i x y) mid new t u → Leaves text (at_places f (i + 1) (drop (i + 1) xs) (drop (i + 1) ys)) old new r u
pair_more f xs ys i x d y e in_xs in_ys at_x at_y so_far item =
    goes_on (
    at_drop_more (λ us. at_places f i us (drop i ys)) xs i d in_xs
    ∙ at_drop_more (λ bs. at_places f i (get_or xs i d ∷ drop (i + 1) xs) bs) ys i e in_ys
    ∙ ap (λ a. f i a (get_or ys i e) ++ at_places f (i + 1) (drop (i + 1) xs) (drop (i + 1) ys)) (sym at_x)
    ∙ ap (λ b. f i x b ++ at_places f (i + 1) (drop (i + 1) xs) (drop (i + 1) ys)) (sym at_y))
    so_far item

no_second : {A B : Type 0} (f : ℕ → A → B → Bytes) (i : ℕ) (xs : List A) → at_places f i xs [] ≡ []
no_second f i [] = refl
no_second f i (x ∷ xs) = refl

none_past : {A B : Type 0} (f : ℕ → A → B → Bytes) (k : ℕ) (xs : List A) (ys : List B) (i : ℕ) → min (length xs) (length ys) ≤ i → at_places f k (drop i xs) (drop i ys) ≡ []
none_past f k [] ys i past = ap (λ us. at_places f k us (drop i ys)) (drop_all i [] (omega arith))
none_past f k (x ∷ xs) [] i past = ap (at_places f k (drop i (x ∷ xs))) (drop_all i [] (omega arith)) ∙ no_second f k (drop i (x ∷ xs))
none_past f k (x ∷ xs) (y ∷ ys) zero past = absurd (omega arith)
none_past f k (x ∷ xs) (y ∷ ys) (suc i) past = none_past f k xs ys i (omega arith)

pub pairs_end : {A B : Type 0} (f : ℕ → A → B → Bytes) (xs : List A) (ys : List B) (i : ℕ) {text : Bytes} {old new : Page} {r t : State} → min (length xs) (length ys) ≤ i
    → Leaves text (at_places f i (drop i xs) (drop i ys)) old new r t → Prints text old new r t
pairs_end f xs ys i past so_far = all_done (none_past f i xs ys i past) so_far
