-- Texts put one behind the other.
use Rattle.std.proofs.Common.{◌≡◌, ◌∙◌, ℕ, ◌+◌, ◌<◌, ◌≤◌, List, ◌++◌, Result, Ok, Err, OnOk, length, drop, get_or, fold, sym, ap, append_assoc, append-nil}
use Rattle.std.specs.List.{flat_map}
use Rattle.std.proofs.lemmas.List.{at_drop_more, at_drop_all}
use Rattle.textline.specs.Lines.{Bytes}
use Rattle.svg_page.specs.Texts.{numbered}

-- so many pieces, one behind the other; the last may fail
pub two : {T E : Type 0} (r : Result T E) (v0 v1 w a b : Bytes) → v1 ≡ v0 ++ a → OnOk r (w ≡ v1 ++ b) → OnOk r (w ≡ v0 ++ (a ++ b))
two (Ok u) v0 v1 w a b first last = rw (last, first) (append_assoc v0 a b)
two (Err n) v0 v1 w a b first last = tt

pub three : {T E : Type 0} (r : Result T E) (v0 v1 v2 w a b c : Bytes) → v1 ≡ v0 ++ a → v2 ≡ v1 ++ b → OnOk r (w ≡ v2 ++ c) → OnOk r (w ≡ v0 ++ (a ++ b ++ c))
three (Ok u) v0 v1 v2 w a b c first second last = rw (last, second, first) (simp append_assoc)
three (Err n) v0 v1 v2 w a b c first second last = tt

pub four : {T E : Type 0} (r : Result T E) (v0 v1 v2 v3 w a b c d : Bytes) → v1 ≡ v0 ++ a → v2 ≡ v1 ++ b → v3 ≡ v2 ++ c → OnOk r (w ≡ v3 ++ d) → OnOk r (w ≡ v0 ++ (a ++ b ++ c ++ d))
four (Ok u) v0 v1 v2 v3 w a b c d first second third last = rw (last, third, second, first) (simp append_assoc)
four (Err n) v0 v1 v2 v3 w a b c d first second third last = tt

pub five : {T E : Type 0} (r : Result T E) (v0 v1 v2 v3 v4 w a b c d e : Bytes) → v1 ≡ v0 ++ a → v2 ≡ v1 ++ b → v3 ≡ v2 ++ c → v4 ≡ v3 ++ d → OnOk r (w ≡ v4 ++ e) → OnOk r (w ≡ v0 ++ (a ++ b ++ c ++ d ++ e))
five (Ok u) v0 v1 v2 v3 v4 w a b c d e first second third fourth last = rw (last, fourth, third, second, first) (simp append_assoc)
five (Err n) v0 v1 v2 v3 v4 w a b c d e first second third fourth last = tt

pub six : {T E : Type 0} (r : Result T E) (v0 v1 v2 v3 v4 v5 w a b c d e f : Bytes) → v1 ≡ v0 ++ a → v2 ≡ v1 ++ b → v3 ≡ v2 ++ c → v4 ≡ v3 ++ d → v5 ≡ v4 ++ e → OnOk r (w ≡ v5 ++ f) → OnOk r (w ≡ v0 ++ (a ++ b ++ c ++ d ++ e ++ f))
six (Ok u) v0 v1 v2 v3 v4 v5 w a b c d e f first second third fourth fifth last = rw (last, fifth, fourth, third, second, first) (simp append_assoc)
six (Err n) v0 v1 v2 v3 v4 v5 w a b c d e f first second third fourth fifth last = tt

-- what is made of the items of a list, one behind the other: what stands there, with what is still to come, is the whole
pub item_more : {A X : Type 0} (f : A → List X) (xs : List A) (i : ℕ) (x d : A) (v w whole : List X) → i < length xs → x ≡ get_or xs i d
    → v ++ flat_map f (drop i xs) ≡ whole → w ≡ v ++ f x → w ++ flat_map f (drop (i + 1) xs) ≡ whole
item_more f xs i x d v w whole within is so_far put =
    ap (λ t. t ++ flat_map f (drop (i + 1) xs)) put
    ∙ append_assoc v (f x) (flat_map f (drop (i + 1) xs))
    ∙ ap (λ y. v ++ (f y ++ flat_map f (drop (i + 1) xs))) is
    ∙ ap (λ t. v ++ t) (sym (at_drop_more (flat_map f) xs i d within))
    ∙ so_far

pub items_end : {A X : Type 0} (f : A → List X) (xs : List A) (i : ℕ) (v whole : List X) → length xs ≤ i → v ++ flat_map f (drop i xs) ≡ whole → v ≡ whole
items_end f xs i v whole past so_far = sym (append-nil v) ∙ ap (λ t. v ++ t) (sym (at_drop_all (flat_map f) xs i past)) ∙ so_far

-- the same where the place is told
pub place_more : {A X : Type 0} (f : ℕ → A → List X) (xs : List A) (i : ℕ) (x d : A) (v w whole : List X) → i < length xs → x ≡ get_or xs i d
    → v ++ numbered f i (drop i xs) ≡ whole → w ≡ v ++ f i x → w ++ numbered f (i + 1) (drop (i + 1) xs) ≡ whole
place_more f xs i x d v w whole within is so_far put =
    ap (λ t. t ++ numbered f (i + 1) (drop (i + 1) xs)) put
    ∙ append_assoc v (f i x) (numbered f (i + 1) (drop (i + 1) xs))
    ∙ ap (λ y. v ++ (f i y ++ numbered f (i + 1) (drop (i + 1) xs))) is
    ∙ ap (λ t. v ++ t) (sym (at_drop_more (numbered f i) xs i d within))
    ∙ so_far

pub places_end : {A X : Type 0} (f : ℕ → A → List X) (xs : List A) (i : ℕ) (v whole : List X) → length xs ≤ i → v ++ numbered f i (drop i xs) ≡ whole → v ≡ whole
places_end f xs i v whole past so_far = sym (append-nil v) ∙ ap (λ t. v ++ t) (sym (at_drop_all (numbered f i) xs i past)) ∙ so_far

pub fold_more : {A B : Type 0} (f : B → A → B) (xs : List A) (i : ℕ) (d : A) (v w whole : B) → i < length xs → fold f v (drop i xs) ≡ whole → w ≡ f v (get_or xs i d) → fold f w (drop (i + 1) xs) ≡ whole
fold_more f xs i d v w whole within so_far is = ap (λ u. fold f u (drop (i + 1) xs)) is ∙ sym (at_drop_more (fold f v) xs i d within) ∙ so_far

pub fold_end : {A B : Type 0} (f : B → A → B) (xs : List A) (i : ℕ) (v whole : B) → length xs ≤ i → fold f v (drop i xs) ≡ whole → v ≡ whole
fold_end f xs i v whole past so_far = sym (at_drop_all (fold f v) xs i past) ∙ so_far
