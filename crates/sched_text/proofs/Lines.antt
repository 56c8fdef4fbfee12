-- Lines written word by word, each word behind a space.
use Rattle.std.proofs.Common.{◌≡◌, ◌∙◌, List, [], ◌∷◌, ◌++◌, map, refl, sym, ap, append-nil}
use Rattle.std.specs.List.{flat_map}
use Rattle.sched_base.specs.State.{State}
use Rattle.textline.specs.Lines.{Bytes, line, spaced}
use Rattle.textline.specs.laws.Spaced.{spaced_append, line_is}
use Rattle.sched_text.specs.declared.page.Page.{Page}
use Rattle.sched_text.specs.code.Printing.{Prints}
use Rattle.sched_text.proofs.Printing.{both, «as»}

spaced_map : {A : Type 0} (f : A → Bytes) (xs : List A) → flat_map (λ x. 32 ∷ f x) xs ≡ spaced (map f xs)
unfolding spaced
spaced_map f [] = refl
spaced_map f (x ∷ xs) = ap (λ t. (32 ∷ f x) ++ t) (spaced_map f xs)

spaced_flat : {A : Type 0} (f : A → List Bytes) (xs : List A) → flat_map (λ x. spaced (f x)) xs ≡ spaced (flat_map f xs)
unfolding spaced
spaced_flat f [] = refl
spaced_flat f (x ∷ xs) = ap (λ t. spaced (f x) ++ t) (spaced_flat f xs) ∙ sym (spaced_append (f x) (flat_map f xs))

-- a word, and the others each behind a space
pub line_of_items : {A : Type 0} (f : A → Bytes) (xs : List A) (c : Bytes) → c ++ (flat_map (λ x. 32 ∷ f x) xs ++ 10 ∷ []) ≡ line (c ∷ map f xs)
line_of_items f xs c = ap (λ t. c ++ (t ++ 10 ∷ [])) (spaced_map f xs) ∙ sym (line_is c (map f xs))

pub line_of_lists : {A : Type 0} (f : A → List Bytes) (xs : List A) (c : Bytes) → c ++ (flat_map (λ x. spaced (f x)) xs ++ 10 ∷ []) ≡ line (c ∷ flat_map f xs)
line_of_lists f xs c = ap (λ t. c ++ (t ++ 10 ∷ [])) (spaced_flat f xs) ∙ sym (line_is c (flat_map f xs))

pub three_words : {a b c : Bytes} {p0 p1 p2 p3 : Page} {s0 s1 s2 s3 : State} → Prints (32 ∷ a) p0 p1 s0 s1 → Prints (32 ∷ b) p1 p2 s1 s2 → Prints (32 ∷ c) p2 p3 s2 s3 → Prints (spaced (a ∷ b ∷ c ∷ [])) p0 p3 s0 s3
unfolding spaced
three_words {a} {b} {c} first second third = «as» (both first (both second third)) (ap (λ (t : Bytes). 32 ∷ (a ++ 32 ∷ (b ++ 32 ∷ t))) (sym (append-nil c)))
