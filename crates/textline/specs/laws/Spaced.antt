-- Words put one after another, each with a space before it.
use Rattle.std.proofs.Common.{◌≡◌, ◌∙◌, List, [], ◌∷◌, ◌++◌, refl, sym, ap, append_assoc}
use Rattle.textline.specs.Lines.{Bytes, line, spaced}

-- words behind words
pub spaced_append : (vs ws : List Bytes) → spaced (vs ++ ws) ≡ spaced vs ++ spaced ws
unfolding spaced
spaced_append [] ws = refl
spaced_append (v ∷ vs) ws = ap (λ bs. 32 ∷ (v ++ bs)) (spaced_append vs ws) ∙ ap (λ bs. 32 ∷ bs) (sym (append_assoc v (spaced vs) (spaced ws)))

-- a line is its first word, the others each behind a space, and a line feed
pub line_is : (c : Bytes) (ws : List Bytes) → line (c ∷ ws) ≡ c ++ (spaced ws ++ 10 ∷ [])
unfolding spaced
line_is c [] = refl
line_is c (w ∷ ws) = ap (λ bs. c ++ 32 ∷ bs) (line_is w ws ∙ sym (append_assoc w (spaced ws) (10 ∷ [])))
