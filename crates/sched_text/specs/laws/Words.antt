-- Lines with one beginning, and what their words tell.
use Rattle.std.specs.Prelude.{◌≡◌, ℕ, true, List, [], ◌∷◌, ◌++◌}
use Rattle.std.proofs.Common.{refl, sym, ◌∙◌, append_assoc}
use Rattle.std.proofs.lemmas.List.{append_cancel_left}
use Rattle.textline.specs.Lines.{Bytes, line}
use Rattle.textline.specs.Words.{are_words}
use Rattle.textline.specs.laws.Lines.{line_told, behind, feed_is_no_space}

rest_same : (c : Bytes) (a b : ℕ) (x y p q : Bytes) → (c ++ a ∷ x) ++ p ≡ (c ++ b ∷ y) ++ q → a ∷ x ++ p ≡ b ∷ y ++ q
rest_same c a b x y p q e = append_cancel_left c (a ∷ x ++ p) (b ∷ y ++ q) (sym (append_assoc c (a ∷ x) p) ∙ e ∙ append_assoc c (b ∷ y) q)

-- behind the same first word
pub next_line : (c w : Bytes) (ws : List Bytes) (v : Bytes) (vs : List Bytes) (p q : Bytes) → line (c ∷ w ∷ ws) ++ p ≡ line (c ∷ v ∷ vs) ++ q → line (w ∷ ws) ++ p ≡ line (v ∷ vs) ++ q
next_line c w ws v vs p q e = behind 32 32 (line (w ∷ ws) ++ p) (line (v ∷ vs) ++ q) (rest_same c 32 32 (line (w ∷ ws)) (line (v ∷ vs)) p q e)

pub words_told : (c : Bytes) (ws vs : List Bytes) (p q : Bytes) → are_words ws ≡ true → are_words vs ≡ true → line (c ∷ ws) ++ p ≡ line (c ∷ vs) ++ q → (ws ≡ vs) × (p ≡ q)
words_told c [] [] p q hw hv e = (refl, behind 10 10 p q (rest_same c 10 10 [] [] p q e))
words_told c [] (v ∷ vs) p q hw hv e = absurd (feed_is_no_space p (line (v ∷ vs) ++ q) (rest_same c 10 32 [] (line (v ∷ vs)) p q e))
words_told c (w ∷ ws) [] p q hw hv e = absurd (feed_is_no_space q (line (w ∷ ws) ++ p) (sym (rest_same c 32 10 (line (w ∷ ws)) [] p q e)))
words_told c (w ∷ ws) (v ∷ vs) p q hw hv e = line_told w ws v vs p q hw hv (next_line c w ws v vs p q e)
