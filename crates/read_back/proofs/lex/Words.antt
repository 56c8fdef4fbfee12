-- Of the words that a text says none is left out of the language, and none is too large.
use Rattle.std.proofs.Common.{◌≡◌, ℕ, true, false, List, [], ◌∷◌, ◌++◌, refl, sym, subst, ◌∙◌}
use Rattle.std.specs.Prelude.{not, flat_map}
use Rattle.std.specs.List.{list_all}
use Rattle.std.proofs.lemmas.List.Folds.{list_any-append}
use Rattle.std.proofs.lemmas.Bool.{and_parts, or_parts, not-true}
use Rattle.cpo_text.specs.Words.{Word}
use Rattle.cpo_text.specs.Runs.{is_left_out, has_left_out, is_large, has_large}
use Rattle.read_back.specs.Says.{Chunk, chunk_words, is_spelt, is_chunk, Says}
use Rattle.read_back.specs.Says.{is_left_out as is_name_left_out}
use Rattle.read_back.specs.Says.Chunk.{name, number, sign, blank}

-- words that the language knows
pub record AreKnown (ws : List Word) : Type 0 where
  pub left_out : has_left_out ws ≡ false
  pub large : has_large ws ≡ false

no_chunk_left_out : (c : Chunk) → is_chunk c ≡ true → has_left_out (chunk_words c) ≡ false
no_chunk_left_out (name n) is = let kept = not-true (is_name_left_out n) (and_parts (is_spelt n) (not (is_name_left_out n)) is).1 in rw kept refl
no_chunk_left_out (number n) is = refl
no_chunk_left_out (sign s) is = refl
no_chunk_left_out (blank b) is = refl

no_chunk_large : (c : Chunk) → has_large (chunk_words c) ≡ false
no_chunk_large (name n) = refl
no_chunk_large (number n) = refl
no_chunk_large (sign s) = refl
no_chunk_large (blank b) = refl

both_known : (xs ys : List Word) → AreKnown xs → AreKnown ys → AreKnown (xs ++ ys)
both_known xs ys a b = record { left_out = list_any-append is_left_out xs ys ∙ rw (a.left_out, b.left_out) refl; large = list_any-append is_large xs ys ∙ rw (a.large, b.large) refl }

chunks_known : (cs : List Chunk) → list_all is_chunk cs ≡ true → AreKnown (flat_map chunk_words cs)
chunks_known [] are = record { left_out = refl; large = refl }
chunks_known (c ∷ cs) are =
    let parts = and_parts (is_chunk c) (list_all is_chunk cs) are in
    both_known (chunk_words c) (flat_map chunk_words cs) (record { left_out = no_chunk_left_out c parts.0; large = no_chunk_large c }) (chunks_known cs parts.1)

pub said_known : (text : List ℕ) (words : List Word) → Says text words → AreKnown words
said_known text words says = subst AreKnown (sym says.said) (chunks_known says.chunks says.are)

-- and so in each part of them
pub parts_known : (xs ys : List Word) → AreKnown (xs ++ ys) → AreKnown xs × AreKnown ys
parts_known xs ys known =
    let a = or_parts (has_left_out xs) (has_left_out ys) (sym (list_any-append is_left_out xs ys) ∙ known.left_out) in
    let b = or_parts (has_large xs) (has_large ys) (sym (list_any-append is_large xs ys) ∙ known.large) in
    (record { left_out = a.0; large = b.0 }, record { left_out = a.1; large = b.1 })
