-- The last line.
use Rattle.std.proofs.Common.{◌≡◌, ◌↔◌, Bool, true, false, IsTrue, [], ◌∷◌, ◌++◌, codes, Some, sym, ap, ◌∙◌, refl}
use Rattle.std.proofs.lemmas.List.{append_cancel_right}
use Rattle.textline.specs.Lines.{Bytes, line, words_of}
use Rattle.textline.specs.laws.Lines.{line_of_words}
use Rattle.read_schedule.specs.code.Rows.{end_row}
use Rattle.read_schedule.specs.code.Reads.{Starts, TakesLine}
use Rattle.read_schedule.proofs.spelling.Taken.{same_words}

-- a line is `end` where its words are
pub other_line : (old l new : Bytes) → TakesLine old new (Some l) → (l ≡ codes "end" → ⊥) → Starts end_row old → ⊥
other_line old l new taken other starts =
    let same : end_row ≡ words_of l = same_words end_row old l new taken refl starts in
    other (append_cancel_right l (codes "end") (10 ∷ []) (sym (line_of_words l) ∙ ap line (sym same)))

pub end_here : (old l new : Bytes) → TakesLine old new (Some l) → l ≡ codes "end" → old ≡ line end_row ++ new
end_here old l new taken is = taken.1 ∙ ap (λ t. line (words_of t) ++ new) is ∙ ap (λ t. t ++ new) (line_of_words (codes "end"))

pub only_end : (old l new : Bytes) → TakesLine old new (Some l) → l ≡ codes "end" → new ≡ [] → old ≡ line end_row
only_end old l new taken is none = end_here old l new taken is ∙ ap (λ t. line end_row ++ t) none

-- what a test says
pub is_so : {P : Type 0} (b : Bool) → IsTrue b ↔ P → b ≡ true → P
is_so b both is = both.0 is

pub not_so : {P : Type 0} (b : Bool) → IsTrue b ↔ P → b ≡ false → P → ⊥
not_so b both is p = let other : b ≡ true = both.1 p in cc
