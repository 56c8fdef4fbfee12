-- The next line by what is read of its words.
use Rattle.std.proofs.Common.{◌≡◌, Bool, true, false, List, ◌∷◌, ◌++◌, Some, None, Result, Ok, Err, sym, ap, ◌∙◌}
use Rattle.textline.specs.Lines.{Bytes, words_of}
use Rattle.read_schedule.specs.Schedules.{is_line}
use Rattle.std.proofs.lemmas.List.{append_cancel_left}
use Rattle.read_schedule.specs.declared.stop.PartStop.{PartStop}
use Rattle.read_schedule.specs.declared.stop.PartStop.TheVariants.{Line, NoMemory}
use Rattle.read_schedule.specs.code.Reads.{Starts, TakesLine, TakesRow, ReadsAll, TriesAll, TriesRow}
use Rattle.read_schedule.proofs.spelling.Texts.{lines_told}

-- values that may be spelled are told by their lines, which are lines, and those that fit may be spelled
pub record Told {A : Type 0} (spelled : A → List Bytes) (able fit : A → Bool) : Type 0 where
  pub tells : (a b : A) → able a ≡ true → able b ≡ true → spelled a ≡ spelled b → a ≡ b
  pub lines : (a : A) → able a ≡ true → is_line (spelled a) ≡ true
  pub more : (a : A) → fit a ≡ true → able a ≡ true

-- a line of words that stands in front
pub same_words : (ws : List Bytes) (old l new : Bytes) → TakesLine old new (Some l) → is_line ws ≡ true → Starts ws old → ws ≡ words_of l
same_words ws old l new taken line_is starts = (lines_told ws (words_of l) starts.0 new line_is taken.0 (sym starts.1 ∙ taken.1)).0

pub unread : {A : Type 0} (spelled : A → List Bytes) (able fit : A → Bool) → Told spelled able fit → (old l new : Bytes) → TakesLine old new (Some l) → ReadsAll spelled able (words_of l) None → TakesRow spelled fit old new None
unread spelled able fit told old l new taken none = λ v fits starts.
    none v (told.more v fits) (sym (same_words (spelled v) old l new taken (told.lines v (told.more v fits)) starts))

pub unfit : {A : Type 0} (spelled : A → List Bytes) (able fit : A → Bool) → Told spelled able fit → (old l new : Bytes) (w : A) → TakesLine old new (Some l) → ReadsAll spelled able (words_of l) (Some w) → fit w ≡ false → TakesRow spelled fit old new None
unfit spelled able fit told old l new w taken read fails = λ v fits starts.
    let same : spelled v ≡ spelled w = same_words (spelled v) old l new taken (told.lines v (told.more v fits)) starts ∙ read.1 in
    let one : v ≡ w = told.tells v w (told.more v fits) read.0 same in
    let both : true ≡ false = sym fits ∙ ap fit one ∙ fails in cc

-- the same of a reading that memory may end

pub row_failed : {A : Type 0} (spelled : A → List Bytes) (able fit : A → Bool) → Told spelled able fit → (old l new : Bytes) (e : PartStop) → TakesLine old new (Some l) → TriesAll spelled able (words_of l) (Err e) → TriesRow spelled fit old new (Err e)
row_failed spelled able fit told old l new (Line n) taken none = unread spelled able fit told old l new taken none
row_failed spelled able fit told old l new NoMemory taken none = tt

-- words in front of those that spell a value
pub behind_words : {A : Type 0} (spelled : A → List Bytes) (able : A → Bool) (front : List Bytes) (ws rest : List Bytes) (r : Result A PartStop) → ws ≡ front ++ rest → TriesAll spelled able rest r → TriesAll (λ v. front ++ spelled v) able ws r
behind_words spelled able front ws rest (Ok v) same tries = (tries.0, same ∙ ap (λ vs. front ++ vs) tries.1)
behind_words spelled able front ws rest (Err (Line n)) same none = λ v fit e. none v fit (append_cancel_left front rest (spelled v) (sym same ∙ e))
behind_words spelled able front ws rest (Err NoMemory) same none = tt

-- another first word, or another second one
pub other_first : {A : Type 0} (spelled : A → List Bytes) (able : A → Bool) (w v : Bytes) (ws old new : List Bytes) → ((vs : List Bytes) → old ≡ w ∷ vs → ⊥) → ws ≡ old → (a : A) → able a ≡ true → ws ≡ w ∷ v ∷ spelled a → ⊥
other_first spelled able w v ws old new none same a fit e = none (v ∷ spelled a) (sym same ∙ e)
