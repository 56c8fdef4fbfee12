-- What reading a text answers: a refusal of the whole text, or each statement as its words alone tell it.
use Rattle.std.specs.Prelude.{◌≡◌, ◌⊎◌, ℕ, ◌+◌, ◌≤◌, ◌<◌, true, false, List, [], ◌∷◌, length, take, Some, None, Result, Ok, Err, ⊤}
use Rattle.cpo_text.specs.Words.{Word}
use Rattle.cpo_text.specs.Tokens.{Token, HasTokens, HasBadByte}
use Rattle.cpo_text.specs.Runs.{runs, words_of, ended, offset, early, has_large}
use Rattle.cpo_text.specs.Spelling.{IsStatement}
use Rattle.cpo_text.specs.declared.tree.Statement.{Statement}
use Rattle.cpo_text.specs.declared.text.Form.{Form}
use Rattle.cpo_text.specs.declared.text.Form.TheVariants.{Tree as Parsed, Number}
use Rattle.cpo_text.specs.declared.text.Reading.{Reading}
use Rattle.cpo_text.specs.declared.text.Refusal.{Refusal}
use Rattle.cpo_text.specs.declared.text.ReadFault.{ReadFault}
use Rattle.cpo_text.specs.declared.text.ReadFault.TheVariants.{Refused, NoMemory}
use Rattle.cpo_text.specs.declared.text.Tree.{Tree}

-- some statement has these words
abbrev pub IsGrammatical : List Word → Type 0
IsGrammatical ws = (s : Statement) × IsStatement ws s

-- which of the numbers 14, 11, 2 and 3 a run of words deserves by itself
abbrev pub DeservesNumber : List Word → ℕ → Type 0
DeservesNumber ws n = (early ws ≡ Some n)
    ⊎ ((early ws ≡ None) × (((n ≡ 2) × (IsGrammatical ws → ⊥)) ⊎ ((n ≡ 3) × IsGrammatical ws × (has_large ws ≡ true))))

abbrev pub HasForm : List Word → Form → Type 0
HasForm ws (Parsed s) = (early ws ≡ None) × IsStatement ws s × (has_large ws ≡ false)
HasForm ws (Number n) = DeservesNumber ws n

-- each run has its reading
abbrev pub AreReadings : List (List Token) → List Reading → Type 0
AreReadings [] [] = ⊤
AreReadings (r ∷ rs) (x ∷ xs) = (x.at ≡ offset r) × HasForm (words_of r) x.form × AreReadings rs xs
AreReadings [] (x ∷ xs) = ⊥
AreReadings (r ∷ rs) [] = ⊥

abbrev pub text_limit : ℕ
text_limit = 16777216

-- A text may have 100,000 statements. The one behind them is refused at the latest, so those further on are not told.
abbrev pub told_limit : ℕ
told_limit = 100001

unfoldable pub told : List (List Token) → List (List Token)
told rs = take told_limit rs

-- the text is within its limit and has no bad byte; each of its runs, up to the last that is told, has its reading
pub record IsRead (text : List ℕ) (tree : Tree) : Type 0 where
  pub short : length text ≤ text_limit
  pub tokens : List Token
  pub are : HasTokens text tokens
  pub readings : AreReadings (told (runs tokens)) tree.statements

-- the text is too long, or it has a bad byte behind some tokens
pub data IsRefused (text : List ℕ) (r : Refusal) : Type 0 where
  too_long : text_limit < length text → r ≡ record { number = 11; statement = 0; at = text_limit } → IsRefused text r
  bad_byte : (ts : List Token) (at : ℕ) → length text ≤ text_limit → HasBadByte text ts at → r ≡ record { number = 1; statement = 1 + ended ts; at = at } → IsRefused text r

abbrev pub Reads : List ℕ → Result Tree ReadFault → Type 0
Reads text (Ok tree) = IsRead text tree
Reads text (Err (Refused r)) = IsRefused text r
Reads text (Err NoMemory) = ⊤
