-- Where something stands in a text, and what is told of a statement there.
use Rattle.std.specs.Prelude.{◌≡◌, ◌==◌, ℕ, ◌+◌, ◌≤◌, ◌<◌, Bool, true, false, ◌||◌, if◌then◌else◌, List, [], ◌∷◌, ◌++◌, length, take}
use Rattle.sched_model.specs.Data.{Data}
use Rattle.cpo_text.specs.declared.text.Form.{Form}
use Rattle.cpo_text.specs.declared.text.Form.TheVariants.{Tree as Parsed, Number}
use Rattle.cpo_text.specs.declared.text.Reading.{Reading}
use Rattle.cpo_text.specs.declared.text.Tree.{Tree}
use Rattle.cpo_text.specs.Reads.{IsRead}
use Rattle.cpo_elab.specs.Answers.Answer.{Accepted}
use Rattle.cpo_elab.specs.Deserves.{Deserves}
use Rattle.textline.specs.Lines.{Bytes}
use Rattle.reasons.specs.declared.places.Spot.{Spot}
use Rattle.reasons.specs.declared.places.Spot.TheVariants.{Words, Slash, Line, Block, Star, Quoted}
use Rattle.reasons.specs.declared.words.Word.{Word}
use Rattle.reasons.specs.declared.sought.Part.{Part}

-- the line and the column behind some bytes, where the first byte of them stands there; both are counted from 1
abbrev pub next_line : ℕ → ℕ → ℕ
next_line n b = if b == 10 then n + 1 else n

abbrev pub line_from : ℕ → Bytes → ℕ
line_from n [] = n
line_from n (b ∷ bs) = line_from (next_line n b) bs

abbrev pub next_column : ℕ → ℕ → ℕ
next_column n b = if b == 10 then 1 else n + 1

abbrev pub column_from : ℕ → Bytes → ℕ
column_from n [] = n
column_from n (b ∷ bs) = column_from (next_column n b) bs

-- those of the byte at an offset
abbrev pub line_of : Bytes → ℕ → ℕ
line_of text at = line_from 1 (take at text)

abbrev pub column_of : Bytes → ℕ → ℕ
column_of text at = column_from 1 (take at text)

-- where the byte behind one stands: among words, in a comment, or in a quotation, which ends with its line at the latest
abbrev pub among : ℕ → Spot
among b = if b == 47 then Slash else if b == 34 then Quoted else Words

abbrev pub next : Spot → ℕ → Spot
next Words b = among b
next Slash b = if b == 47 then Line else if b == 42 then Block else among b
next Line b = if b == 10 then Words else Line
next Block b = if b == 42 then Star else Block
next Star b = if b == 47 then Words else if b == 42 then Star else Block
next Quoted b = if b == 34 || b == 10 then Words else Quoted

-- a semicolon ends a statement where it stands among words
abbrev pub ends : Spot → ℕ → Bool
ends Words b = b == 59
ends Slash b = b == 59
ends _ b = false

-- how many bytes there are up to the first that ends the statement, and with it, where so many stand before them
abbrev pub length_from : Spot → ℕ → Bytes → ℕ
length_from s n [] = n
length_from s n (b ∷ bs) = if ends s b then n + 1 else length_from (next s b) (n + 1) bs

abbrev pub statement_len : Bytes → ℕ
statement_len text = length_from Words 0 text

-- the statement with which a text begins, as it stands
abbrev pub statement_text : Bytes → Bytes
statement_text text = take (statement_len text) text

-- one statement, and it is in the grammar
abbrev pub is_one : List Reading → Bool
is_one [] = false
is_one (r ∷ []) = is_tree r.form where
  is_tree : Form → Bool
  is_tree (Parsed s) = true
  is_tree (Number n) = false
is_one (r ∷ q ∷ rs) = false

abbrev pub IsOneStatement : Bytes → Type 0
IsOneStatement text = (tree : Tree) × IsRead text tree × (is_one tree.statements ≡ true)

-- some statement begins so
abbrev pub CanBegin : Bytes → Type 0
CanBegin front = (more : Bytes) × IsOneStatement (front ++ more)

-- in front of this word it could go on
abbrev pub IsStuckAt : Bytes → Word → Type 0
IsStuckAt text w = CanBegin (take w.from text)

-- the text deserves a model with so many constraints
abbrev pub FrontHas : Bytes → ℕ → Type 0
FrontHas text n = (m : Data) × Deserves text (Accepted m) × (n ≡ length m.constraints)

-- in front of this part the text has at most so many, and with it more: so it makes the one of this number
abbrev pub IsStatementOf : Bytes → ℕ → Part → Type 0
IsStatementOf text c part = (before : ℕ) × (behind : ℕ) × FrontHas (take part.from text) before × FrontHas (take part.to text) behind × (before ≤ c) × (c < behind)
