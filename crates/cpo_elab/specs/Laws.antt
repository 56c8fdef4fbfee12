-- Laws of what a text deserves.
use Rattle.std.specs.Prelude.{◌≡◌, ℕ, ◌≤◌, List, length, take, IsTrue}
use Rattle.sched_model.specs.Data.{Data}
use Rattle.cpo_text.specs.Tokens.{Token, HasTokens}
use Rattle.cpo_text.specs.Runs.{words_of}
use Rattle.cpo_text.specs.Reads.{IsRead, text_limit, told_limit}
use Rattle.cpo_text.specs.declared.text.Reading.{Reading}
use Rattle.cpo_text.specs.declared.text.Tree.{Tree}
use Rattle.cpo_elab.specs.Shaped.{are_shaped}
use Rattle.cpo_elab.specs.Stages.{empty_stage}
use Rattle.cpo_elab.specs.Answers.{Answer, judged}
use Rattle.cpo_elab.specs.Answers.Answer.{Refused, Accepted}
use Rattle.cpo_elab.specs.Asked.{MeansText}
use Rattle.cpo_elab.specs.Deserves.{Deserves}

-- two answers that a text deserves are one
abbrev pub AtMostOneAnswer : Type 0
AtMostOneAnswer = (text : List ℕ) (a b : Answer) → Deserves text a → Deserves text b → a ≡ b

-- each text deserves one
abbrev pub SomeAnswer : Type 0
SomeAnswer = (text : List ℕ) → (a : Answer) × Deserves text a

-- the statements behind the last that is told say nothing: at the latest that one deserves a number
abbrev pub OnlyToldCount : Type 0
OnlyToldCount = (xs : List Reading) → judged empty_stage 1 (take told_limit xs) ≡ judged empty_stage 1 xs

abbrev pub SameButOffset : Answer → Answer → Type 0
SameButOffset (Refused r) (Refused q) = (r.number ≡ q.number) × (r.statement ≡ q.statement)
SameButOffset (Refused r) (Accepted n) = ⊥
SameButOffset (Accepted m) (Refused q) = ⊥
SameButOffset (Accepted m) (Accepted n) = m ≡ n

-- texts of the same words deserve the same but for the offset: what stands between the tokens says nothing
abbrev pub OnlyWordsCount : Type 0
OnlyWordsCount = (text other : List ℕ) (ts us : List Token) (a b : Answer)
    → length text ≤ text_limit → length other ≤ text_limit → HasTokens text ts → HasTokens other us → words_of ts ≡ words_of us
    → Deserves text a → Deserves other b → SameButOffset a b

-- the trees of a text are as the grammar has them
abbrev pub TextsAreShaped : Type 0
TextsAreShaped = (text : List ℕ) (tree : Tree) → IsRead text tree → IsTrue (are_shaped tree.statements)

-- what the model that a text deserves asks of an assignment is what the text does
abbrev pub ModelsSayTheirTexts : Type 0
ModelsSayTheirTexts = (text : List ℕ) (tree : Tree) (m : Data) → IsRead text tree → Deserves text (Accepted m) → MeansText tree.statements m
