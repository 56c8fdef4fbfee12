-- Statements, each in a line of its own, say the words of them all.
use Rattle.std.proofs.Common.{ℕ, Bool, true, List, [], ◌∷◌, ◌++◌, map, Option, Some, None, refl}
use Rattle.std.specs.Prelude.{flat_map, option_to_list, IsTrue, codes}
use Rattle.std.specs.List.{list_all, filter_map, cons_option}
use Rattle.std.proofs.lemmas.List.{append_assoc, append-nil}
use Rattle.std.proofs.lemmas.List.Concat.{flat_map-append}
use Rattle.std.proofs.lemmas.List.Folds.{list_all-append}
use Rattle.std.proofs.lemmas.Bool.{and_parts, and_from}
use Rattle.cpo_text.specs.Words.{Word, Word as word}
use Rattle.cpo_text.specs.Spelling.{spelling, statement_body, is_formed}
use Rattle.cpo_text.specs.declared.tree.Statement.{Statement}
use Rattle.sched_text.specs.Canonical.{statement}
use Rattle.read_back.specs.Says.{Says, is_chunk}
use Rattle.read_back.specs.Says.Chunk.{name, sign, blank}
use Rattle.read_back.proofs.Joined.{nothing, a_name}
use Rattle.read_back.proofs.said.Joined.{across, along, space, line_feed, semicolon}

-- behind the text may stand whatever says something
abbrev pub Follows : List ℕ → List Word → Type 0
Follows text words = (more : List ℕ) (ws : List Word) → Says more ws → Says (text ++ more) (words ++ ws)

pub record Lines (text : List ℕ) (ss : List Statement) : Type 0 where
  pub said : Follows text (flat_map spelling ss)
  pub formed : IsTrue (list_all is_formed ss)

pub no_line : Lines [] []
no_line = record { said = λ more ws says. says; formed = refl }

pub lines_both : {a b : List ℕ} {ss ts : List Statement} → Lines a ss → Lines b ts → Lines (a ++ b) (ss ++ ts)
lines_both {a} {b} {ss} {ts} first second = record {
  said = λ more ws says. rw (append_assoc a b more, flat_map-append spelling ss ts, append_assoc (flat_map spelling ss) (flat_map spelling ts) ws)
      (first.said (b ++ more) (flat_map spelling ts ++ ws) (second.said more ws says));
  formed = rw (list_all-append is_formed ss ts) (and_from (list_all is_formed ss) _ first.formed second.formed);
}

line_follows : (text : List ℕ) (words : List Word) → Says text words → Follows (statement text) (words ++ word.sign (59 ∷ []) ∷ [])
line_follows text words here more ws says = rw (append_assoc (text ++ 59 ∷ []) (10 ∷ []) more, append_assoc words (word.sign (59 ∷ []) ∷ []) ws)
    (along (sign (59 ∷ [])) semicolon here (across (blank 10) line_feed nothing says))

pub line : (text : List ℕ) (s : Statement) → Says text (statement_body s) → IsTrue (is_formed s) → Lines (statement text) (s ∷ [])
line text s here is = record {
  said = rw (append-nil (spelling s)) (line_follows text (statement_body s) here);
  formed = and_from (is_formed s) true is refl;
}

equal_sign : Says (61 ∷ []) (word.sign (61 ∷ []) ∷ [])
equal_sign = record { chunks = sign (61 ∷ []) ∷ []; spelt = refl; said = refl; are = refl; apart = refl }

-- what stands behind a name and its sign
pub defined : (n text : List ℕ) (ws : List Word) → IsTrue (is_chunk (name n)) → Says text ws → Says (n ++ codes " = " ++ text) (word.name n ∷ word.sign (codes "=") ∷ ws)
defined n text ws is here = rw (append_assoc n (32 ∷ 61 ∷ 32 ∷ []) text) (across (blank 32) space (a_name n is) (across (blank 32) space equal_sign here))

pub lines_each : {X : Type 0} (test : X → Bool) (text : X → List ℕ) (tree : X → Statement) → ((x : X) → IsTrue (test x) → Lines (text x) (tree x ∷ []))
    → (xs : List X) → IsTrue (list_all test xs) → Lines (flat_map text xs) (map tree xs)
lines_each test text tree each [] all = no_line
lines_each test text tree each (x ∷ xs) all =
    let parts = and_parts (test x) (list_all test xs) all in
    lines_both (each x parts.0) (lines_each test text tree each xs parts.1)

some_in_front : {a b : List ℕ} {ss : List Statement} (o : Option Statement) → Lines a (option_to_list o) → Lines b ss → Lines (a ++ b) (cons_option o ss)
some_in_front None first second = lines_both first second
some_in_front (Some s) first second = lines_both first second

-- the same of those that have a statement; a thing without one has no text
pub lines_of_some : {X : Type 0} (test : X → Bool) (text : X → List ℕ) (tree : X → Option Statement) → ((x : X) → IsTrue (test x) → Lines (text x) (option_to_list (tree x)))
    → (xs : List X) → IsTrue (list_all test xs) → Lines (flat_map text xs) (filter_map tree xs)
lines_of_some test text tree each [] all = no_line
lines_of_some test text tree each (x ∷ xs) all =
    let parts = and_parts (test x) (list_all test xs) all in
    some_in_front (tree x) (each x parts.0) (lines_of_some test text tree each xs parts.1)
