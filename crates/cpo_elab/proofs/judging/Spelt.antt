-- The trees of a text are as the grammar has them: names are names of the language, and nodes have their operands.
use Rattle.std.proofs.Common.{◌≡◌, ℕ, zero, suc, ◌+◌, Bool, true, false, not, ◌&&◌, nat_le, if◌then◌else◌, List, [], ◌∷◌, map, length, take, drop, Option, Some, None, refl, sym, subst}
use Rattle.std.specs.List.{list_all}
use Rattle.std.proofs.lemmas.Bool.{and_parts, and_from}
use Rattle.cpo_text.specs.Words.{Word, size_word}
use Rattle.cpo_text.specs.Words.Word.{name, number, large, sign, quoted}
use Rattle.cpo_text.specs.Tokens.{Token, IsPiece, IsAtFront, ArePieces, put, word_of, bounded, tokens_of, digits_value}
use Rattle.cpo_text.specs.Runs.{runs, before_runs, words_of, is_end}
use Rattle.cpo_text.specs.Spelling.{spelling, IsStatement}
use Rattle.cpo_text.specs.Reads.{HasForm, AreReadings, told_limit, told}
use Rattle.cpo_text.specs.declared.piece.Piece.{Piece}
use Rattle.cpo_text.specs.declared.piece.Piece.TheVariants as piece
use Rattle.cpo_text.specs.declared.tree.Constrained.TheVariants.{Between, Parts, Alternative, NoOverlap, Extreme, Ordered, Bounded, AlwaysIn, AlwaysEqual, AlwaysNoState, Holds}
use Rattle.cpo_text.specs.declared.tree.Statement.{Statement}
use Rattle.cpo_text.specs.declared.tree.Statement.TheVariants.{Empty, Define, Constrain, Forbid, Aim, Rank}
use Rattle.cpo_text.specs.declared.text.Form.{Form}
use Rattle.cpo_text.specs.declared.text.Form.TheVariants.{Tree as Parsed, Number}
use Rattle.cpo_text.specs.declared.text.Reading.{Reading}
use Rattle.cpo_text.specs.Expressions.{at_least, all_at_least, level, are_logics}
use Rattle.cpo_text.specs.declared.expression.Logic.{Logic}
use Rattle.sched_model.specs.Words.{is_empty}
use Rattle.cpo_elab.specs.Shaped.{is_spelt, has_operands, is_shaped, is_shaped_form, are_shaped}
use Rattle.cpo_elab.specs.Laws.{TextsAreShaped}
use Rattle.cpo_elab.proofs.values.Operands.{grammar_operands}

-- a word that is no name, or a name of the language
abbrev is_told : Word → Bool
is_told (name n) = is_spelt n
is_told (number n) = true
is_told large = true
is_told (sign s) = true
is_told quoted = true

-- tokens

size_told : (o : Option ℕ) → is_told (size_word o) ≡ true
size_told None = refl
size_told (Some n) = refl

name_told : (bs : List ℕ) → IsPiece piece.Name bs → is_told (name bs) ≡ true
name_told [] h = absurd h
name_told (c ∷ cs) h = and_from _ _ h.0 h.1

put_told : (p : Piece) (at : ℕ) (bs : List ℕ) (ts : List Token) → IsPiece p bs → list_all is_told (words_of ts) ≡ true → list_all is_told (words_of (put at (word_of p bs) ts)) ≡ true
put_told piece.Name at bs ts here rest = and_from (is_told (name bs)) _ (name_told bs here) rest
put_told piece.Int at bs ts here rest = and_from (is_told (size_word (bounded (digits_value bs)))) _ (size_told (bounded (digits_value bs))) rest
put_told piece.Sign at bs ts here rest = rest
put_told piece.Quoted at bs ts here rest = rest
put_told piece.Blank at bs ts here rest = rest
put_told piece.Line at bs ts here rest = rest
put_told piece.Block at bs ts here rest = rest

piece_at_front : (bs : List ℕ) (p : Piece) (n : ℕ) → IsAtFront bs p n → IsPiece p (take n bs)
piece_at_front bs piece.Name n front = front.1
piece_at_front bs piece.Int n front = front.1
piece_at_front bs piece.Sign n front = front.1
piece_at_front bs piece.Quoted n front = front.1
piece_at_front bs piece.Blank n front = front.1
piece_at_front bs piece.Line n front = front.1
piece_at_front bs piece.Block n front = front.1

tokens_told : (at : ℕ) (bs : List ℕ) (ps : List (Piece × ℕ)) (rest : List ℕ) → ArePieces bs ps rest → list_all is_told (words_of (tokens_of at bs ps)) ≡ true
tokens_told at bs [] rest are = refl
tokens_told at bs (p ∷ ps) rest are =
    put_told p.0 at (take p.1 bs) (tokens_of (at + p.1) (drop p.1 bs) ps) (piece_at_front bs p.0 p.1 are.0.front) (tokens_told (at + p.1) (drop p.1 bs) ps rest are.1)

-- runs

abbrev run_told : List Token → Bool
run_told r = list_all is_told (words_of r)

before_told : (t : Token) (rs : List (List Token)) → is_told t.word ≡ true → list_all run_told rs ≡ true → list_all run_told (before_runs t rs) ≡ true
before_told t [] here rest = and_from (run_told (t ∷ [])) true (and_from (is_told t.word) true here refl) refl
before_told t (r ∷ rs) here rest =
    let parts = and_parts (run_told r) (list_all run_told rs) rest in
    and_from (run_told (t ∷ r)) (list_all run_told rs) (and_from (is_told t.word) (run_told r) here parts.0) parts.1

turn_told : (b : Bool) (t : Token) (rs : List (List Token)) → is_told t.word ≡ true → list_all run_told rs ≡ true → list_all run_told (if b then (t ∷ []) ∷ rs else before_runs t rs) ≡ true
turn_told true t rs here rest = and_from (run_told (t ∷ [])) _ (and_from (is_told t.word) true here refl) rest
turn_told false t rs here rest = before_told t rs here rest

runs_told : (ts : List Token) → list_all is_told (words_of ts) ≡ true → list_all run_told (runs ts) ≡ true
runs_told [] all = refl
runs_told (t ∷ ts) all =
    let parts = and_parts (is_told t.word) (list_all is_told (words_of ts)) all in
    turn_told (is_end t) t (runs ts) parts.0 (runs_told ts parts.1)

told_first : (n : ℕ) (rs : List (List Token)) → list_all run_told rs ≡ true → list_all run_told (take n rs) ≡ true
told_first zero rs all = refl
told_first (suc n) [] all = refl
told_first (suc n) (r ∷ rs) all =
    let parts = and_parts (run_told r) (list_all run_told rs) all in
    and_from (run_told r) (list_all run_told (take n rs)) parts.0 (told_first n rs parts.1)

all_told : (rs : List (List Token)) → list_all run_told rs ≡ true → list_all run_told (told rs) ≡ true
unfolding told
all_told rs all = told_first told_limit rs all

-- statements

all_operands : (es : List Logic) → all_at_least 0 (map level es) ≡ true → list_all has_operands es ≡ true
all_operands [] h = refl
all_operands (e ∷ es) h = let parts = and_parts (at_least 0 (level e)) _ h in and_from (has_operands e) (list_all has_operands es) (grammar_operands e 0 parts.0) (all_operands es parts.1)

logics_told : (es : List Logic) → are_logics es ≡ true → (not (is_empty es) && list_all has_operands es) ≡ true
logics_told [] h = cc
logics_told (e ∷ es) h = all_operands (e ∷ es) (and_parts (nat_le 1 (length (e ∷ es))) (all_at_least 0 (map level (e ∷ es))) h).1

statement_told : (ws : List Word) (s : Statement) → IsStatement ws s → list_all is_told ws ≡ true → is_shaped s ≡ true
statement_told ws Empty is told = refl
statement_told ws (Define n d) is told =
    let words : list_all is_told (spelling (Define n d)) ≡ true = subst (λ x. list_all is_told x ≡ true) is.spelt told in
    and_from (is_spelt n) true (and_parts (is_spelt n) _ words).0 refl
statement_told ws (Constrain (Between t a b z)) is told = refl
statement_told ws (Constrain (Parts h a ns)) is told = refl
statement_told ws (Constrain (Alternative a ns n)) is told = refl
statement_told ws (Constrain (NoOverlap p s)) is told = refl
statement_told ws (Constrain (Extreme e p a)) is told = refl
statement_told ws (Constrain (Ordered o p a b)) is told = refl
statement_told ws (Constrain (Bounded f b c)) is told = refl
statement_told ws (Constrain (AlwaysIn f w lo hi)) is told = refl
statement_told ws (Constrain (AlwaysEqual g a v aligned)) is told = refl
statement_told ws (Constrain (AlwaysNoState g a)) is told = refl
statement_told ws (Constrain (Holds e)) is told = and_from (has_operands e) true (grammar_operands e 0 is.formed) refl
statement_told ws (Forbid w a f) is told = refl
statement_told ws (Aim sense e) is told = and_from (has_operands e) true (grammar_operands e 0 is.formed) refl
statement_told ws (Rank sense es) is told = logics_told es is.formed

form_told : (ws : List Word) (f : Form) → HasForm ws f → list_all is_told ws ≡ true → is_shaped_form f ≡ true
form_told ws (Parsed s) has told = statement_told ws s has.1 told
form_told ws (Number n) has told = refl

readings_told : (rs : List (List Token)) (xs : List Reading) → AreReadings rs xs → list_all run_told rs ≡ true → are_shaped xs ≡ true
readings_told [] [] are told = refl
readings_told [] (x ∷ xs) are told = absurd are
readings_told (r ∷ rs) [] are told = absurd are
readings_told (r ∷ rs) (x ∷ xs) are told =
    let parts = and_parts (run_told r) (list_all run_told rs) told in
    and_from (is_shaped_form x.form) _ (form_told (words_of r) x.form are.1 parts.0) (readings_told rs xs are.2 parts.1)

pub texts_are_shaped : TextsAreShaped
texts_are_shaped text tree read =
    let words = tokens_told 0 text read.are.pieces [] read.are.whole in
    let all = runs_told read.tokens (subst (λ ts. list_all is_told (words_of ts) ≡ true) (sym read.are.are) words) in
    readings_told (told (runs read.tokens)) tree.statements read.readings (all_told (runs read.tokens) all)
