-- A text has one list of pieces, and so one list of tokens or one bad byte; each run of tokens has one reading.
use Rattle.std.proofs.Common.{◌≡◌, ◌⊎◌, inl, inr, ℕ, ◌+◌, ◌*◌, ◌<◌, List, [], ◌∷◌, length, drop, Option, Some, None, refl, sym, ap, ◌∙◌, arith, length-drop, append-nil}
use Rattle.std.proofs.lemmas.List.{drop-drop}
use Rattle.cpo_text.specs.declared.piece.Piece.{Piece}
use Rattle.cpo_text.specs.declared.tree.Statement.{Statement}
use Rattle.cpo_text.specs.declared.text.Form.{Form}
use Rattle.cpo_text.specs.declared.text.Form.TheVariants.{Tree as Parsed, Number}
use Rattle.cpo_text.specs.declared.text.Reading.{Reading}
use Rattle.cpo_text.specs.Words.{Word}
use Rattle.cpo_text.specs.Tokens.{Token, tokens_of, ArePieces, HasTokens, HasBadByte}
use Rattle.cpo_text.specs.Runs.{words_of, early}
use Rattle.cpo_text.specs.Spelling.{IsStatement, spelling}
use Rattle.cpo_text.specs.code.Statements.{statement_at}
use Rattle.cpo_text.specs.code.Lexing.{pieces, rest, tokens_from}
use Rattle.cpo_text.specs.Reads.{IsGrammatical, DeservesNumber, HasForm}
use Rattle.cpo_text.specs.Laws.{PiecesAreDetermined, TokensAreDetermined, BadByteIsDetermined, EveryTextHasTokensOrBadByte, NotBoth, StatementsAreDetermined, GrammarIsDecided, ReadingsAreDetermined}
use Rattle.cpo_text.proofs.operands.Binds.{some_pair, both}
use Rattle.cpo_text.proofs.pieces.Walks.{pieces_are, pieces_only, none_at_end}
use Rattle.cpo_text.proofs.stating.Spells.{statement_takes}
use Rattle.cpo_text.proofs.stating.Rereads.{statement_again}
use Rattle.cpo_text.proofs.pieces.Answered.{has_tokens, has_bad_byte}
use Rattle.cpo_text.specs.lemmas.Deserved.{same_number}

pub pieces_determined : PiecesAreDetermined
pieces_determined text ps qs r s a a' b b' =
    let p = pieces_only text ps r a a' in
    let q = pieces_only text qs s b b' in
    (p.0 ∙ sym q.0, p.1 ∙ sym q.1)

pub tokens_determined : TokensAreDetermined
tokens_determined text ts us x y =
    let same = (pieces_determined text x.pieces y.pieces [] [] x.whole none_at_end y.whole none_at_end).0 in
    x.are ∙ ap (tokens_of 0 text) same ∙ sym y.are

same_place : (text : List ℕ) (i j : ℕ) → i < length text → j < length text → drop i text ≡ drop j text → i ≡ j
same_place text i j a b e = let n = ap length e in omega (arith, n, length-drop i text, length-drop j text)

pub bad_byte_determined : BadByteIsDetermined
bad_byte_determined text ts us i j x y =
    let same = pieces_determined text x.pieces y.pieces (drop i text) (drop j text) x.before x.none y.before y.none in
    (x.are ∙ ap (tokens_of 0 text) same.0 ∙ sym y.are, same_place text i j x.within y.within same.1)

-- how far some pieces reach
pub record Reached (bs r : List ℕ) : Type 0 where
  pub count : ℕ
  pub is : r ≡ drop count bs

reached : (bs : List ℕ) (ps : List (Piece × ℕ)) (r : List ℕ) → ArePieces bs ps r → Reached bs r
reached bs [] r h = record { count = 0; is = sym h }
reached bs (p ∷ ps) r h = let more = reached (drop p.1 bs) ps r h.1 in record { count = p.1 + more.count; is = more.is ∙ drop-drop more.count p.1 bs }

some_left : (text : List ℕ) (n b : ℕ) (bs : List ℕ) → b ∷ bs ≡ drop n text → n < length text
some_left text n b bs e = let size = ap length e in omega (arith, size, length-drop n text)

pub every_text : EveryTextHasTokensOrBadByte
every_text text = decided (rest text) refl (reached text (pieces text) (rest text) (pieces_are text))
  where
    decided : (r : List ℕ) → rest text ≡ r → Reached text (rest text) → ((ts : List Token) × HasTokens text ts) ⊎ ((ts : List Token) × (at : ℕ) × HasBadByte text ts at)
    decided [] done h = inl (tokens_from 0 text, has_tokens text done)
    decided (b ∷ bs) more h = inr (tokens_from 0 text, h.count, has_bad_byte text h.count h.is (some_left text h.count b bs (sym more ∙ h.is)))

pub not_both : NotBoth
not_both text ts us at x y =
    let same = pieces_determined text x.pieces y.pieces [] (drop at text) x.whole none_at_end y.before y.none in
    let size = ap length same.1 in
    let within = y.within in
    omega (arith, size, length-drop at text)

-- fuel for some words
abbrev fuel_of : List Word → ℕ
fuel_of ws = 20 * length ws + 11

read_again : (ws : List Word) (s : Statement) → IsStatement ws s → statement_at (fuel_of ws) ws ≡ Some (s, [])
read_again ws s is =
    let size = ap length is.spelt in
    ap (statement_at (fuel_of ws)) (is.spelt ∙ sym (append-nil (spelling s))) ∙ statement_again (fuel_of ws) s [] is.formed (omega arith)

pub statements_determined : StatementsAreDetermined
statements_determined ws s t a b = (some_pair s t [] [] (sym (read_again ws s a) ∙ read_again ws t b)).0

-- what the reader takes whole is a statement, and what it doesn't is none

read_whole : (f : ℕ) (ws : List Word) (s : Statement) → statement_at f ws ≡ Some (s, []) → IsStatement ws s
read_whole f ws s h = let t = statement_takes f ws s [] h in record { formed = t.0; spelt = t.1 ∙ append-nil (spelling s) }

no_rest : (s t : Statement) (w : Word) (r : List Word) → ◌≡◌ {A = Option (Statement × List Word)} (Some (s, w ∷ r)) (Some (t, [])) → ⊥
no_rest s t w r h = let e = (some_pair s t (w ∷ r) [] h).1 in cc

no_tree : (t : Statement) → ◌≡◌ {A = Option (Statement × List Word)} None (Some (t, [])) → ⊥
no_tree t h = cc

pub grammar_decided : GrammarIsDecided
grammar_decided ws = decided (statement_at (fuel_of ws) ws) refl
  where
    decided : (o : Option (Statement × List Word)) → statement_at (fuel_of ws) ws ≡ o → IsGrammatical ws ⊎ (IsGrammatical ws → ⊥)
    decided None none = inr (λ is. no_tree is.0 (sym none ∙ read_again ws is.0 is.1))
    decided (Some (s, [])) whole = inl (s, read_whole (fuel_of ws) ws s whole)
    decided (Some (s, w ∷ r)) more = inr (λ is. no_rest s is.0 w r (sym more ∙ read_again ws is.0 is.1))

-- a number of its own, where the words are early none
not_some : (o : Option ℕ) (n : ℕ) → o ≡ Some n → o ≡ None → ⊥
not_some o n a b = cc

-- words with a tree deserve no number
no_number : (ws : List Word) (s : Statement) (n : ℕ) → HasForm ws (Parsed s) → DeservesNumber ws n → ⊥
no_number ws s n h (inl a) = not_some (early ws) n a h.0
no_number ws s n h (inr (_, inl (_, out))) = out (s, h.1)
no_number ws s n h (inr (_, inr (_, _, large))) = let wrong = sym large ∙ h.2 in cc

one_form : (ws : List Word) (a b : Form) → HasForm ws a → HasForm ws b → a ≡ b
one_form ws (Parsed s) (Parsed t) a b = ap Parsed (statements_determined ws s t a.1 b.1)
one_form ws (Parsed s) (Number n) a b = absurd (no_number ws s n a b)
one_form ws (Number n) (Parsed s) a b = absurd (no_number ws s n b a)
one_form ws (Number n) (Number m) a b = ap Number (same_number ws n m a b)

same_reading : (x y : Reading) → x.at ≡ y.at → x.form ≡ y.form → x ≡ y
same_reading x y a b = both (λ n (f : Form). let z : Reading = record { at = n; form = f } in z) a b

pub readings_determined : ReadingsAreDetermined
readings_determined [] [] [] a b = refl
readings_determined [] [] (y ∷ ys) a b = absurd b
readings_determined [] (x ∷ xs) ys a b = absurd a
readings_determined (r ∷ rs) [] ys a b = absurd a
readings_determined (r ∷ rs) (x ∷ xs) [] a b = absurd b
readings_determined (r ∷ rs) (x ∷ xs) (y ∷ ys) a b =
    both (λ (z : Reading) (zs : List Reading). z ∷ zs) (same_reading x y (a.0 ∙ sym b.0) (one_form (words_of r) x.form y.form a.1 b.1)) (readings_determined rs xs ys a.2 b.2)
