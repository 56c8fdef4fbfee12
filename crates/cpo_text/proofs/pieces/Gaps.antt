-- Which pieces are blanks and comments, by their first byte.
use Rattle.std.proofs.Common.{◌≡◌, ℕ, ◌+◌, ◌≤◌, ◌==◌, Bool, true, false, cond, List, [], ◌∷◌, length, take, drop, Option, Some, None, option_map, refl, sym, ap, subst, ◌∙◌, arith}
use Rattle.std.proofs.lemmas.Bool.Decides.{nat_tests}
use Rattle.std.proofs.lemmas.List.{at_drop_all}
use Rattle.cpo_text.specs.declared.piece.Piece.{Piece}
use Rattle.cpo_text.specs.declared.piece.Piece.TheVariants.{Name, Int, Sign, Quoted, Blank, Line, Block}
use Rattle.cpo_text.specs.Tokens.{is_letter, is_digit, is_blank, is_sign_byte, is_sign_pair, word_of}
use Rattle.cpo_text.specs.code.Lexing.{gap_of, piece_at, piece_from, slash_at, sign_at, quote_len, tokens_from}
use Rattle.cpo_text.proofs.pieces.Classes.{blank_no_letter, blank_no_digit, sign_plain}
use Rattle.cpo_text.proofs.pieces.Walks.{IsPart, part_of, at_end}
use Rattle.cpo_text.proofs.pieces.Steps.{silent_step}

pub blank_gap : (c : ℕ) (cs : List ℕ) → is_blank c ≡ true → gap_of (piece_from c cs) ≡ Some 1
blank_gap c cs is = let letter = blank_no_letter c is in let digit = blank_no_digit c is in rw (letter, digit, is) refl

slash_sign : (c : ℕ) → (c == 47) ≡ true → is_sign_byte c ≡ true
slash_sign c is = grind (arith, nat_tests)

pub slash_gap : (c : ℕ) (cs : List ℕ) → (c == 47) ≡ true → gap_of (piece_from c cs) ≡ gap_of (slash_at cs)
slash_gap c cs is = let plain = sign_plain c (slash_sign c is) in rw (plain.letter, plain.digit, plain.blank, plain.quote, is) refl

no_quote_gap : (o : Option ℕ) → gap_of (option_map (λ n. (Quoted, 1 + n)) o) ≡ None
no_quote_gap None = refl
no_quote_gap (Some n) = refl

one_sign : (t : Bool) → gap_of (cond t (Some (Sign, 1)) None) ≡ None
one_sign true = refl
one_sign false = refl

two_sign : (s t : Bool) → gap_of (cond s (Some (Sign, 2)) (cond t (Some (Sign, 1)) None)) ≡ None
two_sign true t = refl
two_sign false t = one_sign t

no_sign_gap : (c : ℕ) (cs : List ℕ) → gap_of (sign_at c cs) ≡ None
no_sign_gap c [] = one_sign (is_sign_byte c)
no_sign_gap c (b ∷ cs) = two_sign (is_sign_pair c b) (is_sign_byte c)

not_by : (letter digit quote : Bool) (c : ℕ) (cs : List ℕ) (n k : ℕ) → gap_of (cond letter (Some (Name, n)) (cond digit (Some (Int, k)) (cond quote (option_map (λ n. (Quoted, 1 + n)) (quote_len cs)) (sign_at c cs)))) ≡ None
not_by true digit quote c cs n k = refl
not_by false true quote c cs n k = refl
not_by false false true c cs n k = no_quote_gap (quote_len cs)
not_by false false false c cs n k = no_sign_gap c cs

pub no_gap : (c : ℕ) (cs : List ℕ) → is_blank c ≡ false → (c ≡ 47 → ⊥) → gap_of (piece_from c cs) ≡ None
no_gap c cs blank other = let slash : (c == 47) ≡ false = grind (arith, nat_tests) in rw (blank, slash) (not_by (is_letter c) (is_digit c) (c == 34) c cs _ _)

-- a gap says nothing
pub word_at_gap : (p : Piece) (n m : ℕ) (bs : List ℕ) → gap_of (Some (p, n)) ≡ Some m → (n ≡ m) × (word_of p bs ≡ None)
word_at_gap Blank n m bs gap = (cc, refl)
word_at_gap Line n m bs gap = (cc, refl)
word_at_gap Block n m bs gap = (cc, refl)
word_at_gap Name n m bs gap = cc
word_at_gap Int n m bs gap = cc
word_at_gap Sign n m bs gap = cc
word_at_gap Quoted n m bs gap = cc

-- one gap further in a text
pub gap_part : (bs : List ℕ) (n : ℕ) → Some n ≡ gap_of (piece_at bs) → IsPart bs n
gap_part bs n gap = decided (piece_at bs) refl gap
  where
    decided : (o : Option (Piece × ℕ)) → piece_at bs ≡ o → Some n ≡ gap_of o → IsPart bs n
    decided None e gap = cc
    decided (Some (p, m)) e gap = subst (IsPart bs) (word_at_gap p m n bs (sym gap)).0 (part_of bs p m e)

pub gap_step : (at : ℕ) (text rest : List ℕ) (n : ℕ) → rest ≡ drop at text → Some n ≡ gap_of (piece_at rest) → tokens_from at (drop at text) ≡ tokens_from (at + n) (drop (at + n) text)
gap_step at text rest n is gap = decided (piece_at rest) refl gap
  where
    decided : (o : Option (Piece × ℕ)) → piece_at rest ≡ o → Some n ≡ gap_of o → tokens_from at (drop at text) ≡ tokens_from (at + n) (drop (at + n) text)
    decided None e gap = cc
    decided (Some (p, m)) e gap =
        let found = word_at_gap p m n (take m rest) (sym gap) in
        silent_step at text rest (take m rest) p m is (sym e) refl (sym found.1) ∙ ap (λ k. tokens_from (at + k) (drop (at + k) text)) found.0

pub gap_end : (at : ℕ) (text : List ℕ) → length text ≤ at → gap_of (piece_at (drop at text)) ≡ None
gap_end at text done = at_drop_all (λ bs. gap_of (piece_at bs)) text at done ∙ ap gap_of at_end
