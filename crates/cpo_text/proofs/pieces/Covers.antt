-- A piece at the front is no longer than the one that is computed, and is that one where it is as long.
use Rattle.std.proofs.Common.{◌≡◌, ℕ, zero, suc, ◌+◌, ◌<◌, ◌≤◌, ◌==◌, Bool, true, false, List, [], ◌∷◌, ◌++◌, length, take, drop, Option, Some, None, refl, sym, ap, subst, ◌∙◌, arith, append_assoc, length-append}
use Rattle.std.specs.List.{list_all, prefix_len}
use Rattle.std.proofs.lemmas.Bool.Decides.{nat_tests}
use Rattle.std.proofs.lemmas.List.{take-append-drop}
use Rattle.std.proofs.lemmas.Bool.{and_parts}
use Rattle.std.proofs.lemmas.Option.{same_Some}
use Rattle.cpo_text.specs.declared.piece.Piece.{Piece}
use Rattle.cpo_text.specs.declared.piece.Piece.TheVariants.{Name, Int, Sign, Quoted, Blank, Line, Block}
use Rattle.cpo_text.specs.Tokens.{is_letter, is_digit, is_name_byte, is_blank, is_sign_byte, is_sign_pair, is_on_line, is_quotable, begins, has_close, IsPiece, IsAtFront, IsLongest, NonePiece}
use Rattle.cpo_text.specs.code.Lexing.{slash_at, sign_at, piece_from, piece_at}
use Rattle.cpo_text.proofs.pieces.Classes.{either, digit_no_letter, blank_no_letter, blank_no_digit, sign_plain, pair_plain, prefix_most}
use Rattle.cpo_text.proofs.pieces.Fronts.{IsFound, piece_found, quote_again, close_again}
use Rattle.cpo_text.specs.lemmas.Slashes.{pair_no_slash}

pub record Covers (bs : List ℕ) (p : Piece) (m : ℕ) : Type 0 where
  pub found : Piece × ℕ
  pub is : piece_at bs ≡ Some found
  pub most : m ≤ found.1
  pub same : m ≡ found.1 → p ≡ found.0

name_is : (c : ℕ) (cs : List ℕ) → is_letter c ≡ true → piece_at (c ∷ cs) ≡ Some (Name, 1 + prefix_len is_name_byte cs)
unfolding piece_at
name_is c cs is = rw is refl

int_is : (c : ℕ) (cs : List ℕ) → is_digit c ≡ true → piece_at (c ∷ cs) ≡ Some (Int, 1 + prefix_len is_digit cs)
unfolding piece_at
int_is c cs is = rw (digit_no_letter c is, is) refl

blank_is : (c : ℕ) (cs : List ℕ) → is_blank c ≡ true → piece_at (c ∷ cs) ≡ Some (Blank, 1)
unfolding piece_at
blank_is c cs is = rw (blank_no_letter c is, blank_no_digit c is, is) refl

quoted_is : (inner rest : List ℕ) → list_all is_quotable inner ≡ true → piece_at (34 ∷ inner ++ 34 ∷ rest) ≡ Some (Quoted, 1 + (length inner + 1))
unfolding piece_at
quoted_is inner rest all = rw (quote_again inner rest all) refl

line_is : (cs : List ℕ) → piece_at (47 ∷ 47 ∷ cs) ≡ Some (Line, 2 + prefix_len is_on_line cs)
unfolding piece_at
line_is cs = refl

block_is : (inner rest : List ℕ) → has_close (inner ++ 42 ∷ []) ≡ false → piece_at (47 ∷ 42 ∷ inner ++ 42 ∷ 47 ∷ rest) ≡ Some (Block, 2 + (length inner + 2))
unfolding piece_at
block_is inner rest all = rw (close_again inner rest all) refl

pair_is : (c d : ℕ) (cs : List ℕ) → is_sign_pair c d ≡ true → piece_at (c ∷ d ∷ cs) ≡ Some (Sign, 2)
unfolding piece_at
pair_is c d cs is = let plain = pair_plain c d is in rw (plain.letter, plain.digit, plain.blank, plain.quote, pair_no_slash c d is, is) refl

-- a sign of one byte

abbrev CoversByte : Option (Piece × ℕ) → Type 0
CoversByte o = (found : Piece × ℕ) × (o ≡ Some found) × (1 ≤ found.1) × (1 ≡ found.1 → Sign ≡ found.0)

longer_byte : (p : Piece) (n : ℕ) → 1 < n → CoversByte (Some (p, n))
longer_byte p n more = ((p, n), refl, omega arith, λ e. absurd (omega arith))

slash_byte : (cs : List ℕ) → begins 47 42 (47 ∷ cs) ≡ false → CoversByte (slash_at cs)
slash_byte [] other = ((Sign, 1), refl, omega arith, λ e. refl)
slash_byte (d ∷ ds) other = either CoversByte (d == 47) _ _
    (λ is. longer_byte Line (2 + prefix_len is_on_line ds) (omega arith))
    (λ _. rw other ((Sign, 1), refl, omega arith, λ e. refl))

sign_byte : (c : ℕ) (cs : List ℕ) → is_sign_byte c ≡ true → CoversByte (sign_at c cs)
sign_byte c [] is = rw is ((Sign, 1), refl, omega arith, λ e. refl)
sign_byte c (d ∷ ds) is = either CoversByte (is_sign_pair c d) _ _ (λ _. longer_byte Sign 2 (omega arith)) (λ _. rw is ((Sign, 1), refl, omega arith, λ e. refl))

from_byte : (c : ℕ) (cs : List ℕ) → is_sign_byte c ≡ true → begins 47 42 (c ∷ cs) ≡ false → CoversByte (piece_from c cs)
from_byte c cs is other =
    let plain = sign_plain c is in
    rw (plain.letter, plain.digit, plain.blank, plain.quote)
    (either CoversByte (c == 47) _ _ (λ slash. let e : c ≡ 47 = grind (arith, nat_tests) in slash_byte cs (subst (λ b. begins 47 42 (b ∷ cs) ≡ false) e other)) (λ _. sign_byte c cs is))

byte_covers : (c : ℕ) (cs : List ℕ) → is_sign_byte c ≡ true → begins 47 42 (c ∷ cs) ≡ false → Covers (c ∷ cs) Sign 1
unfolding piece_at
byte_covers c cs is other = let f = from_byte c cs is other in record { found = f.0; is = f.1; most = f.2; same = f.3 }

-- the bytes are those of a piece and the others
parted : (bs : List ℕ) (m : ℕ) (front : List ℕ) → take m bs ≡ front → bs ≡ front ++ drop m bs
parted bs m front e = sym (take-append-drop m bs) ∙ ap (λ xs. xs ++ drop m bs) e

taken : (bs : List ℕ) (m : ℕ) → m ≤ length bs → length (take m bs) ≡ m
taken bs zero within = refl
taken [] (suc m) within = omega arith
taken (b ∷ bs) (suc m) within = let n = taken bs m (omega arith) in omega arith

quoted_covers : (bs : List ℕ) (m : ℕ) → m ≤ length bs → IsPiece Quoted (take m bs) → Covers bs Quoted m
quoted_covers bs m within piece =
    let whole : bs ≡ 34 ∷ piece.0 ++ 34 ∷ drop m bs = parted bs m (34 ∷ piece.0 ++ 34 ∷ []) piece.1 ∙ ap (λ xs. 34 ∷ xs) (append_assoc piece.0 (34 ∷ []) (drop m bs)) in
    let size : m ≡ 1 + (length piece.0 + 1) = sym (taken bs m within) ∙ ap length piece.1 ∙ (omega (arith, length-append piece.0 (34 ∷ []))) in
    record { found = (Quoted, 1 + (length piece.0 + 1)); is = ap piece_at whole ∙ quoted_is piece.0 (drop m bs) piece.2; most = omega arith; same = λ _. refl }

block_covers : (bs : List ℕ) (m : ℕ) → m ≤ length bs → IsPiece Block (take m bs) → Covers bs Block m
block_covers bs m within piece =
    let whole : bs ≡ 47 ∷ 42 ∷ piece.0 ++ 42 ∷ 47 ∷ drop m bs = parted bs m (47 ∷ 42 ∷ piece.0 ++ 42 ∷ 47 ∷ []) piece.1 ∙ ap (λ xs. 47 ∷ 42 ∷ xs) (append_assoc piece.0 (42 ∷ 47 ∷ []) (drop m bs)) in
    let size : m ≡ 2 + (length piece.0 + 2) = sym (taken bs m within) ∙ ap length piece.1 ∙ (omega (arith, length-append piece.0 (42 ∷ 47 ∷ []))) in
    record { found = (Block, 2 + (length piece.0 + 2)); is = ap piece_at whole ∙ block_is piece.0 (drop m bs) piece.2; most = omega arith; same = λ _. refl }

line_covers : (bs : List ℕ) (m : ℕ) → m ≤ length bs → IsPiece Line (take m bs) → Covers bs Line m
line_covers [] zero within piece = cc (piece.1)
line_covers [] (suc m) within piece = absurd (omega arith)
line_covers (b ∷ bs) zero within piece = cc (piece.1)
line_covers (b ∷ []) (suc zero) within piece = cc (piece.1)
line_covers (b ∷ []) (suc (suc m)) within piece = absurd (omega arith)
line_covers (b ∷ d ∷ ds) (suc zero) within piece = cc (piece.1)
line_covers (b ∷ d ∷ ds) (suc (suc m)) within piece =
    let first : b ≡ 47 = cc (piece.1) in
    let second : d ≡ 47 = cc (piece.1) in
    let inner : take m ds ≡ piece.0 = cc (piece.1) in
    let most = prefix_most is_on_line ds m (omega arith) (rw inner piece.2) in
    rw (first, second) (record { found = (Line, 2 + prefix_len is_on_line ds); is = line_is ds; most = omega arith; same = λ _. refl })

name_covers : (bs : List ℕ) (m : ℕ) → m ≤ length bs → IsPiece Name (take m bs) → Covers bs Name m
name_covers [] zero within piece = absurd piece
name_covers [] (suc m) within piece = absurd (omega arith)
name_covers (b ∷ bs) zero within piece = absurd piece
name_covers (b ∷ bs) (suc m) within piece =
    let most = prefix_most is_name_byte bs m (omega arith) piece.1 in
    record { found = (Name, 1 + prefix_len is_name_byte bs); is = name_is b bs piece.0; most = omega arith; same = λ _. refl }

int_covers : (bs : List ℕ) (m : ℕ) → m ≤ length bs → IsPiece Int (take m bs) → Covers bs Int m
int_covers [] zero within piece = absurd piece
int_covers [] (suc m) within piece = absurd (omega arith)
int_covers (b ∷ bs) zero within piece = absurd piece
int_covers (b ∷ bs) (suc m) within piece =
    let parts = and_parts (is_digit b) (list_all is_digit (take m bs)) piece in
    let most = prefix_most is_digit bs m (omega arith) parts.1 in
    record { found = (Int, 1 + prefix_len is_digit bs); is = int_is b bs parts.0; most = omega arith; same = λ _. refl }

blank_covers : (bs : List ℕ) (m : ℕ) → m ≤ length bs → IsPiece Blank (take m bs) → Covers bs Blank m
blank_covers [] zero within piece = absurd piece
blank_covers [] (suc m) within piece = absurd (omega arith)
blank_covers (b ∷ bs) zero within piece = absurd piece
blank_covers (b ∷ bs) (suc zero) within piece = record { found = (Blank, 1); is = blank_is b bs piece; most = omega arith; same = λ _. refl }
blank_covers (b ∷ []) (suc (suc m)) within piece = absurd (omega arith)
blank_covers (b ∷ d ∷ ds) (suc (suc m)) within piece = absurd piece

sign_covers : (bs : List ℕ) (m : ℕ) → m ≤ length bs → IsPiece Sign (take m bs) → begins 47 42 bs ≡ false → Covers bs Sign m
sign_covers [] zero within piece other = absurd piece
sign_covers [] (suc m) within piece other = absurd (omega arith)
sign_covers (b ∷ bs) zero within piece other = absurd piece
sign_covers (b ∷ bs) (suc zero) within piece other = byte_covers b bs piece other
sign_covers (b ∷ []) (suc (suc m)) within piece other = absurd (omega arith)
sign_covers (b ∷ d ∷ ds) (suc (suc zero)) within piece other = record { found = (Sign, 2); is = pair_is b d ds piece; most = omega arith; same = λ _. refl }
sign_covers (b ∷ d ∷ []) (suc (suc (suc m))) within piece other = absurd (omega arith)
sign_covers (b ∷ d ∷ e ∷ es) (suc (suc (suc m))) within piece other = absurd piece

pub covers : (bs : List ℕ) (p : Piece) (m : ℕ) → IsAtFront bs p m → Covers bs p m
covers bs Name m front = name_covers bs m front.0 front.1
covers bs Int m front = int_covers bs m front.0 front.1
covers bs Sign m front = sign_covers bs m front.0 front.1 front.2
covers bs Quoted m front = quoted_covers bs m front.0 front.1
covers bs Blank m front = blank_covers bs m front.0 front.1
covers bs Line m front = line_covers bs m front.0 front.1
covers bs Block m front = block_covers bs m front.0 front.1

-- what follows for the one piece at a place

at_some : (bs : List ℕ) (o : Option (Piece × ℕ)) (q : Piece × ℕ) → o ≡ Some q → IsFound bs o → IsAtFront bs q.0 q.1 × (0 < q.1)
at_some bs o q e h = let P : Option (Piece × ℕ) → Type 0 = IsFound bs in subst P e h

pub front_of : (bs : List ℕ) (q : Piece × ℕ) → piece_at bs ≡ Some q → IsAtFront bs q.0 q.1 × (0 < q.1)
front_of bs q e = at_some bs (piece_at bs) q e (piece_found bs)

pub longest_of : (bs : List ℕ) (q : Piece × ℕ) → piece_at bs ≡ Some q → IsLongest bs q.0 q.1
longest_of bs q e = record {
  front = (front_of bs q e).0;
  longest = λ other m more front.
      let c = covers bs other m front in
      let same = ap (λ (x : Piece × ℕ). x.1) (same_Some q c.found (sym e ∙ c.is)) in
      let most = c.most in
      omega arith;
}

pub none_of : (bs : List ℕ) → piece_at bs ≡ None → NonePiece bs
none_of bs e p n front = let c = covers bs p n front in let is = c.is in cc

pub within_of : (bs : List ℕ) (p : Piece) (n : ℕ) → IsAtFront bs p n → n ≤ length bs
within_of bs Name n front = front.0
within_of bs Int n front = front.0
within_of bs Sign n front = front.0
within_of bs Quoted n front = front.0
within_of bs Blank n front = front.0
within_of bs Line n front = front.0
within_of bs Block n front = front.0

equal : (a b : ℕ) → a ≤ b → (a < b → ⊥) → a ≡ b
equal a b le more = decided (a == b) refl
  where
    decided : (t : Bool) → (a == b) ≡ t → a ≡ b
    decided true is = grind (arith, nat_tests)
    decided false is = absurd (more (grind (arith, nat_tests)))

pairs : (q : Piece × ℕ) (p : Piece) (n : ℕ) → p ≡ q.0 → n ≡ q.1 → ◌≡◌ {A = Option (Piece × ℕ)} (Some q) (Some (p, n))
pairs q p n a b = rw (a, b) refl

pub only_longest : (bs : List ℕ) (p : Piece) (n : ℕ) → IsLongest bs p n → piece_at bs ≡ Some (p, n)
only_longest bs p n h =
    let c = covers bs p n h.front in
    let at = front_of bs c.found c.is in
    let size : n ≡ c.found.1 = equal n c.found.1 c.most (λ more. h.longest c.found.0 c.found.1 more at.0) in
    c.is ∙ pairs c.found p n (c.same size) size
