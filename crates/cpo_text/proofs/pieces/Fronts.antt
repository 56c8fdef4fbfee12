-- The piece that is computed is at the front, and whatever else is there is no longer.
use Rattle.std.proofs.Common.{◌≡◌, ℕ, zero, suc, ◌+◌, ◌<◌, ◌≤◌, ◌==◌, Bool, true, false, ◌&&◌, ◌||◌, not, List, [], ◌∷◌, ◌++◌, length, take, option_map, Option, Some, None, refl, sym, ap, arith}
use Rattle.std.specs.Prelude.{⊤}
use Rattle.std.specs.List.{list_all, prefix_len}
use Rattle.std.proofs.lemmas.List.Sums.{prefix_len-le-length}
use Rattle.std.proofs.lemmas.Bool.Decides.{nat_tests}
use Rattle.std.proofs.lemmas.Bool.{or_parts}
use Rattle.cpo_text.specs.declared.piece.Piece.{Piece}
use Rattle.cpo_text.specs.declared.piece.Piece.TheVariants.{Name, Int, Quoted, Blank, Line, Block}
use Rattle.cpo_text.specs.Tokens.{is_letter, is_digit, is_name_byte, is_blank, is_sign_byte, is_sign_pair, is_on_line, is_quotable, begins, has_close, IsAtFront}
use Rattle.cpo_text.specs.code.Lexing.{quote_len, close_len, slash_at, sign_at, piece_from, piece_at}
use Rattle.cpo_text.proofs.pieces.Classes.{either, prefix_passes}
use Rattle.cpo_text.specs.lemmas.Slashes.{no_comment, letter_no_slash, digit_no_slash, blank_no_slash}

-- what is computed is a piece at the front, of one byte at least
abbrev pub IsFound : List ℕ → Option (Piece × ℕ) → Type 0
IsFound bs None = ⊤
IsFound bs (Some q) = IsAtFront bs q.0 q.1 × (0 < q.1)

-- quotations

pub record IsQuote (cs : List ℕ) (n : ℕ) : Type 0 where
  pub within : n ≤ length cs
  pub some : 0 < n
  pub inner : List ℕ
  pub is : take n cs ≡ inner ++ 34 ∷ []
  pub all : list_all is_quotable inner ≡ true

abbrev QuoteFound : List ℕ → Option ℕ → Type 0
QuoteFound cs None = ⊤
QuoteFound cs (Some n) = IsQuote cs n

quote_more : (b : ℕ) (bs : List ℕ) (o : Option ℕ) → is_quotable b ≡ true → QuoteFound bs o → QuoteFound (b ∷ bs) (option_map suc o)
quote_more b bs None free h = tt
quote_more b bs (Some n) free h = record { within = let w = h.within in omega arith; some = omega arith; inner = b ∷ h.inner; is = ap (λ xs. b ∷ xs) h.is; all = rw free h.all }

quote_found : (cs : List ℕ) → QuoteFound cs (quote_len cs)
quote_found [] = tt
quote_found (b ∷ bs) = decided (quote_found bs)
  where
    one : (b == 34) ≡ true → QuoteFound (b ∷ bs) (Some 1)
    one is = record { within = omega arith; some = omega arith; inner = []; is = let e : b ≡ 34 = grind (arith, nat_tests) in rw e refl; all = refl }

    decided : QuoteFound bs (quote_len bs) → QuoteFound (b ∷ bs) (quote_len (b ∷ bs))
    decided more = either (QuoteFound (b ∷ bs)) (b == 34) _ _ one (λ other. either (QuoteFound (b ∷ bs)) (b == 10) _ _ (λ is. tt) (λ free. quote_more b bs (quote_len bs) (rw (other, free) refl) more))

pub quote_again : (inner rest : List ℕ) → list_all is_quotable inner ≡ true → quote_len (inner ++ 34 ∷ rest) ≡ Some (length inner + 1)
quote_again [] rest all = refl
quote_again (b ∷ bs) rest all = passed (quote_again bs rest) (b == 34) refl (b == 10) refl all
  where
    passed : (list_all is_quotable bs ≡ true → quote_len (bs ++ 34 ∷ rest) ≡ Some (length bs + 1)) → (s : Bool) → (b == 34) ≡ s → (t : Bool) → (b == 10) ≡ t → (not (s || t) && list_all is_quotable bs) ≡ true → quote_len (b ∷ bs ++ 34 ∷ rest) ≡ Some (length (b ∷ bs) + 1)
    passed more true e t f h = cc
    passed more false e true f h = cc
    passed more false e false f h = let again = more h in rw (e, f) (rw again (ap Some (omega arith)))

-- comments that are closed

pub record IsClose (cs : List ℕ) (n : ℕ) : Type 0 where
  pub within : n ≤ length cs
  pub some : 0 < n
  pub inner : List ℕ
  pub is : take n cs ≡ inner ++ 42 ∷ 47 ∷ []
  pub all : has_close (inner ++ 42 ∷ []) ≡ false

abbrev CloseFound : List ℕ → Option ℕ → Type 0
CloseFound cs None = ⊤
CloseFound cs (Some n) = IsClose cs n

and_false : (b : Bool) → (b && false) ≡ false
and_false true = refl
and_false false = refl

-- no close begins at the last byte before a close either
before_close : (b : ℕ) (bs inner : List ℕ) (n : ℕ) → take n bs ≡ inner ++ 42 ∷ 47 ∷ [] → begins 42 47 (b ∷ bs) ≡ false → begins 42 47 (b ∷ inner ++ 42 ∷ []) ≡ false
before_close b [] [] n e h = and_false (b == 42)
before_close b [] (x ∷ xs) zero e h = cc
before_close b [] (x ∷ xs) (suc n) e h = cc
before_close b (y ∷ ys) [] n e h = and_false (b == 42)
before_close b (y ∷ ys) (x ∷ xs) zero e h = cc
before_close b (y ∷ ys) (x ∷ xs) (suc n) e h = let same : y ≡ x = cc in rw (sym same) h

close_more : (b : ℕ) (bs : List ℕ) (o : Option ℕ) → begins 42 47 (b ∷ bs) ≡ false → CloseFound bs o → CloseFound (b ∷ bs) (option_map suc o)
close_more b bs None free h = tt
close_more b bs (Some n) free h = record {
  within = let w = h.within in omega arith;
  some = omega arith;
  inner = b ∷ h.inner;
  is = ap (λ xs. b ∷ xs) h.is;
  all = rw (before_close b bs h.inner n h.is free) h.all;
}

close_found : (cs : List ℕ) → CloseFound cs (close_len cs)
close_found [] = tt
close_found (b ∷ bs) = either (CloseFound (b ∷ bs)) (begins 42 47 (b ∷ bs)) _ _ (one bs) (λ free. close_more b bs (close_len bs) free (close_found bs))
  where
    one : (bs : List ℕ) → begins 42 47 (b ∷ bs) ≡ true → CloseFound (b ∷ bs) (Some 2)
    one [] is = cc
    one (c ∷ cs) is = record {
      within = omega arith;
      some = omega arith;
      inner = [];
      is = let e : b ≡ 42 = grind (arith, nat_tests) in let f : c ≡ 47 = grind (arith, nat_tests) in rw (e, f) refl;
      all = refl;
    }

pub close_again : (inner rest : List ℕ) → has_close (inner ++ 42 ∷ []) ≡ false → close_len (inner ++ 42 ∷ 47 ∷ rest) ≡ Some (length inner + 2)
close_again [] rest all = refl
close_again (b ∷ []) rest all = let free = and_false (b == 42) in rw free refl
close_again (b ∷ c ∷ cs) rest all =
    let parts = or_parts (begins 42 47 (b ∷ c ∷ cs ++ 42 ∷ [])) (has_close (c ∷ cs ++ 42 ∷ [])) all in
    rw parts.0 (rw (close_again (c ∷ cs) rest parts.1) (ap Some (omega arith)))

-- what is computed is at the front

quote_no_slash : (c : ℕ) → (c == 34) ≡ true → (c == 47) ≡ false
quote_no_slash c is = grind (arith, nat_tests)

name_found : (c : ℕ) (cs : List ℕ) → is_letter c ≡ true → IsFound (c ∷ cs) (Some (Name, 1 + prefix_len is_name_byte cs))
name_found c cs is =
    let size : 1 + prefix_len is_name_byte cs ≡ suc (prefix_len is_name_byte cs) = omega arith in
    rw size ((omega (arith, prefix_len-le-length is_name_byte cs), (is, prefix_passes is_name_byte cs), no_comment c cs (letter_no_slash c is)), omega arith)

int_found : (c : ℕ) (cs : List ℕ) → is_digit c ≡ true → IsFound (c ∷ cs) (Some (Int, 1 + prefix_len is_digit cs))
int_found c cs is =
    let size : 1 + prefix_len is_digit cs ≡ suc (prefix_len is_digit cs) = omega arith in
    rw size ((omega (arith, prefix_len-le-length is_digit cs), rw is (prefix_passes is_digit cs), no_comment c cs (digit_no_slash c is)), omega arith)

blank_found : (c : ℕ) (cs : List ℕ) → is_blank c ≡ true → IsFound (c ∷ cs) (Some (Blank, 1))
blank_found c cs is = ((omega arith, is, no_comment c cs (blank_no_slash c is)), omega arith)

quoted_found : (c : ℕ) (cs : List ℕ) (o : Option ℕ) → (c == 34) ≡ true → QuoteFound cs o → IsFound (c ∷ cs) (option_map (λ n. (Quoted, 1 + n)) o)
quoted_found c cs None is h = tt
quoted_found c cs (Some n) is h =
    let size : 1 + n ≡ suc n = omega arith in
    let head : c ≡ 34 = grind (arith, nat_tests) in
    rw size ((let w = h.within in omega arith, (h.inner, rw head (ap (λ xs. 34 ∷ xs) h.is), h.all), no_comment c cs (quote_no_slash c is)), omega arith)

block_found : (ds : List ℕ) (o : Option ℕ) → CloseFound ds o → IsFound (47 ∷ 42 ∷ ds) (option_map (λ n. (Block, 2 + n)) o)
block_found ds None h = tt
block_found ds (Some n) h =
    let size : 2 + n ≡ suc (suc n) = omega arith in
    rw size ((let w = h.within in omega arith, (h.inner, ap (λ xs. 47 ∷ 42 ∷ xs) h.is, h.all)), omega arith)

line_found : (ds : List ℕ) → IsFound (47 ∷ 47 ∷ ds) (Some (Line, 2 + prefix_len is_on_line ds))
line_found ds =
    let size : 2 + prefix_len is_on_line ds ≡ suc (suc (prefix_len is_on_line ds)) = omega arith in
    rw size ((omega (arith, prefix_len-le-length is_on_line ds), (take (prefix_len is_on_line ds) ds, refl, prefix_passes is_on_line ds), refl), omega arith)

slash_found : (cs : List ℕ) → IsFound (47 ∷ cs) (slash_at cs)
slash_found [] = ((omega arith, refl, refl), omega arith)
slash_found (d ∷ ds) =
    either (IsFound (47 ∷ d ∷ ds)) (d == 47) _ _
    (λ is. let e : d ≡ 47 = grind (arith, nat_tests) in rw e (line_found ds))
    (λ other. either (IsFound (47 ∷ d ∷ ds)) (d == 42) _ _
    (λ is. let e : d ≡ 42 = grind (arith, nat_tests) in rw e (block_found ds (close_len ds) (close_found ds)))
    (λ free. ((omega arith, refl, free), omega arith)))

sign_found : (c : ℕ) (cs : List ℕ) → (c == 47) ≡ false → IsFound (c ∷ cs) (sign_at c cs)
sign_found c [] other = either (IsFound (c ∷ [])) (is_sign_byte c) _ _ (λ is. ((omega arith, is, refl), omega arith)) (λ _. tt)
sign_found c (d ∷ ds) other =
    either (IsFound (c ∷ d ∷ ds)) (is_sign_pair c d) _ _
    (λ is. ((omega arith, is, no_comment c (d ∷ ds) other), omega arith))
    (λ _. either (IsFound (c ∷ d ∷ ds)) (is_sign_byte c) _ _ (λ is. ((omega arith, is, no_comment c (d ∷ ds) other), omega arith)) (λ _. tt))

pub from_found : (c : ℕ) (cs : List ℕ) → IsFound (c ∷ cs) (piece_from c cs)
from_found c cs =
    either (IsFound (c ∷ cs)) (is_letter c) _ _ (name_found c cs) (λ _.
    either (IsFound (c ∷ cs)) (is_digit c) _ _ (int_found c cs) (λ _.
    either (IsFound (c ∷ cs)) (is_blank c) _ _ (blank_found c cs) (λ _.
    either (IsFound (c ∷ cs)) (c == 34) _ _ (λ is. quoted_found c cs (quote_len cs) is (quote_found cs)) (λ _.
    either (IsFound (c ∷ cs)) (c == 47) _ _ (λ is. let e : c ≡ 47 = grind (arith, nat_tests) in rw e (slash_found cs)) (sign_found c cs)))))

pub piece_found : (bs : List ℕ) → IsFound bs (piece_at bs)
unfolding piece_at
piece_found [] = tt
piece_found (c ∷ cs) = from_found c cs
