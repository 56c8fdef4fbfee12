-- Where chunks stand apart, the text behind each does not go on with it.
use Rattle.std.proofs.Common.{◌≡◌, ℕ, ◌<◌, ◌≤◌, ◌==◌, true, ◌&&◌, List, [], ◌∷◌, ◌++◌, length, refl, arith}
use Rattle.std.specs.Prelude.{not, flat_map}
use Rattle.std.specs.List.{list_all}
use Rattle.std.specs.Fmt.{decimal}
use Rattle.std.proofs.lemmas.Bool.Decides.{nat_tests}
use Rattle.std.proofs.lemmas.Bool.{and_parts}
use Rattle.cpo_text.specs.Tokens.{is_letter, is_digit, is_name_byte, is_blank, is_sign_byte, is_sign_pair, literal_limit}
use Rattle.read_back.specs.Says.{Chunk, chunk_bytes, is_sign, is_left_out, is_chunk, makes_pair, is_apart, are_apart}
use Rattle.read_back.specs.Says.Chunk.{name, number, sign, blank}
use Rattle.read_back.proofs.lex.Bytes.{is_sign_first, Begins, single_first, pair_first}
use Rattle.read_back.proofs.lex.Numbers.{decimal_are_digits, decimal_is_some}
use Rattle.read_back.proofs.lex.Pieces.{chunk_piece, is_followed}

-- a chunk has a first byte, by its kind
record Opens (c : Chunk) : Type 0 where
  first : ℕ
  more : List ℕ
  are : chunk_bytes c ≡ first ∷ more
  kind : Begins (chunk_piece c) first

digits_open : (ds : List ℕ) → list_all is_digit ds ≡ true → 0 < length ds → (d : ℕ) × (more : List ℕ) × (ds ≡ d ∷ more) × (is_digit d ≡ true)
digits_open [] all some = absurd (omega arith)
digits_open (d ∷ ds) all some = (d, ds, refl, (and_parts (is_digit d) (list_all is_digit ds) all).0)

opens : (c : Chunk) → is_chunk c ≡ true → Opens c
opens (name []) is = cc
opens (name (c ∷ cs)) is = record { first = c; more = cs; are = refl; kind = (and_parts (is_letter c) (list_all is_name_byte cs) (and_parts (is_letter c && list_all is_name_byte cs) (not (is_left_out (c ∷ cs))) is).0).0 }
opens (number n) is =
    let small : n ≤ literal_limit = grind (arith, nat_tests) in
    let d = digits_open (decimal n) (decimal_are_digits n small) (decimal_is_some n small) in
    record { first = d.0; more = d.1; are = d.2; kind = d.3 }
opens (sign []) is = cc
opens (sign (a ∷ [])) is = record { first = a; more = []; are = refl; kind = single_first a (and_parts (is_sign_byte a) (not (a == 47)) is).0 }
opens (sign (a ∷ b ∷ [])) is = record { first = a; more = b ∷ []; are = refl; kind = pair_first a b is }
opens (sign (a ∷ b ∷ d ∷ ds)) is = cc
opens (blank b) is = record { first = b; more = []; are = refl; kind = is }

-- which classes of bytes exclude one another

sign_ends_name : (b : ℕ) → is_sign_first b ≡ true → not (is_name_byte b) ≡ true
sign_ends_name b is = grind (arith, nat_tests)

blank_ends_name : (b : ℕ) → is_blank b ≡ true → not (is_name_byte b) ≡ true
blank_ends_name b is = grind (arith, nat_tests)

sign_ends_digits : (b : ℕ) → is_sign_first b ≡ true → not (is_digit b) ≡ true
sign_ends_digits b is = grind (arith, nat_tests)

blank_ends_digits : (b : ℕ) → is_blank b ≡ true → not (is_digit b) ≡ true
blank_ends_digits b is = grind (arith, nat_tests)

letter_ends_sign : (a b : ℕ) → is_letter b ≡ true → not (is_sign_pair a b) ≡ true
letter_ends_sign a b is = grind (arith, nat_tests)

digit_ends_sign : (a b : ℕ) → is_digit b ≡ true → not (is_sign_pair a b) ≡ true
digit_ends_sign a b is = grind (arith, nat_tests)

blank_ends_sign : (a b : ℕ) → is_blank b ≡ true → not (is_sign_pair a b) ≡ true
blank_ends_sign a b is = grind (arith, nat_tests)

-- a sign goes on by no byte that makes no pair
by_first : (s : List ℕ) (b : ℕ) (bs : List ℕ) → ((a : ℕ) → not (is_sign_pair a b) ≡ true) → not (makes_pair s (b ∷ bs)) ≡ true
by_first [] b bs each = refl
by_first (a ∷ []) b bs each = each a
by_first (a ∷ c ∷ cs) b bs each = refl

by_sign : (s t rest : List ℕ) → is_sign t ≡ true → not (makes_pair s t) ≡ true → not (makes_pair s (t ++ rest)) ≡ true
by_sign s [] rest is apart = cc
by_sign [] (b ∷ bs) rest is apart = refl
by_sign (a ∷ []) (b ∷ bs) rest is apart = apart
by_sign (a ∷ c ∷ cs) (b ∷ bs) rest is apart = refl

alone : (s : List ℕ) → not (makes_pair s []) ≡ true
alone [] = refl
alone (a ∷ []) = refl
alone (a ∷ c ∷ cs) = refl

followed_by : (c d : Chunk) (rest : List ℕ) → is_chunk d ≡ true → is_apart c d ≡ true → is_followed c (chunk_bytes d ++ rest) ≡ true
followed_by (name n) (name k) rest is apart = cc
followed_by (name n) (number k) rest is apart = cc
followed_by (name n) (sign s) rest is apart = let o = opens (sign s) is in rw (o.are) (sign_ends_name o.first o.kind)
followed_by (name n) (blank b) rest is apart = blank_ends_name b is
followed_by (number n) (name k) rest is apart = cc
followed_by (number n) (number k) rest is apart = cc
followed_by (number n) (sign s) rest is apart = let o = opens (sign s) is in rw (o.are) (sign_ends_digits o.first o.kind)
followed_by (number n) (blank b) rest is apart = blank_ends_digits b is
followed_by (sign s) (name n) rest is apart = let o = opens (name n) is in rw (o.are) (by_first s o.first (o.more ++ rest) (λ a. letter_ends_sign a o.first o.kind))
followed_by (sign s) (number n) rest is apart = let o = opens (number n) is in rw (o.are) (by_first s o.first (o.more ++ rest) (λ a. digit_ends_sign a o.first o.kind))
followed_by (sign s) (sign t) rest is apart = by_sign s t rest is apart
followed_by (sign s) (blank b) rest is apart = by_first s b rest (λ a. blank_ends_sign a b is)
followed_by (blank b) d rest is apart = refl

last_followed : (c : Chunk) → is_followed c [] ≡ true
last_followed (name n) = refl
last_followed (number n) = refl
last_followed (sign s) = alone s
last_followed (blank b) = refl

pub followed : (c : Chunk) (cs : List Chunk) → list_all is_chunk (c ∷ cs) ≡ true → are_apart (c ∷ cs) ≡ true → is_followed c (flat_map chunk_bytes cs) ≡ true
followed c [] are apart = last_followed c
followed c (d ∷ ds) are apart =
    let here = (and_parts (is_chunk d) (list_all is_chunk ds) (and_parts (is_chunk c) (list_all is_chunk (d ∷ ds)) are).1).0 in
    followed_by c d (flat_map chunk_bytes ds) here (and_parts (is_apart c d) (are_apart (d ∷ ds)) apart).0

pub rest_apart : (c : Chunk) (cs : List Chunk) → are_apart (c ∷ cs) ≡ true → are_apart cs ≡ true
rest_apart c [] apart = refl
rest_apart c (d ∷ ds) apart = (and_parts (is_apart c d) (are_apart (d ∷ ds)) apart).1
