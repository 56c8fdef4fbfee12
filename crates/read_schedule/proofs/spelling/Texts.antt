-- Lines of bytes as lines of words.
use Rattle.std.proofs.Common.{◌≡◌, ℕ, zero, suc, ◌+◌, ◌<◌, ◌≤◌, Bool, true, false, List, [], ◌∷◌, ◌++◌, length, take, drop, get_or, sym, ◌∙◌, ap, refl, arith, append_assoc, Option, Some, None, ◌&&◌}
use Rattle.std.specs.List.{list_all}
use Rattle.std.proofs.lemmas.Bool.{and_parts, and_from}
use Rattle.std.proofs.lemmas.Bool.Decides.{nat_tests}
use Rattle.memchr.specs.Find.{IsFirstByte, is_byte}
use Rattle.textline.specs.Lines.{Bytes, line, words_of}
use Rattle.textline.specs.Words.{are_words}
use Rattle.textline.specs.laws.Lines.{no_feed, none_before, first_of, line_of_words, words_are_words, line_has_feed, line_told}
use Rattle.read_schedule.specs.Schedules.{is_line, text}
use Rattle.read_schedule.specs.code.Reads.{FindsFeed, Starts, TakesLine}
use Rattle.std.proofs.lemmas.List.{take_all}

pub finds_feed : (bytes : Bytes) (r : Option ℕ) → IsFirstByte (is_byte 10) bytes r → FindsFeed bytes r
finds_feed bytes (Some k) first =
    let is : get_or bytes k 0 ≡ 10 = grind (arith, nat_tests, first.1) in
    (first.0.high, is, none_before bytes k (λ j less within e. first.0.before j (omega arith) less (grind (arith, nat_tests))))
finds_feed bytes None none =
    ap (list_all no_feed) (sym (take_all (length bytes) bytes (omega arith))) ∙ none_before bytes (length bytes) (λ j less within e. none j (omega arith) less (grind (arith, nat_tests)))

-- a byte and what stands around it
around : (xs : Bytes) (k b : ℕ) → k < length xs → get_or xs k 0 ≡ b → xs ≡ take k xs ++ b ∷ drop (suc k) xs
around [] k b h is = absurd (omega (arith, h))
around (x ∷ xs) zero b h is = ap (λ y. y ∷ xs) is
around (x ∷ xs) (suc k) b h is = ap (λ ys. x ∷ ys) (around xs k b (omega (arith, h)) is)

pub line_is : (bytes : Bytes) → list_all no_feed bytes ≡ true → is_line (words_of bytes) ≡ true
line_is bytes plain = let first = first_of bytes in ap is_line first.2 ∙ ap are_words (sym first.2) ∙ words_are_words bytes plain

pub line_taken : (bytes front back : Bytes) (k : ℕ) → FindsFeed bytes (Some k) → front ≡ take k bytes → back ≡ drop (k + 1) bytes → TakesLine bytes back (Some front)
line_taken bytes front back k found front_is back_is = let next : suc k ≡ k + 1 = omega arith in (
  line_is front (ap (list_all no_feed) front_is ∙ found.2),
  around bytes k 10 found.0 found.1
      ∙ ap (λ n. take k bytes ++ 10 ∷ drop n bytes) next
      ∙ sym (append_assoc (take k bytes) (10 ∷ []) (drop (k + 1) bytes))
      ∙ ap (λ t. t ++ drop (k + 1) bytes) (sym (line_of_words (take k bytes)) ∙ ap (λ t. line (words_of t)) (sym front_is))
      ∙ ap (λ t. line (words_of front) ++ t) (sym back_is),
)

feed_in_front : (xs ys : Bytes) → list_all no_feed xs ≡ false → list_all no_feed (xs ++ ys) ≡ false
feed_in_front [] ys h = cc
feed_in_front (x ∷ xs) ys h = by (no_feed x) (list_all no_feed xs) (list_all no_feed (xs ++ ys)) (feed_in_front xs ys) h
  where
    by : (a b c : Bool) → (b ≡ false → c ≡ false) → (a && b) ≡ false → (a && c) ≡ false
    by true b c f h = f h
    by false b c f h = refl

pub no_line : (bytes : Bytes) → FindsFeed bytes None → (ws : List Bytes) → Starts ws bytes → ⊥
no_line bytes none ws starts =
    let feed : list_all no_feed bytes ≡ false = ap (list_all no_feed) starts.1 ∙ feed_in_front (line ws) starts.0 (line_has_feed ws) in
    let plain : list_all no_feed bytes ≡ true = none in cc

-- two lines in front of one text are one, and the same stands behind them
pub lines_told : (ws vs : List Bytes) (x y : Bytes) → is_line ws ≡ true → is_line vs ≡ true → line ws ++ x ≡ line vs ++ y → (ws ≡ vs) × (x ≡ y)
lines_told [] vs x y h k e = cc
lines_told (w ∷ ws) [] x y h k e = cc
lines_told (w ∷ ws) (v ∷ vs) x y h k e = line_told w ws v vs x y h k e

line_not_empty : (w : Bytes) (ws : List Bytes) (x : Bytes) → line (w ∷ ws) ++ x ≡ [] → ⊥
line_not_empty [] [] x e = cc
line_not_empty (b ∷ w) [] x e = cc
line_not_empty [] (v ∷ ws) x e = cc
line_not_empty (b ∷ w) (v ∷ ws) x e = cc

pub some_line : (ws : List Bytes) (x : Bytes) → line ws ++ x ≡ [] → ⊥
some_line [] x e = cc
some_line (w ∷ ws) x e = line_not_empty w ws x e

-- lines in front of lines
pub cut : (ls ts : List (List Bytes)) (tail : Bytes) → list_all is_line ls ≡ true → list_all is_line ts ≡ true → text ts ≡ text ls ++ tail → (us : List (List Bytes)) × (ts ≡ ls ++ us) × (tail ≡ text us) × (list_all is_line us ≡ true)
cut [] ts tail hl ht e = (ts, refl, sym e, ht)
cut (l ∷ ls) [] tail hl ht e = absurd (some_line l (text ls ++ tail) (sym (append_assoc (line l) (text ls) tail) ∙ sym e))
cut (l ∷ ls) (t ∷ ts) tail hl ht e =
    let h = and_parts (is_line l) (list_all is_line ls) hl in
    let k = and_parts (is_line t) (list_all is_line ts) ht in
    let told = lines_told t l (text ts) (text ls ++ tail) k.0 h.0 (e ∙ append_assoc (line l) (text ls) tail) in
    let rest = cut ls ts tail h.1 k.1 told.1 in
    (rest.0, ap (λ (x : List Bytes). x ∷ ts) told.0 ∙ ap (λ (xs : List (List Bytes)). l ∷ xs) rest.1, rest.2, rest.3)

-- as many lines and one more in front of a text as lines
pub one_more : (ls fs : List (List Bytes)) (x rest : Bytes) → list_all is_line ls ≡ true → list_all is_line fs ≡ true → length ls ≡ length fs + 1 → text ls ++ x ≡ text fs ++ rest
    → (l : List Bytes) × (ls ≡ fs ++ l ∷ []) × (rest ≡ line l ++ x) × (is_line l ≡ true)
one_more [] fs x rest hl hf n e = absurd (omega (arith, n))
one_more (l ∷ []) [] x rest hl hf n e = (l, refl, sym e ∙ append_assoc (line l) [] x, (and_parts (is_line l) true hl).0)
one_more (l ∷ k ∷ ls) [] x rest hl hf n e = absurd (omega (arith, n))
one_more (l ∷ ls) (f ∷ fs) x rest hl hf n e =
    let h = and_parts (is_line l) (list_all is_line ls) hl in
    let k = and_parts (is_line f) (list_all is_line fs) hf in
    let told = lines_told l f (text ls ++ x) (text fs ++ rest) h.0 k.0 (sym (append_assoc (line l) (text ls) x) ∙ e ∙ append_assoc (line f) (text fs) rest) in
    let more = one_more ls fs x rest h.1 k.1 (omega (arith, n)) told.1 in
    (more.0, ap (λ (y : List Bytes). y ∷ ls) told.0 ∙ ap (λ (ys : List (List Bytes)). f ∷ ys) more.1, more.2, more.3)

-- so many lines in front
pub first_lines : (ls : List (List Bytes)) (j : ℕ) → j ≤ length ls → list_all is_line ls ≡ true → (fs us : List (List Bytes)) × (ls ≡ fs ++ us) × (length fs ≡ j) × (list_all is_line fs ≡ true)
first_lines ls zero h all = ([], ls, refl, refl, refl)
first_lines [] (suc j) h all = absurd (omega (arith, h))
first_lines (l ∷ ls) (suc j) h all =
    let two = and_parts (is_line l) (list_all is_line ls) all in
    let rest = first_lines ls j (omega (arith, h)) two.1 in
    (l ∷ rest.0, rest.1, ap (λ (xs : List (List Bytes)). l ∷ xs) rest.2, omega (arith, rest.3), and_from (is_line l) (list_all is_line rest.0) two.0 rest.4)
