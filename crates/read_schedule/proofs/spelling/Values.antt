-- A word of numbers with commas between them, read number by number.
use Rattle.std.proofs.Common.{◌≡◌, ℕ, zero, suc, ◌+◌, ◌-◌, ◌<◌, ◌≤◌, Bool, true, false, [], ◌∷◌, ◌++◌, length, take, drop, get_or, Option, Some, None, refl, sym, ap, subst, ◌∙◌, arith}
use Rattle.std.specs.Fmt.{signed_decimal}
use Rattle.std.specs.List.{list_all}
use Rattle.std.proofs.lemmas.Bool.{and_parts, and_from}
use Rattle.std.proofs.lemmas.Bool.Decides.{nat_tests}
use Rattle.std.proofs.lemmas.List.{take_all}
use Rattle.memchr.specs.Find.{IsFirstByte, is_byte}
use Rattle.sched_model.specs.Bounds.{is_small}
use Rattle.textline.specs.Lines.{Bytes}
use Rattle.sched_text.specs.Answers.{numbers_word}
use Rattle.sched_text.specs.laws.Values.{is_no_comma, has_no_comma, number_no_comma, more_numbers, cut_at_comma, no_cut}
use Rattle.read_schedule.specs.Schedules.{AreNumbers}
use Rattle.read_schedule.specs.code.Reads.{Decides, IsNumber, FindsComma}

none_before : (xs : Bytes) (k : ℕ) → ((j : ℕ) → j < k → j < length xs → get_or xs j 0 ≡ 44 → ⊥) → has_no_comma (take k xs) ≡ true
none_before xs zero none = refl
none_before [] (suc k) none = refl
none_before (x ∷ xs) (suc k) none =
    and_from (is_no_comma x) (has_no_comma (take k xs)) (other x (none zero (omega arith) (omega arith))) (none_before xs k (λ j less within. none (suc j) (omega (arith, less)) (omega (arith, within))))
  where
    other : (x : ℕ) → (x ≡ 44 → ⊥) → is_no_comma x ≡ true
    other x is_not = grind (arith, nat_tests)

around : (xs : Bytes) (k b : ℕ) → k < length xs → get_or xs k 0 ≡ b → xs ≡ take k xs ++ b ∷ drop (suc k) xs
around [] k b h is = absurd (omega (arith, h))
around (x ∷ xs) zero b h is = ap (λ y. y ∷ xs) is
around (x ∷ xs) (suc k) b h is = ap (λ ys. x ∷ ys) (around xs k b (omega (arith, h)) is)

pub finds_comma : (bytes : Bytes) (r : Option ℕ) → IsFirstByte (is_byte 44) bytes r → FindsComma bytes r
finds_comma bytes (Some k) first =
    let is : get_or bytes k 0 ≡ 44 = grind (arith, nat_tests, first.1) in
    let next : suc k ≡ k + 1 = omega arith in
    (first.0.high, around bytes k 44 first.0.high is ∙ ap (λ n. take k bytes ++ 44 ∷ drop n bytes) next, none_before bytes k (λ j less within e. first.0.before j (omega arith) less (grind (arith, nat_tests))))
finds_comma bytes None none =
    ap has_no_comma (sym (take_all (length bytes) bytes (omega arith))) ∙ none_before bytes (length bytes) (λ j less within e. none j (omega arith) less (grind (arith, nat_tests)))

-- a word without a comma is one number
pub last_number : (k : ℕ) (w : Bytes) → 0 < k → has_no_comma w ≡ true → IsNumber w → AreNumbers k w
last_number k w some plain (v, small, is) = (v ∷ [], omega arith, omega (arith, some), and_from (is_small v) true small refl, is)

pub lone_number : (k : ℕ) (w : Bytes) → has_no_comma w ≡ true → AreNumbers k w → IsNumber w
lone_number k w plain ([], some, few, small, is) = absurd (omega (arith, some))
lone_number k w plain (v ∷ [], some, few, small, is) = (v, (and_parts (is_small v) true small).0, is)
lone_number k w plain (v ∷ u ∷ us, some, few, small, is) = absurd (no_cut w (signed_decimal v) (numbers_word (u ∷ us)) plain (is ∙ more_numbers v u us))

-- and one with a comma is a number and others behind it
pub first_number : (k : ℕ) (w x y : Bytes) → w ≡ x ++ 44 ∷ y → has_no_comma x ≡ true → AreNumbers (suc k) w → IsNumber x × AreNumbers k y
first_number k w x y cut plain ([], some, few, small, is) = absurd (omega (arith, some))
first_number k w x y cut plain (v ∷ [], some, few, small, is) = absurd (no_cut (signed_decimal v) x y (number_no_comma v (and_parts (is_small v) true small).0) (sym is ∙ cut))
first_number k w x y cut plain (v ∷ u ∷ us, some, few, small, is) =
    let parts = and_parts (is_small v) (list_all is_small (u ∷ us)) small in
    let told = cut_at_comma x (signed_decimal v) y (numbers_word (u ∷ us)) plain (number_no_comma v parts.0) (sym cut ∙ is ∙ more_numbers v u us) in
    ((v, parts.0, told.0), (u ∷ us, omega arith, omega (arith, few), parts.1, told.1))

pub more_numbers_are : (k : ℕ) (w x y : Bytes) → w ≡ x ++ 44 ∷ y → IsNumber x → AreNumbers k y → AreNumbers (suc k) w
more_numbers_are k w x y cut (v, one, is) ([], some, few, small, are) = absurd (omega (arith, some))
more_numbers_are k w x y cut (v, one, is) (u ∷ us, some, few, small, are) =
    (v ∷ u ∷ us, omega arith, omega (arith, few), and_from (is_small v) (list_all is_small (u ∷ us)) one small, cut ∙ ap (λ t. t ++ 44 ∷ y) is ∙ ap (λ t. signed_decimal v ++ 44 ∷ t) are ∙ sym (more_numbers v u us))

pub none_left : (w : Bytes) → AreNumbers 0 w → ⊥
none_left w (vs, some, few, small, is) = absurd (omega (arith, some, few))

-- what is left is numbers exactly where the whole is
pub record Alike (word : Bytes) (left : ℕ) (rest : Bytes) : Type 0 where
  pub there : AreNumbers left rest → AreNumbers 8 word
  pub back : AreNumbers 8 word → AreNumbers left rest

pub alike_first : (word : Bytes) → Alike word 8 word
alike_first word = record { there = λ h. h; back = λ h. h }

pub alike_next : (word rest front behind : Bytes) (left k : ℕ) → Alike word left rest → left ≡ suc k → rest ≡ front ++ 44 ∷ behind → has_no_comma front ≡ true → IsNumber front → Alike word k behind
alike_next word rest front behind left k alike is cut plain number = record {
  there = λ h. alike.there (subst (λ n. AreNumbers n rest) (sym is) (more_numbers_are k rest front behind cut number h));
  back = λ h. (first_number k rest front behind cut plain (subst (λ n. AreNumbers n rest) is (alike.back h))).1;
}

pub not_number : (word rest front behind : Bytes) (left k : ℕ) → Alike word left rest → left ≡ suc k → rest ≡ front ++ 44 ∷ behind → has_no_comma front ≡ true → (IsNumber front → ⊥) → AreNumbers 8 word → ⊥
not_number word rest front behind left k alike is cut plain other h = other (first_number k rest front behind cut plain (subst (λ n. AreNumbers n rest) is (alike.back h))).0

-- the steps of the loop

pub comma_there : (bytes : Bytes) (at : ℕ) → FindsComma bytes (Some at) → at < length bytes
comma_there bytes at finds = finds.0

pub next_alike : (word rest front behind : Bytes) (left k at : ℕ) → Alike word left rest → 0 < left → k ≡ left - 1 → FindsComma rest (Some at) → front ≡ take at rest → behind ≡ drop (at + 1) rest → Decides (IsNumber front) true → Alike word k behind
next_alike word rest front behind left k at alike some less finds first last number =
    let cut : rest ≡ front ++ 44 ∷ behind = finds.1 ∙ ap (λ t. t ++ 44 ∷ drop (at + 1) rest) (sym first) ∙ ap (λ t. front ++ 44 ∷ t) (sym last) in
    alike_next word rest front behind left k alike (omega (arith, some, less)) cut (ap has_no_comma first ∙ finds.2) number

pub then_not : (word rest front : Bytes) (left at : ℕ) → Alike word left rest → 0 < left → FindsComma rest (Some at) → front ≡ take at rest → Decides (IsNumber front) false → Decides (AreNumbers 8 word) false
then_not word rest front left at alike some finds first other =
    let less : left ≡ suc (left - 1) = omega (arith, some) in
    not_number word rest front (drop (at + 1) rest) left (left - 1) alike less (finds.1 ∙ ap (λ t. t ++ 44 ∷ drop (at + 1) rest) (sym first)) (ap has_no_comma first ∙ finds.2) other

pub then_last : (word rest : Bytes) (left : ℕ) (r : Bool) → Alike word left rest → 0 < left → FindsComma rest None → Decides (IsNumber rest) r → Decides (AreNumbers 8 word) r
then_last word rest left true alike some plain is = alike.there (last_number left rest some plain is)
then_last word rest left false alike some plain other = λ h. other (lone_number left rest plain (alike.back h))

pub then_too_many : (word rest : Bytes) (left : ℕ) → Alike word left rest → left ≤ 0 → Decides (AreNumbers 8 word) false
then_too_many word rest zero alike few = λ h. none_left rest (alike.back h)
then_too_many word rest (suc k) alike few = absurd (omega (arith, few))
