-- The text of a line.
use Rattle.std.proofs.Common.{◌≡◌, ℕ, zero, suc, ◌+◌, ◌-◌, ◌<◌, ◌≤◌, ℤ, Bool, true, false, IsTrue, List, [], ◌∷◌, ◌++◌, length, take, drop, get_or, sym, ◌∙◌, ap, subst, refl, arith, Option, Some, None, Err}
use Rattle.std.specs.List.{list_all}
use Rattle.std.proofs.lemmas.Bool.Decides.{nat_tests}
use Rattle.memchr.specs.Find.{IsFirstByte, is_byte}
use Rattle.textline.specs.Lines.{Bytes, line, words_of}
use Rattle.textline.specs.Words.{are_words}
use Rattle.textline.specs.laws.Lines.{no_feed, none_before, both_true, true_both, first_of, line_of_words, words_are_words, line_has_feed, line_told}
use Rattle.logtext.specs.declared.entry.Entry.{Entry}
use Rattle.logtext.specs.declared.entry.EntryFault.{EntryFault}
use Rattle.logtext.specs.declared.entry.EntryFault.TheVariants.{Bad, NoMemory}
use Rattle.logtext.specs.Entries.{entry_text, entry_words, is_fit_entry, line_limit, Spells}
use Rattle.logtext.specs.Reading.{HasNoWholeLine, BeginsWithNone, IsLineAt, ReadsEntry}
use Rattle.logtext.specs.code.Reads.{ReadsWhole, FindsFeed}
use Rattle.logtext.specs.laws.Entries.{AreTold, has_words, entry_plain}
use Rattle.logtext.proofs.Lines.{NoneWhole}
use Rattle.std.proofs.lemmas.List.{take_all}

pub finds_feed : (bytes : Bytes) (r : Option ℕ) → IsFirstByte (is_byte 10) bytes r → FindsFeed bytes r
finds_feed bytes (Some k) first =
    let is : get_or bytes k 0 ≡ 10 = grind (arith, nat_tests, first.1) in
    (first.0.high, is, none_before bytes k (λ j less within e. first.0.before j (omega arith) less (grind (arith, nat_tests))))
finds_feed bytes None none =
    ap (list_all no_feed) (sym (take_all (length bytes) bytes (omega arith))) ∙ none_before bytes (length bytes) (λ j less within e. none j (omega arith) less (grind (arith, nat_tests)))

-- a text without a line feed has none in its front
front_none : (xs : Bytes) (n m : ℕ) → n ≤ m → list_all no_feed (take m xs) ≡ true → list_all no_feed (take n xs) ≡ true
front_none xs zero m less h = refl
front_none [] (suc n) m less h = refl
front_none (x ∷ xs) (suc n) zero less h = absurd (omega (arith, less))
front_none (x ∷ xs) (suc n) (suc m) less h =
    let two = both_true (no_feed x) (list_all no_feed (take m xs)) h in true_both (no_feed x) (list_all no_feed (take n xs)) two.0 (front_none xs n m (omega (arith, less)) two.1)

take_length : {A : Type 0} (xs : List A) (n : ℕ) → n ≤ length xs → length (take n xs) ≡ n
take_length xs zero h = refl
take_length [] (suc n) h = absurd (omega (arith, h))
take_length (x ∷ xs) (suc n) h = omega (arith, take_length xs n (omega (arith, h)))

take_and_drop : {A : Type 0} (xs : List A) (n : ℕ) → take n xs ++ drop n xs ≡ xs
take_and_drop xs zero = refl
take_and_drop [] (suc n) = refl
take_and_drop (x ∷ xs) (suc n) = ap (λ ys. x ∷ ys) (take_and_drop xs n)

-- one byte more
take_next : (xs : Bytes) (k b : ℕ) → k < length xs → get_or xs k 0 ≡ b → take (suc k) xs ≡ take k xs ++ b ∷ []
take_next [] k b h is = absurd (omega (arith, h))
take_next (x ∷ xs) zero b h is = ap (λ y. y ∷ []) is
take_next (x ∷ xs) (suc k) b h is = ap (λ ys. x ∷ ys) (take_next xs k b (omega (arith, h)) is)

text_has_feed : {W : Type 0} (numbers : W → List ℤ) (e : Entry W) → list_all no_feed (entry_text numbers e) ≡ false
text_has_feed numbers e = let words = has_words numbers e in ap (list_all no_feed) words.text ∙ line_has_feed (words.first ∷ words.rest)

pub open_front : (rest : Bytes) → list_all no_feed (take line_limit rest) ≡ true → length rest < line_limit → HasNoWholeLine rest
open_front rest none short = record { open_line = ap (list_all no_feed) (sym (take_all line_limit rest (omega (arith, short)))) ∙ none; short = short }

pub long_front : {W : Type 0} (numbers : W → List ℤ) (valid : W → Bool) (rest : Bytes) → list_all no_feed (take line_limit rest) ≡ true → line_limit ≤ length rest → (HasNoWholeLine rest → ⊥) × BeginsWithNone numbers valid rest
long_front numbers valid rest none long = (
  λ open_text. absurd (omega (arith, long, open_text.short)),
  λ e n within spells.
      let short : n ≤ line_limit = omega (arith, spells.short, take_length rest n within) in
      let plain = front_none rest n line_limit short none in
      let feed = ap (list_all no_feed) spells.text_is ∙ text_has_feed numbers e in cc,
)

-- the line with its feed
whole_line : (rest : Bytes) (end : ℕ) → end < length rest → get_or rest end 0 ≡ 10 → take (suc end) rest ≡ line (words_of (take end rest))
whole_line rest end within is = take_next rest end 10 within is ∙ sym (line_of_words (take end rest))

pub spelled_front : {W : Type 0} (numbers : W → List ℤ) (valid : W → Bool) (rest : Bytes) (end : ℕ) (e : Entry W) → end < length rest → end < line_limit → get_or rest end 0 ≡ 10 → IsTrue (is_fit_entry valid e) → words_of (take end rest) ≡ entry_words numbers e → Spells numbers valid (take (suc end) rest) e
spelled_front numbers valid rest end e within short is fit words =
    let spelled = has_words numbers e in record {
      fit = fit;
      text_is = whole_line rest end within is ∙ ap line (words ∙ spelled.words) ∙ sym spelled.text;
      short = omega (arith, short, take_length rest (suc end) (omega (arith, within)));
    }

feed_at : (xs : Bytes) (k : ℕ) → k < length xs → get_or xs k 0 ≡ 10 → list_all no_feed xs ≡ true → ⊥
feed_at [] k h is none = absurd (omega (arith, h))
feed_at (x ∷ xs) zero h is none = let two = both_true (no_feed x) (list_all no_feed xs) none in let other : no_feed x ≡ false = grind (arith, nat_tests) in cc
feed_at (x ∷ xs) (suc k) h is none = feed_at xs k (omega (arith, h)) is (both_true (no_feed x) (list_all no_feed xs) none).1

pub unspelled_front : {W : Type 0} (numbers : W → List ℤ) (valid : W → Bool) → AreTold numbers valid → (rest : Bytes) (end : ℕ) → end < length rest → get_or rest end 0 ≡ 10 → list_all no_feed (take end rest) ≡ true → NoneWhole (entry_words numbers) (is_fit_entry valid) (words_of (take end rest))
    → (HasNoWholeLine rest → ⊥) × BeginsWithNone numbers valid rest
unspelled_front numbers valid laws rest end within is plain none = (
  λ open_text. feed_at rest end within is open_text.open_line,
  λ e n less spells.
      let spelled = has_words numbers e in
      let read = first_of (take end rest) in
      let same : line (spelled.first ∷ spelled.rest) ++ drop n rest ≡ line (read.0 ∷ read.1) ++ drop (suc end) rest =
      ap (λ t. t ++ drop n rest) (sym (spells.text_is ∙ spelled.text)) ∙ take_and_drop rest n ∙ sym (take_and_drop rest (suc end)) ∙ ap (λ t. t ++ drop (suc end) rest) (whole_line rest end within is ∙ ap line read.2) in
      let told = line_told spelled.first spelled.rest read.0 read.1 (drop n rest) (drop (suc end) rest) (ap are_words (sym spelled.words) ∙ entry_plain numbers valid laws e spells.fit) (ap are_words (sym read.2) ∙ words_are_words (take end rest) plain) same in
      none e spells.fit (read.2 ∙ sym told.0 ∙ sym spelled.words),
)

-- what stands in a front stands in the whole
front_at : (xs : Bytes) (n k : ℕ) → k < length (take n xs) → (k < n) × (k < length xs) × (get_or (take n xs) k 0 ≡ get_or xs k 0) × (take k (take n xs) ≡ take k xs)
front_at [] zero k h = absurd (omega (arith, h))
front_at [] (suc n) k h = absurd (omega (arith, h))
front_at (x ∷ xs) zero k h = absurd (omega (arith, h))
front_at (x ∷ xs) (suc n) zero h = (omega arith, omega arith, refl, refl)
front_at (x ∷ xs) (suc n) (suc k) h = let more = front_at xs n k (omega (arith, h)) in (omega (arith, more.0), omega (arith, more.1), more.2, ap (λ ys. x ∷ ys) more.3)

-- the first line feed, near enough
pub record HasFeed (rest : Bytes) (end : ℕ) : Type 0 where
  pub within : end < length rest
  pub short : end < line_limit
  pub is : get_or rest end 0 ≡ 10
  pub plain : list_all no_feed (take end rest) ≡ true

pub has_feed : (rest near : Bytes) (end : ℕ) → near ≡ take line_limit rest → FindsFeed near (Some end) → HasFeed rest end
has_feed rest near end same found =
    let there = front_at rest line_limit end (subst (λ t. end < length t) same found.0) in record {
      within = there.1;
      short = there.0;
      is = sym there.2 ∙ ap (λ t. get_or t end 0) (sym same) ∙ found.1;
      plain = ap (list_all no_feed) (sym there.3 ∙ ap (take end) (sym same)) ∙ found.2;
    }

pub no_near : (rest near : Bytes) → near ≡ take line_limit rest → FindsFeed near None → list_all no_feed (take line_limit rest) ≡ true
no_near rest near same none = ap (list_all no_feed) (sym same) ∙ none

pub line_here : {W : Type 0} (numbers : W → List ℤ) (valid : W → Bool) (rest : Bytes) (end : ℕ) (e : Entry W) → HasFeed rest end → IsTrue (is_fit_entry valid e) → words_of (take end rest) ≡ entry_words numbers e → IsLineAt numbers valid rest 0 (end + 1) e
line_here numbers valid rest end e feed fit words =
    let count : suc end ≡ end + 1 - 0 = omega arith in record {
      further = omega arith;
      within = omega (arith, feed.within);
      spells = subst (λ n. Spells numbers valid (take n rest) e) count (spelled_front numbers valid rest end e feed.within feed.short feed.is fit words);
    }

pub front_fails : {W : Type 0} (numbers : W → List ℤ) (valid : W → Bool) → AreTold numbers valid → (rest : Bytes) (end : ℕ) (words : List Bytes) (r : EntryFault) → HasFeed rest end → words ≡ words_of (take end rest) → ReadsWhole (entry_words numbers) (is_fit_entry valid) words (Err r) → ReadsEntry numbers valid rest 0 (Err r)
front_fails numbers valid laws rest end words Bad feed same none = unspelled_front numbers valid laws rest end feed.within feed.is feed.plain (λ e fit is. none e fit (same ∙ is))
front_fails numbers valid laws rest end words NoMemory feed same none = tt
