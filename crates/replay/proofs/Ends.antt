-- Where the lines of a text end.
use Rattle.std.proofs.Common.{◌≡◌, ℕ, zero, suc, ◌+◌, ◌-◌, ◌≤◌, ◌==◌, if◌then◌else◌, min, Bool, true, false, not, List, [], ◌∷◌, ◌++◌, length, take, drop, refl, sym, ap, subst, ◌∙◌, arith, append_assoc, length-append, length-drop}
use Rattle.std.specs.Prelude.{All}
use Rattle.std.proofs.lemmas.Bool.{and_parts}
use Rattle.std.proofs.lemmas.List.Elements.{All-head, All-tail}
use Rattle.sched_model.specs.Data.{Data}
use Rattle.textline.specs.Lines.{Bytes}
use Rattle.kernel.specs.Steps.{LogState}
use Rattle.logtext.specs.declared.entry.Entry.TheVariants.{Head, Step, Finish}
use Rattle.logtext.specs.Spelling.{head_text, end_text, line_text, lines_text}
use Rattle.logtext.specs.Entries.{line_limit}
use Rattle.logtext.specs.code.Promises.{EndsOnce}
use Rattle.replay.specs.Replaying.{BeginsAt, lines_end, piece_limit}
use Rattle.replay.specs.code.Pieces.{IsNear}
use Rattle.replay.proofs.Feeds.{has_no_feed}
use Rattle.replay.proofs.Spelt.{Spellings, ends_once}
use Rattle.replay.proofs.Reached.{Reached, line_apart}
use Rattle.replay.proofs.Logs.{IsPlainLine, head_spelt}
use Rattle.replay.proofs.Judged.{end_spelt}
use Rattle.logtext.specs.Reading.{IsLineAt}
use Rattle.kernel.specs.declared.types.Line.{Line}
use Rattle.region.specs.Looks.{Refuting}
use Rattle.std.specs.Prelude.{ℤ}
use Rattle.logtext.specs.declared.entry.Entry.{Entry}

module _ {W : Type 0} (refutes : Refuting W) (numbers : W → List ℤ) (valid : W → Bool) where
  abbrev IsEntryAt : Bytes → ℕ → ℕ → Entry W → Type 0
  IsEntryAt bytes from to e = IsLineAt numbers valid bytes from to e

  -- so many lines end at a place, and these bytes stand behind it
  abbrev pub LinesEnd : ℕ → Bytes → ℕ → Bytes → Type 0
  LinesEnd k bytes place rest = (n : ℕ) → lines_end (k + n) bytes ≡ place + lines_end n rest

  no_lines : (rest : Bytes) → lines_end 0 rest ≡ 0
  no_lines [] = refl
  no_lines (b ∷ bs) = refl

  if_false : (c : Bool) (x y : ℕ) → not c ≡ true → (if c then x else y) ≡ y
  if_false true x y h = cc
  if_false false x y h = refl

  body_end : (body x : Bytes) (n : ℕ) → has_no_feed body ≡ true → lines_end (suc n) (body ++ 10 ∷ x) ≡ length body + 1 + lines_end n x
  body_end [] x n clean = omega arith
  body_end (b ∷ body) x n clean =
      let two = and_parts (not (b == 10)) (has_no_feed body) clean in
      let other : (if b == 10 then lines_end n (body ++ 10 ∷ x) else lines_end (suc n) (body ++ 10 ∷ x)) ≡ lines_end (suc n) (body ++ 10 ∷ x) = if_false (b == 10) _ _ two.0 in
      omega (arith, other, body_end body x n two.1)

  text_end : (text x : Bytes) (n : ℕ) → EndsOnce text → lines_end (suc n) (text ++ x) ≡ length text + lines_end n x
  text_end text x n once =
      let long : length text ≡ length once.body + 1 = omega (arith, ap length once.text_is, length-append once.body (10 ∷ [])) in
      ap (λ t. lines_end (suc n) (t ++ x)) once.text_is ∙ ap (lines_end (suc n)) (append_assoc once.body (10 ∷ []) x) ∙ body_end once.body x n once.clean ∙ ap (λ k. k + lines_end n x) (sym long)

  -- one line more
  pub lines_more : (k : ℕ) (bytes text rest : Bytes) (place : ℕ) → EndsOnce text → LinesEnd k bytes place (text ++ rest) → LinesEnd (k + 1) bytes (place + length text) rest
  lines_more k bytes text rest place once ends n =
      let more : k + 1 + n ≡ k + suc n = omega arith in
      ap (λ j. lines_end j bytes) more ∙ ends (suc n) ∙ ap (λ j. place + j) (text_end text rest n once) ∙ omega arith

  pub lines_all : Spellings numbers valid → (k : ℕ) (bytes rest : Bytes) (place : ℕ) (ls : List (Line W)) → All (IsPlainLine refutes numbers valid) ls → LinesEnd k bytes place (lines_text numbers ls ++ rest) → LinesEnd (k + length ls) bytes (place + length (lines_text numbers ls)) rest
  lines_all laws k bytes rest place [] each ends n =
      let none : k + 0 + n ≡ k + n = omega arith in
      ap (λ j. lines_end j bytes) none ∙ ends n ∙ omega arith
  lines_all laws k bytes rest place (l ∷ ls) each ends n =
      let once = ends_once numbers valid laws (line_text numbers l) (Step l) (All-head (IsPlainLine refutes numbers valid) l ls each) in
      let one : LinesEnd (k + 1) bytes (place + length (line_text numbers l)) (lines_text numbers ls ++ rest) =
      lines_more k bytes (line_text numbers l) (lines_text numbers ls ++ rest) place once (subst (LinesEnd k bytes place) (append_assoc (line_text numbers l) (lines_text numbers ls) rest) ends) in
      let more : k + suc (length ls) + n ≡ k + 1 + length ls + n = omega arith in
      ap (λ j. lines_end j bytes) more ∙ lines_all laws (k + 1) bytes rest (place + length (line_text numbers l)) ls (All-tail (IsPlainLine refutes numbers valid) l ls each) one n ∙ omega (arith, length-append (line_text numbers l) (lines_text numbers ls))

  -- the lines in front of a place that was reached
  pub reached_lines : Spellings numbers valid → (m : Data) (fed behind : Bytes) (place line : ℕ) (s : LogState) → Reached refutes numbers valid m fed place line s → LinesEnd (line - 1) (fed ++ behind) place (drop place fed ++ behind)
  reached_lines laws m fed behind place line s so_far n =
      let ls = so_far.lines in
      let rest : Bytes = drop place fed ++ behind in
      let top : Bytes = head_text so_far.version in
      let text : fed ++ behind ≡ top ++ (lines_text numbers ls ++ rest) =
      ap (λ t. t ++ behind) so_far.text ∙ append_assoc top (lines_text numbers ls ++ drop place fed) behind ∙ ap (λ t. top ++ t) (append_assoc (lines_text numbers ls) (drop place fed) behind) in
      let once = ends_once numbers valid laws top (Head so_far.version) (head_spelt refutes numbers valid so_far.version) in
      let head : LinesEnd 1 (top ++ (lines_text numbers ls ++ rest)) (length top) (lines_text numbers ls ++ rest) = λ k. ap (λ j. lines_end j (top ++ (lines_text numbers ls ++ rest))) (let one : 1 + k ≡ suc k = omega arith in one) ∙ text_end top (lines_text numbers ls ++ rest) k once in
      let long : length top + length (lines_text numbers ls) ≡ place =
      omega (arith, ap length so_far.text, length-append top (lines_text numbers ls ++ drop place fed), length-append (lines_text numbers ls) (drop place fed), length-drop place fed, so_far.within) in
      let number : line - 1 + n ≡ 1 + length ls + n = omega (arith, so_far.number) in
      ap (λ j. lines_end j (fed ++ behind)) number ∙ ap (lines_end (1 + length ls + n)) text ∙ lines_all laws 1 (top ++ (lines_text numbers ls ++ rest)) rest (length top) ls so_far.log.each head n ∙ ap (λ p. p + lines_end n rest) long

  -- and with the last line
  pub ended_lines : Spellings numbers valid → (m : Data) (fed behind : Bytes) (place to line : ℕ) (s : LogState) → Reached refutes numbers valid m fed place line s → IsEntryAt fed place to Finish → LinesEnd line (fed ++ behind) to (drop to fed ++ behind)
  ended_lines laws m fed behind place to line s so_far at n =
      let apart = line_apart refutes numbers valid fed place to Finish at in
      let once = ends_once numbers valid laws end_text Finish (end_spelt refutes numbers valid) in
      let ends : LinesEnd (line - 1) (fed ++ behind) place (end_text ++ (drop to fed ++ behind)) =
      subst (LinesEnd (line - 1) (fed ++ behind) place) (ap (λ t. t ++ behind) apart ∙ append_assoc end_text (drop to fed) behind) (reached_lines laws m fed behind place line s so_far) in
      let long : place + length end_text ≡ to = omega (arith, ap length apart, length-append end_text (drop to fed), length-drop place fed, length-drop to fed, at.within, at.further) in
      let number : line + n ≡ line - 1 + 1 + n = omega (arith, so_far.number) in
      ap (λ j. lines_end j (fed ++ behind)) number ∙ lines_more (line - 1) (fed ++ behind) end_text (drop to fed ++ behind) place once ends n ∙ ap (λ p. p + lines_end n (drop to fed ++ behind)) long

  -- a front without a line feed is a part of the next line
  front_end : (rest x : Bytes) (front : ℕ) → front ≤ length rest → has_no_feed (take front rest) ≡ true → front ≤ lines_end 1 (rest ++ x)
  front_end rest x zero within plain = omega arith
  front_end [] x (suc n) within plain = absurd (omega (arith, within))
  front_end (b ∷ rest) x (suc n) within plain =
      let two = and_parts (not (b == 10)) (has_no_feed (take n rest)) plain in
      let other : (if b == 10 then lines_end 0 (rest ++ x) else lines_end 1 (rest ++ x)) ≡ lines_end 1 (rest ++ x) = if_false (b == 10) _ _ two.0 in
      omega (arith, other, front_end rest x n (omega (arith, within)) two.1)

  -- the line behind these begins where they end
  pub begins : (k place : ℕ) (bytes rest : Bytes) → LinesEnd k bytes place rest → BeginsAt (k + 1) place bytes
  begins k place bytes rest ends = sym (
      ap (λ j. lines_end j bytes) (let same : k + 1 - 1 ≡ k + 0 = omega arith in same) ∙ ends 0 ∙ ap (λ j. place + j) (no_lines rest) ∙ (let none : place + 0 ≡ place = omega arith in none)
      )

  -- so far is read where line k + 1 is refused
  pub stops : (k place : ℕ) (fed behind : Bytes) → place ≤ length fed → LinesEnd k (fed ++ behind) place (drop place fed ++ behind) → IsNear (drop place fed) → length fed ≤ min (lines_end (k + 1) (fed ++ behind)) (lines_end (k + 1 - 1) (fed ++ behind) + line_limit) + piece_limit
  stops k place fed behind within ends near =
      let front = front_end (drop place fed) behind near.front near.within near.plain in
      let before = begins k place (fed ++ behind) (drop place fed ++ behind) ends in
      omega (arith, front, before, ends 1, near.near, near.short, length-drop place fed, within)
